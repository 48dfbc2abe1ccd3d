-- For inner contracts alone: a place that a run reaches.
use Rattle.std.specs.Prelude.{ℕ, ◌+◌, ◌≤◌, List, ◌≡◌, length, drop}
use Rattle.characters.specs.declared.Class.{Class}
use Rattle.characters.specs.Runs.{in_class, run}

pub record RunAt (class : Class) (s : List ℕ) (i : ℕ) : Type 0 where
  pub inside : i ≤ length s
  pub same : run (in_class class) 0 s ≡ i + run (in_class class) 0 (drop i s)
