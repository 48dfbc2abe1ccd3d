-- For inner contracts alone: gaps that were measured in a text.
use Rattle.std.specs.Prelude.{ℕ, ◌≡◌, List, All, drop}
use Rattle.characters.specs.Runs.{run, in_class}
use Rattle.characters.specs.declared.Class.TheVariants.{Whitespace}
use Rattle.reserved.specs.declared.gaps.Gap.{Gap}

abbrev pub AllMeasured : List ℕ → List Gap → Type 0
AllMeasured s = All (λ (gap : Gap). gap.len ≡ run (in_class Whitespace) 0 (drop gap.at s))
