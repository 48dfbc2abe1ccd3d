-- For inner contracts alone: the first byte, where it is one of some.
use Rattle.std.specs.Prelude.{ℕ, true, false, List, Option, Some, None, ◌≡◌}
use Rattle.recognisers.specs.Taking.{starts_with, starts_among}

abbrev pub FirstAmong : List ℕ → List ℕ → Option ℕ → Type 0
FirstAmong marks s None = starts_among marks s ≡ false
FirstAmong marks s (Some b) = (starts_among marks s ≡ true) × (starts_with b s ≡ true)
