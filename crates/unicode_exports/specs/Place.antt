-- A place as one number.
use Rattle.std.specs.Prelude.{ℕ, Option, Some, None}

-- the first ill-formed place, and the length of the text where there is none
abbrev pub place_or : Option ℕ → ℕ → ℕ
place_or (Some place) length = place
place_or None length = length
