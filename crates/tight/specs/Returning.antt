-- The two sorts of a gap: one that returns, and any other.
use Rattle.std.specs.Prelude.{ℕ, Bool, false, cond, not, List, [], ◌∷◌, eqb}
use Rattle.recognisers.specs.Text.{byte}
use Rattle.recognisers.specs.Taking.{starts_with}

-- The first CR or LF is a CR without LF directly behind it. A gap's own bytes tell that: no LF stands behind a gap, since LF is
-- whitespace.
unfoldable pub returns : List ℕ → Bool
returns [] = false
returns (b ∷ s) = cond (eqb b (byte "\n")) false (cond (eqb b (byte "\r")) (not (starts_with (byte "\n") s)) (returns s))
