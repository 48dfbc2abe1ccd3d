-- How many quotes are escaped in the tokens that are handed out.
use Rattle.std.specs.Prelude.{ℕ, ◌+◌, List, [], ◌∷◌, length}
use Rattle.tokenizer.specs.declared.Token.{Token}
use Rattle.tokenizer.specs.declared.Totals.{Totals}

unfoldable pub escaped_in : List Token → ℕ
escaped_in [] = 0
escaped_in (t ∷ ts) = t.escaped + escaped_in ts

-- the tokens, and those quotes
abbrev pub totals : List Token → Totals
totals ts = record { tokens = length ts; escaped = escaped_in ts }
