-- The text of the tokens.
use Rattle.std.specs.Prelude.{ℕ, List, [], ◌∷◌, ◌++◌, take, drop}
use Rattle.tokenizer.specs.declared.Token.{Token}

-- a token's value
abbrev pub value : List ℕ → Token → List ℕ
value s t = take t.len (drop t.start s)

-- the values laid end to end
unfoldable pub values : List ℕ → List Token → List ℕ
values s [] = []
values s (t ∷ ts) = value s t ++ values s ts
