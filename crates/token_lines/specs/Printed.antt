-- What is printed of tokens: their count, and a line for each with the eight fields of its record.
use Rattle.std.specs.Prelude.{ℕ, List, [], ◌∷◌, ◌++◌, length, codes, decimal}
use Rattle.recognisers.specs.Kinds.{kind_number}
use Rattle.tokenizer.specs.declared.KeyWords.{KeyWords}
use Rattle.tokenizer.specs.declared.Token.{Token}
use Rattle.tokenizer.specs.Levels.{level_past}
use Rattle.tokenizer.specs.Records.{key_words}

-- a field behind another
abbrev pub next_field : ℕ → List ℕ
next_field n = codes " " ++ decimal n

abbrev pub key_fields : KeyWords → List ℕ
key_fields key = next_field key.kind ++ next_field key.a ++ next_field key.b

abbrev pub place_fields : Token → List ℕ
place_fields t = decimal (kind_number t.kind) ++ next_field t.start ++ next_field t.len ++ next_field t.alias

-- a token's line, at a level
unfoldable pub token_line : ℕ → Token → List ℕ
token_line level t = place_fields t ++ key_fields (key_words t.key) ++ next_field level ++ codes "\n"

-- the lines of tokens, from a level on
unfoldable pub lines_from : ℕ → List Token → List ℕ
lines_from level [] = []
lines_from level (t ∷ ts) = token_line level t ++ lines_from (level_past level t.kind) ts

abbrev pub listed : List Token → List ℕ
listed ts = codes "tokens " ++ decimal (length ts) ++ codes "\n" ++ lines_from 0 ts
