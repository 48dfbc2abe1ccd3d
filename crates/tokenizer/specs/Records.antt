-- Token records: eight 32-bit words, the lowest byte first. The last is the token's level.
use Rattle.std.specs.Prelude.{ℕ, ◌*◌, ◌/◌, ◌%◌, List, [], ◌∷◌, ◌++◌, length, drop, Option, Some, None}
use Rattle.recognisers.specs.declared.Key.{Key}
use Rattle.recognisers.specs.declared.Key.TheVariants.{Named, Escaped, ZeroIndexed, OneIndexed}
use Rattle.recognisers.specs.Kinds.{kind_number}
use Rattle.calls.specs.LittleEndian.{le32}
use Rattle.tokenizer.specs.declared.KeyWords.{KeyWords}
use Rattle.tokenizer.specs.declared.Token.{Token}
use Rattle.tokenizer.specs.Levels.{levels}

-- the bytes of a record
abbrev pub record_bytes : ℕ
record_bytes = 32

-- key kind, key a and key b; a number's high and low half
abbrev pub key_words : Option Key → KeyWords
key_words None = record { kind = 0; a = 0; b = 0 }
key_words (Some (Named start len)) = record { kind = 1; a = start; b = len }
key_words (Some (Escaped start len)) = record { kind = 2; a = start; b = len }
key_words (Some (ZeroIndexed n)) = record { kind = 3; a = n / 4294967296; b = n % 4294967296 }
key_words (Some (OneIndexed n)) = record { kind = 4; a = n / 4294967296; b = n % 4294967296 }

-- kind, start, length and alias length
unfoldable pub place_bytes : ℕ → ℕ → ℕ → ℕ → List ℕ
place_bytes kind start len alias = le32 kind ++ (le32 start ++ (le32 len ++ le32 alias))

unfoldable pub key_bytes : KeyWords → List ℕ
key_bytes k = le32 k.kind ++ (le32 k.a ++ le32 k.b)

-- the record of a token at a level
unfoldable pub record_of : ℕ → Token → List ℕ
record_of level t =
    place_bytes (kind_number t.kind) t.start t.len t.alias ++ (key_bytes (key_words t.key) ++ le32 level)

-- of each token at its level
unfoldable pub records_at : List ℕ → List Token → List ℕ
records_at [] ts = []
records_at (level ∷ levels) [] = []
records_at (level ∷ levels) (t ∷ ts) = record_of level t ++ records_at levels ts

unfoldable pub records_of : List Token → List ℕ
records_of ts = records_at (levels ts) ts

-- a table once the tokens' records are written over its start
unfoldable pub written : List Token → List ℕ → List ℕ
written ts table = records_of ts ++ drop (length ts * record_bytes) table
