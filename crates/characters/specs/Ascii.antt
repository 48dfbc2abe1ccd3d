-- What an ASCII character is, by rule: a letter, a digit, the underscore, whitespace, or none of these. The ranges of the classes
-- say the same of all 128: proofs/AsciiRule.antt.
use Rattle.std.specs.Prelude.{ℕ, Bool, ◌||◌, eqb}
use Rattle.characters.specs.Ranges.{within}

-- A to Z, a to z
unfoldable pub is_letter : ℕ → Bool
is_letter c = within 0x41 0x5A c || within 0x61 0x7A c

-- the six whitespace characters: 9 to 13, and 32
unfoldable pub is_space : ℕ → Bool
is_space c = within 9 13 c || eqb c 32

-- a word character: a letter, a digit, the underscore
unfoldable pub is_ascii_word : ℕ → Bool
is_ascii_word c = is_letter c || (within 0x30 0x39 c || eqb c 0x5F)

-- a placeholder-name character: a word character, `.`, `$`
unfoldable pub is_ascii_name : ℕ → Bool
is_ascii_name c = is_ascii_word c || (eqb c 0x2E || eqb c 0x24)
