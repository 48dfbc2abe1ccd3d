-- The classes that src/tokenizer.rs asks of a character, of any code point.
use Rattle.std.specs.Prelude.{ℕ, Bool, ◌||◌, eqb}
use Rattle.characters.specs.Ranges.{in_ranges}
use Rattle.characters.specs.WhiteSpace.{white_space}
use Rattle.characters.specs.Alphabetic.{alphabetic}
use Rattle.characters.specs.Numeric.{numeric}
use Rattle.characters.specs.Mark.{mark}
use Rattle.characters.specs.Connector.{connector}

unfoldable pub is_whitespace : ℕ → Bool
is_whitespace c = in_ranges white_space c

unfoldable pub is_alphabetic : ℕ → Bool
is_alphabetic c = in_ranges alphabetic c

unfoldable pub is_numeric : ℕ → Bool
is_numeric c = in_ranges numeric c

unfoldable pub is_mark : ℕ → Bool
is_mark c = in_ranges mark c

unfoldable pub is_punctuation_connector : ℕ → Bool
is_punctuation_connector c = in_ranges connector c

unfoldable pub is_alphanumeric : ℕ → Bool
is_alphanumeric c = is_alphabetic c || is_numeric c

unfoldable pub is_word_character : ℕ → Bool
is_word_character c = is_alphanumeric c || (is_mark c || is_punctuation_connector c)

-- what `get_ident_named_placeholder_token` takes: alphanumeric, `.`, `_`, `$`
unfoldable pub is_placeholder_name_character : ℕ → Bool
is_placeholder_name_character c = is_alphanumeric c || (eqb c 0x2E || (eqb c 0x5F || eqb c 0x24))
