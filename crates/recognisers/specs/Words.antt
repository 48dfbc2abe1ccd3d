-- `get_whitespace_token`, `get_operator_token`, `get_word_token` and `get_any_other_char`.
use Rattle.std.specs.Prelude.{ℕ, min, Bool, cond, ◌||◌, List, Option, None}
use Rattle.recognisers.specs.declared.Piece.{Piece}
use Rattle.recognisers.specs.declared.TokenKind.TheVariants.{Whitespace, Operator, Word}
use Rattle.recognisers.specs.Text.{byte, bytes}
use Rattle.recognisers.specs.Taking.{count, at_least, contains, starts_with}
use Rattle.recognisers.specs.Pieces.{token_of}
use Rattle.characters.specs.Classes.{is_whitespace, is_word_character}
use Rattle.characters.specs.Character.{character_length}
use Rattle.characters.specs.Runs.{run}

unfoldable pub get_whitespace_token : List ℕ → Option Piece
get_whitespace_token s = token_of Whitespace (at_least 1 (run is_whitespace 0 s))

unfoldable pub is_operator : ℕ → Bool
is_operator b = contains (bytes "!<>=|:-~*&@^?#/%") b

-- a run of 2 to 5
unfoldable pub get_operator_token : List ℕ → Option Piece
get_operator_token s = token_of Operator (at_least 2 (min (count is_operator s) 5))

unfoldable pub get_word_token : List ℕ → Option Piece
get_word_token s = token_of Word (at_least 1 (run is_word_character 0 s))

-- one character, but no CR or LF
unfoldable pub get_any_other_char : List ℕ → Option Piece
get_any_other_char s =
    token_of Operator (cond (starts_with (byte "\n") s || starts_with (byte "\r") s) None (at_least 1 (character_length s)))
