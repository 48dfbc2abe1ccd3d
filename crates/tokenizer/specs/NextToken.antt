-- `get_next_token`: one ordered choice.
use Rattle.std.specs.Prelude.{ℕ, List, Option}
use Rattle.recognisers.specs.declared.Piece.{Piece}
use Rattle.recognisers.specs.Pieces.{alt}
use Rattle.recognisers.specs.Comment.{get_comment_token}
use Rattle.recognisers.specs.TypeSpecifier.{get_type_specifier_token}
use Rattle.recognisers.specs.Strings.{get_string_token}
use Rattle.recognisers.specs.Parens.{get_open_paren_token, get_close_paren_token}
use Rattle.recognisers.specs.Number.{get_number_token}
use Rattle.recognisers.specs.Placeholder.{get_placeholder_token}
use Rattle.recognisers.specs.Words.{get_whitespace_token, get_operator_token, get_word_token, get_any_other_char}
use Rattle.reserved.specs.Reserved.{get_reserved_word_token}
use Rattle.tokenizer.specs.declared.Memory.{Memory}
use Rattle.calls.specs.declared.Settings.{Settings}

-- the alternatives from one recogniser on, the last first
unfoldable pub from_word : List ℕ → Option Piece
from_word s = alt (get_word_token s) (get_any_other_char s)

unfoldable pub from_placeholder : Settings → List ℕ → Option Piece
from_placeholder settings s = alt (get_placeholder_token settings.named settings.dialect s) (from_word s)

unfoldable pub from_operator : Settings → List ℕ → Option Piece
from_operator settings s = alt (get_operator_token s) (from_placeholder settings s)

unfoldable pub from_reserved : Settings → Memory → List ℕ → Option Piece
from_reserved settings memory s =
    alt (get_reserved_word_token memory.after_dot memory.after_between memory.top_level s) (from_operator settings s)

unfoldable pub from_number : Settings → Memory → List ℕ → Option Piece
from_number settings memory s = alt (get_number_token s) (from_reserved settings memory s)

unfoldable pub from_close_paren : Settings → Memory → List ℕ → Option Piece
from_close_paren settings memory s = alt (get_close_paren_token settings.dialect s) (from_number settings memory s)

unfoldable pub from_open_paren : Settings → Memory → List ℕ → Option Piece
from_open_paren settings memory s = alt (get_open_paren_token settings.dialect s) (from_close_paren settings memory s)

unfoldable pub from_string : Settings → Memory → List ℕ → Option Piece
from_string settings memory s = alt (get_string_token settings.dialect s) (from_open_paren settings memory s)

unfoldable pub from_type_specifier : Settings → Memory → List ℕ → Option Piece
from_type_specifier settings memory s = alt (get_type_specifier_token memory.type_specifier s) (from_string settings memory s)

unfoldable pub get_next_token : Settings → Memory → List ℕ → Option Piece
get_next_token settings memory s = alt (get_comment_token s) (from_type_specifier settings memory s)

-- whitespace is taken first
unfoldable pub next_piece : Settings → Memory → List ℕ → Option Piece
next_piece settings memory s = alt (get_whitespace_token s) (get_next_token settings memory s)
