-- `get_number_token`, `decimal_number` and `scientific_notation`.
use Rattle.std.specs.Prelude.{ℕ, List, Option}
use Rattle.recognisers.specs.declared.Piece.{Piece}
use Rattle.recognisers.specs.declared.TokenKind.TheVariants.{Number}
use Rattle.recognisers.specs.Text.{bytes}
use Rattle.recognisers.specs.Taking.{Taker, or, done, one, literal, digit1, digit0, contains}
use Rattle.recognisers.specs.Pieces.{token_of}

unfoldable pub decimal_number : Taker → Taker
decimal_number then s = digit1 (literal (bytes ".") (digit0 then)) s

-- a sign or none, and digits
unfoldable pub signed_digits : Taker
signed_digits s = or (one (contains (bytes "-+")) (digit1 done) s) (digit1 done s)

unfoldable pub exponent : Taker
exponent s = literal (bytes "e") signed_digits s

unfoldable pub scientific_notation : Taker
scientific_notation s = or (decimal_number exponent s) (digit1 exponent s)

unfoldable pub unsigned : Taker
unsigned s = or (scientific_notation s) (or (decimal_number done s) (digit1 done s))

unfoldable pub get_number_token : List ℕ → Option Piece
get_number_token s = token_of Number (or (literal (bytes "-") unsigned s) (unsigned s))
