-- `get_type_specifier_token`, where the token before allows one.
use Rattle.std.specs.Prelude.{Bool, cond, List, ℕ, Option, None}
use Rattle.recognisers.specs.declared.Piece.{Piece}
use Rattle.recognisers.specs.declared.TokenKind.TheVariants.{TypeSpecifier}
use Rattle.recognisers.specs.Text.{bytes}
use Rattle.recognisers.specs.Taking.{or, done, literal}
use Rattle.recognisers.specs.Pieces.{token_of}

unfoldable pub get_type_specifier_token : Bool → List ℕ → Option Piece
get_type_specifier_token allowed s =
    cond allowed (token_of TypeSpecifier (or (literal (bytes "::") done s) (literal (bytes "[]") done s))) None
