-- `get_comment_token`.
use Rattle.std.specs.Prelude.{ℕ, cond, ◌&&◌, List, [], ◌∷◌, eqb, Option, Some, None}
use Rattle.recognisers.specs.declared.Piece.{Piece}
use Rattle.recognisers.specs.declared.TokenKind.TheVariants.{LineComment, BlockComment}
use Rattle.recognisers.specs.Text.{byte, bytes}
use Rattle.recognisers.specs.Taking.{Taker, more, literal, starts_with}
use Rattle.recognisers.specs.Pieces.{token_of, alt}

-- up to LF, CR LF or the end; a CR without LF is refused
unfoldable pub till_line_ending : Taker
till_line_ending [] = Some 0
till_line_ending (b ∷ s) =
    cond (eqb b (byte "\n")) (Some 0)
    (cond (eqb b (byte "\r")) (cond (starts_with (byte "\n") s) (Some 0) None) (more 1 (till_line_ending s)))

-- through the first `*/`, else to the end
unfoldable pub through_block_end : Taker
through_block_end [] = Some 0
through_block_end (b ∷ s) =
    cond (eqb b (byte "*") && starts_with (byte "/") s) (Some 2) (more 1 (through_block_end s))

unfoldable pub get_comment_token : List ℕ → Option Piece
get_comment_token s =
    alt (token_of LineComment (literal (bytes "#") till_line_ending s))
    (alt (token_of LineComment (literal (bytes "--") till_line_ending s))
    (token_of BlockComment (literal (bytes "/*") through_block_end s)))
