-- `get_open_paren_token` and `get_close_paren_token`.
use Rattle.std.specs.Prelude.{ℕ, List, Option, None}
use Rattle.recognisers.specs.declared.Piece.{Piece}
use Rattle.recognisers.specs.declared.Dialect.{Dialect}
use Rattle.recognisers.specs.declared.Dialect.TheVariants.{Generic, PostgreSql, SQLServer}
use Rattle.recognisers.specs.declared.TokenKind.TheVariants.{OpenParen, CloseParen}
use Rattle.recognisers.specs.Text.{bytes}
use Rattle.recognisers.specs.Taking.{Taker, or, done, literal, caseless, blanks, end_of_word}
use Rattle.recognisers.specs.Pieces.{token_of}

abbrev pub in_postgre_sql : Dialect → Taker → Taker
in_postgre_sql Generic taker s = None
in_postgre_sql PostgreSql taker s = taker s
in_postgre_sql SQLServer taker s = None

unfoldable pub get_open_paren_token : Dialect → List ℕ → Option Piece
get_open_paren_token dialect s =
    token_of OpenParen
    (or (literal (bytes "(") done s)
    (or (in_postgre_sql dialect (literal (bytes "[") done) s) (caseless (bytes "CASE") end_of_word s)))

unfoldable pub get_close_paren_token : Dialect → List ℕ → Option Piece
get_close_paren_token dialect s =
    token_of CloseParen
    (or (literal (bytes ")") done s)
    (or (in_postgre_sql dialect (literal (bytes "]") done) s)
    (or (caseless (bytes "END") (blanks (caseless (bytes "CASE") end_of_word)) s) (caseless (bytes "END") end_of_word s))))
