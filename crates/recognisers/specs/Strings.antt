-- `take_till_escaping`, `get_string_token` and `get_placeholder_string_token`.
use Rattle.std.specs.Prelude.{ℕ, suc, Bool, true, false, cond, not, ◌&&◌, List, [], ◌∷◌, eqb, take, drop, Option, Some, None}
use Rattle.recognisers.specs.declared.Piece.{Piece}
use Rattle.recognisers.specs.declared.Dialect.{Dialect}
use Rattle.recognisers.specs.declared.Dialect.TheVariants.{Generic, PostgreSql, SQLServer}
use Rattle.recognisers.specs.declared.TokenKind.TheVariants.{String}
use Rattle.recognisers.specs.Text.{byte, bytes}
use Rattle.recognisers.specs.Taking.{Taker, more, or, literal, contains, starts_with, starts_among}
use Rattle.recognisers.specs.Pieces.{quote_token}

-- How many bytes stand before the first `desired` byte that is neither escaped nor an escape; it fails where there is none.
-- (The Rust then takes the rest, and the `any` behind it fails.) An escape and the `desired` byte behind it are passed
-- together: `behind` says that the next byte is such a one.
unfoldable pub take_till_escaping : ℕ → List ℕ → Bool → Taker
take_till_escaping desired escapes behind [] = None
take_till_escaping desired escapes true (b ∷ s) = more 1 (take_till_escaping desired escapes false s)
take_till_escaping desired escapes false (b ∷ s) =
    cond (not (contains escapes b && starts_with desired s) && eqb b desired) (Some 0)
    (more 1 (take_till_escaping desired escapes (contains escapes b && starts_with desired s) s))

-- How many pairs it passes on that way: it walks alike, and counts the byte behind an escape.
unfoldable pub pairs_passed : ℕ → List ℕ → Bool → List ℕ → ℕ
pairs_passed desired escapes behind [] = 0
pairs_passed desired escapes true (b ∷ s) = suc (pairs_passed desired escapes false s)
pairs_passed desired escapes false (b ∷ s) =
    cond (not (contains escapes b && starts_with desired s) && eqb b desired) 0
    (pairs_passed desired escapes (contains escapes b && starts_with desired s) s)

-- the text up to its closing quote, and that
unfoldable pub closed_by : ℕ → List ℕ → Taker
closed_by desired escapes s = more 1 (take_till_escaping desired escapes false s)

abbrev pub in_sql_server : Dialect → Taker → Taker
in_sql_server Generic taker s = None
in_sql_server PostgreSql taker s = None
in_sql_server SQLServer taker s = taker s

-- hexadecimal strings know no escapes
unfoldable pub hex_taken : Taker
hex_taken s = or (literal (bytes "x'") (closed_by (byte "'") []) s) (literal (bytes "X'") (closed_by (byte "'") []) s)

-- strings in double or single quotes, national ones, those with an E before them
unfoldable pub quoted_taken : Taker
quoted_taken s =
    or (literal (bytes "\"") (closed_by (byte "\"") (bytes "\"\\")) s)
    (or (literal (bytes "'") (closed_by (byte "'") (bytes "'\\")) s)
    (or (literal (bytes "N'") (closed_by (byte "'") (bytes "'\\")) s)
    (or (literal (bytes "E'") (closed_by (byte "'") (bytes "'\\")) s) (hex_taken s))))

-- the eight openers
unfoldable pub string_taken : Dialect → Taker
string_taken dialect s =
    or (literal (bytes "`") (closed_by (byte "`") (bytes "`")) s)
    (or (in_sql_server dialect (literal (bytes "[") (closed_by (byte "]") (bytes "]"))) s) (quoted_taken s))

-- the pairs behind an opener of n bytes
abbrev pub pairs_behind : ℕ → ℕ → List ℕ → List ℕ → ℕ
pairs_behind n desired escapes value = pairs_passed desired escapes false (drop n value)

-- The pairs in a string, by its opener: what escapes single and double quotes is not the same in all places where strings stand, nor
-- which letters may stand before a single quote. Hexadecimal strings know no escapes.
unfoldable pub pairs_in : List ℕ → List ℕ → List ℕ → List ℕ → ℕ
pairs_in single double letters value =
    cond (starts_with (byte "`") value) (pairs_behind 1 (byte "`") (bytes "`") value)
    (cond (starts_with (byte "[") value) (pairs_behind 1 (byte "]") (bytes "]") value)
    (cond (starts_with (byte "\"") value) (pairs_behind 1 (byte "\"") double value)
    (cond (starts_with (byte "'") value) (pairs_behind 1 (byte "'") single value)
    (cond (starts_among letters value) (pairs_behind 2 (byte "'") single value) 0))))

unfoldable pub string_pairs : List ℕ → ℕ
string_pairs value = pairs_in (bytes "'\\") (bytes "\"\\") (bytes "NE") value

unfoldable pub get_string_token : Dialect → List ℕ → Option Piece
get_string_token dialect s = quote_token String (λ n. None) (λ n. string_pairs (take n s)) (string_taken dialect s)

-- like the above, with other escapes
unfoldable pub placeholder_quoted_taken : Taker
placeholder_quoted_taken s =
    or (literal (bytes "\"") (closed_by (byte "\"") (bytes "\\")) s)
    (or (literal (bytes "'") (closed_by (byte "'") (bytes "\\")) s) (literal (bytes "N'") (closed_by (byte "'") (bytes "\\")) s))

unfoldable pub placeholder_string_taken : Dialect → Taker
placeholder_string_taken dialect s =
    or (literal (bytes "`") (closed_by (byte "`") (bytes "`")) s)
    (or (in_sql_server dialect (literal (bytes "[") (closed_by (byte "]") (bytes "]"))) s) (placeholder_quoted_taken s))

unfoldable pub placeholder_string_pairs : List ℕ → ℕ
placeholder_string_pairs value = pairs_in (bytes "\\") (bytes "\\") (bytes "N") value
