-- The four placeholders and their keys. A key's text is told by its place in the rest.
use Rattle.std.specs.Prelude.{ℕ, ◌+◌, ◌-◌, ◌*◌, ◌^◌, Bool, true, false, cond, ◌&&◌, ◌||◌, List, [], ◌∷◌, ltb, leb, eqb, take, drop, get_or, Option, Some, None}
use Rattle.recognisers.specs.declared.Piece.{Piece}
use Rattle.recognisers.specs.declared.Dialect.{Dialect}
use Rattle.recognisers.specs.declared.Key.{Key}
use Rattle.recognisers.specs.declared.Key.TheVariants.{Named, Escaped, ZeroIndexed, OneIndexed}
use Rattle.recognisers.specs.declared.TokenKind.TheVariants.{Placeholder}
use Rattle.recognisers.specs.Text.{byte, bytes}
use Rattle.recognisers.specs.Taking.{Taker, more, or, done, one, literal, digit1, at_least, contains, starts_with}
use Rattle.recognisers.specs.Strings.{placeholder_string_taken, placeholder_string_pairs}
use Rattle.recognisers.specs.Pieces.{piece, quote_token, alt}
use Rattle.characters.specs.Classes.{is_placeholder_name_character}
use Rattle.characters.specs.Runs.{run}

-- a placeholder of what was taken, with the key that its length tells
abbrev pub keyed : (ℕ → Option Key) → Option ℕ → Option Piece
keyed key (Some n) = Some (piece Placeholder n (key n))
keyed key None = None

-- the number that ASCII digits spell, after a number that is read already
unfoldable pub number_from : ℕ → List ℕ → ℕ
number_from n [] = n
number_from n (d ∷ digits) = number_from (n * 10 + (d - byte "0")) digits

-- that number where it fits 64 bits
abbrev pub number_of : List ℕ → Option ℕ
number_of digits = cond (ltb (number_from 0 digits) (2 ^ 64)) (Some (number_from 0 digits)) None

abbrev pub indexed : Bool → Option ℕ → Option Key
indexed from_one (Some n) = cond from_one (Some (OneIndexed n)) (Some (ZeroIndexed n))
indexed from_one None = None

-- the key of a mark and n - 1 digits: none without digits, and none where the number does not fit 64 bits
unfoldable pub indexed_key : List ℕ → ℕ → Option Key
indexed_key s n = cond (leb n 1) None (indexed (starts_with (byte "$") s) (number_of (take (n - 1) (drop 1 s))))

unfoldable pub indexed_taken : Taker
indexed_taken s = or (one (contains (bytes "?$")) (digit1 done) s) (literal (bytes "?") done s)

unfoldable pub get_indexed_placeholder_token : List ℕ → Option Piece
get_indexed_placeholder_token s = keyed (indexed_key s) (indexed_taken s)

-- the characters of a placeholder's name, one at least
unfoldable pub placeholder_name : Taker
placeholder_name s = at_least 1 (run is_placeholder_name_character 0 s)

unfoldable pub ident_taken : Taker
ident_taken s = one (contains (bytes "@:$")) placeholder_name s

unfoldable pub get_ident_named_placeholder_token : List ℕ → Option Piece
get_ident_named_placeholder_token s = keyed (λ n. Some (Named 1 (n - 1))) (ident_taken s)

-- through the first `}`
unfoldable pub through_brace : Taker
through_brace [] = None
through_brace (b ∷ s) = cond (eqb b (byte "}")) (Some 1) (more 1 (through_brace s))

-- what stands between the braces must not be empty
unfoldable pub braced_text : Taker
braced_text s = cond (starts_with (byte "}") s) None (through_brace s)

unfoldable pub braced_taken : Taker
braced_taken s = literal (bytes "{") braced_text s

unfoldable pub get_braced_named_placeholder_token : List ℕ → Option Piece
get_braced_named_placeholder_token s = keyed (λ n. Some (Named 1 (n - 2))) (braced_taken s)

-- a backslash directly before the quote
unfoldable pub has_escape : ℕ → List ℕ → Bool
has_escape quote [] = false
has_escape quote (b ∷ s) = (eqb b (byte "\\") && starts_with quote s) || has_escape quote s

-- the key of a string placeholder: its text without the mark, the byte after that, and the closing quote. It has escapes
-- to undo where a backslash stands in it before the quote character.
unfoldable pub string_key : List ℕ → ℕ → Option Key
string_key s n = cond (has_escape (get_or s (n - 1) 0) (take (n - 3) (drop 2 s))) (Some (Escaped 2 (n - 3))) (Some (Named 2 (n - 3)))

unfoldable pub string_named_taken : Dialect → Taker
string_named_taken dialect s = one (contains (bytes "@:")) (placeholder_string_taken dialect) s

-- the pairs behind the mark
unfoldable pub string_named_pairs : List ℕ → ℕ
string_named_pairs value = placeholder_string_pairs (drop 1 value)

unfoldable pub get_string_named_placeholder_token : Dialect → List ℕ → Option Piece
get_string_named_placeholder_token dialect s =
    quote_token Placeholder (string_key s) (λ n. string_named_pairs (take n s)) (string_named_taken dialect s)

-- the order of the alternatives goes by the setting
unfoldable pub get_placeholder_token : Bool → Dialect → List ℕ → Option Piece
get_placeholder_token true dialect s =
    alt (get_ident_named_placeholder_token s)
    (alt (get_string_named_placeholder_token dialect s)
    (alt (get_indexed_placeholder_token s) (get_braced_named_placeholder_token s)))
get_placeholder_token false dialect s =
    alt (get_indexed_placeholder_token s)
    (alt (get_ident_named_placeholder_token s)
    (alt (get_string_named_placeholder_token dialect s) (get_braced_named_placeholder_token s)))
