-- Escaped quotes counted in strings and string placeholders: the examples of request [2], computed.
-- Assumes nothing.
use Rattle.std.proofs.Common.{Option, Some, None}
use Prim.Native.Nat.{ℕ}
use mathlib.Core.Path.{◌≡◌, refl}
use mathlib.Core.List.{List, [], ◌∷◌, map}
use Rattle.recognisers.specs.declared.Dialect.{Dialect}
use Rattle.recognisers.specs.declared.Dialect.TheVariants.{Generic, SQLServer}
use Rattle.recognisers.specs.declared.Key.{Key}
use Rattle.recognisers.specs.declared.Key.TheVariants.{Named, Escaped}
use Rattle.recognisers.specs.declared.TokenKind.TheVariants.{String, Placeholder}
use Rattle.recognisers.specs.Text.{bytes}
use Rattle.recognisers.specs.Taking.{one, spelled, typed, contains, starts_with, starts_among}
use Rattle.recognisers.specs.Pieces.{quote_piece}
use Rattle.recognisers.specs.Strings.{take_till_escaping, pairs_passed, closed_by, hex_taken, quoted_taken, string_taken, pairs_in, string_pairs, get_string_token, placeholder_quoted_taken, placeholder_string_taken, placeholder_string_pairs}
use Rattle.recognisers.specs.Placeholder.{has_escape, string_key, string_named_taken, string_named_pairs, get_string_named_placeholder_token}

-- a string, how many bytes it takes, and how many of its quotes are escaped
pub strings : List (Dialect × List ℕ × ℕ × ℕ)
strings =
    (Generic, bytes "'a''b'", 6, 1)
    ∷ (Generic, bytes "'a\\'b'", 6, 1)
    ∷ (Generic, bytes "''''", 4, 1)
    ∷ (Generic, bytes "\"\\\"\"", 4, 1)
    ∷ (Generic, bytes "x'\\'", 4, 0)
    ∷ (Generic, bytes "`a``b`", 6, 1)
    ∷ (SQLServer, bytes "[a]]b]", 6, 1)
    ∷ []

pub strings_counted : map (λ w. get_string_token w.0 w.1) strings ≡ map (λ w. Some (quote_piece String w.2 None w.3)) strings
unfolding strings one spelled typed contains starts_with starts_among take_till_escaping pairs_passed closed_by hex_taken quoted_taken string_taken pairs_in string_pairs get_string_token
strings_counted = refl

-- the same of string placeholders, with their keys; `@'a''` is `@'a'`, and then a quote
pub placeholders : List (Dialect × List ℕ × ℕ × Option Key × ℕ)
placeholders =
    (Generic, bytes "@'a\\'b'", 7, Some (Escaped 2 4), 1)
    ∷ (Generic, bytes "@'a''", 4, Some (Named 2 1), 0)
    ∷ (Generic, bytes "@`a``b`", 7, Some (Named 2 4), 1)
    ∷ (SQLServer, bytes "@[a]]b]", 7, Some (Named 2 4), 1)
    ∷ (Generic, bytes "@N'a'", 5, Some (Named 2 2), 0)
    ∷ []

pub placeholders_counted : map (λ w. get_string_named_placeholder_token w.0 w.1) placeholders ≡ map (λ w. Some (quote_piece Placeholder w.2 w.3 w.4)) placeholders
unfolding placeholders one spelled typed contains starts_with starts_among take_till_escaping pairs_passed closed_by placeholder_quoted_taken placeholder_string_taken pairs_in placeholder_string_pairs has_escape string_key string_named_taken string_named_pairs get_string_named_placeholder_token
placeholders_counted = refl
