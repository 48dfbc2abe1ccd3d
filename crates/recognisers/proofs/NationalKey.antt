-- `@N'ab'` by itself: `get_string_named_placeholder_token` takes all of it, and its key is `'ab`.
-- Assumes nothing.
use Rattle.std.proofs.Common.{Some}
use mathlib.Core.Path.{◌≡◌, refl}
use lib.ListN.{take, drop}
use Rattle.recognisers.specs.declared.Dialect.{Dialect}
use Rattle.recognisers.specs.declared.Dialect.TheVariants.{Generic, PostgreSql, SQLServer}
use Rattle.recognisers.specs.declared.Key.TheVariants.{Named}
use Rattle.recognisers.specs.declared.TokenKind.TheVariants.{Placeholder}
use Rattle.recognisers.specs.Text.{bytes}
use Rattle.recognisers.specs.Taking.{one, spelled, typed, contains, starts_with, starts_among}
use Rattle.recognisers.specs.Pieces.{piece}
use Rattle.recognisers.specs.Strings.{take_till_escaping, closed_by, placeholder_quoted_taken, placeholder_string_taken, pairs_passed, pairs_in, placeholder_string_pairs}
use Rattle.recognisers.specs.Placeholder.{has_escape, string_key, string_named_taken, string_named_pairs, get_string_named_placeholder_token}

-- six bytes, and a key of the three from the third on
pub national_key : (dialect : Dialect) → get_string_named_placeholder_token dialect (bytes "@N'ab'") ≡ Some (piece Placeholder 6 (Some (Named 2 3)))
unfolding one spelled typed contains starts_with take_till_escaping closed_by placeholder_quoted_taken placeholder_string_taken has_escape string_key string_named_taken pairs_passed pairs_in placeholder_string_pairs string_named_pairs starts_among get_string_named_placeholder_token
national_key Generic = refl
national_key PostgreSql = refl
national_key SQLServer = refl

pub national_key_text : take 3 (drop 2 (bytes "@N'ab'")) ≡ bytes "'ab"
national_key_text = refl
