-- `@N'a'` and `@N'ab'` in a statement, under all settings: Placeholder `@N` with the key `N`, and a String, neither with an escaped
-- quote. The identifier form is tried before the string form, whose own key begins with the quote (`national_key`,
-- recognisers/proofs/NationalKey.antt).
-- Assumes nothing.
use Rattle.std.proofs.Common.{None, Some}
use Prim.Native.Nat.{ℕ}
use mathlib.Core.Path.{◌≡◌, refl}
use mathlib.Core.Bool.{Bool, true, false}
use mathlib.Core.List.{List, [], ◌∷◌, map}
use Rattle.characters.specs.Ranges.{within, in_ranges}
use Rattle.characters.specs.WhiteSpace.{white_space}
use Rattle.characters.specs.Alphabetic.{alphabetic}
use Rattle.characters.specs.Numeric.{numeric}
use Rattle.characters.specs.Character.{continuations, continued, first_bits, with_bits, code_point}
use Rattle.characters.specs.Classes.{is_whitespace, is_alphabetic, is_numeric, is_alphanumeric, is_placeholder_name_character}
use Rattle.characters.specs.Runs.{run}
use Rattle.recognisers.specs.declared.Dialect.{Dialect}
use Rattle.recognisers.specs.declared.Dialect.TheVariants.{Generic, PostgreSql, SQLServer}
use Rattle.recognisers.specs.declared.Key.TheVariants.{Named}
use Rattle.recognisers.specs.declared.TokenKind.TheVariants as K
use Rattle.recognisers.specs.Text.{bytes}
use Rattle.recognisers.specs.Same.{same}
use Rattle.recognisers.specs.Taking.{one, spelled, typed, capital, count, digit1, contains, starts_with}
use Rattle.recognisers.specs.TypeSpecifier.{get_type_specifier_token}
use Rattle.recognisers.specs.Comment.{get_comment_token}
use Rattle.recognisers.specs.Strings.{take_till_escaping, closed_by, hex_taken, quoted_taken, string_taken, pairs_passed, pairs_in, string_pairs, get_string_token}
use Rattle.recognisers.specs.Parens.{get_open_paren_token, get_close_paren_token}
use Rattle.recognisers.specs.Number.{decimal_number, scientific_notation, unsigned, get_number_token}
use Rattle.recognisers.specs.Words.{get_whitespace_token, is_operator, get_operator_token}
use Rattle.recognisers.specs.Placeholder.{indexed_taken, get_indexed_placeholder_token, placeholder_name, ident_taken, get_ident_named_placeholder_token, get_placeholder_token}
use Rattle.reserved.specs.Reserved.{may_be_reserved, get_reserved_word_token}
use Rattle.tokenizer.specs.declared.Token.{Token}
use Rattle.tokenizer.specs.Memory.{takes_type_specifier, after_between, last_top_level, remember, remembered}
use Rattle.tokenizer.specs.NextToken.{from_placeholder, from_operator, from_reserved, from_number, from_close_paren, from_open_paren, from_string, from_type_specifier, get_next_token, next_piece}
use Rattle.tokenizer.specs.Tokens.{given_out, tokens_from, tokens}

abbrev placeholder : Token
placeholder = record { kind = K.Placeholder; start = 0; len = 2; alias = 2; key = Some (Named 1 1); escaped = 0 }

abbrev string : ℕ → Token
string len = record { kind = K.String; start = 2; len = len; alias = len; key = None; escaped = 0 }

-- a statement, and how long its string is
pub nationals : List (List ℕ × ℕ)
nationals = (bytes "@N'a'", 3) ∷ (bytes "@N'ab'", 4) ∷ []

pub national_placeholder : (dialect : Dialect) (joins named : Bool) → map (λ w. tokens (record { dialect = dialect; joins = joins; named = named }) w.0) nationals ≡ map (λ w. placeholder ∷ string w.1 ∷ []) nationals
unfolding nationals within in_ranges white_space alphabetic numeric continuations continued first_bits with_bits code_point is_whitespace is_alphabetic is_numeric is_alphanumeric is_placeholder_name_character run same one spelled typed capital count digit1 contains starts_with get_type_specifier_token get_comment_token take_till_escaping closed_by hex_taken quoted_taken string_taken pairs_passed pairs_in string_pairs get_string_token get_open_paren_token get_close_paren_token decimal_number scientific_notation unsigned get_number_token get_whitespace_token is_operator get_operator_token indexed_taken get_indexed_placeholder_token placeholder_name ident_taken get_ident_named_placeholder_token get_placeholder_token may_be_reserved get_reserved_word_token takes_type_specifier after_between last_top_level remember remembered from_placeholder from_operator from_reserved from_number from_close_paren from_open_paren from_string from_type_specifier get_next_token next_piece given_out tokens_from tokens
national_placeholder Generic joins true = refl
national_placeholder Generic joins false = refl
national_placeholder PostgreSql joins true = refl
national_placeholder PostgreSql joins false = refl
national_placeholder SQLServer joins true = refl
national_placeholder SQLServer joins false = refl
