-- The twelve worked searches that are marked P, proved of the definitions together: each with its settings, and its tokens
-- but for whitespace, as kind, length and key.
-- Assumes nothing.
use Rattle.std.proofs.Common.{Option, None, Some}
use Prim.Native.Nat.{ℕ}
use mathlib.Core.Path.{◌≡◌, refl}
use mathlib.Core.Bool.{Bool, true, false, cond}
use mathlib.Core.List.{List, [], ◌∷◌, map}
use Rattle.recognisers.specs.declared.Dialect.{Dialect}
use Rattle.recognisers.specs.declared.Dialect.TheVariants.{Generic, SQLServer}
use Rattle.recognisers.specs.declared.Key.{Key}
use Rattle.recognisers.specs.declared.Key.TheVariants.{Named, ZeroIndexed, OneIndexed}
use Rattle.recognisers.specs.declared.TokenKind.{TokenKind}
use Rattle.recognisers.specs.declared.TokenKind.TheVariants as K
use Rattle.recognisers.specs.Kinds.{is_kind}
use Rattle.recognisers.specs.Text.{bytes}
use Rattle.calls.specs.declared.Settings.{Settings}
use Rattle.tokenizer.specs.declared.Token.{Token}
use Rattle.characters.specs.Alphabetic.{alphabetic}
use Rattle.characters.specs.Character.{is_continuation, continuations, continued, first_bits, with_bits, character_length, code_point, character}
use Rattle.characters.specs.Classes.{is_whitespace, is_alphabetic, is_numeric, is_mark, is_punctuation_connector, is_alphanumeric, is_word_character, is_placeholder_name_character}
use Rattle.characters.specs.Connector.{connector}
use Rattle.characters.specs.Mark.{mark}
use Rattle.characters.specs.Numeric.{numeric}
use Rattle.characters.specs.Ranges.{within, in_ranges}
use Rattle.characters.specs.Runs.{in_class, run}
use Rattle.characters.specs.WhiteSpace.{white_space}
use Rattle.recognisers.specs.Comment.{till_line_ending, through_block_end, get_comment_token}
use Rattle.recognisers.specs.Number.{decimal_number, signed_digits, exponent, scientific_notation, unsigned, get_number_token}
use Rattle.recognisers.specs.Parens.{get_open_paren_token, get_close_paren_token}
use Rattle.recognisers.specs.Placeholder.{number_from, indexed_key, indexed_taken, get_indexed_placeholder_token, placeholder_name, ident_taken, get_ident_named_placeholder_token, through_brace, braced_text, braced_taken, get_braced_named_placeholder_token, has_escape, string_key, string_named_taken, get_string_named_placeholder_token, get_placeholder_token}
use Rattle.recognisers.specs.Strings.{take_till_escaping, closed_by, hex_taken, quoted_taken, string_taken, get_string_token, placeholder_quoted_taken, placeholder_string_taken}
use Rattle.recognisers.specs.Taking.{one, spelled, is_spelled, typed, capital, blanks, end_of_word, count, digit1, digit0, contains, starts_with}
use Rattle.recognisers.specs.TypeSpecifier.{get_type_specifier_token}
use Rattle.recognisers.specs.Words.{get_whitespace_token, is_operator, get_operator_token, get_word_token, get_any_other_char}
use Rattle.reserved.specs.Join.{join_phrases}
use Rattle.reserved.specs.Newline.{newline_phrases}
use Rattle.reserved.specs.NewlineAfter.{newline_after_phrases}
use Rattle.reserved.specs.NoIndent.{no_indent_phrases}
use Rattle.reserved.specs.Phrases.{walk, optional, phrase_end, first_phrase, each}
use Rattle.reserved.specs.Plain.{plain_two_phrases, plain_a, plain_b, plain_c, plain_d, plain_e, plain_f, plain_g, plain_h, plain_i, plain_k, plain_l, plain_m, plain_n, plain_o, plain_p, plain_q, plain_r, plain_s, plain_t, plain_u, plain_v, plain_w, plain_y, plain_one_phrases}
use Rattle.recognisers.specs.Same.{same}
use Rattle.reserved.specs.Reserved.{top_level_kind, alias_length, get_top_level_reserved_token, get_newline_after_reserved_token, get_newline_reserved_token, get_join_token, get_top_level_reserved_token_no_indent, get_plain_reserved_token, may_be_reserved, get_reserved_word_token}
use Rattle.reserved.specs.TopLevel.{creatable, alterable_or_droppable, each_dropped, top_level_phrases}
use Rattle.tokenizer.specs.Memory.{takes_type_specifier, top_level_of, after_between, last_top_level, remember, remembered}
use Rattle.tokenizer.specs.NextToken.{from_word, from_placeholder, from_operator, from_reserved, from_number, from_close_paren, from_open_paren, from_string, from_type_specifier, get_next_token, next_piece}
use Rattle.tokenizer.specs.Tokens.{given_out, step_at, tokens_from, tokens}

abbrev pub Shown : Type 0
Shown = List (TokenKind × ℕ × Option Key)

-- the tokens without whitespace
pub shown : List Token → Shown
shown [] = []
shown (t ∷ ts) = cond (is_kind t.kind K.Whitespace) (shown ts) ((t.kind, t.len, t.key) ∷ shown ts)

settings : Dialect → Bool → Settings
settings dialect named = record { dialect = dialect; joins = false; named = named }

generic : Settings
generic = settings Generic false

plain : TokenKind → ℕ → TokenKind × ℕ × Option Key
plain kind len = (kind, len, None)

pub searches : List (Settings × List ℕ × Shown)
searches =
    (generic, bytes "", [])
    ∷ (generic, bytes "======", plain K.Operator 5 ∷ plain K.Operator 1 ∷ [])
    ∷ (generic, bytes "'a", plain K.Operator 1 ∷ plain K.Word 1 ∷ [])
    ∷ (generic, bytes "/*a", plain K.BlockComment 3 ∷ [])
    ∷ (generic, bytes "t.from", plain K.Word 1 ∷ plain K.Operator 1 ∷ plain K.Word 4 ∷ [])
    ∷ (generic, bytes "t.end", plain K.Word 1 ∷ plain K.Operator 1 ∷ plain K.CloseParen 3 ∷ [])
    ∷ (generic, bytes "(::", plain K.OpenParen 1 ∷ plain K.Operator 2 ∷ [])
    ∷ (generic, bytes "::", plain K.TypeSpecifier 2 ∷ [])
    ∷ (generic, bytes "a=?", plain K.Word 1 ∷ plain K.Operator 2 ∷ [])
    ∷ (generic, bytes "$1a", (K.Placeholder, 2, Some (OneIndexed 1)) ∷ plain K.Word 1 ∷ [])
    ∷ (settings Generic true, bytes "$1a", (K.Placeholder, 3, Some (Named 1 2)) ∷ [])
    ∷ (generic, bytes "?18446744073709551616", plain K.Placeholder 21 ∷ [])
    ∷ (generic, bytes "?18446744073709551615", (K.Placeholder, 21, Some (ZeroIndexed 18446744073709551615)) ∷ [])
    ∷ (generic, bytes "BETWEEN 1 AND 2", plain K.Reserved 7 ∷ plain K.Number 1 ∷ plain K.Reserved 3 ∷ plain K.Number 1 ∷ [])
    ∷ (generic, bytes "between 1 AND 2", plain K.Reserved 7 ∷ plain K.Number 1 ∷ plain K.ReservedNewline 3 ∷ plain K.Number 1 ∷ [])
    ∷ (settings SQLServer false, bytes "=[]", plain K.Operator 1 ∷ plain K.String 2 ∷ [])
    ∷ []

pub worked : map (λ w. shown (tokens w.0 w.1)) searches ≡ map (λ w. w.2) searches
unfolding alphabetic is_continuation continuations continued first_bits with_bits character_length code_point character is_whitespace is_alphabetic is_numeric is_mark is_punctuation_connector is_alphanumeric is_word_character is_placeholder_name_character connector mark numeric within in_ranges in_class run white_space till_line_ending through_block_end get_comment_token decimal_number signed_digits exponent scientific_notation unsigned get_number_token get_open_paren_token get_close_paren_token number_from indexed_key indexed_taken get_indexed_placeholder_token placeholder_name ident_taken get_ident_named_placeholder_token through_brace braced_text braced_taken get_braced_named_placeholder_token has_escape string_key string_named_taken get_string_named_placeholder_token get_placeholder_token take_till_escaping closed_by hex_taken quoted_taken string_taken get_string_token placeholder_quoted_taken placeholder_string_taken one spelled is_spelled typed capital blanks end_of_word count digit1 digit0 contains starts_with get_type_specifier_token get_whitespace_token is_operator get_operator_token get_word_token get_any_other_char join_phrases newline_phrases newline_after_phrases no_indent_phrases walk optional phrase_end first_phrase each plain_two_phrases plain_a plain_b plain_c plain_d plain_e plain_f plain_g plain_h plain_i plain_k plain_l plain_m plain_n plain_o plain_p plain_q plain_r plain_s plain_t plain_u plain_v plain_w plain_y plain_one_phrases same top_level_kind alias_length get_top_level_reserved_token get_newline_after_reserved_token get_newline_reserved_token get_join_token get_top_level_reserved_token_no_indent get_plain_reserved_token may_be_reserved get_reserved_word_token creatable alterable_or_droppable each_dropped top_level_phrases takes_type_specifier top_level_of after_between last_top_level remember remembered from_word from_placeholder from_operator from_reserved from_number from_close_paren from_open_paren from_string from_type_specifier get_next_token next_piece given_out step_at tokens_from tokens shown settings generic plain searches
worked = refl
