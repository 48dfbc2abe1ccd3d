-- Worked examples of tight text, and of the gaps that count, computed by the checker.
-- Assumes nothing.
use Prim.Native.Nat.{ℕ}
use mathlib.Core.Path.{◌≡◌, refl}
use mathlib.Core.Bool.{Bool, true, false}
use mathlib.Core.List.{List, [], ◌∷◌, map}
use Rattle.recognisers.specs.declared.Dialect.TheVariants.{Generic}
use Rattle.recognisers.specs.declared.TokenKind.{TokenKind}
use Rattle.recognisers.specs.declared.TokenKind.TheVariants as K
use Rattle.recognisers.specs.Text.{bytes}
use Rattle.calls.specs.declared.Settings.{Settings}
use Rattle.characters.specs.Alphabetic.{alphabetic}
use Rattle.characters.specs.Character.{is_continuation, continuations, continued, first_bits, with_bits, character_length, code_point, character}
use Rattle.characters.specs.Classes.{is_whitespace, is_alphabetic, is_numeric, is_mark, is_punctuation_connector, is_alphanumeric, is_word_character, is_placeholder_name_character}
use Rattle.characters.specs.Connector.{connector}
use Rattle.characters.specs.Mark.{mark}
use Rattle.characters.specs.Numeric.{numeric}
use Rattle.characters.specs.Ranges.{within, in_ranges}
use Rattle.characters.specs.Runs.{in_class, run}
use Rattle.characters.specs.WhiteSpace.{white_space}
use Rattle.recognisers.specs.Comment.{till_line_ending, through_block_end, get_comment_token}
use Rattle.recognisers.specs.Number.{decimal_number, signed_digits, exponent, scientific_notation, unsigned, get_number_token}
use Rattle.recognisers.specs.Parens.{get_open_paren_token, get_close_paren_token}
use Rattle.recognisers.specs.Placeholder.{number_from, indexed_key, indexed_taken, get_indexed_placeholder_token, placeholder_name, ident_taken, get_ident_named_placeholder_token, through_brace, braced_text, braced_taken, get_braced_named_placeholder_token, has_escape, string_key, string_named_taken, get_string_named_placeholder_token, get_placeholder_token}
use Rattle.recognisers.specs.Strings.{take_till_escaping, closed_by, hex_taken, quoted_taken, string_taken, get_string_token, placeholder_quoted_taken, placeholder_string_taken}
use Rattle.recognisers.specs.Taking.{one, spelled, is_spelled, typed, capital, blanks, end_of_word, count, digit1, digit0, contains, starts_with}
use Rattle.recognisers.specs.TypeSpecifier.{get_type_specifier_token}
use Rattle.recognisers.specs.Words.{get_whitespace_token, is_operator, get_operator_token, get_word_token, get_any_other_char}
use Rattle.reserved.specs.Join.{join_phrases}
use Rattle.reserved.specs.Newline.{newline_phrases}
use Rattle.reserved.specs.NewlineAfter.{newline_after_phrases}
use Rattle.reserved.specs.NoIndent.{no_indent_phrases}
use Rattle.reserved.specs.Phrases.{walk, optional, phrase_end, first_phrase, each}
use Rattle.reserved.specs.Plain.{plain_two_phrases, plain_a, plain_b, plain_c, plain_d, plain_e, plain_f, plain_g, plain_h, plain_i, plain_k, plain_l, plain_m, plain_n, plain_o, plain_p, plain_q, plain_r, plain_s, plain_t, plain_u, plain_v, plain_w, plain_y, plain_one_phrases}
use Rattle.recognisers.specs.Same.{same}
use Rattle.reserved.specs.Reserved.{top_level_kind, alias_length, get_top_level_reserved_token, get_newline_after_reserved_token, get_newline_reserved_token, get_join_token, get_top_level_reserved_token_no_indent, get_plain_reserved_token, may_be_reserved, get_reserved_word_token}
use Rattle.reserved.specs.TopLevel.{creatable, alterable_or_droppable, each_dropped, top_level_phrases}
use Rattle.tokenizer.specs.Memory.{takes_type_specifier, top_level_of, after_between, last_top_level, remember, remembered}
use Rattle.tokenizer.specs.NextToken.{from_word, from_placeholder, from_operator, from_reserved, from_number, from_close_paren, from_open_paren, from_string, from_type_specifier, get_next_token, next_piece}
use Rattle.tokenizer.specs.Tokens.{given_out, tokens_from, tokens}
use Rattle.tight.specs.Returning.{returns}
use Rattle.tight.specs.TightText.{gap_after, tight_from, tight}
use Rattle.tight.specs.TightText as T
use Rattle.tight.specs.Agree.{Compared, compared, compared_all, reading, is_gap, without_gaps, only_gaps, gaps}

pub generic : Settings
generic = record { dialect = Generic; joins = false; named = false }

-- a search and its tight text: document 01's, the empty text, blanks alone, and a quote that one space more would close;
-- then gaps that return and others, before, between and behind tokens, and behind line comments
pub examples : List (List ℕ × List ℕ)
examples =
    (bytes "a  --x\r\n\n b ", bytes "a --x\nb")
    ∷ (bytes "", bytes "")
    ∷ (bytes " \t\r\n", bytes "")
    ∷ (bytes "'a\\'", bytes "'a\\'")
    ∷ (bytes "a\rb", bytes "a\rb")
    ∷ (bytes "a\r\rb", bytes "a\rb")
    ∷ (bytes "a \r\nb", bytes "a b")
    ∷ (bytes "a\n\rb", bytes "a b")
    ∷ (bytes "a\r", bytes "a\r")
    ∷ (bytes "a \r ", bytes "a\r")
    ∷ (bytes "a\r\n\r", bytes "a")
    ∷ (bytes "\ra", bytes "a")
    ∷ (bytes "\r", bytes "")
    ∷ (bytes "#a\rb\r\n", bytes "#a\rb")
    ∷ (bytes "# \ra", bytes "#\ra")
    ∷ (bytes "--a\n\rb", bytes "--a\nb")
    ∷ (bytes "--a\n\r", bytes "--a")
    ∷ []

pub tightened : map (λ e. tight generic e.0) examples ≡ map (λ e. e.1) examples
unfolding alphabetic is_continuation continuations continued first_bits with_bits character_length code_point character is_whitespace is_alphabetic is_numeric is_mark is_punctuation_connector is_alphanumeric is_word_character is_placeholder_name_character connector mark numeric within in_ranges in_class run white_space till_line_ending through_block_end get_comment_token decimal_number signed_digits exponent scientific_notation unsigned get_number_token get_open_paren_token get_close_paren_token number_from indexed_key indexed_taken get_indexed_placeholder_token placeholder_name ident_taken get_ident_named_placeholder_token through_brace braced_text braced_taken get_braced_named_placeholder_token has_escape string_key string_named_taken get_string_named_placeholder_token get_placeholder_token take_till_escaping closed_by hex_taken quoted_taken string_taken get_string_token placeholder_quoted_taken placeholder_string_taken one spelled is_spelled typed capital blanks end_of_word count digit1 digit0 contains starts_with get_type_specifier_token get_whitespace_token is_operator get_operator_token get_word_token get_any_other_char join_phrases newline_phrases newline_after_phrases no_indent_phrases walk optional phrase_end first_phrase each plain_two_phrases plain_a plain_b plain_c plain_d plain_e plain_f plain_g plain_h plain_i plain_k plain_l plain_m plain_n plain_o plain_p plain_q plain_r plain_s plain_t plain_u plain_v plain_w plain_y plain_one_phrases same top_level_kind alias_length get_top_level_reserved_token get_newline_after_reserved_token get_newline_reserved_token get_join_token get_top_level_reserved_token_no_indent get_plain_reserved_token may_be_reserved get_reserved_word_token creatable alterable_or_droppable each_dropped top_level_phrases takes_type_specifier top_level_of after_between last_top_level remember remembered from_word from_placeholder from_operator from_reserved from_number from_close_paren from_open_paren from_string from_type_specifier get_next_token next_piece given_out tokens_from tokens T.is_gap returns gap_after tight_from tight generic examples
tightened = refl

-- the gaps that count, each with its place and whether it returns: not the first, nor the last unless it returns
pub told : List (List ℕ × List (ℕ × Bool))
told =
    (bytes "\ra \rb c\n\r", (1, true) ∷ (2, false) ∷ [])
    ∷ (bytes "a b\r", (1, false) ∷ (2, true) ∷ [])
    ∷ (bytes "\r", [])
    ∷ (bytes "--a\r\n\rb ", (1, false) ∷ [])
    ∷ []

pub gaps_told : map (λ e. gaps 0 (reading generic e.0)) told ≡ map (λ e. e.1) told
unfolding alphabetic is_continuation continuations continued first_bits with_bits character_length code_point character is_whitespace is_alphabetic is_numeric is_mark is_punctuation_connector is_alphanumeric is_word_character is_placeholder_name_character connector mark numeric within in_ranges in_class run white_space till_line_ending through_block_end get_comment_token decimal_number signed_digits exponent scientific_notation unsigned get_number_token get_open_paren_token get_close_paren_token number_from indexed_key indexed_taken get_indexed_placeholder_token placeholder_name ident_taken get_ident_named_placeholder_token through_brace braced_text braced_taken get_braced_named_placeholder_token has_escape string_key string_named_taken get_string_named_placeholder_token get_placeholder_token take_till_escaping closed_by hex_taken quoted_taken string_taken get_string_token placeholder_quoted_taken placeholder_string_taken one spelled is_spelled typed capital blanks end_of_word count digit1 digit0 contains starts_with get_type_specifier_token get_whitespace_token is_operator get_operator_token get_word_token get_any_other_char join_phrases newline_phrases newline_after_phrases no_indent_phrases walk optional phrase_end first_phrase each plain_two_phrases plain_a plain_b plain_c plain_d plain_e plain_f plain_g plain_h plain_i plain_k plain_l plain_m plain_n plain_o plain_p plain_q plain_r plain_s plain_t plain_u plain_v plain_w plain_y plain_one_phrases same top_level_kind alias_length get_top_level_reserved_token get_newline_after_reserved_token get_newline_reserved_token get_join_token get_top_level_reserved_token_no_indent get_plain_reserved_token may_be_reserved get_reserved_word_token creatable alterable_or_droppable each_dropped top_level_phrases takes_type_specifier top_level_of after_between last_top_level remember remembered from_word from_placeholder from_operator from_reserved from_number from_close_paren from_open_paren from_string from_type_specifier get_next_token next_piece given_out tokens_from tokens compared compared_all reading is_gap only_gaps returns gaps generic told
gaps_told = refl

pub kinds : List Compared → List TokenKind
kinds cs = map (λ c. c.kind) cs

-- `#` is an Operator where a CR without LF comes first, and so it is in the tight text
pub hash_kinds : kinds (without_gaps (reading generic (bytes "#a\rb\r\n"))) ≡ K.Operator ∷ K.Word ∷ K.Word ∷ []
unfolding alphabetic is_continuation continuations continued first_bits with_bits character_length code_point character is_whitespace is_alphabetic is_numeric is_mark is_punctuation_connector is_alphanumeric is_word_character is_placeholder_name_character connector mark numeric within in_ranges in_class run white_space till_line_ending through_block_end get_comment_token decimal_number signed_digits exponent scientific_notation unsigned get_number_token get_open_paren_token get_close_paren_token number_from indexed_key indexed_taken get_indexed_placeholder_token placeholder_name ident_taken get_ident_named_placeholder_token through_brace braced_text braced_taken get_braced_named_placeholder_token has_escape string_key string_named_taken get_string_named_placeholder_token get_placeholder_token take_till_escaping closed_by hex_taken quoted_taken string_taken get_string_token placeholder_quoted_taken placeholder_string_taken one spelled is_spelled typed capital blanks end_of_word count digit1 digit0 contains starts_with get_type_specifier_token get_whitespace_token is_operator get_operator_token get_word_token get_any_other_char join_phrases newline_phrases newline_after_phrases no_indent_phrases walk optional phrase_end first_phrase each plain_two_phrases plain_a plain_b plain_c plain_d plain_e plain_f plain_g plain_h plain_i plain_k plain_l plain_m plain_n plain_o plain_p plain_q plain_r plain_s plain_t plain_u plain_v plain_w plain_y plain_one_phrases same top_level_kind alias_length get_top_level_reserved_token get_newline_after_reserved_token get_newline_reserved_token get_join_token get_top_level_reserved_token_no_indent get_plain_reserved_token may_be_reserved get_reserved_word_token creatable alterable_or_droppable each_dropped top_level_phrases takes_type_specifier top_level_of after_between last_top_level remember remembered from_word from_placeholder from_operator from_reserved from_number from_close_paren from_open_paren from_string from_type_specifier get_next_token next_piece given_out tokens_from tokens compared compared_all reading is_gap without_gaps generic kinds
hash_kinds = refl

pub tight_hash_kinds : kinds (without_gaps (reading generic (tight generic (bytes "#a\rb\r\n")))) ≡ K.Operator ∷ K.Word ∷ K.Word ∷ []
unfolding alphabetic is_continuation continuations continued first_bits with_bits character_length code_point character is_whitespace is_alphabetic is_numeric is_mark is_punctuation_connector is_alphanumeric is_word_character is_placeholder_name_character connector mark numeric within in_ranges in_class run white_space till_line_ending through_block_end get_comment_token decimal_number signed_digits exponent scientific_notation unsigned get_number_token get_open_paren_token get_close_paren_token number_from indexed_key indexed_taken get_indexed_placeholder_token placeholder_name ident_taken get_ident_named_placeholder_token through_brace braced_text braced_taken get_braced_named_placeholder_token has_escape string_key string_named_taken get_string_named_placeholder_token get_placeholder_token take_till_escaping closed_by hex_taken quoted_taken string_taken get_string_token placeholder_quoted_taken placeholder_string_taken one spelled is_spelled typed capital blanks end_of_word count digit1 digit0 contains starts_with get_type_specifier_token get_whitespace_token is_operator get_operator_token get_word_token get_any_other_char join_phrases newline_phrases newline_after_phrases no_indent_phrases walk optional phrase_end first_phrase each plain_two_phrases plain_a plain_b plain_c plain_d plain_e plain_f plain_g plain_h plain_i plain_k plain_l plain_m plain_n plain_o plain_p plain_q plain_r plain_s plain_t plain_u plain_v plain_w plain_y plain_one_phrases same top_level_kind alias_length get_top_level_reserved_token get_newline_after_reserved_token get_newline_reserved_token get_join_token get_top_level_reserved_token_no_indent get_plain_reserved_token may_be_reserved get_reserved_word_token creatable alterable_or_droppable each_dropped top_level_phrases takes_type_specifier top_level_of after_between last_top_level remember remembered from_word from_placeholder from_operator from_reserved from_number from_close_paren from_open_paren from_string from_type_specifier get_next_token next_piece given_out tokens_from tokens T.is_gap returns gap_after tight_from tight compared compared_all reading is_gap without_gaps generic kinds
tight_hash_kinds = refl
