-- A part may read differently alone than in the script. In `a;::b` the `::` is an Operator, since none of the kinds before a type
-- specifier stands before it; in the part `::b` it is a TypeSpecifier, as at the start of any statement. The reading alone counts.
-- Assumes nothing.
use Prim.Native.Nat.{ℕ}
use mathlib.Core.Path.{◌≡◌, refl}
use mathlib.Core.List.{List, [], ◌∷◌, map}
use Rattle.recognisers.specs.declared.TokenKind.{TokenKind}
use Rattle.recognisers.specs.declared.TokenKind.TheVariants as K
use Rattle.recognisers.specs.Text.{bytes}
use Rattle.characters.specs.Alphabetic.{alphabetic}
use Rattle.characters.specs.Character.{continuations, continued, first_bits, with_bits, character_length, code_point}
use Rattle.characters.specs.Classes.{is_whitespace, is_alphabetic, is_numeric, is_mark, is_punctuation_connector, is_alphanumeric, is_word_character}
use Rattle.characters.specs.Connector.{connector}
use Rattle.characters.specs.Mark.{mark}
use Rattle.characters.specs.Numeric.{numeric}
use Rattle.characters.specs.Ranges.{within, in_ranges}
use Rattle.characters.specs.Runs.{in_class, run}
use Rattle.characters.specs.WhiteSpace.{white_space}
use Rattle.recognisers.specs.Comment.{get_comment_token}
use Rattle.recognisers.specs.Number.{decimal_number, scientific_notation, unsigned, get_number_token}
use Rattle.recognisers.specs.Parens.{get_open_paren_token, get_close_paren_token}
use Rattle.recognisers.specs.Placeholder.{indexed_taken, get_indexed_placeholder_token, ident_taken, get_ident_named_placeholder_token, braced_taken, get_braced_named_placeholder_token, string_named_taken, get_string_named_placeholder_token, get_placeholder_token}
use Rattle.recognisers.specs.Strings.{hex_taken, quoted_taken, string_taken, get_string_token}
use Rattle.recognisers.specs.Taking.{one, spelled, is_spelled, typed, capital, end_of_word, count, digit1, contains, starts_with}
use Rattle.recognisers.specs.TypeSpecifier.{get_type_specifier_token}
use Rattle.recognisers.specs.Words.{get_whitespace_token, is_operator, get_operator_token, get_word_token, get_any_other_char}
use Rattle.reserved.specs.Join.{join_phrases}
use Rattle.reserved.specs.Newline.{newline_phrases}
use Rattle.reserved.specs.NewlineAfter.{newline_after_phrases}
use Rattle.reserved.specs.NoIndent.{no_indent_phrases}
use Rattle.reserved.specs.Phrases.{walk, optional, phrase_end, first_phrase, each}
use Rattle.reserved.specs.Plain.{plain_two_phrases, plain_a, plain_b, plain_c, plain_d, plain_e, plain_f, plain_g, plain_h, plain_i, plain_k, plain_l, plain_m, plain_n, plain_o, plain_p, plain_q, plain_r, plain_s, plain_t, plain_u, plain_v, plain_w, plain_y, plain_one_phrases}
use Rattle.recognisers.specs.Same.{same}
use Rattle.reserved.specs.Reserved.{get_top_level_reserved_token, get_newline_after_reserved_token, get_newline_reserved_token, get_join_token, get_top_level_reserved_token_no_indent, get_plain_reserved_token, may_be_reserved, get_reserved_word_token}
use Rattle.reserved.specs.TopLevel.{creatable, alterable_or_droppable, each_dropped, top_level_phrases}
use Rattle.tokenizer.specs.Memory.{takes_type_specifier, after_between, last_top_level, remember, remembered}
use Rattle.tokenizer.specs.NextToken.{from_word, from_placeholder, from_operator, from_reserved, from_number, from_close_paren, from_open_paren, from_string, from_type_specifier, get_next_token, next_piece}
use Rattle.tokenizer.specs.Tokens.{given_out, tokens_from, tokens}
use Rattle.script.specs.Settings.{cutter_settings}
use Rattle.script.specs.Cuts.{is_cut}
use Rattle.script.specs.Parts.{part_text, parts_from, parts}

-- the script as one text, its second part, and kind, start and length of each token
pub script : List ℕ
script = bytes "a;::b"

pub second : List ℕ
second = bytes "::b"

abbrev pub Reading : Type 0
Reading = List (TokenKind × ℕ × ℕ)

pub reading : List ℕ → Reading
reading s = map (λ t. (t.kind, t.start, t.len)) (tokens cutter_settings s)

pub whole : Reading
whole = (K.Word, 0, 1) ∷ (K.Operator, 1, 1) ∷ (K.Operator, 2, 2) ∷ (K.Word, 4, 1) ∷ []

pub alone : Reading
alone = (K.TypeSpecifier, 0, 2) ∷ (K.Word, 2, 1) ∷ []

pub read_whole : reading script ≡ whole
unfolding alphabetic continuations continued first_bits with_bits character_length code_point is_whitespace is_alphabetic is_numeric is_mark is_punctuation_connector is_alphanumeric is_word_character connector mark numeric within in_ranges in_class run white_space get_comment_token decimal_number scientific_notation unsigned get_number_token get_open_paren_token get_close_paren_token indexed_taken get_indexed_placeholder_token ident_taken get_ident_named_placeholder_token braced_taken get_braced_named_placeholder_token string_named_taken get_string_named_placeholder_token get_placeholder_token hex_taken quoted_taken string_taken get_string_token one spelled is_spelled typed capital end_of_word count digit1 contains starts_with get_type_specifier_token get_whitespace_token is_operator get_operator_token get_word_token get_any_other_char join_phrases newline_phrases newline_after_phrases no_indent_phrases walk optional phrase_end first_phrase each plain_two_phrases plain_a plain_b plain_c plain_d plain_e plain_f plain_g plain_h plain_i plain_k plain_l plain_m plain_n plain_o plain_p plain_q plain_r plain_s plain_t plain_u plain_v plain_w plain_y plain_one_phrases same get_top_level_reserved_token get_newline_after_reserved_token get_newline_reserved_token get_join_token get_top_level_reserved_token_no_indent get_plain_reserved_token may_be_reserved get_reserved_word_token creatable alterable_or_droppable each_dropped top_level_phrases takes_type_specifier after_between last_top_level remember remembered from_word from_placeholder from_operator from_reserved from_number from_close_paren from_open_paren from_string from_type_specifier get_next_token next_piece given_out tokens_from tokens script reading whole
read_whole = refl

pub cut_in_two : map (part_text script) (parts script) ≡ bytes "a;" ∷ second ∷ []
unfolding alphabetic continuations continued first_bits with_bits character_length code_point is_whitespace is_alphabetic is_numeric is_mark is_punctuation_connector is_alphanumeric is_word_character connector mark numeric within in_ranges in_class run white_space get_comment_token decimal_number scientific_notation unsigned get_number_token get_open_paren_token get_close_paren_token indexed_taken get_indexed_placeholder_token ident_taken get_ident_named_placeholder_token braced_taken get_braced_named_placeholder_token string_named_taken get_string_named_placeholder_token get_placeholder_token hex_taken quoted_taken string_taken get_string_token one spelled is_spelled typed capital end_of_word count digit1 contains starts_with get_type_specifier_token get_whitespace_token is_operator get_operator_token get_word_token get_any_other_char join_phrases newline_phrases newline_after_phrases no_indent_phrases walk optional phrase_end first_phrase each plain_two_phrases plain_a plain_b plain_c plain_d plain_e plain_f plain_g plain_h plain_i plain_k plain_l plain_m plain_n plain_o plain_p plain_q plain_r plain_s plain_t plain_u plain_v plain_w plain_y plain_one_phrases same get_top_level_reserved_token get_newline_after_reserved_token get_newline_reserved_token get_join_token get_top_level_reserved_token_no_indent get_plain_reserved_token may_be_reserved get_reserved_word_token creatable alterable_or_droppable each_dropped top_level_phrases takes_type_specifier after_between last_top_level remember remembered from_word from_placeholder from_operator from_reserved from_number from_close_paren from_open_paren from_string from_type_specifier get_next_token next_piece given_out tokens_from tokens is_cut parts_from parts script second
cut_in_two = refl

pub read_alone : reading second ≡ alone
unfolding alphabetic continuations continued first_bits with_bits character_length code_point is_whitespace is_alphabetic is_numeric is_mark is_punctuation_connector is_alphanumeric is_word_character connector mark numeric within in_ranges in_class run white_space get_comment_token decimal_number scientific_notation unsigned get_number_token get_open_paren_token get_close_paren_token indexed_taken get_indexed_placeholder_token ident_taken get_ident_named_placeholder_token braced_taken get_braced_named_placeholder_token string_named_taken get_string_named_placeholder_token get_placeholder_token hex_taken quoted_taken string_taken get_string_token one spelled is_spelled typed capital end_of_word count digit1 contains starts_with get_type_specifier_token get_whitespace_token is_operator get_operator_token get_word_token get_any_other_char join_phrases newline_phrases newline_after_phrases no_indent_phrases walk optional phrase_end first_phrase each plain_two_phrases plain_a plain_b plain_c plain_d plain_e plain_f plain_g plain_h plain_i plain_k plain_l plain_m plain_n plain_o plain_p plain_q plain_r plain_s plain_t plain_u plain_v plain_w plain_y plain_one_phrases same get_top_level_reserved_token get_newline_after_reserved_token get_newline_reserved_token get_join_token get_top_level_reserved_token_no_indent get_plain_reserved_token may_be_reserved get_reserved_word_token creatable alterable_or_droppable each_dropped top_level_phrases takes_type_specifier after_between last_top_level remember remembered from_word from_placeholder from_operator from_reserved from_number from_close_paren from_open_paren from_string from_type_specifier get_next_token next_piece given_out tokens_from tokens reading second alone
read_alone = refl
