-- Small scripts and the parts that they are cut into: none, one and two cuts, a rest behind a cut, and a `;` in a string, in comments
-- and in a braced placeholder, which cuts nothing.
-- Assumes nothing.
use Prim.Native.Nat.{ℕ}
use mathlib.Core.Path.{◌≡◌, refl}
use mathlib.Core.List.{List, [], ◌∷◌, map}
use Rattle.recognisers.specs.Text.{bytes}
use Rattle.characters.specs.Alphabetic.{alphabetic}
use Rattle.characters.specs.Character.{continuations, continued, first_bits, with_bits, character_length, code_point}
use Rattle.characters.specs.Classes.{is_whitespace, is_alphabetic, is_numeric, is_mark, is_punctuation_connector, is_alphanumeric, is_word_character}
use Rattle.characters.specs.Connector.{connector}
use Rattle.characters.specs.Mark.{mark}
use Rattle.characters.specs.Numeric.{numeric}
use Rattle.characters.specs.Ranges.{within, in_ranges}
use Rattle.characters.specs.Runs.{in_class, run}
use Rattle.characters.specs.WhiteSpace.{white_space}
use Rattle.recognisers.specs.Comment.{till_line_ending, through_block_end, get_comment_token}
use Rattle.recognisers.specs.Number.{decimal_number, scientific_notation, unsigned, get_number_token}
use Rattle.recognisers.specs.Parens.{get_open_paren_token, get_close_paren_token}
use Rattle.recognisers.specs.Placeholder.{indexed_taken, get_indexed_placeholder_token, ident_taken, get_ident_named_placeholder_token, through_brace, braced_text, braced_taken, get_braced_named_placeholder_token, string_named_taken, get_string_named_placeholder_token, get_placeholder_token}
use Rattle.recognisers.specs.Strings.{take_till_escaping, closed_by, hex_taken, quoted_taken, string_taken, get_string_token}
use Rattle.recognisers.specs.Taking.{one, spelled, is_spelled, typed, capital, end_of_word, count, digit1, contains, starts_with}
use Rattle.recognisers.specs.TypeSpecifier.{get_type_specifier_token}
use Rattle.recognisers.specs.Words.{get_whitespace_token, is_operator, get_operator_token, get_word_token, get_any_other_char}
use Rattle.recognisers.specs.Same.{same}
use Rattle.reserved.specs.Reserved.{may_be_reserved, get_reserved_word_token}
use Rattle.tokenizer.specs.Memory.{takes_type_specifier, after_between, last_top_level, remember, remembered}
use Rattle.tokenizer.specs.NextToken.{from_word, from_placeholder, from_operator, from_reserved, from_number, from_close_paren, from_open_paren, from_string, from_type_specifier, get_next_token, next_piece}
use Rattle.tokenizer.specs.Tokens.{given_out, tokens_from, tokens}
use Rattle.script.specs.Cuts.{is_cut}
use Rattle.script.specs.declared.Part.{Part}
use Rattle.script.specs.Parts.{parts_from, parts}

-- each with start and length of its parts
pub scripts : List (List ℕ × List (ℕ × ℕ))
scripts =
    (bytes "", [])
    ∷ (bytes ";", (0, 1) ∷ [])
    ∷ (bytes ";;", (0, 1) ∷ (1, 1) ∷ [])
    ∷ (bytes " ", (0, 1) ∷ [])
    ∷ (bytes "; ", (0, 1) ∷ (1, 1) ∷ [])
    ∷ (bytes "';'", (0, 3) ∷ [])
    ∷ (bytes "--;", (0, 3) ∷ [])
    ∷ (bytes "/*;*/;", (0, 6) ∷ [])
    ∷ (bytes "{;};?", (0, 4) ∷ (4, 1) ∷ [])
    ∷ []

pub worked : map (λ w. map (λ (p : Part). (p.start, p.len)) (parts w.0)) scripts ≡ map (λ w. w.1) scripts
unfolding alphabetic continuations continued first_bits with_bits character_length code_point is_whitespace is_alphabetic is_numeric is_mark is_punctuation_connector is_alphanumeric is_word_character connector mark numeric within in_ranges in_class run white_space till_line_ending through_block_end get_comment_token decimal_number scientific_notation unsigned get_number_token get_open_paren_token get_close_paren_token indexed_taken get_indexed_placeholder_token ident_taken get_ident_named_placeholder_token through_brace braced_text braced_taken get_braced_named_placeholder_token string_named_taken get_string_named_placeholder_token get_placeholder_token take_till_escaping closed_by hex_taken quoted_taken string_taken get_string_token one spelled is_spelled typed capital end_of_word count digit1 contains starts_with get_type_specifier_token get_whitespace_token is_operator get_operator_token get_word_token get_any_other_char same may_be_reserved get_reserved_word_token takes_type_specifier after_between last_top_level remember remembered from_word from_placeholder from_operator from_reserved from_number from_close_paren from_open_paren from_string from_type_specifier get_next_token next_piece given_out tokens_from tokens is_cut parts_from parts scripts
worked = refl
