-- The Rust's own way on small inputs, computed.
-- Assumes nothing.
use Rattle.std.proofs.Common.{Some, None}
use mathlib.Core.Path.{◌≡◌, refl}
use mathlib.Core.Bool.{false}
use mathlib.Core.List.{[], ◌∷◌, ◌++◌}
use Rattle.characters.specs.Ranges.{within, in_ranges}
use Rattle.characters.specs.WhiteSpace.{white_space}
use Rattle.characters.specs.Alphabetic.{alphabetic}
use Rattle.characters.specs.Numeric.{numeric}
use Rattle.characters.specs.Mark.{mark}
use Rattle.characters.specs.Connector.{connector}
use Rattle.characters.specs.Classes.{is_whitespace, is_alphabetic, is_numeric, is_mark, is_punctuation_connector, is_alphanumeric, is_word_character}
use Rattle.characters.specs.Character.{is_continuation, continuations, continued, first_bits, with_bits, code_point}
use Rattle.characters.specs.Runs.{run}
use Rattle.recognisers.specs.Text.{bytes}
use Rattle.recognisers.specs.Taking.{one, spelled, is_spelled, typed, capital, end_of_word}
use Rattle.reserved.specs.Phrases.{phrase, phrase_if_exists, walk, phrase_end}
use Rattle.reserved.specs.UcWords.{split_whitespace, get_uc_words, find, last_word, finalize, opt, uc_phrase, phrase_by_uc_words}
use Rattle.reserved.proofs.UcWords.{is_phrase}

-- U+2003 between two words, and a tab at the end
words_are : get_uc_words 3 (bytes "Order" ++ 0xE2 ∷ 0x80 ∷ 0x83 ∷ bytes "by" ++ 9 ∷ []) ≡ bytes "ORDER BY"
unfolding get_uc_words split_whitespace run is_whitespace in_ranges within white_space code_point continuations continued is_continuation first_bits with_bits capital
words_are = refl

-- no more words than were asked for
two_words : get_uc_words 2 (bytes "a  b c") ≡ bytes "A B"
unfolding get_uc_words split_whitespace run is_whitespace in_ranges within white_space code_point continuations continued is_continuation first_bits with_bits capital
two_words = refl

last_word_lem : last_word (bytes "DROP TABLE IF EXISTS") ≡ bytes "EXISTS"
unfolding last_word split_whitespace run is_whitespace in_ranges within white_space code_point continuations continued is_continuation first_bits with_bits
last_word_lem = refl

order_by : phrase_by_uc_words 4 (phrase (bytes "ORDER BY")) (bytes "order  by x") ≡ Some 9
unfolding phrase_by_uc_words uc_phrase spelled one typed end_of_word finalize last_word find is_spelled get_uc_words split_whitespace run is_whitespace in_ranges within white_space code_point continuations continued is_continuation first_bits with_bits capital is_word_character is_alphanumeric is_alphabetic is_numeric is_mark is_punctuation_connector alphabetic numeric mark connector
order_by = refl

-- what `finalize` finds first may stand in an earlier word
by_in_order : finalize (bytes "BYTES BY") (bytes "BYTES BY") ≡ 2
unfolding finalize last_word find is_spelled typed split_whitespace run is_whitespace in_ranges within white_space code_point continuations continued is_continuation first_bits with_bits capital
by_in_order = refl

drop_exists : phrase_by_uc_words 4 (phrase_if_exists (bytes "DROP VIEW")) (bytes "drop view if  exists v") ≡ Some 20
unfolding phrase_by_uc_words uc_phrase opt spelled one typed end_of_word finalize last_word find is_spelled get_uc_words split_whitespace run is_whitespace in_ranges within white_space code_point continuations continued is_continuation first_bits with_bits capital is_word_character is_alphanumeric is_alphabetic is_numeric is_mark is_punctuation_connector alphabetic numeric mark connector
drop_exists = refl

-- no way back from IF EXISTS
drop_exists_no : phrase_by_uc_words 4 (phrase_if_exists (bytes "DROP VIEW")) (bytes "drop view if existsx") ≡ None
unfolding phrase_by_uc_words uc_phrase opt spelled one typed end_of_word finalize last_word find is_spelled get_uc_words split_whitespace run is_whitespace in_ranges within white_space code_point continuations continued is_continuation first_bits with_bits capital is_word_character is_alphanumeric is_alphabetic is_numeric is_mark is_punctuation_connector alphabetic numeric mark connector
drop_exists_no = refl

-- Where a text begins with whitespace, the two ways differ: `get_uc_words` passes over it. The Rust does not ask there,
-- since a reserved word begins with a letter or `$`.
space_go : phrase_by_uc_words 4 (phrase (bytes "GO")) (bytes " GO") ≡ Some 3
unfolding phrase_by_uc_words uc_phrase spelled one typed end_of_word finalize last_word find is_spelled get_uc_words split_whitespace run is_whitespace in_ranges within white_space code_point continuations continued is_continuation first_bits with_bits capital is_word_character is_alphanumeric is_alphabetic is_numeric is_mark is_punctuation_connector alphabetic numeric mark connector
space_go = refl

space_go_walk : phrase_end (phrase (bytes "GO")) (bytes " GO") ≡ None
unfolding phrase_end walk one capital within
space_go_walk = refl

-- a phrase whose last word stands in an earlier word would not do
not_own_end : is_phrase 2 (bytes "BYTES BY") ≡ false
unfolding find is_spelled typed last_word split_whitespace run is_whitespace in_ranges within white_space code_point continuations continued is_continuation first_bits with_bits
not_own_end = refl
