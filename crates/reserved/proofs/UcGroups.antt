-- The reserved phrases of each group, in the Rust's own way: one test that the checker computes over the tables, and then
--     top_level_agrees .. plain_one_agrees   on any bytes that do not begin with whitespace, a group's first phrase takes
--                                            as many bytes as what the Rust finds
-- Assumes nothing.
use Rattle.std.proofs.Common.{Option, Some, None}
use Prim.Native.Nat.{ℕ}
use mathlib.Core.Path.{◌≡◌, refl, sym, ◌∙◌}
use mathlib.Core.List.{List, [], ◌∷◌, ◌++◌}
use mathlib.Core.Bool.{Bool, true, false, ◌&&◌, false≢true, and-eq-true_iff}
use Rattle.characters.specs.Ranges.{within, in_ranges}
use Rattle.characters.specs.WhiteSpace.{white_space}
use Rattle.characters.specs.Classes.{is_whitespace}
use Rattle.characters.specs.Character.{is_continuation, continuations, continued, first_bits, with_bits, code_point}
use Rattle.characters.specs.Runs.{run}
use Rattle.recognisers.specs.Text.{bytes}
use Rattle.recognisers.specs.Taking.{or, typed, is_spelled}
use Rattle.reserved.specs.Phrases.{Phrase, phrase, phrase_if_exists, phrase_end, first_phrase, each}
use Rattle.reserved.specs.UcWords.{split_whitespace, get_uc_words, find, last_word, uc_phrase, first_uc_phrase, finalized, phrase_by_uc_words, first_by_uc_words, first_by_uc_word}
use Rattle.reserved.specs.TopLevel.{creatable, alterable_or_droppable, each_dropped, top_level_phrases}
use Rattle.reserved.specs.NewlineAfter.{newline_after_phrases}
use Rattle.reserved.specs.Newline.{newline_phrases}
use Rattle.reserved.specs.Join.{join_phrases}
use Rattle.reserved.specs.NoIndent.{no_indent_phrases}
use Rattle.reserved.specs.Plain.{plain_two_phrases, plain_a, plain_b, plain_c, plain_d, plain_e, plain_f, plain_g, plain_h, plain_i, plain_k, plain_l, plain_m, plain_n, plain_o, plain_p, plain_q, plain_r, plain_s, plain_t, plain_u, plain_v, plain_w, plain_y, plain_one_phrases}
use Rattle.reserved.proofs.UcWords.{is_phrase, agrees, agrees_if_exists, agrees_one}

abbrev own_ends : ℕ → Phrase → Bool
own_ends n (phrase words) = is_phrase n words
own_ends n (phrase_if_exists words) = is_phrase n words && is_phrase n (words ++ bytes " IF EXISTS")

-- each phrase has at most n words, and its last word occurs in it first at its own place
abbrev all_own_ends : ℕ → List Phrase → Bool
all_own_ends n [] = true
all_own_ends n (p ∷ phrases) = own_ends n p && all_own_ends n phrases

-- ---- the test, with as many words as each recogniser asks of `get_uc_words`

top_level_ends : all_own_ends 4 top_level_phrases ≡ true
unfolding top_level_phrases creatable alterable_or_droppable each_dropped each find is_spelled typed last_word split_whitespace run is_whitespace in_ranges within white_space code_point continuations continued is_continuation first_bits with_bits
top_level_ends = refl

newline_after_ends : all_own_ends 3 newline_after_phrases ≡ true
unfolding newline_after_phrases find is_spelled typed last_word split_whitespace run is_whitespace in_ranges within white_space code_point continuations continued is_continuation first_bits with_bits
newline_after_ends = refl

newline_ends : all_own_ends 3 newline_phrases ≡ true
unfolding newline_phrases find is_spelled typed last_word split_whitespace run is_whitespace in_ranges within white_space code_point continuations continued is_continuation first_bits with_bits
newline_ends = refl

join_ends : all_own_ends 3 join_phrases ≡ true
unfolding join_phrases find is_spelled typed last_word split_whitespace run is_whitespace in_ranges within white_space code_point continuations continued is_continuation first_bits with_bits
join_ends = refl

no_indent_ends : all_own_ends 2 no_indent_phrases ≡ true
unfolding no_indent_phrases find is_spelled typed last_word split_whitespace run is_whitespace in_ranges within white_space code_point continuations continued is_continuation first_bits with_bits
no_indent_ends = refl

plain_two_ends : all_own_ends 2 plain_two_phrases ≡ true
unfolding plain_two_phrases find is_spelled typed last_word split_whitespace run is_whitespace in_ranges within white_space code_point continuations continued is_continuation first_bits with_bits
plain_two_ends = refl

plain_one_ends : all_own_ends 1 plain_one_phrases ≡ true
unfolding plain_one_phrases plain_a plain_b plain_c plain_d plain_e plain_f plain_g plain_h plain_i plain_k plain_l plain_m plain_n plain_o plain_p plain_q plain_r plain_s plain_t plain_u plain_v plain_w plain_y find is_spelled typed last_word split_whitespace run is_whitespace in_ranges within white_space code_point continuations continued is_continuation first_bits with_bits
plain_one_ends = refl

-- ---- a group

phrase_agrees : (n : ℕ) (p : Phrase) (s : List ℕ) → own_ends n p ≡ true → is_whitespace (code_point s) ≡ false → phrase_by_uc_words n p s ≡ phrase_end p s
unfolding phrase_end
phrase_agrees n (phrase words) s h w = agrees n words s h w
phrase_agrees n (phrase_if_exists words) s h w =
    let h₂ = (and-eq-true_iff (is_phrase n words) (is_phrase n (words ++ bytes " IF EXISTS"))).0 h in
    agrees_if_exists n words s h₂.0 w h₂.1

group_agrees : (n : ℕ) (phrases : List Phrase) (s : List ℕ) → all_own_ends n phrases ≡ true → is_whitespace (code_point s) ≡ false → first_by_uc_words n phrases s ≡ first_phrase phrases s
unfolding first_by_uc_words first_uc_phrase first_phrase phrase_by_uc_words
group_agrees n [] s h w = refl
group_agrees n (p ∷ phrases) s h w =
    let h₂ = (and-eq-true_iff (own_ends n p) (all_own_ends n phrases)).0 h in
    either (uc_phrase p (get_uc_words n s)) ∙ rw (phrase_agrees n p s h₂.0 w, group_agrees n phrases s h₂.1 w)
  where
    either : (t : Option ℕ) → finalized s (get_uc_words n s) (or t (first_uc_phrase phrases (get_uc_words n s))) ≡ or (finalized s (get_uc_words n s) t) (finalized s (get_uc_words n s) (first_uc_phrase phrases (get_uc_words n s)))
    either (Some k) = refl
    either None = refl

-- single words, by their own length
abbrev all_plain : List Phrase → Bool
all_plain [] = true
all_plain (phrase words ∷ phrases) = all_plain phrases
all_plain (phrase_if_exists words ∷ phrases) = false

single_agrees : (phrases : List Phrase) (s : List ℕ) → all_plain phrases ≡ true → all_own_ends 1 phrases ≡ true → is_whitespace (code_point s) ≡ false → first_by_uc_word phrases s ≡ first_phrase phrases s
unfolding first_by_uc_word first_uc_phrase first_phrase phrase_end
single_agrees [] s q h w = refl
single_agrees (phrase words ∷ phrases) s q h w =
    let h₂ = (and-eq-true_iff (is_phrase 1 words) (all_own_ends 1 phrases)).0 h in
    rw (agrees_one words s h₂.0 w, single_agrees phrases s q h₂.1 w)
single_agrees (phrase_if_exists words ∷ phrases) s q h w = absurd (false≢true q)

plain_one_plain : all_plain plain_one_phrases ≡ true
unfolding plain_one_phrases plain_a plain_b plain_c plain_d plain_e plain_f plain_g plain_h plain_i plain_k plain_l plain_m plain_n plain_o plain_p plain_q plain_r plain_s plain_t plain_u plain_v plain_w plain_y
plain_one_plain = refl

-- ---- the six groups

module _ (s : List ℕ) (w : is_whitespace (code_point s) ≡ false) where
  pub top_level_agrees : first_phrase top_level_phrases s ≡ first_by_uc_words 4 top_level_phrases s
  top_level_agrees = sym (group_agrees 4 top_level_phrases s top_level_ends w)

  pub newline_after_agrees : first_phrase newline_after_phrases s ≡ first_by_uc_words 3 newline_after_phrases s
  newline_after_agrees = sym (group_agrees 3 newline_after_phrases s newline_after_ends w)

  pub newline_agrees : first_phrase newline_phrases s ≡ first_by_uc_words 3 newline_phrases s
  newline_agrees = sym (group_agrees 3 newline_phrases s newline_ends w)

  pub join_agrees : first_phrase join_phrases s ≡ first_by_uc_words 3 join_phrases s
  join_agrees = sym (group_agrees 3 join_phrases s join_ends w)

  pub no_indent_agrees : first_phrase no_indent_phrases s ≡ first_by_uc_words 2 no_indent_phrases s
  no_indent_agrees = sym (group_agrees 2 no_indent_phrases s no_indent_ends w)

  pub plain_two_agrees : first_phrase plain_two_phrases s ≡ first_by_uc_words 2 plain_two_phrases s
  plain_two_agrees = sym (group_agrees 2 plain_two_phrases s plain_two_ends w)

  pub plain_one_agrees : first_phrase plain_one_phrases s ≡ first_by_uc_word plain_one_phrases s
  plain_one_agrees = sym (single_agrees plain_one_phrases s plain_one_plain plain_one_ends w)
