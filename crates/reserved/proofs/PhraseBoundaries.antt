-- What a reserved phrase takes from a well-formed text ends where a character ends.
-- Assumes nothing.
use Rattle.std.proofs.Common.{Option, Some, None}
use Prim.Native.Nat.{ℕ}
use mathlib.Core.Path.{◌≡◌, refl}
use mathlib.Core.List.{List, [], ◌∷◌}
use mathlib.Core.Bool.{Bool, true, false, cond, not, ◌&&◌, ◌||◌, and-eq-true_iff}
use lib.ListN.{drop}
use lib.Dec.{ltb, eqb}
use borrow.Author.Tests.{ltb-true}
use Rattle.characters.specs.Utf8.{well_formed}
use Rattle.recognisers.specs.declared.Piece.{Piece}
use Rattle.recognisers.specs.declared.TokenKind.TheVariants as K
use Rattle.recognisers.specs.Text.{bytes}
use Rattle.recognisers.specs.Taking.{Taker, done, one, capital, blanks, end_of_word}
use Rattle.recognisers.specs.Pieces.{token_of}
use Rattle.reserved.specs.declared.TopLevel.{TopLevel}
use Rattle.reserved.specs.Phrases.{walk, after, optional, Phrase, phrase, phrase_if_exists, phrase_end, first_phrase, each}
use Rattle.reserved.specs.TopLevel.{top_level_phrases, creatable, alterable_or_droppable, each_dropped}
use Rattle.reserved.specs.NewlineAfter.{newline_after_phrases}
use Rattle.reserved.specs.Newline.{newline_phrases}
use Rattle.reserved.specs.Join.{join_phrases}
use Rattle.reserved.specs.NoIndent.{no_indent_phrases}
use Rattle.reserved.specs.Plain.{plain_two_phrases, plain_one_phrases, plain_a, plain_b, plain_c, plain_d, plain_e, plain_f, plain_g, plain_h, plain_i, plain_k, plain_l, plain_m, plain_n, plain_o, plain_p, plain_q, plain_r, plain_s, plain_t, plain_u, plain_v, plain_w, plain_y}
use Rattle.reserved.specs.Reserved.{top_level_token, newline_token, get_top_level_reserved_token, get_newline_after_reserved_token, get_newline_reserved_token, get_join_token, get_top_level_reserved_token_no_indent, get_plain_reserved_token, may_be_reserved, get_reserved_word_token}
use Rattle.recognisers.proofs.PieceBoundaries.{Leaves, Cuts, or_leaves, more_leaves, fails_leaves, one_cuts, capital_keeps, all_ascii, done_cuts, end_of_word_cuts, blanks_cuts, Bounded, alt_bounded, token_bounded}
use Rattle.reserved.proofs.PhraseWalk.{words_of}

walk_cuts : (words : List ℕ) → all_ascii words ≡ true → (then : Taker) → Cuts then → Cuts (walk words then)
unfolding walk
walk_cuts [] a then h s w = h s w
walk_cuts (p ∷ words) a then h s w =
    let b = (and-eq-true_iff (ltb p 0x80) (all_ascii words)).0 a in
    go (eqb p 32) b.0 (walk_cuts words b.1 then h)
  where
    go : (t : Bool) → ltb p 0x80 ≡ true → Cuts (walk words then) → Leaves s (cond t (blanks (walk words then) s) (one (λ b. eqb (capital b) p) (walk words then) s))
    go true l rest = blanks_cuts (walk words then) rest s w
    go false l rest = one_cuts (λ b. eqb (capital b) p) (λ c e. capital_keeps c p (ltb-true p 0x80 l) e) (walk words then) rest s w

optional_cuts : (words : List ℕ) → all_ascii words ≡ true → (then : Taker) → Cuts then → Cuts (optional words then)
unfolding optional
optional_cuts words a then h s w = go (walk words done s) (walk_cuts words a done done_cuts s w)
  where
    go : (t : Option ℕ) → Leaves s t → Leaves s (after t then s)
    go (Some n) l = more_leaves n s (then (drop n s)) (h (drop n s) l.left)
    go None l = h s w

abbrev all_words_ascii : List Phrase → Bool
all_words_ascii [] = true
all_words_ascii (p ∷ phrases) = all_ascii (words_of p) && all_words_ascii phrases

phrase_cuts : (p : Phrase) → all_ascii (words_of p) ≡ true → Cuts (phrase_end p)
unfolding phrase_end
phrase_cuts (phrase words) a s w = walk_cuts words a end_of_word end_of_word_cuts s w
phrase_cuts (phrase_if_exists words) a s w =
    walk_cuts words a (optional (bytes " IF EXISTS") end_of_word) (optional_cuts (bytes " IF EXISTS") refl end_of_word end_of_word_cuts) s w

first_cuts : (phrases : List Phrase) → all_words_ascii phrases ≡ true → Cuts (first_phrase phrases)
unfolding first_phrase
first_cuts [] a s w = fails_leaves s
first_cuts (p ∷ phrases) a s w =
    let b = (and-eq-true_iff (all_ascii (words_of p)) (all_words_ascii phrases)).0 a in
    or_leaves s (phrase_end p s) (first_phrase phrases s) (phrase_cuts p b.0 s w) (first_cuts phrases b.1 s w)

-- one test for each group, which the checker computes over its table

top_plain : all_words_ascii top_level_phrases ≡ true
unfolding top_level_phrases creatable alterable_or_droppable each_dropped each
top_plain = refl

after_plain : all_words_ascii newline_after_phrases ≡ true
unfolding newline_after_phrases
after_plain = refl

newline_plain : all_words_ascii newline_phrases ≡ true
unfolding newline_phrases
newline_plain = refl

join_plain : all_words_ascii join_phrases ≡ true
unfolding join_phrases
join_plain = refl

no_indent_plain : all_words_ascii no_indent_phrases ≡ true
unfolding no_indent_phrases
no_indent_plain = refl

two_plain : all_words_ascii plain_two_phrases ≡ true
unfolding plain_two_phrases
two_plain = refl

one_plain : all_words_ascii plain_one_phrases ≡ true
unfolding plain_one_phrases plain_a plain_b plain_c plain_d plain_e plain_f plain_g plain_h plain_i plain_k plain_l plain_m plain_n plain_o plain_p plain_q plain_r plain_s plain_t plain_u plain_v plain_w plain_y
one_plain = refl

module _ (s : List ℕ) (w : well_formed s ≡ true) where
  top_level_bounded : (last : TopLevel) (t : Option ℕ) → Leaves s t → Bounded s (top_level_token last s t)
  top_level_bounded last (Some n) h = h.left
  top_level_bounded last None h = tt

  newline_bounded : (between : Bool) (t : Option ℕ) → Leaves s t → Bounded s (newline_token between s t)
  newline_bounded between (Some n) h = h.left
  newline_bounded between None h = tt

  pub reserved_bounded : (dot between : Bool) (last : TopLevel) → Bounded s (get_reserved_word_token dot between last s)
  unfolding get_reserved_word_token get_top_level_reserved_token get_newline_after_reserved_token get_newline_reserved_token get_join_token get_top_level_reserved_token_no_indent get_plain_reserved_token
  reserved_bounded dot between last =
      go (dot || not (may_be_reserved s)) _
      (alt_bounded s (top_level_token last s (first_phrase top_level_phrases s)) _ (top_level_bounded last _ (first_cuts top_level_phrases top_plain s w))
      (alt_bounded s (token_of K.ReservedNewlineAfter (first_phrase newline_after_phrases s)) _ (token_bounded s K.ReservedNewlineAfter _ (first_cuts newline_after_phrases after_plain s w))
      (alt_bounded s (newline_token between s (first_phrase newline_phrases s)) _ (newline_bounded between _ (first_cuts newline_phrases newline_plain s w))
      (alt_bounded s (token_of K.Join (first_phrase join_phrases s)) _ (token_bounded s K.Join _ (first_cuts join_phrases join_plain s w))
      (alt_bounded s (token_of K.ReservedTopLevelNoIndent (first_phrase no_indent_phrases s)) _ (token_bounded s K.ReservedTopLevelNoIndent _ (first_cuts no_indent_phrases no_indent_plain s w))
      (alt_bounded s (token_of K.Reserved (first_phrase plain_two_phrases s)) _ (token_bounded s K.Reserved _ (first_cuts plain_two_phrases two_plain s w))
      (token_bounded s K.Reserved _ (first_cuts plain_one_phrases one_plain s w))))))))
    where
      go : (t : Bool) (r : Option Piece) → Bounded s r → Bounded s (cond t None r)
      go true r h = tt
      go false r h = h
