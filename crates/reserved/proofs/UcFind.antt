-- The first occurrence of a phrase's last word in the text is where it is in the phrase: an occurrence begins in no gap
-- between two words, and crosses none.
-- Assumes nothing.
use Rattle.std.proofs.Common.{Option, Some, None}
use Prim.Native.Nat.{ℕ, zero, suc, ◌+◌, ◌≤◌}
use native.Mathlib.Nat.{le_of_suc-le-suc, not-suc-le-zero}
use native.Mathlib.Numerals.{one-add}
use native.Mathlib.Omega.{arith}
use mathlib.Core.Path.{◌≡◌, refl, sym, ap, ◌∙◌}
use mathlib.Core.List.{List, [], ◌∷◌}
use mathlib.Core.Bool.{Bool, true, false, cond, ◌&&◌, false≢true, and-eq-true_iff}
use lib.ListN.{length, drop}
use lib.Dec.{eqb}
use borrow.Author.Tests.{eqb-true, eqb-false, ne_eqb}
use Rattle.characters.specs.Ranges.{within}
use Rattle.characters.specs.Classes.{is_whitespace}
use Rattle.characters.specs.Character.{is_continuation, continuations, continued, code_point}
use Rattle.characters.specs.Runs.{run}
use Rattle.recognisers.specs.Taking.{taken, more, done, typed, is_spelled, capital}
use Rattle.recognisers.proofs.Spelling.{not_fails, more_zero, more_more}
use Rattle.reserved.specs.Phrases.{walk}
use Rattle.reserved.specs.UcWords.{trim_start, to_ascii_uppercase, find, last_word, finalize}
use Rattle.reserved.proofs.UcBytes.{is_visible, white_hidden, continuation_hidden}
use Rattle.reserved.proofs.UcAhead.{begins, letter_yes, letter_no, letter_end, gap_yes, gap_no}

-- ---- a part that took bytes

pub record Left (n : ℕ) (t : Option ℕ) (m : ℕ) : Type 0 where
  pub left : ℕ
  pub is : t ≡ Some left
  pub sum : m ≡ n + left

pub left_of : (n : ℕ) (t : Option ℕ) (m : ℕ) → more n t ≡ Some m → Left n t m
left_of n (Some k) m e = record { left = k; is = refl; sum = let f : n + k ≡ m = cc in sym f }
left_of n None m e = not_fails m e

-- what a walk has at its start
module _ (words s : List ℕ) (m : ℕ) where
  pub record Gap : Type 0 where
    pub white : is_whitespace (code_point s) ≡ true
    pub rest : Left (run is_whitespace 0 s) (walk words done (trim_start s)) m

  pub gap_of_lem : walk (32 ∷ words) done s ≡ Some m → Gap
  gap_of_lem e = go (is_whitespace (code_point s)) refl
    where
      go : (t : Bool) → is_whitespace (code_point s) ≡ t → Gap
      go true w = record { white = w; rest = left_of (run is_whitespace 0 s) (walk words done (trim_start s)) m (sym (gap_yes done words s w) ∙ e) }
      go false w = not_fails m (sym (gap_no done words s w) ∙ e)

pub no_letter_at_end : {P : Type 0} (p : ℕ) (words : List ℕ) (m : ℕ) → eqb p 32 ≡ false → walk (p ∷ words) done [] ≡ Some m → P
no_letter_at_end p words m o e = not_fails m (sym (letter_end done p words o) ∙ e)

module _ (p : ℕ) (words : List ℕ) (b : ℕ) (s : List ℕ) (m : ℕ) where
  pub record Letter : Type 0 where
    pub same : capital b ≡ p
    pub rest : Left 1 (walk words done s) m

  pub letter_of : eqb p 32 ≡ false → walk (p ∷ words) done (b ∷ s) ≡ Some m → Letter
  letter_of o e = go (eqb (capital b) p) refl
    where
      go : (t : Bool) → eqb (capital b) p ≡ t → Letter
      go true q = record { same = eqb-true (capital b) p q; rest = left_of 1 (walk words done s) m (sym (letter_yes done p words o b s q) ∙ e) }
      go false q = not_fails m (sym (letter_no done p words o b s q) ∙ e)

-- ---- a word of visible bytes

abbrev pub all_visible : List ℕ → Bool
all_visible [] = true
all_visible (c ∷ word) = is_visible c && all_visible word

visible_no_space : (c : ℕ) → is_visible c ≡ true → eqb 32 c ≡ false
unfolding within
visible_no_space c v = ne_eqb 32 c (λ e. false≢true (rw (← e) at v))

hidden_other : (c x : ℕ) → is_visible c ≡ true → is_visible x ≡ false → eqb x c ≡ false
hidden_other c x v h = ne_eqb x c (λ e. false≢true (sym h ∙ (rw e v)))

-- it stands in the text where it stands in the phrase
same_spelled : (word words s : List ℕ) (m : ℕ) → walk words done s ≡ Some m → all_visible word ≡ true → length word ≤ length words
    → is_spelled typed word (to_ascii_uppercase s) ≡ is_spelled typed word words
unfolding is_spelled typed
same_spelled [] words s m e v l = refl
same_spelled (c ∷ word) [] s m e v l = absurd (not-suc-le-zero l)
same_spelled (c ∷ word) (p ∷ words) s m e v l =
    let v₂ = (and-eq-true_iff (is_visible c) (all_visible word)).0 v in
    go (eqb p 32) refl s e v₂.0 (λ t k q. same_spelled word words t k q v₂.1 (le_of_suc-le-suc l))
  where
    space : (s : List ℕ) → walk (32 ∷ words) done s ≡ Some m → is_visible c ≡ true → is_spelled typed (c ∷ word) (to_ascii_uppercase s) ≡ false
    space [] f u = refl
    space (b ∷ s) f u = rw (hidden_other c (capital b) u (white_hidden b s (gap_of_lem words (b ∷ s) m f).white))

    go : (t : Bool) → eqb p 32 ≡ t → (s : List ℕ) → walk (p ∷ words) done s ≡ Some m → is_visible c ≡ true
        → ((t : List ℕ) (k : ℕ) → walk words done t ≡ Some k → is_spelled typed word (to_ascii_uppercase t) ≡ is_spelled typed word words)
        → is_spelled typed (c ∷ word) (to_ascii_uppercase s) ≡ (eqb p c && is_spelled typed word words)
    go true q s f u ih =
        let r = eqb-true p 32 q in
        space s (rw r at f) u ∙ rw (r, visible_no_space c u)
    go false q [] f u ih = no_letter_at_end p words m q f
    go false q (b ∷ s) f u ih =
        let a = letter_of p words b s m q f in
        rw (a.same, ih s a.rest.left a.rest.is)

-- a phrase that is one word takes as many bytes as the word has
full_walk : (word words s : List ℕ) (m : ℕ) → walk words done s ≡ Some m → all_visible word ≡ true → is_spelled typed word words ≡ true → length word ≡ length words → m ≡ length word
unfolding is_spelled typed walk
full_walk [] [] s m e v i l = let f : 0 ≡ m = cc in sym f
full_walk [] (p ∷ words) s m e v i l = absurd (let z : ⊥ = omega arith in z)
full_walk (c ∷ word) [] s m e v i l = absurd (let z : ⊥ = omega arith in z)
full_walk (c ∷ word) (p ∷ words) s m e v i l =
    let v₂ = (and-eq-true_iff (is_visible c) (all_visible word)).0 v in
    let i₂ = (and-eq-true_iff (eqb p c) (is_spelled typed word words)).0 i in
    let q = eqb-true p c i₂.0 in
    let o : eqb p 32 ≡ false = ne_eqb p 32 (λ r. eqb-false 32 c (visible_no_space c v₂.0) (sym r ∙ q)) in
    go s e o (λ t k f. full_walk word words t k f v₂.1 i₂.1 (let g : length word ≡ length words = omega arith in g))
  where
    go : (s : List ℕ) → walk (p ∷ words) done s ≡ Some m → eqb p 32 ≡ false → ((t : List ℕ) (k : ℕ) → walk words done t ≡ Some k → k ≡ length word) → m ≡ suc (length word)
    go [] f o ih = no_letter_at_end p words m o f
    go (b ∷ s) f o ih =
        let a = letter_of p words b s m o f in
        let k = ih s a.rest.left a.rest.is in
        let u = a.rest.sum in
        omega arith

-- ---- `find` at whitespace

module _ (c : ℕ) (word : List ℕ) (v : is_visible c ≡ true) where
  hidden_skip : (x : ℕ) (u : List ℕ) → is_visible x ≡ false → find (c ∷ word) (x ∷ u) ≡ more 1 (find (c ∷ word) u)
  unfolding find is_spelled typed
  hidden_skip x u h = rw (hidden_other c x v h)

  -- one byte of a gap, then the rest of it
  skip_one : (b r : ℕ) (s t : List ℕ) → is_visible (capital b) ≡ false → find (c ∷ word) (to_ascii_uppercase s) ≡ more r (find (c ∷ word) (to_ascii_uppercase t))
      → find (c ∷ word) (to_ascii_uppercase (b ∷ s)) ≡ more (suc r) (find (c ∷ word) (to_ascii_uppercase t))
  skip_one b r s t h e =
      hidden_skip (capital b) (to_ascii_uppercase s) h ∙ ap (more 1) e ∙ more_more 1 r (find (c ∷ word) (to_ascii_uppercase t)) ∙ rw (one-add r)

  abbrev Skips : ℕ → List ℕ → Type 0
  Skips n s = find (c ∷ word) (to_ascii_uppercase s) ≡ more n (find (c ∷ word) (to_ascii_uppercase (drop n s)))

  find_gap : (s : List ℕ) (k : ℕ) → Skips (run is_whitespace (continued k s) s) s
  unfolding run continued
  find_gap [] k = sym (more_zero (find (c ∷ word) []))
  find_gap (b ∷ s) k = go k (find_gap s)
    where
      first : ((k : ℕ) → Skips (run is_whitespace (continued k s) s) s) → Skips (run is_whitespace 0 (b ∷ s)) (b ∷ s)
      first ih = by_class (is_whitespace (code_point (b ∷ s))) refl
        where
          by_class : (t : Bool) → is_whitespace (code_point (b ∷ s)) ≡ t → Skips (cond t (suc (run is_whitespace (continued (continuations b) s) s)) 0) (b ∷ s)
          by_class true w =
              skip_one b (run is_whitespace (continued (continuations b) s) s) s (drop (run is_whitespace (continued (continuations b) s) s) s)
              (white_hidden b s w) (ih (continuations b))
          by_class false w = sym (more_zero (find (c ∷ word) (to_ascii_uppercase (b ∷ s))))

      go : (k : ℕ) → ((k : ℕ) → Skips (run is_whitespace (continued k s) s) s) → Skips (run is_whitespace (continued k (b ∷ s)) (b ∷ s)) (b ∷ s)
      go zero ih = first ih
      go (suc k) ih = by_byte (is_continuation b) refl
        where
          by_byte : (t : Bool) → is_continuation b ≡ t → Skips (run is_whitespace (cond t (suc (continued k s)) 0) (b ∷ s)) (b ∷ s)
          by_byte true e =
              skip_one b (run is_whitespace (continued k s) s) s (drop (run is_whitespace (continued k s) s) s) (continuation_hidden b e) (ih k)
          by_byte false e = first ih

  trim_skips : (s : List ℕ) → find (c ∷ word) (to_ascii_uppercase s) ≡ more (run is_whitespace 0 s) (find (c ∷ word) (to_ascii_uppercase (trim_start s)))
  unfolding continued
  trim_skips s = find_gap s 0

-- ---- `find` in the text, by `find` in the phrase

-- it was found, and ends at m
record FoundEnd (t : Option ℕ) (size m : ℕ) : Type 0 where
  place : ℕ
  is : t ≡ Some place
  ends : place + size ≡ m

module _ (c : ℕ) (word : List ℕ) (v : is_visible c ≡ true) (vs : all_visible (c ∷ word) ≡ true) where
  abbrev last : List ℕ
  last = c ∷ word

  here : (x : ℕ) (u : List ℕ) → is_spelled typed last (x ∷ u) ≡ true → find last (x ∷ u) ≡ Some 0
  unfolding find
  here x u e = rw e

  later : (x : ℕ) (u : List ℕ) → is_spelled typed last (x ∷ u) ≡ false → find last (x ∷ u) ≡ more 1 (find last u)
  unfolding find
  later x u e = rw e

  space_later : (u : List ℕ) → find last (32 ∷ u) ≡ more 1 (find last u)
  unfolding is_spelled typed
  space_later u = later 32 u (rw (visible_no_space c v))

  -- n bytes of the text on, where the phrase's rest is found
  move : (n m : ℕ) (s t : List ℕ) (rest : ℕ) → find last (to_ascii_uppercase s) ≡ more n (find last (to_ascii_uppercase t)) → m ≡ n + rest
      → FoundEnd (find last (to_ascii_uppercase t)) (suc (length word)) rest → FoundEnd (find last (to_ascii_uppercase s)) (suc (length word)) m
  move n m s t rest e sum f =
      record {
        place = n + f.place;
        is = e ∙ ap (more n) f.is;
        ends = let g = f.ends in omega arith;
      }

  find_walk : (words s : List ℕ) (m k : ℕ) → walk words done s ≡ Some m → find last words ≡ Some k → k + suc (length word) ≡ length words
      → FoundEnd (find last (to_ascii_uppercase s)) (suc (length word)) m
  find_walk [] s m k e f l = absurd (let z : ⊥ = omega arith in z)
  find_walk (p ∷ words) s m k e f l = go (eqb p 32) refl s e (λ t n j. find_walk words t n j)
    where
      Rest : Type 0
      Rest = (t : List ℕ) (n j : ℕ) → walk words done t ≡ Some n → find last words ≡ Some j → j + suc (length word) ≡ length words → FoundEnd (find last (to_ascii_uppercase t)) (suc (length word)) n

      letter : (b : ℕ) (s : List ℕ) → walk (p ∷ words) done (b ∷ s) ≡ Some m → Letter p words b s m → Rest → (t : Bool) → is_spelled typed last (p ∷ words) ≡ t → FoundEnd (find last (to_ascii_uppercase (b ∷ s))) (suc (length word)) m
      letter b s w a ih true i =
          let z : Some 0 ≡ Some k = sym (here p words i) ∙ f in
          let k0 : 0 ≡ k = cc in
          let whole = full_walk last (p ∷ words) (b ∷ s) m w vs i (omega arith) in
          let there : is_spelled typed last (to_ascii_uppercase (b ∷ s)) ≡ true = same_spelled last (p ∷ words) (b ∷ s) m w vs (omega arith) ∙ i in
          record { place = 0; is = here (capital b) (to_ascii_uppercase s) there; ends = omega arith }
      letter b s w a ih false i =
          let j = left_of 1 (find last words) k (sym (later p words i) ∙ f) in
          let sum = j.sum in
          let there : is_spelled typed last (to_ascii_uppercase (b ∷ s)) ≡ false = same_spelled last (p ∷ words) (b ∷ s) m w vs (omega arith) ∙ i in
          move 1 m (b ∷ s) s a.rest.left (later (capital b) (to_ascii_uppercase s) there) a.rest.sum
          (ih s a.rest.left j.left a.rest.is j.is (omega arith))

      space : (s : List ℕ) → walk (32 ∷ words) done s ≡ Some m → find last (32 ∷ words) ≡ Some k → Rest → FoundEnd (find last (to_ascii_uppercase s)) (suc (length word)) m
      space s w g ih =
          let a = gap_of_lem words s m w in
          let j = left_of 1 (find last words) k (sym (space_later words) ∙ g) in
          let sum = j.sum in
          move (run is_whitespace 0 s) m s (trim_start s) a.rest.left (trim_skips c word v s) a.rest.sum
          (ih (trim_start s) a.rest.left j.left a.rest.is j.is (omega arith))

      go : (t : Bool) → eqb p 32 ≡ t → (s : List ℕ) → walk (p ∷ words) done s ≡ Some m → Rest → FoundEnd (find last (to_ascii_uppercase s)) (suc (length word)) m
      go true q s w ih = let r = eqb-true p 32 q in space s (rw r at w) (rw r at f) ih
      go false q [] w ih = no_letter_at_end p words m q w
      go false q (b ∷ s) w ih = letter b s w (letter_of p words b s m q w) ih (is_spelled typed last (p ∷ words)) refl

-- ---- `finalize`

abbrev ends_at : Option ℕ → ℕ → ℕ → Bool
ends_at (Some k) size m = eqb (k + size) m
ends_at None size m = false

-- the last word of a phrase is visible, and its first occurrence in the phrase is its own place
abbrev pub ends_itself : List ℕ → List ℕ → Bool
ends_itself words last = begins last && (all_visible last && ends_at (find last words) (length last) (length words))

ends_walk : (words last s : List ℕ) (m : ℕ) → ends_itself words last ≡ true → walk words done s ≡ Some m → taken (find last (to_ascii_uppercase s)) + length last ≡ m
ends_walk words [] s m o e = absurd (false≢true o)
ends_walk words (c ∷ word) s m o e =
    let o₂ = (and-eq-true_iff (is_visible c) (all_visible (c ∷ word) && ends_at (find (c ∷ word) words) (suc (length word)) (length words))).0 o in
    let o₃ = (and-eq-true_iff (all_visible (c ∷ word)) (ends_at (find (c ∷ word) words) (suc (length word)) (length words))).0 o₂.1 in
    go o₂.0 o₃.0 (find (c ∷ word) words) refl o₃.1
  where
    go : is_visible c ≡ true → all_visible (c ∷ word) ≡ true → (t : Option ℕ) → find (c ∷ word) words ≡ t → ends_at t (suc (length word)) (length words) ≡ true
        → taken (find (c ∷ word) (to_ascii_uppercase s)) + suc (length word) ≡ m
    go v vs (Some k) f l =
        let r = find_walk c word v vs words s m k e f (eqb-true (k + suc (length word)) (length words) l) in
        rw r.is r.ends
    go v vs None f l = absurd (false≢true l)

pub finalize_walk : (words s : List ℕ) (m : ℕ) → ends_itself words (last_word words) ≡ true → walk words done s ≡ Some m → finalize s words ≡ m
unfolding finalize
finalize_walk words s m o e = ends_walk words (last_word words) s m o e
