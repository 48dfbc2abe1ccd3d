-- The first word of a phrase beside the word at the start of a text.
-- Assumes nothing.
use Rattle.std.proofs.Common.{Option, Some, None}
use Prim.Native.Nat.{ℕ, zero, suc, ◌+◌, ◌^◌, ◌≤◌, ◌<◌}
use native.Mathlib.Nat.{le_of_suc-le-suc, not-suc-le-zero}
use native.Mathlib.Numerals.{one-add}
use native.Mathlib.Omega.{arith}
use mathlib.Core.Path.{◌≡◌, refl, sym, ap, ◌∙◌}
use mathlib.Core.List.{List, [], ◌∷◌}
use mathlib.Core.Bool.{Bool, true, false, cond, false≢true, and-eq-true_iff}
use lib.ListN.{length, drop, take, length-drop}
use lib.Seq.{drop-drop, length-take-le}
use lib.Dec.{eqb}
use borrow.Author.Tests.{eqb-true, eqb-false}
use Rattle.characters.specs.Ascii.{is_ascii_word}
use Rattle.recognisers.specs.Inner.WordLength.{word_length}
use Rattle.recognisers.specs.Taking.{Taker, taken, more, done, one, capital, is_spelled, count}
use Rattle.recognisers.proofs.ByteLoops.{count_inside}
use Rattle.recognisers.proofs.Spelling.{more_zero, more_more, spelled_fits}
use Rattle.reserved.specs.declared.entries.Group.{Group}
use Rattle.reserved.specs.Phrases.{walk}
use Rattle.reserved.specs.UcChoices.{behind}
use Rattle.reserved.specs.Inner.Entries.{ending, entry_end}
use Rattle.reserved.proofs.OtherLengths.{capital_word, no_space, entry_unlike}
use Rattle.reserved.proofs.PhraseWalk.{walk_and, words_inside, ending_inside}

-- ---- n bytes of the text's word

-- which are the phrase's
spelled_walk : (n : ℕ) (words s : List ℕ) (then : Taker) → n ≤ count is_ascii_word s → n ≤ length words → is_spelled capital (take n words) s ≡ true → walk words then s ≡ more n (walk (drop n words) then (drop n s))
unfolding walk is_spelled count one
spelled_walk zero words s then l i e = sym (more_zero (walk words then s))
spelled_walk (suc n) [] s then l i e = absurd (not-suc-le-zero i)
spelled_walk (suc n) (p ∷ words) [] then l i e = absurd (not-suc-le-zero l)
spelled_walk (suc n) (p ∷ words) (b ∷ s) then l i e = go (is_ascii_word b) refl l (λ h k. spelled_walk n words s then h (le_of_suc-le-suc i) k)
  where
    go : (t : Bool) → is_ascii_word b ≡ t → suc n ≤ cond t (suc (count is_ascii_word s)) 0
        → (n ≤ count is_ascii_word s → is_spelled capital (take n words) s ≡ true → walk words then s ≡ more n (walk (drop n words) then (drop n s)))
        → walk (p ∷ words) then (b ∷ s) ≡ more (suc n) (walk (drop n words) then (drop n s))
    go true q l ih =
        let k = (and-eq-true_iff (eqb (capital b) p) (is_spelled capital (take n words) s)).0 e in
        let w : is_ascii_word p ≡ true = ap is_ascii_word (sym (eqb-true (capital b) p k.0)) ∙ capital_word b ∙ q in
        rw (no_space p w, k.0) (ap (more 1) (ih (le_of_suc-le-suc l) k.1) ∙ more_more 1 n (walk (drop n words) then (drop n s)) ∙ rw (one-add n))
    go false q l ih = absurd (not-suc-le-zero l)

-- which are not
other_walk : (n : ℕ) (words s : List ℕ) (then : Taker) → n ≤ count is_ascii_word words → is_spelled capital (take n words) s ≡ false → walk words then s ≡ None
unfolding walk is_spelled count one
other_walk zero words s then l e = absurd (false≢true (sym e))
other_walk (suc n) [] s then l e = absurd (not-suc-le-zero l)
other_walk (suc n) (p ∷ words) [] then l e = go (is_ascii_word p) refl l
  where
    go : (t : Bool) → is_ascii_word p ≡ t → suc n ≤ cond t (suc (count is_ascii_word words)) 0 → walk (p ∷ words) then [] ≡ None
    go true q l = rw (no_space p q)
    go false q l = absurd (not-suc-le-zero l)
other_walk (suc n) (p ∷ words) (b ∷ s) then l e = go (is_ascii_word p) refl l (other_walk n words s then)
  where
    go : (t : Bool) → is_ascii_word p ≡ t → suc n ≤ cond t (suc (count is_ascii_word words)) 0
        → (n ≤ count is_ascii_word words → is_spelled capital (take n words) s ≡ false → walk words then s ≡ None)
        → walk (p ∷ words) then (b ∷ s) ≡ None
    go true w l ih = rw (no_space p w) (both (eqb (capital b) p) refl)
      where
        both : (t : Bool) → eqb (capital b) p ≡ t → cond t (more 1 (walk words then s)) None ≡ None
        both true q = rw (ih (le_of_suc-le-suc l) (rw q at e))
        both false q = refl
    go false w l ih = absurd (not-suc-le-zero l)

-- ---- as `entry_end` uses them

module _ (group : Group) (words s : List ℕ) (n : ℕ) (m : n ≡ word_length s) where
  pub entry_short : length words < n → None ≡ entry_end group words s
  entry_short l =
      let k = count_inside is_ascii_word words in
      sym (entry_unlike group words s (λ e. let z : ⊥ = omega arith in z))

  pub entry_other : is_spelled capital (take n words) s ≡ false → None ≡ entry_end group words s
  unfolding entry_end word_length
  entry_other e = go (eqb (count is_ascii_word words) (word_length s)) refl
    where
      go : (t : Bool) → eqb (count is_ascii_word words) (word_length s) ≡ t → None ≡ entry_end group words s
      go true q =
          let k = eqb-true (count is_ascii_word words) (word_length s) q in
          sym (other_walk n words s (ending group) (omega arith) e)
      go false q = sym (entry_unlike group words s (eqb-false (count is_ascii_word words) (word_length s) q))

  module _ (i : n ≤ length words) (e : is_spelled capital (take n words) s ≡ true) where
    pub first_inside : n ≤ length s
    first_inside =
        let k = spelled_fits capital (take n words) s e in
        omega (arith, length-take-le n words i)

    there : entry_end group words s ≡ more n (behind (walk (drop n words) done (drop n s)) (ending group) (drop n s))
    unfolding entry_end word_length
    there = spelled_walk n words s (ending group) (omega arith) i e ∙ ap (more n) (walk_and (drop n words) (ending group) (drop n s))

    pub entry_no : None ≡ walk (drop n words) done (drop n s) → None ≡ entry_end group words s
    entry_no f = sym (there ∙ rw (← f))

    -- in the rest as it is behind a call
    module _ (k : ℕ) (f : Some k ≡ walk (drop n words) done (drop n s)) (r : List ℕ) (q : r ≡ s) where
      pub words_in : n + k ≤ length s
      words_in =
          let j = words_inside (drop n words) (drop n s) k f in
          omega (arith, first_inside, length-drop n s)

      entry_is : entry_end group words s ≡ more (n + k) (ending group (drop (n + k) r))
      entry_is = there ∙ rw (← f, q) (more_more n k (ending group (drop k (drop n s))) ∙ rw (drop-drop k n s))

      module _ (u : Option ℕ) (h : u ≡ ending group (drop (n + k) r)) where
        pub entry_more : (t : Option ℕ) → t ≡ more (n + k) u → t ≡ entry_end group words s
        entry_more t g = g ∙ sym (rw (entry_is, ← h))

        pub entry_fits : length s < 2 ^ 64 → n + k + taken u < 2 ^ 64
        entry_fits l =
            let j : taken u ≤ length (drop (n + k) r) = rw h (ending_inside group (drop (n + k) r)) in
            omega (arith, words_in, length-drop (n + k) r, ap length q)

  -- by the parts as the code has them
  pub entry_value : (first others : List ℕ) → first ≡ take n words → others ≡ drop n words → n ≤ length words → is_spelled capital first s ≡ true
      → (k : ℕ) → Some k ≡ walk others done (drop n s) → (r : List ℕ) → r ≡ s → (u : Option ℕ) → u ≡ ending group (drop (n + k) r) → (t : Option ℕ) → t ≡ more (n + k) u → t ≡ entry_end group words s
  entry_value first others a b i e k f r q u h t g =
      entry_more i (rw a at e) k (rw b at f) r q u h t g
