-- A phrase's words in the text, one byte of the phrase at a time.
-- Assumes nothing.
use Rattle.std.proofs.Common.{Option, Some, None, slice_get}
use Rattle.std.specs.Char.{to_ascii_uppercase}
use Prim.Native.Nat.{ℕ, suc, ◌+◌, ◌-◌, ◌^◌, ◌≤◌, ◌<◌, zero-le}
use native.Mathlib.Nat.{add-zero, le_of_suc-le-suc, not-suc-le-zero}
use native.Mathlib.Numerals.{add-one}
use native.Mathlib.Omega.{arith}
use mathlib.Core.Path.{◌≡◌, refl, sym, ap, ◌∙◌}
use mathlib.Core.List.{List, [], ◌∷◌}
use mathlib.Core.Bool.{Bool, true, false, cond}
use lib.ListN.{length, drop, take, get_or, drop_of_length-le, length-drop}
use lib.Seq.{drop-cons, drop-drop}
use lib.Dec.{eqb}
use mir.Syntax.{w64}
use mir.Val.{Fits}
use borrow.Author.Tests.{eq-eqb, ne_eqb}
use Rattle.characters.specs.Ranges.{within}
use Rattle.characters.specs.Classes.{is_whitespace}
use Rattle.characters.specs.Character.{code_point}
use Rattle.characters.specs.Runs.{in_class, run}
use Rattle.characters.specs.declared.Class.TheVariants.{Whitespace}
use Rattle.recognisers.specs.Taking.{Taker, taken, more, done, one, capital, blanks, end_of_word}
use Rattle.recognisers.specs.Text.{bytes}
use Rattle.characters.proofs.Rests.{part_end}
use Rattle.recognisers.proofs.LibraryWords.{upper}
use Rattle.recognisers.proofs.Spelling.{more_zero, more_more}
use Rattle.recognisers.proofs.TakenInside.{Inside, done_inside, one_inside, end_of_word_inside}
use Rattle.recognisers.proofs.Blanks.{blanks_none, blanks_then, blanks_inside}
use Rattle.reserved.specs.Phrases.{Phrase, phrase, phrase_if_exists, walk, after, optional}
use Rattle.reserved.specs.UcChoices.{behind}
use Rattle.reserved.proofs.Behind.{behind_behind, behind_same, bytes_behind}
use Rattle.reserved.specs.Inner.Entries.{if_exists, ending, entry_end}
use Rattle.reserved.specs.declared.entries.Group.{Group}
use Rattle.reserved.specs.declared.entries.Group.TheVariants.{TopLevel, Dropped, NewlineAfter, Newline, Join, NoIndent, Plain}

abbrev pub words_of : Phrase → List ℕ
words_of (phrase words) = words
words_of (phrase_if_exists words) = words

one_behind : (test : ℕ → Bool) (then : Taker) (s : List ℕ) → one test then s ≡ behind (one test done s) then s
unfolding one
one_behind test then [] = refl
one_behind test then (b ∷ s) = bytes_behind (test b) 1 then (b ∷ s)

blanks_behind : (then : Taker) (s : List ℕ) → blanks then s ≡ behind (blanks done s) then s
unfolding blanks
blanks_behind then s = bytes_behind (is_whitespace (code_point s)) (run is_whitespace 0 s) then s

pub walk_step : (p : ℕ) (words : List ℕ) (then : Taker) (s : List ℕ) → walk (p ∷ words) then s ≡ behind (walk (p ∷ []) done s) (walk words then) s
unfolding walk
walk_step p words then s = go (eqb p 32)
  where
    go : (t : Bool) → cond t (blanks (walk words then) s) (one (λ b. eqb (capital b) p) (walk words then) s) ≡ behind (cond t (blanks done s) (one (λ b. eqb (capital b) p) done s)) (walk words then) s
    go true = blanks_behind (walk words then) s
    go false = one_behind (λ b. eqb (capital b) p) (walk words then) s

pub walk_and : (words : List ℕ) (then : Taker) (s : List ℕ) → walk words then s ≡ behind (walk words done s) then s
unfolding walk
walk_and [] then s = sym (more_zero (then s))
walk_and (p ∷ words) then s =
    walk_step p words then s
    ∙ behind_same (walk (p ∷ []) done s) (walk words then) (λ u. behind (walk words done u) then u) s (walk_and words then)
    ∙ sym (behind_behind (walk (p ∷ []) done s) (walk words done) then s)
    ∙ ap (λ (t : Option ℕ). behind t then s) (sym (walk_step p words done s))

pub walk_inside : (words : List ℕ) (then : Taker) → Inside then → Inside (walk words then)
unfolding walk
walk_inside [] then h s = h s
walk_inside (p ∷ words) then h s = go (eqb p 32) (walk_inside words then h)
  where
    go : (t : Bool) → Inside (walk words then) → taken (cond t (blanks (walk words then) s) (one (λ b. eqb (capital b) p) (walk words then) s)) ≤ length s
    go true rest = blanks_inside (walk words then) rest s
    go false rest = one_inside (λ b. eqb (capital b) p) (walk words then) rest s

-- ---- a byte of a phrase, as `word_step` has it

module _ (s : List ℕ) (p : ℕ) where
  module _ (n : ℕ) (e : p ≡ 32) (r : n ≡ run (in_class Whitespace) 0 s) where
    pub gap_none : n ≡ 0 → None ≡ walk (p ∷ []) done s
    unfolding walk
    gap_none z = blanks_none s n r done z ∙ rw (eq-eqb p 32 e)

    pub gap_taken : (n ≡ 0 → ⊥) → Some n ≡ walk (p ∷ []) done s
    unfolding walk
    gap_taken z = blanks_then s n r done (Some 0) (Some n) z refl (ap Some (sym (add-zero n))) ∙ rw (eq-eqb p 32 e)

-- a letter, by `first`
module _ (s : List ℕ) (p : ℕ) (ne : eqb p 32 ≡ false) where
  pub letter_none : (t : Option ℕ) → None ≡ slice_get s 0 → t ≡ None → t ≡ walk (p ∷ []) done s
  unfolding walk one
  letter_none t n e = e ∙ go s n
    where
      go : (s : List ℕ) → None ≡ slice_get s 0 → None ≡ walk (p ∷ []) done s
      go [] q = rw ne
      go (b ∷ s) q = absurd (let z : ⊥ = cc in z)

  module _ (b x : ℕ) (first : Some b ≡ slice_get s 0) (c : x ≡ to_ascii_uppercase b) where
    letter_there : walk (p ∷ []) done s ≡ cond (eqb x p) (Some 1) None
    unfolding walk one
    letter_there = rw (c, upper b) (go s first)
      where
        go : (s : List ℕ) → Some b ≡ slice_get s 0 → walk (p ∷ []) done s ≡ cond (eqb (capital b) p) (Some 1) None
        go [] q = absurd (let z : ⊥ = cc in z)
        go (a ∷ s) q =
            let k : b ≡ a = cc in
            rw (ne, k)

    pub letter_taken : x ≡ p → Some 1 ≡ walk (p ∷ []) done s
    letter_taken e = sym (rw (letter_there, eq-eqb x p e))

    pub letter_other : (x ≡ p → ⊥) → None ≡ walk (p ∷ []) done s
    letter_other e = sym (rw (letter_there, ne_eqb x p e))

-- n bytes of words, so the rest has them
pub words_inside : (words s : List ℕ) (n : ℕ) → Some n ≡ walk words done s → n ≤ length s
words_inside words s n e = rw (← e) at (walk_inside words done done_inside s)

-- ---- the loop of `words_end`

pub record WalkAt (words s : List ℕ) (at i : ℕ) : Type 0 where
  pub inside : i ≤ length words
  pub there : at ≤ length s
  pub same : walk words done s ≡ more at (walk (drop i words) done (drop at s))

module _ (words s : List ℕ) (at i : ℕ) (w : WalkAt words s at i) (h : i < length words) (t : Option ℕ) (e : t ≡ walk (get_or words i 0 ∷ []) done (drop at s)) where
  go_on : walk words done s ≡ more at (behind t (walk (drop (suc i) words) done) (drop at s))
  go_on =
      let k : walk (drop i words) done (drop at s) ≡ behind t (walk (drop (suc i) words) done) (drop at s) =
      rw (drop-cons words i 0 h, e) (walk_step (get_or words i 0) (drop (suc i) words) done (drop at s)) in
      w.same ∙ ap (more at) k

-- the words begin at `from`
module _ (words s : List ℕ) (from at i : ℕ) (w : WalkAt words (drop from s) at i) (h : i < length words) where
  pub walk_fails : None ≡ walk (get_or words i 0 ∷ []) done (drop (from + at) s) → None ≡ walk words done (drop from s)
  walk_fails e = sym (go_on words (drop from s) at i w h None (e ∙ rw (drop-drop at from s)))

  module _ (n : ℕ) (e : Some n ≡ walk (get_or words i 0 ∷ []) done (drop (from + at) s)) where
    fits : at + n ≤ length (drop from s)
    fits =
        let k = words_inside (get_or words i 0 ∷ []) (drop (from + at) s) n e in
        let th = w.there in
        omega (arith, length-drop (from + at) s, length-drop from s)

    pub walk_fits : length s < 2 ^ 64 → Fits w64 (at + n)
    walk_fits l = record { fits = omega (arith, fits, length-drop from s) }

    pub walk_more : WalkAt words (drop from s) (at + n) (i + 1)
    walk_more =
        record {
          inside = omega arith;
          there = fits;
          same = go_on words (drop from s) at i w h (Some n) (e ∙ rw (drop-drop at from s)) ∙ rw (more_more at n (walk (drop (suc i) words) done (drop n (drop at (drop from s)))), drop-drop n at (drop from s), ← add-one i);
        }

pub walk_end : (words s : List ℕ) (at i : ℕ) → WalkAt words s at i → length words ≤ i → Some at ≡ walk words done s
unfolding walk
walk_end words s at i w h = sym (w.same ∙ rw (drop_of_length-le words h) (ap Some (add-zero at)))

-- ---- what follows the words

pub words_fit : (words s : List ℕ) (from n : ℕ) → Some n ≡ walk words done (drop from s) → from ≤ length s → from + n ≤ length s
words_fit words s from n e h =
    let k = words_inside words (drop from s) n e in
    omega (arith, length-drop from s)

optional_is : (s : List ℕ) → if_exists s ≡ after (walk (bytes " IF EXISTS") done s) end_of_word s
unfolding if_exists optional
optional_is s = refl

pub exists_inside : Inside if_exists
exists_inside s = rw (optional_is s) (go (walk (bytes " IF EXISTS") done s) (walk_inside (bytes " IF EXISTS") done done_inside s))
  where
    go : (t : Option ℕ) → taken t ≤ length s → taken (after t end_of_word s) ≤ length s
    go (Some n) h =
        let k = end_of_word_inside (drop n s) in
        both (end_of_word (drop n s)) k
      where
        both : (o : Option ℕ) → taken o ≤ length (drop n s) → taken (more n o) ≤ length s
        both (Some m) l = omega (arith, length-drop n s)
        both None l = zero-le
    go None h = end_of_word_inside s

module _ (s : List ℕ) (from : ℕ) where
  module _ (n : ℕ) (e : Some n ≡ walk (bytes " IF EXISTS") done (drop from s)) (x : List ℕ) (g : x ≡ take (length s - (from + n)) (drop (from + n) s)) where
    exists_is : if_exists (drop from s) ≡ more n (end_of_word x)
    exists_is = rw (optional_is (drop from s), ← e, g, part_end s (from + n), drop-drop n from s)

    module _ (u : Option ℕ) (h : u ≡ end_of_word x) where
      pub exists_more : (t : Option ℕ) → t ≡ more n u → t ≡ if_exists (drop from s)
      exists_more t q = q ∙ sym (rw (exists_is, ← h))

      pub exists_fits : from ≤ length s → length s < 2 ^ 64 → n + taken u < 2 ^ 64
      exists_fits f l =
          let k = words_fit (bytes " IF EXISTS") s from n e f in
          let i : taken u ≤ length x = rw h (end_of_word_inside x) in
          omega (arith, length-drop (from + n) s, ap length g, ap length (part_end s (from + n)))

  pub exists_no : None ≡ walk (bytes " IF EXISTS") done (drop from s) → (u : Option ℕ) → u ≡ end_of_word (take (length s - from) (drop from s)) → u ≡ if_exists (drop from s)
  exists_no e u g = g ∙ rw (optional_is (drop from s), ← e, part_end s from)

pub ending_inside : (group : Group) → Inside (ending group)
ending_inside TopLevel = end_of_word_inside
ending_inside Dropped = exists_inside
ending_inside NewlineAfter = end_of_word_inside
ending_inside Newline = end_of_word_inside
ending_inside Join = end_of_word_inside
ending_inside NoIndent = end_of_word_inside
ending_inside Plain = end_of_word_inside

-- ---- words of two letters or more do not stand where the second letter is another

second_other : (group : Group) (v w : ℕ) (words s : List ℕ) → (v ≡ 32 → ⊥) → (w ≡ 32 → ⊥) → (w ≡ capital (get_or s 1 0) → ⊥) → None ≡ entry_end group (v ∷ w ∷ words) s
unfolding entry_end walk one
second_other group v w words [] f g h = rw (ne_eqb v 32 f)
second_other group v w words (a ∷ s) f g h = rw (ne_eqb v 32 f, last s h) (sym (none_more (eqb (capital a) v)))
  where
    last : (s : List ℕ) → (w ≡ capital (get_or s 0 0) → ⊥) → walk (w ∷ words) (ending group) s ≡ None
    last [] n = rw (ne_eqb w 32 g)
    last (b ∷ s) n = rw (ne_eqb w 32 g, ne_eqb (capital b) w (λ e. n (sym e)))

    none_more : (t : Bool) → cond t (more 1 None) None ≡ None
    none_more true = refl
    none_more false = refl

pub second_apart : (group : Group) (words s : List ℕ) → 2 ≤ length words → (get_or words 0 0 ≡ 32 → ⊥) → (get_or words 1 0 ≡ 32 → ⊥) → (get_or words 1 0 ≡ capital (get_or s 1 0) → ⊥) → None ≡ entry_end group words s
second_apart group [] s l f g h = absurd (not-suc-le-zero l)
second_apart group (v ∷ []) s l f g h = absurd (not-suc-le-zero (le_of_suc-le-suc l))
second_apart group (v ∷ w ∷ words) s l f g h = second_other group v w words s f g h

-- the second byte in capitals, where there is one
pub second_some : (s : List ℕ) (b x : ℕ) → b ≡ get_or s 1 0 → x ≡ to_ascii_uppercase b → x ≡ capital (get_or s 1 0)
second_some s b x e f = f ∙ upper b ∙ ap capital e

pub second_none : (s : List ℕ) → length s ≤ 1 → 0 ≡ capital (get_or s 1 0)
unfolding capital within
second_none [] l = refl
second_none (a ∷ []) l = refl
second_none (a ∷ b ∷ s) l = absurd (not-suc-le-zero (le_of_suc-le-suc l))
