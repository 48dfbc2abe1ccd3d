-- A phrase stands in the string that `get_uc_words` makes exactly where its words can be walked in the text.
-- Assumes nothing.
use Rattle.std.proofs.Common.{Option, Some, None}
use Prim.Native.Nat.{ℕ, zero, suc}
use native.Mathlib.Omega.{arith}
use mathlib.Core.Path.{◌≡◌, refl, sym, ap, ◌∙◌}
use mathlib.Core.List.{List, [], ◌∷◌, ◌++◌}
use mathlib.Core.Bool.{Bool, true, false, cond, ◌&&◌, false≢true, and-eq-true_iff}
use lib.ListN.{take, drop}
use lib.Dec.{eqb}
use borrow.Author.Tests.{eqb-true, eqb-false, ne_eqb}
use Rattle.characters.specs.Ranges.{within}
use Rattle.characters.specs.Classes.{is_whitespace, is_word_character}
use Rattle.characters.specs.Character.{is_continuation, continuations, continued, first_bits, with_bits, code_point}
use Rattle.characters.specs.Runs.{run}
use Rattle.recognisers.specs.Taking.{Taker, more, done, one, typed, spelled, literal, capital, blanks, end_of_word}
use Rattle.reserved.specs.Phrases.{walk}
use Rattle.reserved.specs.UcWords.{not_whitespace, trim_start, is_empty, split_whitespace, spaced, to_ascii_uppercase}
use Rattle.characters.proofs.ClassesApart.{white_no_word, end_not_white, end_no_word}
use Rattle.reserved.proofs.UcBytes.{is_visible, visible_alone, visible_first, capital_visible, space_first, other_no_space, letter_word, capital_other, continuation_stays, continuation_capital}

-- ---- the shape of a phrase

abbrev pub begins : List ℕ → Bool
begins [] = false
begins (p ∷ words) = is_visible p

-- visible ASCII, with at most n spaces, each before a word
abbrev pub shaped : ℕ → List ℕ → Bool
shaped n [] = true
shaped zero (p ∷ words) = is_visible p && shaped zero words
shaped (suc n) (p ∷ words) = cond (eqb p 32) (begins words && shaped n words) (is_visible p && shaped (suc n) words)

pub letter_shape : (n p : ℕ) (words : List ℕ) → eqb p 32 ≡ false → shaped n (p ∷ words) ≡ true → (is_visible p ≡ true) × (shaped n words ≡ true)
letter_shape zero p words e h = (and-eq-true_iff (is_visible p) (shaped zero words)).0 h
letter_shape (suc n) p words e h = (and-eq-true_iff (is_visible p) (shaped (suc n) words)).0 (rw e at h)

pub space_shape : (n : ℕ) (words : List ℕ) → shaped (suc n) (32 ∷ words) ≡ true → (begins words ≡ true) × (shaped n words ≡ true)
space_shape n words h = (and-eq-true_iff (begins words) (shaped n words)).0 h

-- there is no gap where no word may follow
pub no_gap : {P : Type 0} (words : List ℕ) → shaped 0 (32 ∷ words) ≡ true → P
unfolding within
no_gap words h = absurd (false≢true h)

-- ---- a byte of a phrase in the text

module _ (then : Taker) (p : ℕ) (words : List ℕ) where
  pub lit_yes : (x : ℕ) (u : List ℕ) → eqb x p ≡ true → literal (p ∷ words) then (x ∷ u) ≡ more 1 (literal words then u)
  unfolding spelled one typed
  lit_yes x u e = rw e

  pub lit_no : (x : ℕ) (u : List ℕ) → eqb x p ≡ false → literal (p ∷ words) then (x ∷ u) ≡ None
  unfolding spelled one typed
  lit_no x u e = rw e

  pub lit_end : literal (p ∷ words) then [] ≡ None
  unfolding spelled one
  lit_end = refl

  module _ (n : eqb p 32 ≡ false) where
    pub letter_yes : (b : ℕ) (s : List ℕ) → eqb (capital b) p ≡ true → walk (p ∷ words) then (b ∷ s) ≡ more 1 (walk words then s)
    unfolding walk one
    letter_yes b s e = rw (n, e)

    pub letter_no : (b : ℕ) (s : List ℕ) → eqb (capital b) p ≡ false → walk (p ∷ words) then (b ∷ s) ≡ None
    unfolding walk one
    letter_no b s e = rw (n, e)

    pub letter_end : walk (p ∷ words) then [] ≡ None
    unfolding walk one
    letter_end = rw n

module _ (then : Taker) (words : List ℕ) (s : List ℕ) where
  pub gap_yes : is_whitespace (code_point s) ≡ true → walk (32 ∷ words) then s ≡ more (run is_whitespace 0 s) (walk words then (trim_start s))
  unfolding walk blanks
  gap_yes w = rw w

  pub gap_no : is_whitespace (code_point s) ≡ false → walk (32 ∷ words) then s ≡ None
  unfolding walk blanks
  gap_no w = rw w

-- a word does not begin at the end of a text
pub begins_end : (then : Taker) (words : List ℕ) → begins words ≡ true → walk words then [] ≡ None
unfolding within
begins_end then [] b = absurd (false≢true b)
begins_end then (p ∷ words) b = letter_end then p words (ne_eqb p 32 (λ e. false≢true (rw e at b)))

-- ---- what lies ahead in the string, from inside a word of the text on: the rest of that word, and n words more. The
-- first `passed` bytes belong to a character that has been seen.

abbrev pub ahead : ℕ → ℕ → List ℕ → List ℕ
ahead passed n s =
    to_ascii_uppercase (take (run not_whitespace passed s) s ++ spaced (split_whitespace n (drop (run not_whitespace passed s) s)))

split_end : (n : ℕ) → split_whitespace n [] ≡ []
unfolding split_whitespace run
split_end zero = refl
split_end (suc n) = refl

pub ahead_end : (passed n : ℕ) → ahead passed n [] ≡ []
unfolding run
ahead_end passed n = rw (split_end n)

ahead_pass : (passed n b : ℕ) (s : List ℕ) → ahead (suc passed) n (b ∷ s) ≡ capital b ∷ ahead passed n s
unfolding run
ahead_pass passed n b s = refl

pub ahead_letter : (n b : ℕ) (s : List ℕ) → is_whitespace (code_point (b ∷ s)) ≡ false → ahead 0 n (b ∷ s) ≡ capital b ∷ ahead (continued (continuations b) s) n s
unfolding run
ahead_letter n b s w = rw w

ahead_white : (n b : ℕ) (s : List ℕ) → is_whitespace (code_point (b ∷ s)) ≡ true → ahead 0 n (b ∷ s) ≡ to_ascii_uppercase (spaced (split_whitespace n (b ∷ s)))
unfolding run
ahead_white n b s w = rw w

-- behind a word there is a space or the end
spaced_one : (n : ℕ) (s : List ℕ) → to_ascii_uppercase (spaced (split_whitespace (suc n) s)) ≡ cond (is_empty (trim_start s)) [] (32 ∷ ahead 0 n (trim_start s))
unfolding split_whitespace capital within
spaced_one n s = go (is_empty (trim_start s))
  where
    go : (t : Bool) → to_ascii_uppercase (spaced (cond t [] (take (run not_whitespace 0 (trim_start s)) (trim_start s) ∷ split_whitespace n (drop (run not_whitespace 0 (trim_start s)) (trim_start s))))) ≡ cond t [] (32 ∷ ahead 0 n (trim_start s))
    go true = refl
    go false = refl

module _ (Q : List ℕ → Type 0) (none : Q []) (some : (u : List ℕ) → Q (32 ∷ u)) where
  spaced_either : (n : ℕ) (s : List ℕ) → Q (to_ascii_uppercase (spaced (split_whitespace n s)))
  unfolding split_whitespace
  spaced_either zero s = none
  spaced_either (suc n) s = rw (spaced_one n s) (go (is_empty (trim_start s)))
    where
      go : (t : Bool) → Q (cond t [] (32 ∷ ahead 0 n (trim_start s)))
      go true = none
      go false = some (ahead 0 n (trim_start s))

  white_either : (n b : ℕ) (s : List ℕ) → is_whitespace (code_point (b ∷ s)) ≡ true → Q (ahead 0 n (b ∷ s))
  white_either n b s w = rw (ahead_white n b s w) (spaced_either n (b ∷ s))

-- ---- the character ahead is a word character exactly where the text's is

-- at a byte that continues no character
continued_none : (k n b : ℕ) (s : List ℕ) → is_continuation b ≡ false → continued (suc k) (ahead 0 n (b ∷ s)) ≡ 0
unfolding continued is_continuation within
continued_none k n b s c = go (is_whitespace (code_point (b ∷ s))) refl
  where
    go : (t : Bool) → is_whitespace (code_point (b ∷ s)) ≡ t → continued (suc k) (ahead 0 n (b ∷ s)) ≡ 0
    go true w = white_either (λ u. continued (suc k) u ≡ 0) refl (λ u. refl) n b s w
    go false w = rw (ahead_letter n b s w, continuation_stays b, c)

continued_ahead : (k n : ℕ) (s : List ℕ) → continued k (ahead (continued k s) n s) ≡ continued k s
unfolding continued
continued_ahead zero n s = refl
continued_ahead (suc k) n [] = rw (ahead_end 0 n)
continued_ahead (suc k) n (b ∷ s) = go (is_continuation b) refl (continued_ahead k n s)
  where
    go : (t : Bool) → is_continuation b ≡ t → continued k (ahead (continued k s) n s) ≡ continued k s
        → continued (suc k) (ahead (cond t (suc (continued k s)) 0) n (b ∷ s)) ≡ cond t (suc (continued k s)) 0
    go true c ih = rw (ahead_pass (continued k s) n b s, continuation_stays b, c) (ap suc ih)
    go false c ih = continued_none k n b s c

-- the bytes that continue a character are the text's
take_ahead : (k n : ℕ) (s : List ℕ) → continued k s ≡ k → take k (ahead (continued k s) n s) ≡ take k s
unfolding continued
take_ahead zero n s e = refl
take_ahead (suc k) n [] e = rw (ahead_end 0 n)
take_ahead (suc k) n (b ∷ s) e = go (is_continuation b) refl (take_ahead k n s)
  where
    go : (t : Bool) → is_continuation b ≡ t → (continued k s ≡ k → take k (ahead (continued k s) n s) ≡ take k s)
        → take (suc k) (ahead (continued (suc k) (b ∷ s)) n (b ∷ s)) ≡ b ∷ take k s
    go true c ih =
        let f : suc (continued k s) ≡ suc k = rw c at e in
        rw (c, ahead_pass (continued k s) n b s, continuation_capital b c, ih (let g : continued k s ≡ k = omega arith in g))
    go false c ih =
        let f : 0 ≡ suc k = rw c at e in
        absurd (let z : ⊥ = omega arith in z)

code_ahead : (n b : ℕ) (s : List ℕ) → code_point (b ∷ ahead (continued (continuations b) s) n s) ≡ code_point (b ∷ s)
unfolding code_point
code_ahead n b s =
    rw (continued_ahead (continuations b) n s) (go (eqb (continued (continuations b) s) (continuations b)) refl)
  where
    go : (t : Bool) → eqb (continued (continuations b) s) (continuations b) ≡ t
        → cond t (with_bits (first_bits b) (take (continuations b) (ahead (continued (continuations b) s) n s))) 0 ≡ cond t (with_bits (first_bits b) (take (continuations b) s)) 0
    go true e = rw (take_ahead (continuations b) n s (eqb-true (continued (continuations b) s) (continuations b) e))
    go false e = refl

pub word_ahead : (n : ℕ) (s : List ℕ) → is_word_character (code_point (ahead 0 n s)) ≡ is_word_character (code_point s)
word_ahead n [] = rw (ahead_end 0 n)
word_ahead n (b ∷ s) = go (is_whitespace (code_point (b ∷ s))) refl (within 0x61 0x7A b) refl
  where
    go : (t : Bool) → is_whitespace (code_point (b ∷ s)) ≡ t → (u : Bool) → within 0x61 0x7A b ≡ u
        → is_word_character (code_point (ahead 0 n (b ∷ s))) ≡ is_word_character (code_point (b ∷ s))
    go true w u l =
        white_either (λ v. is_word_character (code_point v) ≡ false) end_no_word (λ v. white_no_word (code_point (32 ∷ v)) (space_first v)) n b s w
        ∙ sym (white_no_word (code_point (b ∷ s)) w)
    go false w true l = rw (ahead_letter n b s w) (letter_word b s (ahead (continued (continuations b) s) n s) l)
    go false w false l = rw (ahead_letter n b s w, capital_other b l) (ap is_word_character (code_ahead n b s))

-- ---- the walk and the string

abbrev pub stands : Option ℕ → Bool
stands (Some n) = true
stands None = false

pub stands_more : (n : ℕ) (t : Option ℕ) → stands (more n t) ≡ stands t
stands_more n (Some m) = refl
stands_more n None = refl

-- what may follow a phrase: it says the same of the string as of the text
abbrev pub Alike : Taker → Type 0
Alike then = (n : ℕ) (s : List ℕ) → stands (then (ahead 0 n s)) ≡ stands (then s)

pub done_alike : Alike done
done_alike n s = refl

pub end_of_word_alike : Alike end_of_word
unfolding end_of_word
end_of_word_alike n s = rw (word_ahead n s)

module _ (then : Taker) where
  abbrev Agree : List ℕ → ℕ → List ℕ → Type 0
  Agree words n s = stands (literal words then (ahead 0 n s)) ≡ stands (walk words then s)

  fails_both : (a b : Option ℕ) → a ≡ None → b ≡ None → stands a ≡ stands b
  fails_both a b e f = rw (e, f)

  more_both : (m n : ℕ) (a b c d : Option ℕ) → a ≡ more m c → b ≡ more n d → stands c ≡ stands d → stands a ≡ stands b
  more_both m n a b c d e f g = rw (e, f, stands_more m c, stands_more n d) g

  module _ (words : List ℕ) where
    space_agrees : (n : ℕ) (s : List ℕ) → begins words ≡ true → ((t : List ℕ) → Agree words n t) → Agree (32 ∷ words) (suc n) s
    space_agrees n [] h ih =
        fails_both (literal (32 ∷ words) then (ahead 0 (suc n) [])) (walk (32 ∷ words) then []) (rw (ahead_end 0 (suc n)) (lit_end then 32 words))
        (gap_no then words [] end_not_white)
    space_agrees n (b ∷ s) h ih = go (is_whitespace (code_point (b ∷ s))) refl
      where
        lit : List ℕ → Option ℕ
        lit u = literal (32 ∷ words) then u

        in_gap : (t : List ℕ) → stands (literal (32 ∷ words) then (cond (is_empty t) [] (32 ∷ ahead 0 n t))) ≡ stands (walk words then t)
        in_gap [] = fails_both (lit []) (walk words then []) (lit_end then 32 words) (begins_end then words h)
        in_gap (c ∷ t) = rw (lit_yes then 32 words 32 (ahead 0 n (c ∷ t)) refl, stands_more 1 (literal words then (ahead 0 n (c ∷ t)))) (ih (c ∷ t))

        go : (t : Bool) → is_whitespace (code_point (b ∷ s)) ≡ t → Agree (32 ∷ words) (suc n) (b ∷ s)
        go true w =
            ap (λ (u : List ℕ). stands (literal (32 ∷ words) then u)) (ahead_white (suc n) b s w ∙ spaced_one n (b ∷ s))
            ∙ in_gap (trim_start (b ∷ s))
            ∙ sym (ap stands (gap_yes then words (b ∷ s) w) ∙ stands_more (run is_whitespace 0 (b ∷ s)) (walk words then (trim_start (b ∷ s))))
        go false w =
            fails_both (lit (ahead 0 (suc n) (b ∷ s))) (walk (32 ∷ words) then (b ∷ s))
            (ap lit (ahead_letter (suc n) b s w) ∙ lit_no then 32 words (capital b) (ahead (continued (continuations b) s) (suc n) s) (other_no_space b s w))
            (gap_no then words (b ∷ s) w)

    module _ (p : ℕ) (o : eqb p 32 ≡ false) (v : is_visible p ≡ true) where
      letter_agrees : (n : ℕ) (s : List ℕ) → ((t : List ℕ) → Agree words n t) → Agree (p ∷ words) n s
      letter_agrees n [] ih =
          fails_both (literal (p ∷ words) then (ahead 0 n [])) (walk (p ∷ words) then []) (rw (ahead_end 0 n) (lit_end then p words)) (letter_end then p words o)
      letter_agrees n (b ∷ s) ih = go (is_whitespace (code_point (b ∷ s))) refl (eqb (capital b) p) refl
        where
          lit : List ℕ → Option ℕ
          lit u = literal (p ∷ words) then u

          space : eqb 32 p ≡ false
          space = ne_eqb 32 p (λ e. eqb-false p 32 o (sym e))

          visible : eqb (capital b) p ≡ true → is_visible b ≡ true
          visible e = capital_visible b (rw (eqb-true (capital b) p e) v)

          go : (t : Bool) → is_whitespace (code_point (b ∷ s)) ≡ t → (u : Bool) → eqb (capital b) p ≡ u → Agree (p ∷ words) n (b ∷ s)
          go true w true e = absurd (false≢true (sym (visible_first b s (visible e)) ∙ w))
          go true w false e =
              fails_both (lit (ahead 0 n (b ∷ s))) (walk (p ∷ words) then (b ∷ s))
              (white_either (λ u. literal (p ∷ words) then u ≡ None) (lit_end then p words) (λ u. lit_no then p words 32 u space) n b s w)
              (letter_no then p words o b s e)
          go false w true e =
              more_both 1 1 (lit (ahead 0 n (b ∷ s))) (walk (p ∷ words) then (b ∷ s)) (literal words then (ahead 0 n s)) (walk words then s)
              (ap lit (ahead_letter n b s w) ∙ lit_yes then p words (capital b) (ahead (continued (continuations b) s) n s) e
              ∙ rw (visible_alone b s (visible e)))
              (letter_yes then p words o b s e) (ih s)
          go false w false e =
              fails_both (lit (ahead 0 n (b ∷ s))) (walk (p ∷ words) then (b ∷ s))
              (ap lit (ahead_letter n b s w) ∙ lit_no then p words (capital b) (ahead (continued (continuations b) s) n s) e)
              (letter_no then p words o b s e)

  pub stands_alike : Alike then → (words : List ℕ) (n : ℕ) (s : List ℕ) → shaped n words ≡ true → Agree words n s
  unfolding walk spelled
  stands_alike a [] n s h = a n s
  stands_alike a (p ∷ words) n s h = go (eqb p 32) refl n h (stands_alike a words)
    where
      go : (t : Bool) → eqb p 32 ≡ t → (n : ℕ) → shaped n (p ∷ words) ≡ true → ((n : ℕ) (t : List ℕ) → shaped n words ≡ true → Agree words n t) → Agree (p ∷ words) n s
      go true e zero h₁ ih = no_gap words (rw (eqb-true p 32 e) at h₁)
      go true e (suc n) h₁ ih =
          let q = eqb-true p 32 e in
          let sh = space_shape n words (rw q at h₁) in
          rw q (space_agrees words n s sh.0 (λ t. ih n t sh.1))
      go false e n h₁ ih =
          let sh = letter_shape n p words e h₁ in
          letter_agrees words p e sh.0 n s (λ t. ih n t sh.1)
