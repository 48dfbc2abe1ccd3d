-- The letters that need no table are Alphabetic: a test that the checker computes over the ranges.
-- Assumes nothing.
use Prim.Native.Nat.{ℕ}
use native.Mathlib.Nat.{le_trans}
use mathlib.Core.Path.{◌≡◌, refl, sym, ◌∙◌}
use mathlib.Core.List.{List, [], ◌∷◌}
use mathlib.Core.Bool.{Bool, true, false, ◌&&◌, ◌||◌, false≢true, and-eq-true_iff, or-true}
use lib.Dec.{leb}
use borrow.Author.Tests.{leb-true}
use Rattle.characters.specs.Ranges.{within, in_ranges}
use Rattle.characters.specs.Alphabetic.{alphabetic}
use Rattle.characters.specs.Classes.{is_alphabetic}
use Rattle.characters.specs.Inner.CommonLetters.{western_letters, eastern_letters}
use Rattle.characters.proofs.Within.{within_low, within_high, within_is}

-- one of the ranges has all from first to last
abbrev covers : List (ℕ × ℕ) → ℕ → ℕ → Bool
covers [] first last = false
covers (range ∷ ranges) first last = (leb range.0 first && leb last range.1) || covers ranges first last

abbrev covers_all : List (ℕ × ℕ) → List (ℕ × ℕ) → Bool
covers_all ranges [] = true
covers_all ranges (part ∷ parts) = covers ranges part.0 part.1 && covers_all ranges parts

covered : (ranges : List (ℕ × ℕ)) (first last c : ℕ) → covers ranges first last ≡ true → within first last c ≡ true → in_ranges ranges c ≡ true
unfolding in_ranges
covered [] first last c e w = absurd (false≢true e)
covered (range ∷ ranges) first last c e w = go (leb range.0 first && leb last range.1) refl e (covered ranges first last c)
  where
    go : (t : Bool) → (leb range.0 first && leb last range.1) ≡ t → (t || covers ranges first last) ≡ true
        → (covers ranges first last ≡ true → within first last c ≡ true → in_ranges ranges c ≡ true)
        → (within range.0 range.1 c || in_ranges ranges c) ≡ true
    go true q f ih =
        let both = (and-eq-true_iff (leb range.0 first) (leb last range.1)).0 q in
        rw (within_is range.0 range.1 c (le_trans (leb-true range.0 first both.0) (within_low first last c w)) (le_trans (within_high first last c w) (leb-true last range.1 both.1)))
    go false q f ih = rw (ih f w) (or-true (within range.0 range.1 c))

all_covered : (ranges parts : List (ℕ × ℕ)) (c : ℕ) → covers_all ranges parts ≡ true → in_ranges parts c ≡ true → in_ranges ranges c ≡ true
unfolding in_ranges
all_covered ranges [] c e w = absurd (false≢true w)
all_covered ranges (part ∷ parts) c e w =
    let both = (and-eq-true_iff (covers ranges part.0 part.1) (covers_all ranges parts)).0 e in
    go (within part.0 part.1 c) refl w both.0 (all_covered ranges parts c both.1)
  where
    go : (t : Bool) → within part.0 part.1 c ≡ t → (t || in_ranges parts c) ≡ true → covers ranges part.0 part.1 ≡ true
        → (in_ranges parts c ≡ true → in_ranges ranges c ≡ true) → in_ranges ranges c ≡ true
    go true q f h ih = covered ranges part.0 part.1 c h q
    go false q f h ih = ih f

-- as `is_alphabetic` uses them
module _ (c : ℕ) (r : Bool) (t : r ≡ true) where
  pub western_alphabetic : r ≡ in_ranges western_letters c → true ≡ is_alphabetic c
  unfolding is_alphabetic alphabetic western_letters
  western_alphabetic e = sym (all_covered alphabetic western_letters c refl (sym e ∙ t))

  pub eastern_alphabetic : r ≡ in_ranges eastern_letters c → true ≡ is_alphabetic c
  unfolding is_alphabetic alphabetic eastern_letters
  eastern_alphabetic e = sym (all_covered alphabetic eastern_letters c refl (sym e ∙ t))
