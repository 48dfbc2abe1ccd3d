-- A letter or `$` at the start of a text, as `may_be_reserved` tests it.
-- Assumes nothing.
use Rattle.std.proofs.Common.{Some, None, slice_get}
use Rattle.std.specs.Char.{is_ascii_alphabetic}
use Prim.Native.Nat.{ℕ, ◌-◌}
use native.Mathlib.Omega.{arith}
use mathlib.Core.Path.{◌≡◌, refl, sym, ◌∙◌}
use mathlib.Core.List.{List, [], ◌∷◌}
use mathlib.Core.Bool.{Bool, true, false, cond, ◌||◌, or-false, or-true}
use lib.Dec.{eqb}
use Rattle.characters.specs.Ranges.{within}
use Rattle.characters.proofs.Within.{within_low, within_high, within_is}
use Rattle.recognisers.specs.Taking.{capital, starts_with}
use Rattle.reserved.specs.Reserved.{may_be_reserved}

-- a letter is one whose capital is one
in_ranges : (b : ℕ) → is_ascii_alphabetic b ≡ (within 65 90 b || within 97 122 b)
unfolding within
in_ranges b = refl

capital_letter : (b : ℕ) → is_ascii_alphabetic b ≡ within 65 90 (capital b)
unfolding capital
capital_letter b = in_ranges b ∙ go (within 97 122 b) refl
  where
    go : (t : Bool) → within 97 122 b ≡ t → (within 65 90 b || t) ≡ within 65 90 (cond t (b - 32) b)
    go true w =
        let low = within_low 97 122 b w in
        let high = within_high 97 122 b w in
        or-true (within 65 90 b) ∙ sym (within_is 65 90 (b - 32) (omega arith) (omega arith))
    go false w = or-false (within 65 90 b)

letter_or_dollar : (b : ℕ) (s : List ℕ) → may_be_reserved (b ∷ s) ≡ (is_ascii_alphabetic b || eqb b 36)
unfolding may_be_reserved starts_with
letter_or_dollar b s = rw (capital_letter b)

module _ (s : List ℕ) (b : ℕ) (first : Some b ≡ slice_get s 0) (r : Bool) (e : r ≡ is_ascii_alphabetic b) where
  told : may_be_reserved s ≡ (r || eqb b 36)
  told = go s first
    where
      go : (s : List ℕ) → Some b ≡ slice_get s 0 → may_be_reserved s ≡ (r || eqb b 36)
      go [] q = absurd (let z : ⊥ = cc in z)
      go (a ∷ s) q =
          let k : b ≡ a = cc in
          rw (e, k) (letter_or_dollar a s)

  pub letter_first : r ≡ true → r ≡ may_be_reserved s
  letter_first t = t ∙ sym (told ∙ rw t)

  pub other_first : r ≡ false → eqb b 36 ≡ may_be_reserved s
  other_first t = sym (told ∙ rw t)

pub no_first : (s : List ℕ) → None ≡ slice_get s 0 → false ≡ may_be_reserved s
unfolding may_be_reserved starts_with capital within
no_first [] q = refl
no_first (a ∷ s) q = absurd (let z : ⊥ = cc in z)
