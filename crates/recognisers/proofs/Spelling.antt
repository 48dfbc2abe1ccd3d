-- A word at the start of a rest, in a form of the text's bytes: as typed, or in capitals.
-- Assumes nothing.
use Rattle.std.proofs.Common.{Option, Some, None}
use Prim.Native.Nat.{ℕ, suc, ◌+◌, ◌≤◌, ◌<◌, zero-le, suc-le-suc}
use native.Mathlib.Nat.{le_of_suc-le-suc, not-suc-le-zero, zero-add}
use native.Mathlib.Numerals.{one-add}
use native.Mathlib.Omega.{arith}
use mathlib.Core.Path.{◌≡◌, refl, sym, ap, ◌∙◌}
use mathlib.Core.List.{List, [], ◌∷◌}
use mathlib.Core.Bool.{Bool, true, false, cond, ◌&&◌, false≢true, and-eq-true_iff, and-false}
use lib.ListN.{length, drop}
use lib.Dec.{eqb}
use Rattle.recognisers.specs.Taking.{Taker, more, one, spelled, is_spelled}

pub not_fails : {P : Type 0} (n : ℕ) → None ≡ Some n → P
not_fails n e = absurd (let z : ◌≡◌ {A = ℕ} 0 1 = cc in let y : ⊥ = omega arith in y)

pub more_zero : (t : Option ℕ) → more 0 t ≡ t
more_zero (Some n) = rw (zero-add n)
more_zero None = refl

pub more_more : (m n : ℕ) (t : Option ℕ) → more m (more n t) ≡ more (m + n) t
more_more m n (Some k) = ap Some (omega arith)
more_more m n None = refl

module _ (form : ℕ → ℕ) where
  pub spelled_short : (w s : List ℕ) → length s < length w → false ≡ is_spelled form w s
  unfolding is_spelled
  spelled_short [] s h = absurd (not-suc-le-zero h)
  spelled_short (x ∷ w) [] h = refl
  spelled_short (x ∷ w) (y ∷ s) h = sym (rw (← spelled_short w s (le_of_suc-le-suc h)) (and-false (eqb (form y) x)))

  pub spelled_fits : (w s : List ℕ) → is_spelled form w s ≡ true → length w ≤ length s
  unfolding is_spelled
  spelled_fits [] s e = zero-le
  spelled_fits (x ∷ w) [] e = absurd (false≢true e)
  spelled_fits (x ∷ w) (y ∷ s) e = suc-le-suc (spelled_fits w s ((and-eq-true_iff (eqb (form y) x) (is_spelled form w s)).0 e).1)

  -- ---- a word and what follows

  pub spelled_is : (w s : List ℕ) (then : Taker) → spelled form w then s ≡ cond (is_spelled form w s) (more (length w) (then (drop (length w) s))) None
  unfolding spelled is_spelled one
  spelled_is [] s then = sym (more_zero (then s))
  spelled_is (x ∷ w) [] then = refl
  spelled_is (x ∷ w) (y ∷ s) then = rw (spelled_is w s then) (go (eqb (form y) x) (is_spelled form w s))
    where
      go : (t u : Bool) → cond t (more 1 (cond u (more (length w) (then (drop (length w) s))) None)) None ≡ cond (t && u) (more (suc (length w)) (then (drop (length w) s))) None
      go true true = more_more 1 (length w) (then (drop (length w) s)) ∙ rw (one-add (length w))
      go true false = refl
      go false u = refl
