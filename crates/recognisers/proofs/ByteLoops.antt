-- Loops over the bytes at the start of a rest.
-- Assumes nothing.
use Prim.Native.Nat.{ℕ, zero, suc, ◌+◌, ◌≤◌, ◌<◌, min, zero-le, suc-le-suc}
use native.Mathlib.Nat.{suc_inj, le_of_suc-le-suc, not-suc-le-zero, min-zero, zero-min, suc-min-suc}
use native.Mathlib.Numerals.{add-one}
use native.Mathlib.Omega.{arith}
use mathlib.Core.Path.{◌≡◌, refl, sym, ap, ◌∙◌}
use mathlib.Core.List.{List, [], ◌∷◌}
use mathlib.Core.Bool.{Bool, true, false, cond}
use lib.ListN.{length, take, drop, get_or, drop_of_length-le}
use lib.Seq.{drop-cons, length-take-le}
use borrow.Author.Tests.{eq-eqb, ne_eqb}
use Rattle.recognisers.specs.Taking.{count, contains}

-- ---- how many pass a test

pub count_inside : (test : ℕ → Bool) (s : List ℕ) → count test s ≤ length s
unfolding count
count_inside test [] = zero-le
count_inside test (b ∷ s) = go (test b) (count_inside test s)
  where
    go : (t : Bool) → count test s ≤ length s → cond t (suc (count test s)) 0 ≤ suc (length s)
    go true h = suc-le-suc h
    go false h = zero-le

-- of the first n
count_take : (test : ℕ → Bool) (n : ℕ) (s : List ℕ) → count test (take n s) ≡ min (count test s) n
unfolding count
count_take test zero s = sym (min-zero (count test s))
count_take test (suc n) [] = sym (zero-min (suc n))
count_take test (suc n) (b ∷ s) = go (test b) (count_take test n s)
  where
    go : (t : Bool) → count test (take n s) ≡ min (count test s) n → cond t (suc (count test (take n s))) 0 ≡ min (cond t (suc (count test s)) 0) (suc n)
    go true h = ap suc h ∙ sym (suc-min-suc (count test s) n)
    go false h = sym (zero-min (suc n))

pub first_long : (k : ℕ) (s : List ℕ) → k ≤ length s → k ≡ length (take k s)
first_long k s h = sym (length-take-le k s h)

-- the first few of them
module _ (k : ℕ) (s : List ℕ) (n : ℕ) (e : n ≡ min (length s) k) where
  pub count_few : (test : ℕ → Bool) (r : ℕ) → r ≡ count test (take n s) → r ≡ min (count test s) k
  count_few test r f = f ∙ (count_take test n s ∙ (let h = count_inside test s in let z : min (count test s) n ≡ min (count test s) k = omega arith in z))

module _ (test : ℕ → Bool) where
  -- where the count stops, none passes
  pub stopped : (s : List ℕ) (n : ℕ) → n ≡ count test s → n < length s → test (get_or s n 0) ≡ false
  unfolding count
  stopped [] n e h = absurd (not-suc-le-zero h)
  stopped (b ∷ s) n e h = go (test b) refl n e h (stopped s)
    where
      go : (t : Bool) → test b ≡ t → (m : ℕ) → m ≡ cond t (suc (count test s)) 0 → m < suc (length s) → ((k : ℕ) → k ≡ count test s → k < length s → test (get_or s k 0) ≡ false) → test (get_or (b ∷ s) m 0) ≡ false
      go true q zero e h ih = absurd (let z : ⊥ = omega arith in z)
      go true q (suc m) e h ih = ih m (suc_inj e) (le_of_suc-le-suc h)
      go false q m e h ih = rw e q

-- ---- a byte among some

module _ (s : List ℕ) (b : ℕ) where
  pub record AmongAt (i : ℕ) : Type 0 where
    pub inside : i ≤ length s
    pub same : contains (drop i s) b ≡ contains s b

  module _ (i : ℕ) (at : AmongAt i) where
    pub among_here : i < length s → b ≡ get_or s i 0 → true ≡ contains s b
    unfolding contains
    among_here h e = rw (drop-cons s i 0 h, eq-eqb b (get_or s i 0) e) at at.same

    pub among_next : i < length s → (b ≡ get_or s i 0 → ⊥) → AmongAt (i + 1)
    unfolding contains
    among_next h e =
        record {
          inside = omega arith;
          same = rw (add-one i) (rw (drop-cons s i 0 h, ne_eqb b (get_or s i 0) e) at at.same);
        }

    pub among_none : length s ≤ i → false ≡ contains s b
    unfolding contains
    among_none h = rw (drop_of_length-le s h) at at.same
