-- A search by the ranges' last code points finds the one range that may hold a code point.
-- Assumes nothing.
use Prim.Native.Nat.{ℕ, zero, suc, ◌≤◌, ◌<◌, zero-le, suc-le-suc}
use native.Mathlib.Nat.{le_trans, le_of_suc-le-suc, not-suc-le-zero}
use native.Mathlib.Omega.{arith}
use mathlib.Core.Path.{◌≡◌, sym, ◌∙◌}
use mathlib.Core.List.{[], ◌∷◌}
use mathlib.Core.Bool.{Bool, true, false, cond, ◌&&◌, or-false, and-true, and-false}
use lib.ListN.{length, get_or}
use lib.Dec.{leb, ltb, leb-suc-suc}
use borrow.Author.Tests.{le-leb, lt-leb, lt-ltb, le-ltb, ltb-true, ltb-false}
use Rattle.std.specs.List.Sorted.{IsPartitionedBy, IsPartitionPoint}
use Rattle.characters.specs.Ranges.{within, in_ranges, ordered}
use Rattle.characters.proofs.OrderedRanges.{Ranges, first, below_all}

-- the range ends before c
abbrev pub ends_before : ℕ → ℕ × ℕ → Bool
ends_before c range = ltb range.1 c

ends_above : (least : ℕ) (ranges : Ranges) → ordered least ranges ≡ true → (k : ℕ) (d : ℕ × ℕ) → k < length ranges → least ≤ (get_or ranges k d).1
ends_above least [] e k d h = absurd (not-suc-le-zero h)
ends_above least (range ∷ ranges) e zero d h = let f = first least range ranges e in le_trans f.starts f.some
ends_above least (range ∷ ranges) e (suc k) d h =
    let f = first least range ranges e in
    let a = ends_above (suc range.1) ranges f.rest k d (le_of_suc-le-suc h) in
    le_trans f.starts (le_trans f.some (le_trans (omega arith) a))

pub parted : (least : ℕ) (ranges : Ranges) (c : ℕ) → ordered least ranges ≡ true → IsPartitionedBy (ends_before c) ranges
parted least [] c e i j d h l t = absurd (not-suc-le-zero l)
parted least (range ∷ ranges) c e zero zero d h l t = t
parted least (range ∷ ranges) c e zero (suc j) d h l t =
    let f = first least range ranges e in
    let a = ends_above (suc range.1) ranges f.rest j d (le_of_suc-le-suc l) in
    lt-ltb range.1 c (le_trans a (le_trans (omega arith) (ltb-true _ c t)))
parted least (range ∷ ranges) c e (suc i) zero d h l t = absurd (not-suc-le-zero h)
parted least (range ∷ ranges) c e (suc i) (suc j) d h l t =
    parted (suc range.1) ranges c (first least range ranges e).rest i j d (le_of_suc-le-suc h) (le_of_suc-le-suc l) t

abbrev pub Reached : Ranges → ℕ → ℕ → Type 0
Reached ranges c n = IsPartitionPoint (λ r. ends_before c r ≡ true) (λ r. ends_before c r ≡ false) ranges n

reached_is : (least : ℕ) (ranges : Ranges) (c n : ℕ) (d : ℕ × ℕ) → ordered least ranges ≡ true → Reached ranges c n
    → cond (ltb n (length ranges)) (leb (get_or ranges n d).0 c) false ≡ in_ranges ranges c
unfolding in_ranges within
reached_is least [] c n d e r = rw (le-ltb n 0 zero-le)
reached_is least (range ∷ ranges) c zero d e r =
    let f = first least range ranges e in
    let h : c ≤ range.1 = ltb-false range.1 c (r.1 zero d zero-le (suc-le-suc zero-le)) in
    rw (lt-ltb 0 (length (range ∷ ranges)) (suc-le-suc zero-le), le-leb c range.1 h, below_all (suc range.1) ranges c f.rest (suc-le-suc h)) (sym (or-false (leb range.0 c && true) ∙ and-true (leb range.0 c)))
reached_is least (range ∷ ranges) c (suc n) d e r =
    let f = first least range ranges e in
    let h : range.1 < c = ltb-true range.1 c (r.0 zero d zero-le (suc-le-suc zero-le)) in
    rw (leb-suc-suc (suc n) (length ranges), lt-leb c range.1 h, and-false (leb range.0 c))
    (reached_is (suc range.1) ranges c n d f.rest
    ((λ k d' h l. r.0 (suc k) d' zero-le (suc-le-suc l)), (λ k d' h l. r.1 (suc k) d' (suc-le-suc h) (suc-le-suc l))))

module _ (ranges : Ranges) (c n : ℕ) (e : ordered 0 ranges ≡ true) (r : Reached ranges c n) where
  pub reached_inside : n < length ranges → leb (get_or ranges n (0, 0)).0 c ≡ in_ranges ranges c
  reached_inside h = rw (lt-ltb _ _ h) at (reached_is 0 ranges c n (0, 0) e r)

  pub reached_end : length ranges ≤ n → ltb n (length ranges) ≡ in_ranges ranges c
  reached_end h = let f = le-ltb _ _ h in f ∙ (rw f at (reached_is 0 ranges c n (0, 0) e r))
