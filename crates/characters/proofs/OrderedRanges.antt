-- Ranges that are in order: what `ordered` says of the first, and what lies before it.
-- Assumes nothing.
use Prim.Native.Nat.{ℕ, suc, ◌≤◌, ◌<◌}
use native.Mathlib.Nat.{le_trans, lt_of_lt_of_le}
use native.Mathlib.Omega.{arith}
use mathlib.Core.Path.{◌≡◌, refl}
use mathlib.Core.List.{List, [], ◌∷◌}
use mathlib.Core.Bool.{true, false, ◌&&◌, and-eq-true_iff}
use lib.Dec.{leb}
use borrow.Author.Tests.{leb-true, lt-leb}
use Rattle.characters.specs.Ranges.{within, in_ranges, ordered}

abbrev pub Ranges : Type 0
Ranges = List (ℕ × ℕ)

-- what `ordered` says of a first range
pub record First (least : ℕ) (range : ℕ × ℕ) (ranges : Ranges) : Type 0 where
  pub starts : least ≤ range.0
  pub some : range.0 ≤ range.1
  pub rest : ordered (suc range.1) ranges ≡ true

pub first : (least : ℕ) (range : ℕ × ℕ) (ranges : Ranges) → ordered least (range ∷ ranges) ≡ true → First least range ranges
unfolding ordered
first least range ranges e =
    let a = (and-eq-true_iff (leb least range.0) (leb range.0 range.1 && ordered (suc range.1) ranges)).0 e in
    let b = (and-eq-true_iff (leb range.0 range.1) (ordered (suc range.1) ranges)).0 a.1 in
    record { starts = leb-true least range.0 a.0; some = leb-true range.0 range.1 b.0; rest = b.1 }

pub below_all : (least : ℕ) (ranges : Ranges) (c : ℕ) → ordered least ranges ≡ true → c < least → in_ranges ranges c ≡ false
unfolding in_ranges within
below_all least [] c e h = refl
below_all least (range ∷ ranges) c e h =
    let f = first least range ranges e in
    rw (lt-leb range.0 c (lt_of_lt_of_le h f.starts))
    (below_all (suc range.1) ranges c f.rest (lt_of_lt_of_le h (le_trans f.starts (le_trans f.some (omega arith)))))
