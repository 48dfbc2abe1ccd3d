-- One range of numbers: what lies inside it and what does not.
-- Assumes nothing.
use Prim.Native.Nat.{ℕ, ◌≤◌, ◌<◌}
use mathlib.Core.Path.{◌≡◌}
use mathlib.Core.Bool.{true, false, and-eq-true_iff, and-false}
use lib.Dec.{leb}
use borrow.Author.Tests.{le-leb, lt-leb, leb-true}
use Rattle.characters.specs.Ranges.{within}

module _ (a b c : ℕ) where
  pub within_low : within a b c ≡ true → a ≤ c
  unfolding within
  within_low e = leb-true a c ((and-eq-true_iff (leb a c) (leb c b)).0 e).0

  pub within_high : within a b c ≡ true → c ≤ b
  unfolding within
  within_high e = leb-true c b ((and-eq-true_iff (leb a c) (leb c b)).0 e).1

  pub within_is : a ≤ c → c ≤ b → within a b c ≡ true
  unfolding within
  within_is h l = rw (le-leb a c h, le-leb c b l)

  pub below_not : c < a → within a b c ≡ false
  unfolding within
  below_not h = rw (lt-leb a c h)

  pub above_not : b < c → within a b c ≡ false
  unfolding within
  above_not h = rw (lt-leb c b h) (and-false (leb a c))
