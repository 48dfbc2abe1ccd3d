-- A test of all numbers below a bound, for the checker to compute.
-- Assumes nothing.
use Prim.Native.Nat.{ℕ, zero, suc, ◌<◌}
use native.Mathlib.Nat.{eq-or-lt_of_le, le_of_suc-le-suc, not-suc-le-zero}
use mathlib.Core.Path.{◌≡◌}
use mathlib.Core.Logic.{⊎_elim}
use mathlib.Core.Bool.{Bool, true, ◌&&◌, and-eq-true_iff}

-- f passes at each number below n
abbrev pub all_below : (ℕ → Bool) → ℕ → Bool
all_below f zero = true
all_below f (suc n) = f n && all_below f n

pub below : (f : ℕ → Bool) (n : ℕ) → all_below f n ≡ true → (k : ℕ) → k < n → f k ≡ true
below f zero e k h = absurd (not-suc-le-zero h)
below f (suc n) e k h =
    let both = (and-eq-true_iff (f n) (all_below f n)).0 e in
    ⊎_elim (λ q. rw q both.0) (λ l. below f n both.1 k l) (eq-or-lt_of_le (le_of_suc-le-suc h))
