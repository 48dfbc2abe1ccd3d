-- `a || b` in code: the second is asked only where the first does not decide.
-- Assumes nothing.
use mathlib.Core.Path.{◌≡◌}
use mathlib.Core.Bool.{Bool, true, false, ◌||◌}

module _ (a b r : Bool) (e : r ≡ a) where
  pub or_first : r ≡ true → r ≡ (a || b)
  or_first t = rw (← e, t)

  pub or_second : (q : Bool) → r ≡ false → q ≡ b → q ≡ (a || b)
  or_second q t f = rw (← e, t) f
