-- No gap stands at the end of a text.
-- Assumes nothing.
use Prim.Native.Nat.{ℕ, zero, suc}
use native.Mathlib.Nat.{le_refl}
use native.Mathlib.Omega.{arith}
use mathlib.Core.Path.{◌≡◌}
use mathlib.Core.List.{List, [], ◌∷◌}
use lib.ListN.{length, drop, drop_of_length-le}
use Rattle.characters.specs.Runs.{in_class, run}
use Rattle.characters.specs.declared.Class.TheVariants.{Whitespace}
use Rattle.reserved.specs.declared.gaps.Gap.{Gap}
use Rattle.reserved.specs.Inner.Gaps.{AllMeasured}

pub none_there : (s : List ℕ) → 0 ≡ run (in_class Whitespace) 0 (drop (length s) s)
unfolding run
none_there s = rw (drop_of_length-le s (le_refl (length s)))

abbrev end : List ℕ → Gap
end s = record { at = length s; len = 0 }

pub none_measured : (s : List ℕ) → AllMeasured s (end s ∷ end s ∷ end s ∷ [])
none_measured s zero d h = none_there s
none_measured s (suc zero) d h = none_there s
none_measured s (suc (suc zero)) d h = none_there s
none_measured s (suc (suc (suc k))) d h = absurd (let z : ⊥ = omega (arith, h) in z)
