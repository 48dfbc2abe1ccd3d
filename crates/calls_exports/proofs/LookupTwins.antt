-- The lookup's twin: its bytes copied where there is room.
-- Assumes nothing.
use Prim.Native.Nat.{ℕ, ◌+◌, ◌≤◌}
use native.Mathlib.Omega.{arith}
use mathlib.Core.Path.{◌≡◌, ap, ◌∙◌}
use mathlib.Core.List.{List, ◌++◌}
use borrow.Author.Tests.{le-ltb}
use lib.ListN.{length, drop}
use lib.Seq.{sets, sets-eq}
use Rattle.calls.specs.Texts.{text_after}

module _ (bytes text output : List ℕ) (e : bytes ≡ text) where
  pub copied : (after : List ℕ) → length bytes ≤ length output → after ≡ sets output 0 bytes → after ≡ text_after text output
  unfolding text_after
  copied after f g =
      g
      ∙ (let z : sets output 0 bytes ≡ bytes ++ drop (0 + length bytes) output = sets-eq bytes output 0 (omega (arith, f)) in z)
      ∙ (let k : 0 + length bytes ≡ length bytes = omega arith in ap (λ (n : ℕ). bytes ++ drop n output) k)
      ∙ (let z : bytes ++ drop (length bytes) output ≡ text_after text output = rw (← e, le-ltb _ _ f) in z)
