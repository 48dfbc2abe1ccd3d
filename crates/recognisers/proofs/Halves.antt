-- A byte among some, which are looked through in two parts.
-- Assumes nothing.
use Prim.Native.Nat.{ℕ}
use mathlib.Core.Path.{◌≡◌, refl, ap, ◌∙◌}
use mathlib.Core.List.{List, [], ◌∷◌, ◌++◌}
use mathlib.Core.Bool.{Bool, ◌||◌, or_assoc}
use lib.Dec.{eqb}
use Rattle.recognisers.specs.Taking.{contains}

pub contains_both : (ks ls : List ℕ) (b : ℕ) → (contains ks b || contains ls b) ≡ contains (ks ++ ls) b
unfolding contains
contains_both [] ls b = refl
contains_both (k ∷ ks) ls b = or_assoc (eqb b k) (contains ks b) (contains ls b) ∙ ap (λ (t : Bool). eqb b k || t) (contains_both ks ls b)
