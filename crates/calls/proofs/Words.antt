-- Words stored one behind the other.
-- Assumes nothing.
use Rattle.std.proofs.Common.{◌≡◌, ℕ, zero, suc, ◌+◌, ◌*◌, ◌<◌, List, [], ◌∷◌, ◌++◌, arith, length, get_or, take, refl, ap, ◌∙◌}
use lib.Seq.{sets}
use Rattle.calls.specs.LittleEndian.{low_bytes, le32, words_of}
use Rattle.calls.proofs.Storing.{both_put}

one_more : (ws : List ℕ) (i : ℕ) → i < length ws → words_of (take (i + 1) ws) ≡ words_of (take i ws) ++ le32 (get_or ws i 0)
unfolding words_of low_bytes
one_more [] i h = absurd (let z : ⊥ = omega (arith, h) in z)
one_more (w ∷ ws) zero h = refl
one_more (w ∷ ws) (suc i) h = let z : suc i + 1 ≡ suc (i + 1) = omega arith in rw z (ap (λ (l : List ℕ). le32 w ++ l) (one_more ws i (omega (arith, h))))

so_long : (ws : List ℕ) (i : ℕ) → i < length ws → length (words_of (take i ws)) ≡ 4 * i
unfolding words_of low_bytes
so_long ws zero h = refl
so_long [] (suc i) h = absurd (let z : ⊥ = omega (arith, h) in z)
so_long (w ∷ ws) (suc i) h = let k = so_long ws i (omega (arith, h)) in omega (arith, k)

module _ (ws before : List ℕ) (at : ℕ) where
  pub words_start : before ≡ sets before at (words_of (take 0 ws))
  unfolding words_of
  words_start = refl

  pub words_more : (i : ℕ) (now after : List ℕ) → i < length ws → now ≡ sets before at (words_of (take i ws)) → after ≡ sets now (at + 4 * i) (le32 (get_or ws i 0))
      → after ≡ sets before at (words_of (take (i + 1) ws))
  words_more i now after h e f = f ∙ rw (e, one_more ws i h, ← so_long ws i h) (both_put (words_of (take i ws)) (le32 (get_or ws i 0)) before at)
