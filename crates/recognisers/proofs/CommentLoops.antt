-- The loops of `get_comment_token`.
-- Assumes nothing.
use Rattle.std.proofs.Common.{Option, Some, None}
use Rattle.std.specs.List.{position, zip}
use Prim.Native.Nat.{ℕ, suc, ◌+◌, ◌-◌, ◌^◌, ◌≤◌, ◌<◌, zero-le}
use native.Mathlib.Numerals.{add-one, one-add}
use native.Mathlib.Omega.{arith}
use mathlib.Core.Path.{◌≡◌, refl, sym, ap, ◌∙◌}
use mathlib.Core.List.{List, [], ◌∷◌}
use mathlib.Core.Bool.{Bool, true, false, cond, not, ◌&&◌, ◌||◌, and-false}
use lib.ListN.{length, drop, take}
use lib.Dec.{eqb}
use borrow.Author.Tests.{eqb-true}
use Rattle.recognisers.specs.Taking.{Taker, taken, more, starts_with}
use Rattle.recognisers.specs.Comment.{till_line_ending, through_block_end}
use mir.Syntax.{w64}
use mir.Val.{Fits}
use Rattle.characters.proofs.Rests.{part_end}
use Rattle.recognisers.proofs.LibraryWords.{found}
use Rattle.recognisers.proofs.Spelling.{more_zero, more_more}
use Rattle.recognisers.proofs.TakenInside.{Inside}

-- i bytes are passed of what a taker takes
pub record PassedAt (part : Taker) (s : List ℕ) (i : ℕ) : Type 0 where
  pub inside : i ≤ length s
  pub same : part s ≡ more i (part (drop i s))

pub passed_start : (part : Taker) (s : List ℕ) → PassedAt part s 0
passed_start part s = record { inside = zero-le; same = sym (more_zero (part s)) }

-- one byte more, where the taker passes it
pub passed_more : (part : Taker) (s : List ℕ) (i : ℕ) → PassedAt part s i → i < length s → part (drop i s) ≡ more 1 (part (drop (suc i) s)) → PassedAt part s (i + 1)
passed_more part s i at h e =
    record {
      inside = omega arith;
      same = at.same ∙ ap (more i) e ∙ more_more i 1 (part (drop (suc i) s)) ∙ rw (← add-one i);
    }

-- ---- what they take lies inside

pub line_inside : Inside till_line_ending
unfolding till_line_ending
line_inside [] = zero-le
line_inside (b ∷ s) = go (eqb b 10) (eqb b 13) (starts_with 10 s) (till_line_ending s) (line_inside s)
  where
    go : (t u v : Bool) (o : Option ℕ) → taken o ≤ length s → taken (cond t (Some 0) (cond u (cond v (Some 0) None) (more 1 o))) ≤ suc (length s)
    go true u v o h = zero-le
    go false true true o h = zero-le
    go false true false o h = zero-le
    go false false v (Some n) h = omega arith
    go false false v None h = zero-le

pub block_inside : Inside through_block_end
unfolding through_block_end starts_with
block_inside [] = zero-le
block_inside (b ∷ []) = go (eqb b 42)
  where
    go : (t : Bool) → taken (cond (t && starts_with 47 []) (Some 2) (more 1 (Some 0))) ≤ 1
    go true = omega arith
    go false = omega arith
block_inside (b ∷ d ∷ s) = go (eqb b 42 && starts_with 47 (d ∷ s)) (through_block_end (d ∷ s)) (block_inside (d ∷ s))
  where
    go : (t : Bool) (o : Option ℕ) → taken o ≤ suc (length s) → taken (cond t (Some 2) (more 1 o)) ≤ suc (suc (length s))
    go true o h = omega arith
    go false (Some n) h = omega arith
    go false None h = zero-le

-- ---- a line's end

abbrev pub breaks : ℕ → Bool
breaks b = eqb b 10 || eqb b 13

abbrev pub lone : List ℕ → Bool
lone s = starts_with 13 s && not (starts_with 10 (drop 1 s))

abbrev pub ending : List ℕ → Option ℕ → Option ℕ
ending s None = Some (length s)
ending s (Some i) = cond (lone (drop i s)) None (Some i)

alone : (i : ℕ) (t : Bool) → more 1 (cond t None (Some i)) ≡ cond t None (Some (suc i))
alone i true = refl
alone i false = rw (one-add i)

ending_on : (b : ℕ) (s : List ℕ) (o : Option ℕ) → more 1 (ending s o) ≡ ending (b ∷ s) (more 1 o)
ending_on b s (Some i) = rw (one-add i) (alone i (lone (drop i s)))
ending_on b s None = rw (one-add (length s))

returned : (t : Bool) → cond {A = Option ℕ} t (Some 0) None ≡ cond (not t) None (Some 0)
returned true = refl
returned false = refl

pub line_is : (s : List ℕ) → till_line_ending s ≡ ending s (position breaks s)
unfolding till_line_ending starts_with
line_is [] = refl
line_is (b ∷ s) = rw (found breaks b s) (go (eqb b 10) (eqb b 13) (line_is s) refl refl)
  where
    go : (t u : Bool) → till_line_ending s ≡ ending s (position breaks s) → eqb b 10 ≡ t → eqb b 13 ≡ u
        → cond t (Some 0) (cond u (cond (starts_with 10 s) (Some 0) None) (more 1 (till_line_ending s))) ≡ ending (b ∷ s) (cond (t || u) (Some 0) (more 1 (position breaks s)))
    go true u h e f = rw (eqb-true b 10 e)
    go false true h e f = rw f (returned (starts_with 10 s))
    go false false h e f = rw h (ending_on b s (position breaks s))

module _ (s : List ℕ) (t : Option ℕ) (e : t ≡ position breaks s) where
  pub line_end : t ≡ None → Some (length s) ≡ till_line_ending s
  line_end f = rw (line_is s, ← e, f)

  module _ (i : ℕ) (f : t ≡ Some i) (r : Bool) (g : r ≡ lone (take (length s - i) (drop i s))) where
    pub line_refused : r ≡ true → None ≡ till_line_ending s
    line_refused h = let k : lone (drop i s) ≡ true = rw (part_end s i) at (sym g ∙ h) in rw (line_is s, ← e, f, k)

    pub line_taken : r ≡ false → Some i ≡ till_line_ending s
    line_taken h = let k : lone (drop i s) ≡ false = rw (part_end s i) at (sym g ∙ h) in rw (line_is s, ← e, f, k)

-- ---- a block's end

abbrev closes : ℕ × ℕ → Bool
closes p = eqb p.0 42 && eqb p.1 47

abbrev behind_pair : List ℕ → Option ℕ → ℕ
behind_pair s (Some i) = i + 2
behind_pair s None = length s

block_is : (s : List ℕ) → through_block_end s ≡ Some (behind_pair s (position closes (zip s (drop 1 s))))
unfolding through_block_end starts_with
block_is [] = refl
block_is (b ∷ []) = rw (and-false (eqb b 42))
block_is (b ∷ d ∷ s) = rw (found closes (b, d) (zip (d ∷ s) s)) (go (eqb b 42 && eqb d 47) (position closes (zip (d ∷ s) s)) (block_is (d ∷ s)))
  where
    go : (t : Bool) (o : Option ℕ) → through_block_end (d ∷ s) ≡ Some (behind_pair (d ∷ s) o) → cond t (Some 2) (more 1 (through_block_end (d ∷ s))) ≡ Some (behind_pair (b ∷ d ∷ s) (cond t (Some 0) (more 1 o)))
    go true o h = refl
    go false (Some i) h = rw h (ap Some (omega arith))
    go false None h = rw h (ap Some (one-add (suc (length s))))

module _ (s : List ℕ) (t : Option ℕ) (e : t ≡ position closes (zip s (drop 1 s))) where
  pub block_closed : (i : ℕ) → t ≡ Some i → Some (i + 2) ≡ through_block_end s
  block_closed i f = rw (block_is s, ← e, f)

  pub block_open : t ≡ None → Some (length s) ≡ through_block_end s
  block_open f = rw (block_is s, ← e, f)

  pub block_fits : (i : ℕ) → t ≡ Some i → length s < 2 ^ 64 → Fits w64 (i + 2)
  block_fits i f h =
      let k : taken (through_block_end s) ≤ length s = block_inside s in
      let l : i + 2 ≤ length s = rw (← block_closed i f) at k in
      record { fits = omega arith }
