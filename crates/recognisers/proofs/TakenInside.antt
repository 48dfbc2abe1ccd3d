-- What a taker takes lies inside the rest.
-- Assumes nothing.
use Rattle.std.proofs.Common.{Option, Some, None}
use Prim.Native.Nat.{ℕ, suc, ◌+◌, ◌-◌, ◌^◌, ◌≤◌, ◌<◌, zero-le}
use native.Mathlib.Nat.{le_refl}
use native.Mathlib.Omega.{arith}
use mathlib.Core.Path.{◌≡◌}
use mathlib.Core.List.{List, [], ◌∷◌}
use mathlib.Core.Bool.{Bool, true, false, cond}
use lib.ListN.{length, drop, take, length-drop}
use lib.Dec.{leb, eqb}
use Rattle.recognisers.specs.Taking.{Taker, taken, more, or, done, one, spelled, end_of_word, digit1, digit0, count, is_digit}
use Rattle.recognisers.proofs.ByteLoops.{count_inside}
use Rattle.characters.proofs.Rests.{part_end}
use Rattle.characters.specs.Classes.{is_word_character}
use Rattle.characters.specs.Character.{code_point}

abbrev pub Inside : Taker → Type 0
Inside part = (s : List ℕ) → taken (part s) ≤ length s

more_at_most : (n : ℕ) (t : Option ℕ) → taken (more n t) ≤ n + taken t
more_at_most n (Some m) = le_refl (n + m)
more_at_most n None = zero-le

pub cond_inside : (b : Bool) (t : Option ℕ) (k : ℕ) → taken t ≤ k → taken (cond b t None) ≤ k
cond_inside true t k h = h
cond_inside false t k h = zero-le

pub or_inside : (a b : Option ℕ) (k : ℕ) → taken a ≤ k → taken b ≤ k → taken (or a b) ≤ k
or_inside (Some n) b k h l = h
or_inside None b k h l = l

pub done_inside : Inside done
done_inside s = zero-le

pub one_inside : (test : ℕ → Bool) (then : Taker) → Inside then → Inside (one test then)
unfolding one
one_inside test then h [] = zero-le
one_inside test then h (b ∷ s) = cond_inside (test b) (more 1 (then s)) (suc (length s)) (let m = more_at_most 1 (then s) in let k = h s in omega arith)

pub spelled_inside : (form : ℕ → ℕ) (w : List ℕ) (then : Taker) → Inside then → Inside (spelled form w then)
unfolding spelled
spelled_inside form [] then h s = h s
spelled_inside form (x ∷ w) then h s = one_inside (λ b. eqb (form b) x) (spelled form w then) (spelled_inside form w then h) s

pub end_of_word_inside : Inside end_of_word
unfolding end_of_word
end_of_word_inside s = go (is_word_character (code_point s))
  where
    go : (t : Bool) → taken (cond t None (Some 0)) ≤ length s
    go true = zero-le
    go false = zero-le

pub then_inside : (n : ℕ) (then : Taker) (s : List ℕ) → n ≤ length s → Inside then → taken (more n (then (drop n s))) ≤ length s
then_inside n then s l h =
    let m = more_at_most n (then (drop n s)) in
    let k = h (drop n s) in
    omega (arith, length-drop n s)

pub digit0_inside : (then : Taker) → Inside then → Inside (digit0 then)
unfolding digit0
digit0_inside then h s = then_inside (count is_digit s) then s (count_inside is_digit s) h

pub digit1_inside : (then : Taker) → Inside then → Inside (digit1 then)
unfolding digit1
digit1_inside then h s =
    cond_inside (leb 1 (count is_digit s)) (more (count is_digit s) (then (drop (count is_digit s) s))) (length s)
    (then_inside (count is_digit s) then s (count_inside is_digit s) h)

-- as a caller of `n_more` needs it: t is what a taker takes of the rest from n on
pub fits_more : (part : Taker) → Inside part → (s : List ℕ) (n : ℕ) (t : Option ℕ) → t ≡ part (take (length s - n) (drop n s)) → n ≤ length s → length s < 2 ^ 64 → n + taken t < 2 ^ 64
fits_more part h s n t e l f =
    let k = h (drop n s) in
    let q : t ≡ part (drop n s) = rw (part_end s n) at e in
    let m : taken t ≤ length (drop n s) = rw q k in
    omega (arith, length-drop n s)
