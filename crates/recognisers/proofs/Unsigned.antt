-- Numbers as `decimal_number` and `unsigned_number` read them.
-- Assumes nothing.
use Rattle.std.proofs.Common.{Option, Some, None}
use Rattle.std.specs.Option.{unwrap_or}
use Prim.Native.Nat.{ℕ, suc, ◌+◌, ◌-◌, ◌^◌, ◌≤◌, ◌<◌}
use native.Mathlib.Nat.{add-zero}
use native.Mathlib.Numerals.{add-one}
use native.Mathlib.Omega.{arith}
use mathlib.Core.Path.{◌≡◌, refl, sym, ap, ◌∙◌}
use mathlib.Core.List.{List, [], ◌∷◌}
use mathlib.Core.Bool.{Bool, true, false, cond, false≢true, and-eq-true_iff}
use lib.ListN.{length, drop, take, length-drop}
use lib.Seq.{drop-drop}
use lib.Dec.{leb, eqb}
use lib.Pointwise.{pointwise}
use mir.Syntax.{w64}
use mir.Val.{Fits}
use borrow.Author.Tests.{eqb-true}
use Rattle.characters.specs.Ranges.{within}
use Rattle.characters.proofs.Rests.{part_end}
use Rattle.recognisers.specs.Text.{bytes}
use Rattle.recognisers.specs.Taking.{Taker, taken, more, or, done, one, spelled, typed, literal, digit0, digit1, count, is_digit}
use Rattle.recognisers.specs.Number.{decimal_number, exponent, scientific_notation, unsigned}
use Rattle.recognisers.proofs.ByteLoops.{count_inside}
use Rattle.recognisers.proofs.Spelling.{not_fails}
use Rattle.recognisers.proofs.Digits.{digits_inside, exponent_inside, decimal_inside}
use Rattle.recognisers.proofs.TakenInside.{or_inside, done_inside}
use Rattle.recognisers.proofs.LibraryWords.{some_same}
use Rattle.recognisers.proofs.Preceded.{literal_none, literal_fails, literal_then}

-- digits at the start are all that stand there
module _ (s : List ℕ) (t : Option ℕ) (e : t ≡ digit1 done s) where
  pub no_digits : (then : Taker) (q : Option ℕ) → t ≡ None → q ≡ None → q ≡ digit1 then s
  unfolding digit1
  no_digits then q f g = g ∙ go (leb 1 (count is_digit s)) (sym e ∙ f)
    where
      go : (b : Bool) → cond b (more (count is_digit s) (Some 0)) None ≡ None → None ≡ cond b (more (count is_digit s) (then (drop (count is_digit s) s))) None
      go true h = not_fails _ (sym h)
      go false h = refl

  module _ (n : ℕ) (f : t ≡ Some n) where
    pub digits_then : (then : Taker) → digit1 then s ≡ more n (then (drop n s))
    unfolding digit1
    digits_then then = go (leb 1 (count is_digit s)) (sym e ∙ f)
      where
        go : (b : Bool) → cond b (more (count is_digit s) (Some 0)) None ≡ Some n → cond b (more (count is_digit s) (then (drop (count is_digit s) s))) None ≡ more n (then (drop n s))
        go true h = ap (λ k. more k (then (drop k s))) (sym (add-zero (count is_digit s)) ∙ some_same h)
        go false h = not_fails n h

    pub digits_fit : n ≤ length s
    digits_fit = let i : taken (digit1 done s) ≤ length s = digits_inside s in rw (← e, f) at i

-- ---- as `decimal_number` uses it

module _ (s : List ℕ) (t : Option ℕ) (e : t ≡ digit1 done s) where
  pub decimal_none : (q : Option ℕ) → t ≡ None → q ≡ None → q ≡ decimal_number done s
  unfolding decimal_number
  decimal_none q = no_digits s t e (literal (bytes ".") (digit0 done)) q

  module _ (n : ℕ) (f : t ≡ Some n) where
    decimal_is : decimal_number done s ≡ more n (literal (bytes ".") (digit0 done) (take (length s - n) (drop n s)))
    unfolding decimal_number
    decimal_is = digits_then s t e n f (literal (bytes ".") (digit0 done)) ∙ rw (part_end s n)

    pub decimal_fails : (q : Option ℕ) → pointwise eqb (take 1 (take (length s - n) (drop n s))) (46 ∷ []) ≡ false → q ≡ None → q ≡ decimal_number done s
    decimal_fails q g h = h ∙ sym (decimal_is ∙ ap (more n) (sym (literal_none (digit0 done) (bytes ".") (take (length s - n) (drop n s)) 1 refl None refl g)))

    pub decimal_then : (x : List ℕ) (k : ℕ) → pointwise eqb (take 1 (take (length s - n) (drop n s))) (46 ∷ []) ≡ true → x ≡ drop 1 (take (length s - n) (drop n s)) → k ≡ count is_digit x → Some (n + 1 + k) ≡ decimal_number done s
    unfolding digit0
    decimal_then x k g h i =
        let l : Some (1 + (count is_digit x + 0)) ≡ literal (bytes ".") (digit0 done) (take (length s - n) (drop n s)) = literal_then (digit0 done) (bytes ".") (take (length s - n) (drop n s)) 1 refl x (Some (count is_digit x + 0)) g h refl (count is_digit x + 0) refl in
        let m : n + 1 + k ≡ n + (1 + (count is_digit x + 0)) = omega arith in
        ap Some m ∙ sym (decimal_is ∙ ap (more n) (sym l))

    pub decimal_fits : (x : List ℕ) (k : ℕ) → length x + 1 ≡ length (take (length s - n) (drop n s)) → k ≡ count is_digit x → length s < 2 ^ 64 → Fits w64 (n + 1 + k)
    decimal_fits x k l i b =
        let c = count_inside is_digit x in
        let d = digits_fit s t e n f in
        let p : length (take (length s - n) (drop n s)) ≡ length s - n = rw (part_end s n) (length-drop n s) in
        record { fits = omega arith }

-- ---- as `unsigned_number` uses it

abbrev with_exponent : List ℕ → Option ℕ → Option ℕ
with_exponent s (Some n) = Some (n + unwrap_or (exponent (drop n s)) 0)
with_exponent s None = None

-- no exponent, and none at a point
nothing_left : exponent [] ≡ None
unfolding exponent spelled one
nothing_left = refl

point_left : (r : List ℕ) → exponent (46 ∷ r) ≡ None
unfolding exponent spelled one typed
point_left r = refl

point : (then : Taker) (r : List ℕ) → literal (bytes ".") then (46 ∷ r) ≡ more 1 (then r)
unfolding spelled one typed
point then r = refl

no_point : (then : Taker) (b : ℕ) (r : List ℕ) → eqb b 46 ≡ false → literal (bytes ".") then (b ∷ r) ≡ None
unfolding spelled one typed
no_point then b r e = rw e

nothing_there : (then : Taker) → literal (bytes ".") then [] ≡ None
unfolding spelled one
nothing_there then = refl

module _ (s : List ℕ) (k : ℕ) where
  plain : (o : Option ℕ) → exponent (drop (k + 0) s) ≡ o → or (or None (more k o)) (Some (k + 0)) ≡ with_exponent s (Some (k + 0))
  plain (Some m) e = rw e (ap Some (omega arith))
  plain None e = rw e (ap Some (omega arith))

  pointed : (j : ℕ) (o : Option ℕ) → exponent (drop (k + (1 + (j + 0))) s) ≡ o → or (or (more k (more 1 (more j o))) None) (Some (k + (1 + (j + 0)))) ≡ with_exponent s (Some (k + (1 + (j + 0))))
  pointed j (Some m) e = rw e (ap Some (omega arith))
  pointed j None e = rw e (ap Some (omega arith))

  behind : (r : List ℕ) → drop k s ≡ r
      → or (or (more k (literal (bytes ".") (digit0 exponent) r)) (more k (exponent r))) (or (more k (literal (bytes ".") (digit0 done) r)) (Some (k + 0)))
      ≡ with_exponent s (or (more k (literal (bytes ".") (digit0 done) r)) (Some (k + 0)))
  unfolding digit0
  behind [] e = rw (nothing_there (digit0 exponent), nothing_there (digit0 done), nothing_left) (plain None (rw (add-zero k, e, nothing_left)))
  behind (b ∷ r) e = go (eqb b 46) refl
    where
      go : (t : Bool) → eqb b 46 ≡ t
          → or (or (more k (literal (bytes ".") (digit0 exponent) (b ∷ r))) (more k (exponent (b ∷ r)))) (or (more k (literal (bytes ".") (digit0 done) (b ∷ r))) (Some (k + 0)))
          ≡ with_exponent s (or (more k (literal (bytes ".") (digit0 done) (b ∷ r))) (Some (k + 0)))
      go true h =
          let j = count is_digit r in
          let m : k + (1 + (j + 0)) ≡ suc k + j = omega arith in
          let d : drop (k + (1 + (j + 0))) s ≡ drop j r = rw m (sym (drop-drop j (suc k) s) ∙ ap (drop j) (sym (drop-drop 1 k s ∙ rw add-one) ∙ ap (drop 1) e)) in
          rw (eqb-true b 46 h, point, point_left, point) (pointed j (exponent (drop j r)) (ap exponent d))
      go false h = rw (no_point (digit0 exponent) b r h, no_point (digit0 done) b r h) (plain (exponent (b ∷ r)) (rw (add-zero k, e)))

unsigned_is : (s : List ℕ) → unsigned s ≡ with_exponent s (or (decimal_number done s) (digit1 done s))
unfolding unsigned scientific_notation decimal_number digit1
unsigned_is s = go (leb 1 (count is_digit s))
  where
    k : ℕ
    k = count is_digit s

    go : (t : Bool)
        → or (or (cond t (more k (literal (bytes ".") (digit0 exponent) (drop k s))) None) (cond t (more k (exponent (drop k s))) None)) (or (cond t (more k (literal (bytes ".") (digit0 done) (drop k s))) None) (cond t (Some (k + 0)) None))
        ≡ with_exponent s (or (cond t (more k (literal (bytes ".") (digit0 done) (drop k s))) None) (cond t (Some (k + 0)) None))
    go true = behind s k (drop k s) refl
    go false = refl

module _ (s : List ℕ) (t : Option ℕ) (whole_is : t ≡ or (decimal_number done s) (digit1 done s)) where
  pub unsigned_none : (q : Option ℕ) → t ≡ None → q ≡ None → q ≡ unsigned s
  unsigned_none q g h = h ∙ sym (unsigned_is s ∙ rw (← whole_is, g))

  module _ (n : ℕ) (g : t ≡ Some n) where
    pub whole_fits : n ≤ length s
    whole_fits =
        let i : taken (or (decimal_number done s) (digit1 done s)) ≤ length s = or_inside (decimal_number done s) (digit1 done s) (length s) (decimal_inside done done_inside s) (digits_inside s) in
        rw (← whole_is, g) at i

    module _ (o : Option ℕ) (u : ℕ) (h : o ≡ exponent (take (length s - n) (drop n s))) (i : u ≡ unwrap_or o 0) where
      pub unsigned_then : Some (n + u) ≡ unsigned s
      unsigned_then = sym (unsigned_is s ∙ rw (← whole_is, g, i, h, part_end s n))

      pub unsigned_fits : length s < 2 ^ 64 → Fits w64 (n + u)
      unsigned_fits b =
          let w = whole_fits in
          let l : unwrap_or (exponent (drop n s)) 0 ≤ length (drop n s) = go (exponent (drop n s)) (exponent_inside (drop n s)) in
          let m : u ≡ unwrap_or (exponent (drop n s)) 0 = i ∙ rw (h, part_end s n) in
          record { fits = omega (arith, length-drop n s) }
        where
          go : (x : Option ℕ) → taken x ≤ length (drop n s) → unwrap_or x 0 ≤ length (drop n s)
          go (Some y) z = z
          go None z = z

-- ---- a sign before one

minus_first : (s : List ℕ) → pointwise eqb (take 1 s) (45 ∷ []) ≡ true → unsigned s ≡ None
unfolding unsigned scientific_notation decimal_number digit1 count within
minus_first [] e = absurd (false≢true e)
minus_first (b ∷ s) e = rw (eqb-true b 45 ((and-eq-true_iff (eqb b 45) true).0 e).0)

module _ (s x : List ℕ) (t : Option ℕ) (e : pointwise eqb (take 1 s) (45 ∷ []) ≡ true) (f : x ≡ drop 1 s) (g : t ≡ unsigned x) where
  pub negative_fails : (q : Option ℕ) → t ≡ None → q ≡ None → q ≡ or (literal (bytes "-") unsigned s) (unsigned s)
  negative_fails q h i = i ∙ rw (← literal_fails unsigned (bytes "-") s 1 refl x t e f g None refl h, minus_first s e)

  pub negative_then : (m : ℕ) → t ≡ Some m → Some (1 + m) ≡ or (literal (bytes "-") unsigned s) (unsigned s)
  negative_then m h = rw (← literal_then unsigned (bytes "-") s 1 refl x t e f g m h)

pub positive : (s : List ℕ) (q : Option ℕ) → pointwise eqb (take 1 s) (45 ∷ []) ≡ false → q ≡ unsigned s → q ≡ or (literal (bytes "-") unsigned s) (unsigned s)
positive s q e f = f ∙ rw (← literal_none unsigned (bytes "-") s 1 refl None refl e)
