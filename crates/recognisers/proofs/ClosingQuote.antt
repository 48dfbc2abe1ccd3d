-- The closing quote: the loop of `take_till_escaping`.
-- Assumes nothing.
use Rattle.std.proofs.Common.{Option, Some, None}
use Prim.Native.Nat.{ℕ, suc, ◌+◌, ◌^◌, ◌≤◌, ◌<◌, zero-le, suc-le-suc}
use native.Mathlib.Nat.{add-zero}
use native.Mathlib.Numerals.{add-one, add-two}
use native.Mathlib.Omega.{arith}
use mathlib.Core.Path.{◌≡◌, sym, ap, ◌∙◌}
use mathlib.Core.List.{List, [], ◌∷◌}
use mathlib.Core.Bool.{Bool, true, false, cond, not, ◌&&◌, false≢true, and_comm, and-eq-true_iff}
use lib.ListN.{length, drop, get_or, drop_of_length-le, length-drop}
use lib.Seq.{drop-cons}
use lib.Dec.{eqb}
use mir.Syntax.{w64}
use mir.Val.{Fits}
use borrow.Author.Tests.{eq-eqb, ne_eqb}
use Rattle.recognisers.specs.Taking.{Taker, taken, more, contains, starts_with}
use Rattle.recognisers.specs.Strings.{take_till_escaping, closed_by}
use Rattle.recognisers.proofs.Spelling.{more_more}
use Rattle.recognisers.proofs.TakenInside.{Inside}
use Rattle.recognisers.proofs.CommentLoops.{PassedAt, passed_more}

-- the byte that stands at the start, so something does
pub starts_some : (d : ℕ) (s : List ℕ) → starts_with d s ≡ true → 0 < length s
unfolding starts_with
starts_some d [] e = absurd (false≢true e)
starts_some d (c ∷ s) e = suc-le-suc zero-le

module _ (d : ℕ) (esc : List ℕ) where
  abbrev till : Taker
  till = take_till_escaping d esc false

  module _ (s : List ℕ) (i : ℕ) (r : Bool) (at : PassedAt till s i) (h : i < length s) (c : r ≡ (starts_with d (drop (i + 1) s) && contains esc (get_or s i 0))) where
    pair : r ≡ (contains esc (get_or s i 0) && starts_with d (drop (suc i) s))
    pair = c ∙ rw (add-one i) (and_comm (starts_with d (drop (suc i) s)) (contains esc (get_or s i 0)))

    -- an escape and the byte behind it
    pub quote_two : r ≡ true → PassedAt till s (i + 2)
    unfolding take_till_escaping
    quote_two t =
        let behind : starts_with d (drop (suc i) s) ≡ true = ((and-eq-true_iff (contains esc (get_or s i 0)) (starts_with d (drop (suc i) s))).0 (sym pair ∙ t)).1 in
        let o = starts_some d (drop (suc i) s) behind in
        let l : suc i < length s = omega (arith, length-drop (suc i) s) in
        let one_on : till (drop i s) ≡ more 1 (take_till_escaping d esc true (drop (suc i) s)) = rw (drop-cons s i 0 h, ← pair, t) in
        let two_on : take_till_escaping d esc true (drop (suc i) s) ≡ more 1 (till (drop (suc (suc i)) s)) = rw (drop-cons s (suc i) 0 l) in
        record {
          inside = omega arith;
          same = at.same ∙ ap (more i) (one_on ∙ ap (more 1) two_on) ∙ ap (more i) (more_more 1 1 (till (drop (suc (suc i)) s)))
              ∙ more_more i 2 (till (drop (suc (suc i)) s))
              ∙ rw (← add-two i);
        }

    pub quote_here : r ≡ false → get_or s i 0 ≡ d → Some i ≡ till s
    unfolding take_till_escaping
    quote_here t e = sym (at.same ∙ rw (drop-cons s i 0 h, ← pair, t, eq-eqb (get_or s i 0) d e) (ap Some (add-zero i)))

    pub quote_one : r ≡ false → (get_or s i 0 ≡ d → ⊥) → PassedAt till s (i + 1)
    unfolding take_till_escaping
    quote_one t n = passed_more till s i at h (rw (drop-cons s i 0 h, ← pair, t, ne_eqb (get_or s i 0) d n))

  pub quote_none : (s : List ℕ) (i : ℕ) → PassedAt till s i → length s ≤ i → None ≡ till s
  unfolding take_till_escaping
  quote_none s i at h = sym (at.same ∙ rw (drop_of_length-le s h))

  -- ---- what it takes lies inside

  closed_inside : (behind : Bool) (s : List ℕ) → taken (more 1 (take_till_escaping d esc behind s)) ≤ length s
  unfolding take_till_escaping
  closed_inside behind [] = zero-le
  closed_inside true (b ∷ s) = go (take_till_escaping d esc false s) (closed_inside false s)
    where
      go : (o : Option ℕ) → taken (more 1 o) ≤ length s → taken (more 1 (more 1 o)) ≤ suc (length s)
      go (Some n) h = omega arith
      go None h = zero-le
  closed_inside false (b ∷ s) =
      go (not (contains esc b && starts_with d s) && eqb b d) (take_till_escaping d esc (contains esc b && starts_with d s) s) (closed_inside (contains esc b && starts_with d s) s)
    where
      go : (t : Bool) (o : Option ℕ) → taken (more 1 o) ≤ length s → taken (more 1 (cond t (Some 0) (more 1 o))) ≤ suc (length s)
      go true o h = omega arith
      go false (Some n) h = omega arith
      go false None h = zero-le

  pub quoted_inside : Inside (closed_by d esc)
  unfolding closed_by
  quoted_inside s = closed_inside false s

  module _ (s : List ℕ) (t : Option ℕ) (e : t ≡ till s) where
    pub unclosed_is : (q : Option ℕ) → t ≡ None → q ≡ None → q ≡ closed_by d esc s
    unfolding closed_by
    unclosed_is q f g = g ∙ rw (← e, f)

    module _ (m : ℕ) (f : t ≡ Some m) where
      pub closed_then : Some (1 + m) ≡ closed_by d esc s
      unfolding closed_by
      closed_then = rw (← e, f)

      pub closed_small : length s < 2 ^ 64 → Fits w64 (1 + m)
      closed_small h =
          let k : taken (closed_by d esc s) ≤ length s = quoted_inside s in
          let l : 1 + m ≤ length s = rw (← closed_then) at k in
          record { fits = omega arith }

  -- behind an opener of one byte
  pub behind_none : (s : List ℕ) (q : Option ℕ) → length s ≡ 0 → q ≡ None → q ≡ more 1 (closed_by d esc (drop 1 s))
  unfolding closed_by take_till_escaping
  behind_none s q e f = let h : length s ≤ 1 = omega arith in f ∙ rw (drop_of_length-le s h)
