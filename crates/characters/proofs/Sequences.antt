-- The sequence of table 3-7 at the start of some bytes, and how far such sequences fill them.
-- Assumes nothing.
use Prim.Native.Nat.{ℕ, zero, suc, ◌+◌, ◌≤◌, ◌<◌, zero-le, suc-le-suc}
use native.Mathlib.Nat.{le_of_suc-le-suc, not-suc-le-zero, zero-add, suc-add}
use native.Mathlib.Omega.{arith}
use mathlib.Core.Path.{◌≡◌, refl, sym, ap, ◌∙◌}
use mathlib.Core.List.{List, [], ◌∷◌}
use mathlib.Core.Bool.{Bool, true, false, cond, false≢true, and-eq-true_iff}
use lib.ListN.{length, drop}
use Rattle.std.proofs.lemmas.Bool.Decides.{nat_tests}
use Rattle.characters.specs.Ranges.{within}
use Rattle.characters.specs.Utf8.{table_3_7, fits_row, sequence_in, sequence_length, well_formed_from}

abbrev pub Rows : Type 0
Rows = List (List (ℕ × ℕ))

-- ---- some first bytes

pub ascii_sequence : (b : ℕ) (s : List ℕ) → b < 0x80 → sequence_length (b ∷ s) ≡ 1
unfolding sequence_length sequence_in table_3_7 fits_row within
ascii_sequence b s h = grind (arith, nat_tests)

pub continuation_starts_none : (b : ℕ) (s : List ℕ) → 0x80 ≤ b → b ≤ 0xBF → sequence_length (b ∷ s) ≡ 0
unfolding sequence_length sequence_in table_3_7 fits_row within
continuation_starts_none b s l h = grind (arith, nat_tests)

-- ---- the sequence lies inside

starts_inside : (row : List (ℕ × ℕ)) (s : List ℕ) → fits_row row s ≡ true → length row ≤ length s
unfolding fits_row
starts_inside [] s e = zero-le
starts_inside (range ∷ row) [] e = absurd (false≢true e)
starts_inside (range ∷ row) (b ∷ s) e =
    suc-le-suc (starts_inside row s ((and-eq-true_iff (within range.0 range.1 b) (fits_row row s)).0 e).1)

in_inside : (rows : Rows) (s : List ℕ) → sequence_in rows s ≤ length s
unfolding sequence_in
in_inside [] s = zero-le
in_inside (row ∷ rows) s = go (fits_row row s) refl (in_inside rows s)
  where
    go : (t : Bool) → fits_row row s ≡ t → sequence_in rows s ≤ length s → cond (fits_row row s) (length row) (sequence_in rows s) ≤ length s
    go true e h = rw e (starts_inside row s e)
    go false e h = rw e h

pub sequence_inside : (s : List ℕ) → sequence_length s ≤ length s
unfolding sequence_length
sequence_inside s = in_inside table_3_7 s

-- ---- a step

pub pass : (n : ℕ) (s : List ℕ) → n ≤ length s → well_formed_from n s ≡ n + well_formed_from 0 (drop n s)
unfolding well_formed_from
pass zero s h = sym (zero-add (well_formed_from 0 s))
pass (suc n) [] h = absurd (not-suc-le-zero h)
pass (suc n) (b ∷ s) h = ap suc (pass n s (le_of_suc-le-suc h)) ∙ sym (suc-add n (well_formed_from 0 (drop n s)))

pub step : (s : List ℕ) (n : ℕ) → sequence_length s ≡ suc n → well_formed_from 0 s ≡ suc n + well_formed_from 0 (drop (suc n) s)
unfolding well_formed_from
step [] n e = absurd (let h = sequence_inside [] in let z : ⊥ = omega arith in z)
step (b ∷ s) n e =
    let h = sequence_inside (b ∷ s) in
    let k : n ≤ length s = omega arith in
    rw (e, well_formed_from) (ap suc (pass n s k) ∙ sym (suc-add n (well_formed_from 0 (drop n s))))

pub stop : (s : List ℕ) → sequence_length s ≡ 0 → well_formed_from 0 s ≡ 0
unfolding well_formed_from
stop [] e = refl
stop (b ∷ s) e = rw (e, well_formed_from)
