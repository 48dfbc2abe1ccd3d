-- What stands behind a cut may be replaced.
-- Assumes nothing.
use Prim.Native.Nat.{ℕ, zero, suc, ◌≤◌, ◌<◌, zero-le, suc-le-suc}
use native.Mathlib.Nat.{le_of_suc-le-suc, not-suc-le-zero}
use native.Mathlib.Omega.{arith}
use mathlib.Core.Path.{◌≡◌, refl, sym, ap, ◌∙◌}
use mathlib.Core.List.{List, [], ◌∷◌, ◌++◌}
use mathlib.Core.Bool.{Bool, true, false, ◌&&◌, false≢true, and-eq-true_iff}
use lib.ListN.{length, take, length-append}
use lib.Dec.{leb, eqb}
use borrow.Author.Tests.{le-leb, leb-true, eqb-true}
use Rattle.characters.specs.Ranges.{within}
use Rattle.characters.specs.Character.{is_continuation, continuations, continued}
use Rattle.characters.specs.Utf8.{table_3_7, fits_row, sequence_in, sequence_length, well_formed_from, well_formed}
use Rattle.characters.proofs.WellFormedSteps.{continuations_grow, continuing, called, all_called, table_called, sequence_whole}
use Rattle.characters.proofs.Sequences.{Rows, pass, step, stop, ascii_sequence, continuation_starts_none}

-- ---- a sequence is told by the bytes that its first byte calls for

starts_alike : (row : List (ℕ × ℕ)) (x x' : List ℕ) → take (length row) x ≡ take (length row) x' → fits_row row x ≡ fits_row row x'
unfolding fits_row
starts_alike [] x x' e = refl
starts_alike (range ∷ row) [] [] e = refl
starts_alike (range ∷ row) [] (c ∷ x') e = absurd (let z : ◌≡◌ {A = ℕ} 0 1 = cc in let y : ⊥ = omega arith in y)
starts_alike (range ∷ row) (c ∷ x) [] e = absurd (let z : ◌≡◌ {A = ℕ} 0 1 = cc in let y : ⊥ = omega arith in y)
starts_alike (range ∷ row) (c ∷ x) (d ∷ x') e =
    let i : c ≡ d = cc in
    let j : take (length row) x ≡ take (length row) x' = cc in
    rw (i, starts_alike row x x' j)

row_alike : (row : List (ℕ × ℕ)) (b : ℕ) (x x' : List ℕ) → called row ≡ true → take (continuations b) x ≡ take (continuations b) x' → fits_row row (b ∷ x) ≡ fits_row row (b ∷ x')
unfolding fits_row within
row_alike [] b x x' c e = absurd (false≢true c)
row_alike (range ∷ row) b x x' c e =
    let both = (and-eq-true_iff (eqb (continuations range.0) (length row) && eqb (continuations range.1) (length row)) (continuing row)).0 c in
    let ends = (and-eq-true_iff (eqb (continuations range.0) (length row)) (eqb (continuations range.1) (length row))).0 both.0 in
    go (leb range.0 b) (leb b range.1) refl refl ends.0 ends.1
  where
    go : (t u : Bool) → leb range.0 b ≡ t → leb b range.1 ≡ u → eqb (continuations range.0) (length row) ≡ true → eqb (continuations range.1) (length row) ≡ true → ((t && u) && fits_row row x) ≡ ((t && u) && fits_row row x')
    go true true f g l h =
        let low = eqb-true (continuations range.0) (length row) l in
        let high = eqb-true (continuations range.1) (length row) h in
        let from = continuations_grow range.0 b (leb-true range.0 b f) in
        let to = continuations_grow b range.1 (leb-true b range.1 g) in
        let k : continuations b ≡ length row = omega arith in
        starts_alike row x x' (rw k at e)
    go true false f g l h = refl
    go false u f g l h = refl

rows_alike : (rows : Rows) (b : ℕ) (x x' : List ℕ) → all_called rows ≡ true → take (continuations b) x ≡ take (continuations b) x' → sequence_in rows (b ∷ x) ≡ sequence_in rows (b ∷ x')
unfolding sequence_in
rows_alike [] b x x' c e = refl
rows_alike (row ∷ rows) b x x' c e =
    let k = (and-eq-true_iff (called row) (all_called rows)).0 c in
    rw (row_alike row b x x' k.0 e, rows_alike rows b x x' k.1 e)

sequence_alike : (b : ℕ) (x x' : List ℕ) → take (continuations b) x ≡ take (continuations b) x' → sequence_length (b ∷ x) ≡ sequence_length (b ∷ x')
unfolding sequence_length
sequence_alike b x x' e = rows_alike table_3_7 b x x' table_called e

-- ---- a well-formed text begins with no continuation byte

starts_formed : (c : ℕ) (y : List ℕ) → well_formed (c ∷ y) ≡ true → is_continuation c ≡ false
unfolding well_formed is_continuation within
starts_formed c y w = go (leb 0x80 c) (leb c 0xBF) refl refl
  where
    go : (t u : Bool) → leb 0x80 c ≡ t → leb c 0xBF ≡ u → (t && u) ≡ false
    go false u e f = refl
    go true false e f = refl
    go true true e f =
        let low = leb-true 0x80 c e in
        let high = leb-true c 0xBF f in
        let none = stop (c ∷ y) (continuation_starts_none c y low high) in
        let all = leb-true (length (c ∷ y)) (well_formed_from 0 (c ∷ y)) w in
        absurd (let z : ⊥ = omega (arith, all) in z)

-- ---- the replacing

take_front : (k : ℕ) (v y y' : List ℕ) → k ≤ length v → take k (v ++ y) ≡ take k (v ++ y')
take_front zero v y y' h = refl
take_front (suc k) [] y y' h = absurd (not-suc-le-zero h)
take_front (suc k) (b ∷ v) y y' h = ap (λ (l : List ℕ). b ∷ l) (take_front k v y y' (le_of_suc-le-suc h))

-- continuation bytes that a character calls for do not reach past a cut
reach : (k : ℕ) (v y : List ℕ) → continued k (v ++ y) ≡ k → well_formed y ≡ true → k ≤ length v
unfolding continued
reach zero v y e w = zero-le
reach (suc k) (b ∷ v) y e w = go (is_continuation b) refl (λ f. reach k v y f w)
  where
    go : (t : Bool) → is_continuation b ≡ t → (continued k (v ++ y) ≡ k → k ≤ length v) → suc k ≤ suc (length v)
    go true f ih = suc-le-suc (ih (let z : suc (continued k (v ++ y)) ≡ suc k = rw f at e in omega arith))
    go false f ih = absurd (let z : 0 ≡ suc k = rw f at e in let q : ⊥ = omega arith in q)
reach (suc k) [] [] e w = absurd (let q : ⊥ = omega (arith, e) in q)
reach (suc k) [] (c ∷ y) e w = absurd (let z : 0 ≡ suc k = rw (starts_formed c y w) at e in let q : ⊥ = omega arith in q)

replacing : (v : List ℕ) (passed : ℕ) (y y' : List ℕ) → passed ≤ length v → well_formed y ≡ true → well_formed y' ≡ true → length (v ++ y) ≤ well_formed_from passed (v ++ y) → length (v ++ y') ≤ well_formed_from passed (v ++ y')
unfolding well_formed_from well_formed
replacing [] zero y y' p w w' h = leb-true (length y') (well_formed_from 0 y') w'
replacing [] (suc passed) y y' p w w' h = absurd (not-suc-le-zero p)
replacing (b ∷ v) (suc passed) y y' p w w' h = suc-le-suc (replacing v passed y y' (le_of_suc-le-suc p) w w' (le_of_suc-le-suc h))
replacing (b ∷ v) zero y y' p w w' h = go (sequence_length (b ∷ (v ++ y))) refl (λ k. replacing v k y y') h
  where
    go : (k : ℕ) → sequence_length (b ∷ (v ++ y)) ≡ k
        → ((j : ℕ) → j ≤ length v → well_formed y ≡ true → well_formed y' ≡ true → length (v ++ y) ≤ well_formed_from j (v ++ y) → length (v ++ y') ≤ well_formed_from j (v ++ y'))
        → length (b ∷ (v ++ y)) ≤ well_formed_from 0 (b ∷ (v ++ y)) → length (b ∷ (v ++ y')) ≤ well_formed_from 0 (b ∷ (v ++ y'))
    go zero q ih h = absurd (let s = stop (b ∷ (v ++ y)) q in let z : ⊥ = omega (arith, h) in z)
    go (suc k) q ih h =
        let c = sequence_whole b (v ++ y) k q in
        let in_v : k ≤ length v = reach k v y c.follow w in
        let q' : sequence_length (b ∷ (v ++ y')) ≡ suc k = sym (sequence_alike b (v ++ y) (v ++ y') (rw c.calls (take_front k v y y' in_v))) ∙ q in
        let i = length-append v y in
        let i' = length-append v y' in
        let s = step (b ∷ (v ++ y)) k q in
        let s' = step (b ∷ (v ++ y')) k q' in
        let a = pass k (v ++ y) (omega (arith, i)) in
        let a' = pass k (v ++ y') (omega (arith, i')) in
        let r = ih k in_v w w' (omega (arith, h, s, a)) in
        omega (arith, r, s', a')

pub replaced : (v y y' : List ℕ) → well_formed (v ++ y) ≡ true → well_formed y ≡ true → well_formed y' ≡ true → well_formed (v ++ y') ≡ true
unfolding well_formed
replaced v y y' h w w' =
    le-leb (length (v ++ y')) (well_formed_from 0 (v ++ y')) (replacing v 0 y y' zero-le w w' (leb-true (length (v ++ y)) (well_formed_from 0 (v ++ y)) h))

-- an ASCII byte and a well-formed text
pub ascii_before : (b : ℕ) (y : List ℕ) → b < 0x80 → well_formed y ≡ true → well_formed (b ∷ y) ≡ true
unfolding well_formed
ascii_before b y h w =
    let q : sequence_length (b ∷ y) ≡ 1 = ascii_sequence b y h in
    let s = step (b ∷ y) 0 q in
    let all = leb-true (length y) (well_formed_from 0 y) w in
    le-leb (length (b ∷ y)) (well_formed_from 0 (b ∷ y)) (omega (arith, s, all))
