-- What a reader of a text may lean on:
--     well_formed_step       a well-formed text starts with a sequence of table 3-7, which is what `character_length` says,
--                            and what follows it is well formed
--     sequence_character     the character at the start of such a sequence has its length and all its continuation bytes
--     ascii_outside          no byte of a character after its first is ASCII, on any bytes
--     ill_formed_nowhere     a text has no first ill-formed sequence exactly where it is well formed
-- Assumes nothing.
use Prim.Native.Nat.{ℕ, zero, suc, ◌≤◌, ◌<◌}
use native.Mathlib.Nat.{le_trans, le_of_suc-le-suc, not-suc-le-zero}
use native.Mathlib.Omega.{arith}
use mathlib.Core.Path.{◌≡◌, refl, sym, ap, ◌∙◌}
use mathlib.Core.Logic.{◌↔◌}
use mathlib.Core.List.{List, [], ◌∷◌}
use mathlib.Core.Bool.{Bool, true, false, cond, ◌&&◌, false≢true, and-eq-true_iff}
use lib.ListN.{length, drop, get_or, length-drop}
use lib.Dec.{ltb, leb, eqb}
use borrow.Author.Tests.{le-ltb, le-leb, leb-true, ltb-false, eqb-true}
use Rattle.std.specs.declared.option.Option.TheVariants.{Some, None}
use Rattle.std.proofs.lemmas.Bool.Decides.{nat_tests}
use Rattle.characters.specs.Ranges.{within}
use Rattle.characters.specs.Utf8.{table_3_7, fits_row, sequence_in, sequence_length, well_formed_from, first_ill_formed, well_formed}
use Rattle.characters.specs.Character.{is_continuation, continuations, continued, character_length}
use Rattle.characters.proofs.Within.{within_low, within_high, within_is}
use Rattle.characters.proofs.Sequences.{Rows, sequence_inside, step, stop}

-- ---- first bytes and continuation bytes

pub continuations_grow : (a b : ℕ) → a ≤ b → continuations a ≤ continuations b
unfolding continuations
continuations_grow a b h = grind (arith, nat_tests)

-- every range of the row holds continuation bytes only
abbrev pub continuing : List (ℕ × ℕ) → Bool
continuing [] = true
continuing (range ∷ row) = (leb 0x80 range.0 && leb range.1 0xBF) && continuing row

starts_continued : (row : List (ℕ × ℕ)) (s : List ℕ) → continuing row ≡ true → fits_row row s ≡ true → continued (length row) s ≡ length row
unfolding fits_row continued is_continuation
starts_continued [] s c e = refl
starts_continued (range ∷ row) [] c e = absurd (false≢true e)
starts_continued (range ∷ row) (b ∷ s) c e =
    let c₂ = (and-eq-true_iff (leb 0x80 range.0 && leb range.1 0xBF) (continuing row)).0 c in
    let c₃ = (and-eq-true_iff (leb 0x80 range.0) (leb range.1 0xBF)).0 c₂.0 in
    let e₂ = (and-eq-true_iff (within range.0 range.1 b) (fits_row row s)).0 e in
    let low : 0x80 ≤ b = le_trans (leb-true 0x80 range.0 c₃.0) (within_low range.0 range.1 b e₂.0) in
    let high : b ≤ 0xBF = le_trans (within_high range.0 range.1 b e₂.0) (leb-true range.1 0xBF c₃.1) in
    rw (within_is 0x80 0xBF b low high) (ap suc (starts_continued row s c₂.1 e₂.1))

-- a row's first bytes call for as many continuation bytes as the row has
abbrev pub called : List (ℕ × ℕ) → Bool
called [] = false
called (range ∷ row) =
    (eqb (continuations range.0) (length row) && eqb (continuations range.1) (length row)) && continuing row

abbrev pub all_called : Rows → Bool
all_called [] = true
all_called (row ∷ rows) = called row && all_called rows

-- what a whole character has
pub record Whole (b : ℕ) (s : List ℕ) (n : ℕ) : Type 0 where
  pub calls : continuations b ≡ n
  pub follow : continued n s ≡ n

row_whole : (row : List (ℕ × ℕ)) (b : ℕ) (s : List ℕ) (n : ℕ) → called row ≡ true → fits_row row (b ∷ s) ≡ true → length row ≡ suc n → Whole b s n
unfolding fits_row
row_whole [] b s n c e l = absurd (false≢true c)
row_whole (range ∷ row) b s n c e l =
    let m : length row ≡ n = omega arith in
    let c₂ = (and-eq-true_iff (eqb (continuations range.0) (length row) && eqb (continuations range.1) (length row)) (continuing row)).0 c in
    let c₃ = (and-eq-true_iff (eqb (continuations range.0) (length row)) (eqb (continuations range.1) (length row))).0 c₂.0 in
    let low = eqb-true (continuations range.0) (length row) c₃.0 in
    let high = eqb-true (continuations range.1) (length row) c₃.1 in
    let e₂ = (and-eq-true_iff (within range.0 range.1 b) (fits_row row s)).0 e in
    let from = continuations_grow range.0 b (within_low range.0 range.1 b e₂.0) in
    let to = continuations_grow b range.1 (within_high range.0 range.1 b e₂.0) in
    record { calls = omega arith; follow = rw (← m) (starts_continued row s c₂.1 e₂.1) }

rows_whole : (rows : Rows) (b : ℕ) (s : List ℕ) (n : ℕ) → all_called rows ≡ true → sequence_in rows (b ∷ s) ≡ suc n → Whole b s n
unfolding sequence_in
rows_whole [] b s n c e = absurd (let z : ⊥ = omega arith in z)
rows_whole (row ∷ rows) b s n c e =
    let c₂ = (and-eq-true_iff (called row) (all_called rows)).0 c in
    go (fits_row row (b ∷ s)) refl c₂.0 (λ q. rows_whole rows b s n c₂.1 q)
  where
    go : (t : Bool) → fits_row row (b ∷ s) ≡ t → called row ≡ true → (sequence_in rows (b ∷ s) ≡ suc n → Whole b s n) → Whole b s n
    go true q c₁ rest = row_whole row b s n c₁ q (rw q at e)
    go false q c₁ rest = rest (rw q at e)

-- one test that the checker computes over the table
pub table_called : all_called table_3_7 ≡ true
unfolding table_3_7 continuations
table_called = refl

pub sequence_whole : (b : ℕ) (s : List ℕ) (n : ℕ) → sequence_length (b ∷ s) ≡ suc n → Whole b s n
unfolding sequence_length
sequence_whole b s n e = rows_whole table_3_7 b s n table_called e

pub sequence_character : (s : List ℕ) (n : ℕ) → sequence_length s ≡ suc n → character_length s ≡ suc n
unfolding character_length
sequence_character [] n e = absurd (let h = sequence_inside [] in let z : ⊥ = omega arith in z)
sequence_character (b ∷ s) n e = let w = sequence_whole b s n e in ap suc (rw w.calls w.follow)

-- ---- ASCII

continued_high : (n : ℕ) (s : List ℕ) (k : ℕ) → k < continued n s → 0x80 ≤ get_or s k 0
unfolding continued is_continuation
continued_high zero s k h = absurd (not-suc-le-zero h)
continued_high (suc n) [] k h = absurd (not-suc-le-zero h)
continued_high (suc n) (b ∷ s) k h = go (is_continuation b) refl k (λ j. continued_high n s j) h
  where
    high : is_continuation b ≡ true → 0x80 ≤ b
    high e = within_low 0x80 0xBF b e

    go : (t : Bool) → is_continuation b ≡ t → (k : ℕ) → ((j : ℕ) → j < continued n s → 0x80 ≤ get_or s j 0) → k < cond t (suc (continued n s)) 0 → 0x80 ≤ get_or (b ∷ s) k 0
    go true e zero f h = high e
    go true e (suc k) f h = f k (le_of_suc-le-suc h)
    go false e k f h = absurd (not-suc-le-zero h)

pub ascii_outside : (s : List ℕ) (k : ℕ) → 0 < k → k < character_length s → 0x80 ≤ get_or s k 0
unfolding character_length
ascii_outside [] k o h = absurd (not-suc-le-zero h)
ascii_outside (b ∷ s) zero o h = absurd (not-suc-le-zero o)
ascii_outside (b ∷ s) (suc k) o h = continued_high (continuations b) s k (le_of_suc-le-suc h)

-- ---- a well-formed text

pub record Step (s : List ℕ) : Type 0 where
  pub sequence : sequence_length s ≡ character_length s
  pub some : 0 < character_length s
  pub inside : character_length s ≤ length s
  pub rest : well_formed (drop (character_length s) s) ≡ true

pub well_formed_step : (b : ℕ) (t : List ℕ) → well_formed (b ∷ t) ≡ true → Step (b ∷ t)
unfolding well_formed
well_formed_step b t e = go (sequence_length (b ∷ t)) refl
  where
    all : length (b ∷ t) ≤ well_formed_from 0 (b ∷ t)
    all = leb-true (length (b ∷ t)) (well_formed_from 0 (b ∷ t)) e

    go : (n : ℕ) → sequence_length (b ∷ t) ≡ n → Step (b ∷ t)
    go zero q = absurd (let w = stop (b ∷ t) q in let z : ⊥ = omega (arith, all) in z)
    go (suc n) q =
        let c = sequence_character (b ∷ t) n q in
        let i = sequence_inside (b ∷ t) in
        let w = step (b ∷ t) n q in
        let l = length-drop (suc n) (b ∷ t) in
        record {
          sequence = q ∙ sym c;
          some = omega arith;
          inside = omega arith;
          rest = rw c (le-leb (length (drop (suc n) (b ∷ t))) (well_formed_from 0 (drop (suc n) (b ∷ t))) (omega (arith, all)));
        }

pub ill_formed_nowhere : (s : List ℕ) → (first_ill_formed s ≡ None) ↔ (well_formed s ≡ true)
unfolding first_ill_formed well_formed
ill_formed_nowhere s = (to, from)
  where
    to : cond (ltb (well_formed_from 0 s) (length s)) (Some (well_formed_from 0 s)) None ≡ None → leb (length s) (well_formed_from 0 s) ≡ true
    to e = go (ltb (well_formed_from 0 s) (length s)) refl
      where
        go : (t : Bool) → ltb (well_formed_from 0 s) (length s) ≡ t → leb (length s) (well_formed_from 0 s) ≡ true
        go true q = absurd (let n : Some (well_formed_from 0 s) ≡ None = rw q at e in let z : ◌≡◌ {A = ℕ} 0 1 = cc in let y : ⊥ = omega arith in y)
        go false q = le-leb (length s) (well_formed_from 0 s) (ltb-false (well_formed_from 0 s) (length s) q)

    from : leb (length s) (well_formed_from 0 s) ≡ true → cond (ltb (well_formed_from 0 s) (length s)) (Some (well_formed_from 0 s)) None ≡ None
    from e = rw (le-ltb (well_formed_from 0 s) (length s) (leb-true (length s) (well_formed_from 0 s) e))
