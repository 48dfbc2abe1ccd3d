-- Where a well-formed text may be cut: before a byte that is no continuation byte, and behind a character.
-- Assumes nothing.
use Prim.Native.Nat.{ℕ, zero, suc, ◌+◌, ◌≤◌, ◌<◌, suc-le-suc}
use native.Mathlib.Nat.{le_of_suc-le-suc, not-suc-le-zero}
use native.Mathlib.Omega.{arith}
use mathlib.Core.Path.{◌≡◌, refl, sym, ap, ◌∙◌}
use mathlib.Core.List.{List, [], ◌∷◌}
use mathlib.Core.Bool.{Bool, true, false, cond, false≢true}
use lib.ListN.{length, drop, get_or, drop_of_length-le}
use lib.Seq.{drop-cons}
use borrow.Author.Tests.{le-leb, leb-true, lt-ltb}
use Rattle.characters.specs.Character.{is_continuation, continuations, continued, character_length, code_point}
use Rattle.characters.specs.Runs.{run}
use Rattle.characters.specs.Utf8.{sequence_length, well_formed_from, well_formed}
use Rattle.characters.proofs.Within.{below_not}
use Rattle.characters.proofs.WellFormedSteps.{sequence_whole, well_formed_step}
use Rattle.characters.proofs.Sequences.{pass, step, stop, sequence_inside}

pub end_formed : well_formed [] ≡ true
unfolding well_formed well_formed_from
end_formed = refl

-- the first `passed` bytes are continuation bytes of a character, and well-formed sequences follow up to the end
cut : (passed : ℕ) (s : List ℕ) (n : ℕ) → length s ≤ well_formed_from passed s → continued passed s ≡ passed → n < length s → is_continuation (get_or s n 0) ≡ false → well_formed (drop n s) ≡ true
unfolding well_formed_from continued
cut passed [] n f c h e = absurd (not-suc-le-zero h)
cut (suc passed) (b ∷ s) n f c h e = go (is_continuation b) refl n (λ m. cut passed s m (le_of_suc-le-suc f)) h e
  where
    go : (t : Bool) → is_continuation b ≡ t → (n : ℕ) → ((m : ℕ) → continued passed s ≡ passed → m < length s → is_continuation (get_or s m 0) ≡ false → well_formed (drop m s) ≡ true)
        → n < suc (length s) → is_continuation (get_or (b ∷ s) n 0) ≡ false → well_formed (drop n (b ∷ s)) ≡ true
    go true q zero rest h e = absurd (false≢true (sym e ∙ q))
    go true q (suc m) rest h e = rest m (let k : suc (continued passed s) ≡ suc passed = rw q at c in omega arith) (le_of_suc-le-suc h) e
    go false q n rest h e = absurd (let k : 0 ≡ suc passed = rw q at c in let z : ⊥ = omega arith in z)
cut zero (b ∷ s) zero f c h e = unfold well_formed in le-leb (length (b ∷ s)) (well_formed_from 0 (b ∷ s)) f
cut zero (b ∷ s) (suc n) f c h e = go (sequence_length (b ∷ s)) refl (λ k. cut k s n) f
  where
    go : (k : ℕ) → sequence_length (b ∷ s) ≡ k → ((j : ℕ) → length s ≤ well_formed_from j s → continued j s ≡ j → n < length s → is_continuation (get_or s n 0) ≡ false → well_formed (drop n s) ≡ true)
        → length (b ∷ s) ≤ well_formed_from 0 (b ∷ s) → well_formed (drop n s) ≡ true
    go zero q rest f = absurd (let w = stop (b ∷ s) q in let z : ⊥ = omega (arith, f) in z)
    go (suc k) q rest f =
        let i = sequence_inside (b ∷ s) in
        let w : well_formed_from 0 (b ∷ s) ≡ suc k + well_formed_from 0 (drop k s) = step (b ∷ s) k q in
        let p : well_formed_from k s ≡ k + well_formed_from 0 (drop k s) = pass k s (omega arith) in
        rest k (omega (arith, f)) (sequence_whole b s k q).follow (le_of_suc-le-suc h) e

pub cut_before : (s : List ℕ) (n : ℕ) → well_formed s ≡ true → n < length s → is_continuation (get_or s n 0) ≡ false → well_formed (drop n s) ≡ true
unfolding well_formed continued
cut_before s n w h e = cut 0 s n (leb-true (length s) (well_formed_from 0 s) w) refl h e

-- an ASCII byte is no continuation byte, and a character of its own
ascii_starts : (b : ℕ) → b < 0x80 → is_continuation b ≡ false
unfolding is_continuation
ascii_starts b h = below_not 0x80 0xBF b h

pub ascii_next : (b : ℕ) (s : List ℕ) → b < 0x80 → well_formed (b ∷ s) ≡ true → well_formed s ≡ true
unfolding character_length continuations continued
ascii_next b s h w =
    let r : well_formed (drop (character_length (b ∷ s)) (b ∷ s)) ≡ true = (well_formed_step b s w).rest in
    rw (lt-ltb b 0xC0 (omega arith)) at r

-- ---- where a scan stops: at the end, before an ASCII byte or behind one

pub data Stop (s : List ℕ) (n : ℕ) : Type 0 where
  at_end_lem : n ≡ length s → Stop s n
  before : n < length s → get_or s n 0 < 0x80 → Stop s n
  behind : (m : ℕ) → n ≡ suc m → m < length s → get_or s m 0 < 0x80 → Stop s n

pub stop_cut : (s : List ℕ) (n : ℕ) → Stop s n → well_formed s ≡ true → well_formed (drop n s) ≡ true
stop_cut s n (at_end_lem e) w = rw (drop_of_length-le s {i = n} (omega arith)) end_formed
stop_cut s n (before h l) w = cut_before s n w h (ascii_starts (get_or s n 0) l)
stop_cut s n (behind m e h l) w =
    let c : well_formed (drop m s) ≡ true = cut_before s m w h (ascii_starts (get_or s m 0) l) in
    rw e (ascii_next (get_or s m 0) (drop (suc m) s) l (rw (drop-cons s m 0 h) at c))

pub stop_later : (b : ℕ) (s : List ℕ) (n : ℕ) → Stop s n → Stop (b ∷ s) (1 + n)
stop_later b s n h = rw one_more (go h)
  where
    one_more : 1 + n ≡ suc n
    one_more = omega arith

    go : Stop s n → Stop (b ∷ s) (suc n)
    go (at_end_lem e) = at_end_lem (ap suc e)
    go (before h l) = before (suc-le-suc h) l
    go (behind m e h l) = behind (suc m) (ap suc e) (suc-le-suc h) l

-- ---- a run of characters

pub run_cut : (class : ℕ → Bool) (passed : ℕ) (s : List ℕ) → well_formed (drop passed s) ≡ true → well_formed (drop (run class passed s) s) ≡ true
unfolding run
run_cut class passed [] w = end_formed
run_cut class (suc passed) (b ∷ s) w = run_cut class passed s w
run_cut class zero (b ∷ s) w = go (class (code_point (b ∷ s))) (λ v. run_cut class (continued (continuations b) s) s v)
  where
    go : (t : Bool) → (well_formed (drop (continued (continuations b) s) s) ≡ true → well_formed (drop (run class (continued (continuations b) s) s) s) ≡ true)
        → well_formed (drop (cond t (suc (run class (continued (continuations b) s) s)) 0) (b ∷ s)) ≡ true
    go true rest = rest (unfold character_length in (well_formed_step b s w).rest)
    go false rest = w
