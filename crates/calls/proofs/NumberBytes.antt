-- The bytes of a number, as the code stores and reads them.
-- Assumes nothing.
use Rattle.std.proofs.Common.{◌≡◌, ℕ, suc, ◌+◌, ◌-◌, ◌/◌, ◌%◌, ◌^◌, ◌≤◌, ◌<◌, List, arith, get_or, length, slice_range, replicate, take, drop, ◌++◌, zero, ◌∷◌, refl, ap, ap₂, ◌∙◌}
use Rattle.std.proofs.Math.Nat.{div-div-eq-div-mul, pow-suc}
use native.Mathlib.Nat.{add-zero, zero-add}
use Rattle.std.proofs.lemmas.List.{get_or_append_left, get_or-append_right, get_or-take, get_or-drop}
use Rattle.std.proofs.lemmas.List.Edits.{sets, sets-eq}
use Rattle.std.specs.Int.{w64, to_le_bytes, from_le_bytes, byte_at, bytes_low_first}
use Rattle.calls.specs.LittleEndian.{low_bytes, number_at}
use Rattle.calls.proofs.Storing.{back, part_length_lem}

byte_is : (i n : ℕ) → byte_at i n ≡ n / 256 ^ i % 256
byte_is zero n = let e : n / 1 ≡ n = omega arith in rw e
byte_is (suc i) n = refl

low_from : (i k all n : ℕ) → k ≤ all → take k (bytes_low_first i all n) ≡ low_bytes k (n / 256 ^ i)
unfolding low_bytes
low_from i zero all n h = refl
low_from i (suc k) zero n h = absurd (let z : ⊥ = omega (arith, h) in z)
low_from i (suc k) (suc all) n h =
    let next : n / 256 ^ suc i ≡ n / 256 ^ i / 256 = rw (pow-suc, div-div-eq-div-mul) in
    ap₂ ◌∷◌ (byte_is i n) (low_from (suc i) k all n (omega (arith, h)) ∙ ap (low_bytes k) next)

-- the lowest of all eight bytes
pub low_bytes_lem : (k n : ℕ) → k ≤ 8 → take k (to_le_bytes w64 n) ≡ low_bytes k n
low_bytes_lem k n h = let e : n / 1 ≡ n = omega arith in low_from 0 k 8 n h ∙ ap (low_bytes k) e

-- ---- a number is told by its bytes, and zeros behind them add nothing

number_same : (k : ℕ) (s t : List ℕ) (a b : ℕ) → ((j : ℕ) → j < k → get_or s (a + j) 0 ≡ get_or t (b + j) 0) → number_at k s a ≡ number_at k t b
unfolding number_at
number_same zero s t a b f = refl
number_same (suc k) s t a b f =
    let p : a + 0 ≡ a = omega arith in
    let q : b + 0 ≡ b = omega arith in
    let first : get_or s a 0 ≡ get_or t b 0 = rw (p, q) at (f 0 (omega arith)) in
    let rest : number_at k s (a + 1) ≡ number_at k t (b + 1) =
    number_same k s t (a + 1) (b + 1) (λ j h.
    let p : a + 1 + j ≡ a + (j + 1) = omega arith in
    let q : b + 1 + j ≡ b + (j + 1) = omega arith in
    rw (p, q) (f (j + 1) (omega (arith, h)))) in
    rw (first, rest)

number_more : (k all : ℕ) (s : List ℕ) (a : ℕ) → k ≤ all → ((j : ℕ) → k ≤ j → get_or s (a + j) 0 ≡ 0) → number_at all s a ≡ number_at k s a
unfolding number_at
number_more zero zero s a h f = refl
number_more (suc k) zero s a h f = absurd (let z : ⊥ = omega (arith, h) in z)
number_more zero (suc all) s a h f =
    let first : get_or s a 0 ≡ 0 = rw (add-zero) at (f 0 (omega arith)) in
    let rest : number_at all s (a + 1) ≡ 0 =
    number_more zero all s (a + 1) (omega arith) (λ j l. let p : a + 1 + j ≡ a + (j + 1) = omega arith in rw p (f (j + 1) (omega arith))) in
    rw (first, rest)
number_more (suc k) (suc all) s a h f =
    let rest : number_at all s (a + 1) ≡ number_at k s (a + 1) =
    number_more k all s (a + 1) (omega (arith, h)) (λ j l. let p : a + 1 + j ≡ a + (j + 1) = omega arith in rw p (f (j + 1) (omega (arith, l)))) in
    rw rest

pub number_below : (k : ℕ) (s : List ℕ) (a : ℕ) → ((i : ℕ) → get_or s i 0 < 256) → number_at k s a < 256 ^ k
unfolding number_at
number_below zero s a f = omega arith
number_below (suc k) s a f = let b = f a in let rest = number_below k s (a + 1) f in rw pow-suc (omega (arith, b, rest))

all_is : (s : List ℕ) → from_le_bytes w64 s ≡ number_at 8 s 0
unfolding number_at
all_is s = omega arith

number_lem : (k : ℕ) (bytes s : List ℕ) (at : ℕ) → k ≤ 8 → ((j : ℕ) → j < k → get_or s j 0 ≡ get_or bytes (at + j) 0) → ((j : ℕ) → k ≤ j → get_or s j 0 ≡ 0)
    → from_le_bytes w64 s ≡ number_at k bytes at
number_lem k bytes s at h f b =
    all_is s
    ∙ number_more k 8 s 0 h (λ j l. rw zero-add (b j l))
    ∙ number_same k s bytes 0 at (λ j l. rw zero-add (f j l))

abbrev zeros : ℕ → List ℕ
zeros count = replicate count 0

zeros_zero : (count i : ℕ) → get_or (zeros count) i 0 ≡ 0
zeros_zero zero i = refl
zeros_zero (suc count) zero = refl
zeros_zero (suc count) (suc i) = zeros_zero count i

module _ (k at : ℕ) (bytes : List ℕ) (h : k ≤ 8) (inside : at + k ≤ length bytes) where
  pub filled : (s : List ℕ) → s ≡ sets (zeros 8) 0 (slice_range bytes at (at + k)) → from_le_bytes w64 s ≡ number_at k bytes at
  filled s e =
      let part = take k (drop at bytes) in
      let long : length part ≡ k = part_length_lem at k bytes inside in
      let is : s ≡ part ++ drop k (zeros 8) = e ∙ rw (back at k) (sets-eq part (zeros 8) 0 (rw long (omega (arith, h))) ∙ rw (long, zero-add)) in
      number_lem k bytes s at h
      (λ j l. rw is (get_or_append_left part (drop k (zeros 8)) 0 j (omega (arith, long, l)) ∙ get_or-take k (drop at bytes) j 0 l ∙ get_or-drop at bytes j 0))
      (λ j l. rw is (get_or-append_right part (drop k (zeros 8)) k j 0 long l ∙ get_or-drop k (zeros 8) (j - k) 0 ∙ zeros_zero 8 (k + (j - k))))
