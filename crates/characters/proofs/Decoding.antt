-- The loop that reads a character gathers its continuation bytes.
-- Assumes nothing.
use Prim.Native.Nat.{ℕ, suc, ◌+◌, ◌-◌, ◌*◌, ◌%◌, ◌^◌, ◌≤◌, ◌<◌, zero-le, suc-le-suc}
use native.Mathlib.Nat.{le_trans, not-suc-le-zero, add-zero, zero-add, add-suc, suc-add, add_comm, pow-suc, pow-le-pow_right}
use native.Mathlib.Numerals.{add-one}
use native.Mathlib.Omega.{arith}
use mathlib.Core.Path.{◌≡◌, refl, sym, ◌∙◌}
use mathlib.Core.List.{List, [], ◌∷◌, ◌++◌}
use mathlib.Core.Bool.{Bool, true, false}
use lib.ListN.{length, drop, take, get_or, drop_of_length-le, length-drop}
use lib.Seq.{drop-cons, take-suc, get_or-drop}
use mir.Syntax.{w8, w32}
use mir.Val.{Fits}
use borrow.Author.Tests.{eq-eqb, ne_eqb}
use Rattle.std.proofs.lemmas.Bool.Decides.{nat_tests}
use Rattle.characters.specs.declared.Character.{Character}
use Rattle.characters.specs.Character.{is_continuation, continuations, continued, first_bits, with_bits, code_point, character_length, character}

with_bits_last : (value : ℕ) (l : List ℕ) (b : ℕ) → with_bits value (l ++ (b ∷ [])) ≡ with_bits value l * 64 + b % 64
unfolding with_bits
with_bits_last value [] b = refl
with_bits_last value (a ∷ l) b = with_bits_last (value * 64 + a % 64) l b

first_small : (b : ℕ) → b < 256 → first_bits b < 128
unfolding first_bits
first_small b h = grind (arith, nat_tests)

at_most_three : (b : ℕ) → continuations b ≤ 3
unfolding continuations
at_most_three b = grind (arith, nat_tests)

short : (s : List ℕ) (i : ℕ) → i + 1 < length s → i < length (drop 1 s)
short s i h = rw length-drop (omega arith)

character_is : (s : List ℕ) (n : ℕ) (v : ℕ) → code_point s ≡ v → character_length s ≡ n → ◌≡◌ {A = Character} (record { code_point = v; len = n }) (character s)
unfolding character
character_is s n v p q = rw (p, q)

-- fewer continuation bytes follow than the first byte calls for
broken : (s : List ℕ) (wanted i : ℕ) → wanted ≡ continuations (get_or s 0 0) → 0 < length s → continued wanted (drop 1 s) ≡ i → i < wanted → ◌≡◌ {A = Character} (record { code_point = 0; len = i + 1 }) (character s)
unfolding code_point character_length
broken [] wanted i e o g h = absurd (not-suc-le-zero o)
broken (b ∷ t) wanted i e o g h =
    character_is (b ∷ t) (i + 1) 0
    (rw (← e, g, ne_eqb i wanted (λ q. omega arith)))
    (rw (← e, g, add-one i))

-- all of them follow
whole : (s : List ℕ) (wanted value : ℕ) → wanted ≡ continuations (get_or s 0 0) → 0 < length s → continued wanted (drop 1 s) ≡ wanted
    → value ≡ with_bits (first_bits (get_or s 0 0)) (take wanted (drop 1 s)) → ◌≡◌ {A = Character} (record { code_point = value; len = wanted + 1 }) (character s)
unfolding code_point character_length
whole [] wanted value e o g v = absurd (not-suc-le-zero o)
whole (b ∷ t) wanted value e o g v =
    character_is (b ∷ t) (wanted + 1) value
    (rw (← e, g, eq-eqb wanted wanted refl) (sym v))
    (rw (← e, g, add-one wanted))

-- ---- the loop

-- the first i continuation bytes after the first byte are read
pub record DecodeAt (s : List ℕ) (wanted value i : ℕ) : Type 0 where
  pub calls : wanted ≡ continuations (get_or s 0 0)
  pub inside : i ≤ wanted
  pub there : i < length s
  pub small : value < 128 * 64 ^ i
  pub got : continued wanted (drop 1 s) ≡ i + continued (wanted - i) (drop (suc i) s)
  pub value_is : value ≡ with_bits (first_bits (get_or s 0 0)) (take i (drop 1 s))

module _ (s : List ℕ) (wanted : ℕ) where
  pub decode_start : (value : ℕ) → ((k : ℕ) → Fits w8 (get_or s k 0)) → 0 < length s → wanted ≡ continuations (get_or s 0 0) → value ≡ first_bits (get_or s 0 0) → DecodeAt s wanted value 0
  unfolding with_bits
  decode_start value f h e v =
      record {
        calls = e;
        inside = zero-le;
        there = h;
        small = rw v (let b = first_small (get_or s 0 0) (f 0).fits in omega arith);
        got = let w : wanted - 0 ≡ wanted = omega arith in rw w (sym (zero-add (continued wanted (drop 1 s))));
        value_is = v;
      }

  module _ (value i : ℕ) (at : DecodeAt s wanted value i) (h : i < wanted) where
    few : 64 ^ i ≤ 4096
    few =
        let m = at_most_three (get_or s 0 0) in
        let c = at.calls in
        pow-le-pow_right {n = 64} (omega arith) {i = i} {j = 2} (omega arith)

    pub decode_shift : Fits w32 (value * 64)
    decode_shift = record { fits = omega (arith, few, at.small) }

    pub decode_add : (x b : ℕ) → x ≡ b % 64 → Fits w32 (value * 64 + x)
    decode_add x b q = record { fits = omega (arith, few, at.small) }

    more_wanted : wanted - i ≡ suc (wanted - (i + 1))
    more_wanted = omega arith

    -- the next byte is there and continues the character
    module _ (l : i + 1 < length s) where
      next : drop (suc i) s ≡ get_or s (i + 1) 0 ∷ drop (suc (i + 1)) s
      next = rw (add-one i) (drop-cons s (suc i) 0 (rw (add-one i) at l))

      module _ (r : Bool) (e : r ≡ is_continuation (get_or s (i + 1) 0)) where
        pub decode_more : (x : ℕ) → x ≡ get_or s (i + 1) 0 % 64 → r ≡ true → DecodeAt s wanted (value * 64 + x) (i + 1)
        unfolding continued
        decode_more x q t =
            record {
              calls = at.calls;
              inside = omega arith;
              there = l;
              small = rw (add-one i, pow-suc 64 i, q) (let p = at.small in omega arith);
              got = at.got ∙ rw (more_wanted, next, ← e, t) (add-suc i _ ∙ sym (rw (add-one i) (suc-add i _)));
              value_is = rw (add-one i, take-suc (drop 1 s) i 0 (short s i l), with_bits_last, get_or-drop 1 s i 0, q, at.value_is, add_comm 1 i, add-one i);
            }

        pub decode_stop : r ≡ false → ◌≡◌ {A = Character} (record { code_point = 0; len = i + 1 }) (character s)
        unfolding continued
        decode_stop t =
            broken s wanted i at.calls (le_trans (suc-le-suc zero-le) at.there)
            (at.got ∙ rw (more_wanted, next, ← e, t) (add-zero i))
            h

    pub decode_cut : length s ≤ i + 1 → ◌≡◌ {A = Character} (record { code_point = 0; len = i + 1 }) (character s)
    unfolding continued
    decode_cut l =
        let none : drop (suc i) s ≡ [] = drop_of_length-le s (rw add-one at l) in
        broken s wanted i at.calls (le_trans (suc-le-suc zero-le) at.there) (at.got ∙ rw (more_wanted, none) (add-zero i)) h

  pub decode_end : (value i : ℕ) → DecodeAt s wanted value i → wanted ≤ i → ◌≡◌ {A = Character} (record { code_point = value; len = wanted + 1 }) (character s)
  unfolding continued
  decode_end value i at h =
      let m = at.inside in
      let q : i ≡ wanted = omega arith in
      let none : wanted - i ≡ 0 = omega arith in
      whole s wanted value at.calls (le_trans (suc-le-suc zero-le) at.there) (at.got ∙ rw none (rw (add-zero i) q)) (rw q at at.value_is)

pub decode_none : (s : List ℕ) → length s ≡ 0 → ◌≡◌ {A = Character} (record { code_point = 0; len = 0 }) (character s)
unfolding character code_point character_length
decode_none [] h = refl
decode_none (b ∷ s) h = absurd (let z : ⊥ = omega arith in z)

pub decode_past : (s : List ℕ) (at : ℕ) → length s ≤ at → ◌≡◌ {A = Character} (record { code_point = 0; len = 0 }) (character (drop at s))
decode_past s at h = rw (drop_of_length-le s h) (decode_none [] refl)
