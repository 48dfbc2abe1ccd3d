-- With which bytes beyond ASCII a whitespace character can begin, in any bytes: C2 and E1 to E3, and C0, E0 and F0, which begin
-- none in a well-formed text.
-- Assumes nothing.
use Prim.Native.Nat.{ℕ, suc, ◌+◌, ◌-◌, ◌*◌, ◌%◌, ◌≤◌, ◌<◌}
use native.Mathlib.Nat.{mod-lt}
use native.Mathlib.Omega.{arith}
use mathlib.Core.Path.{◌≡◌, refl}
use mathlib.Core.List.{List, [], ◌∷◌}
use mathlib.Core.Bool.{Bool, true, false, cond, ◌&&◌, and-eq-true_iff}
use lib.Dec.{leb, ltb, eqb}
use borrow.Author.Tests.{leb-true, ltb-true, ltb-false, lt-ltb, le-ltb}
use Rattle.characters.specs.Ranges.{in_ranges}
use Rattle.characters.specs.WhiteSpace.{white_space}
use Rattle.characters.specs.Classes.{is_whitespace}
use Rattle.characters.specs.Character.{is_continuation, continuations, continued, first_bits, with_bits, code_point}
use Rattle.characters.proofs.ClassesApart.{outside, zero_not_white}
use Rattle.characters.proofs.Within.{within_is, above_not}

-- ---- numbers that are no whitespace

-- no range ends above n
abbrev all_up_to : ℕ → List (ℕ × ℕ) → Bool
all_up_to n [] = true
all_up_to n (range ∷ ranges) = leb range.1 n && all_up_to n ranges

past_all : (n c : ℕ) (ranges : List (ℕ × ℕ)) → all_up_to n ranges ≡ true → n < c → in_ranges ranges c ≡ false
unfolding in_ranges
past_all n c [] a h = refl
past_all n c (range ∷ ranges) a h =
    let both = (and-eq-true_iff (leb range.1 n) (all_up_to n ranges)).0 a in
    rw (above_not range.0 range.1 c (let k = leb-true range.1 n both.0 in omega arith)) (past_all n c ranges both.1 h)

high_not_white : (c : ℕ) → 0x3000 < c → is_whitespace c ≡ false
unfolding is_whitespace white_space
high_not_white c h = past_all 0x3000 c white_space refl h

two_not_white : (c : ℕ) → 0xC0 ≤ c → c ≤ 0x7FF → is_whitespace c ≡ false
unfolding is_whitespace white_space
two_not_white c h l = outside (0xC0, 0x7FF) white_space c refl (within_is 0xC0 0x7FF c h l)

one_not_white : (c : ℕ) → 0x40 ≤ c → c ≤ 0x7F → is_whitespace c ≡ false
unfolding is_whitespace white_space
one_not_white c h l = outside (0x40, 0x7F) white_space c refl (within_is 0x40 0x7F c h l)

-- ---- by how many bytes a first byte calls for

module _ (b : ℕ) where
  -- none: a continuation byte
  pub white_none : (s : List ℕ) → 0x80 ≤ b → b < 0xC0 → is_whitespace (code_point (b ∷ s)) ≡ false
  unfolding code_point continuations continued first_bits with_bits
  white_none s h l = rw (lt-ltb b 0xC0 l, le-ltb b 0x80 h) zero_not_white

  -- one
  module _ (h : 0xC0 ≤ b) (l : b < 0xE0) (n : b ≡ 0xC0 → ⊥) (m : b ≡ 0xC2 → ⊥) where
    two_value : (x : ℕ) → is_whitespace ((b - 0xC0) * 64 + x % 64) ≡ false
    two_value x = go (ltb b 0xC2) refl
      where
        r : x % 64 < 64
        r = mod-lt x (omega arith)

        go : (t : Bool) → ltb b 0xC2 ≡ t → is_whitespace ((b - 0xC0) * 64 + x % 64) ≡ false
        go true q =
            let k : b < 0xC2 = ltb-true b 0xC2 q in
            let o : b ≡ 0xC1 = omega (arith, h, n) in
            one_not_white _ (omega (arith, r, o)) (omega (arith, r, o))
        go false q =
            let k : 0xC2 ≤ b = ltb-false b 0xC2 q in
            let o : 0xC3 ≤ b = omega (arith, m) in
            two_not_white _ (omega (arith, r, o)) (omega (arith, r, o, l))

    pub white_two : (s : List ℕ) → is_whitespace (code_point (b ∷ s)) ≡ false
    unfolding code_point continuations continued first_bits with_bits
    white_two [] = rw (le-ltb b 0xC0 h, lt-ltb b 0xE0 l) zero_not_white
    white_two (x ∷ s) = rw (le-ltb b 0xC0 h, lt-ltb b 0xE0 l, le-ltb b 0x80 (omega arith)) (go (is_continuation x))
      where
        go : (t : Bool) → is_whitespace (cond (eqb (cond t 1 0) 1) ((b - 0xC0) * 64 + x % 64) 0) ≡ false
        go true = two_value x
        go false = zero_not_white

  -- two
  module _ (h : 0xE3 < b) (l : b < 0xF0) where
    pub white_three : (s : List ℕ) → is_whitespace (code_point (b ∷ s)) ≡ false
    unfolding code_point continuations continued first_bits with_bits
    white_three [] = rw (le-ltb b 0xC0 (omega arith), le-ltb b 0xE0 (omega arith), lt-ltb b 0xF0 l) zero_not_white
    white_three (x ∷ []) = rw (le-ltb b 0xC0 (omega arith), le-ltb b 0xE0 (omega arith), lt-ltb b 0xF0 l) (go (is_continuation x) _)
      where
        go : (t : Bool) (value : ℕ) → is_whitespace (cond (eqb (cond t 1 0) 2) value 0) ≡ false
        go true value = zero_not_white
        go false value = zero_not_white
    white_three (x ∷ y ∷ s) = rw (le-ltb b 0xC0 (omega arith), le-ltb b 0xE0 (omega arith), lt-ltb b 0xF0 l, le-ltb b 0x80 (omega arith)) (go (is_continuation x) (is_continuation y))
      where
        go : (t u : Bool) → is_whitespace (cond (eqb (cond t (suc (cond u 1 0)) 0) 2) (((b - 0xE0) * 64 + x % 64) * 64 + y % 64) 0) ≡ false
        go true true = high_not_white _ (omega (arith, h))
        go true false = zero_not_white
        go false u = zero_not_white

  -- three
  module _ (h : 0xF0 < b) where
    pub white_four : (s : List ℕ) → is_whitespace (code_point (b ∷ s)) ≡ false
    unfolding code_point continuations continued first_bits with_bits
    white_four [] = rw (le-ltb b 0xC0 (omega arith), le-ltb b 0xE0 (omega arith), le-ltb b 0xF0 (omega arith)) zero_not_white
    white_four (x ∷ []) = rw (le-ltb b 0xC0 (omega arith), le-ltb b 0xE0 (omega arith), le-ltb b 0xF0 (omega arith)) (go (is_continuation x) _)
      where
        go : (t : Bool) (value : ℕ) → is_whitespace (cond (eqb (cond t 1 0) 3) value 0) ≡ false
        go true value = zero_not_white
        go false value = zero_not_white
    white_four (x ∷ y ∷ []) = rw (le-ltb b 0xC0 (omega arith), le-ltb b 0xE0 (omega arith), le-ltb b 0xF0 (omega arith)) (go (is_continuation x) (is_continuation y) _)
      where
        go : (t u : Bool) (value : ℕ) → is_whitespace (cond (eqb (cond t (suc (cond u 1 0)) 0) 3) value 0) ≡ false
        go true true value = zero_not_white
        go true false value = zero_not_white
        go false u value = zero_not_white
    white_four (x ∷ y ∷ z ∷ s) = rw (le-ltb b 0xC0 (omega arith), le-ltb b 0xE0 (omega arith), le-ltb b 0xF0 (omega arith), le-ltb b 0x80 (omega arith)) (go (is_continuation x) (is_continuation y) (is_continuation z))
      where
        go : (t u v : Bool) → is_whitespace (cond (eqb (cond t (suc (cond u (suc (cond v 1 0)) 0)) 0) 3) ((((b - 0xF0) * 64 + x % 64) * 64 + y % 64) * 64 + z % 64) 0) ≡ false
        go true true true = high_not_white _ (omega (arith, h))
        go true true false = zero_not_white
        go true false v = zero_not_white
        go false u v = zero_not_white
