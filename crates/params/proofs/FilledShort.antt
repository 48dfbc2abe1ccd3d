-- A filled text is no longer than the statement's length times that of the longest value: with so much room one pass is enough.
-- Assumes nothing.
use Prim.Native.Nat.{ℕ, ◌+◌, ◌*◌, ◌≤◌}
use native.Mathlib.Nat.{le_trans, mul-one, one-mul, mul-le-mul, mul-le-mul_left, mul-le-mul_right}
use native.Mathlib.Omega.{arith}
use mathlib.Core.Path.{◌≡◌, refl}
use mathlib.Core.Bool.{Bool, true, false}
use mathlib.Core.List.{List}
use borrow.Author.Tests.{ltb-true}
use lib.Dec.{ltb}
use lib.ListN.{length}
use mir.Syntax.{w64}
use mir.Val.{Fits}
use Rattle.calls.specs.declared.Settings.{Settings}
use Rattle.tokenizer.specs.declared.Token.{Token}
use Rattle.tokenizer.proofs.Walks.{text_by_bytes}
use Rattle.params.specs.Sheet.{count_of, is_sheet}
use Rattle.params.specs.Get.{taken, value_part, value_or, get}
use Rattle.params.specs.Filled.{is_placeholder, stands_for, part_bytes, part_length, filled}
use Rattle.params.specs.Inner.Longest.{longest_value, most_filled}
use Rattle.params.proofs.FillWalk.{fill_walk, stands_long}
use Rattle.params.proofs.LongestValues.{longest_some, longest_small, value_short}

module _ (s sheet : List ℕ) where
  -- ---- what stands for a token

  -- a value, or the token itself
  value_or_short : (n : ℕ) (t : Token) → 1 ≤ t.len → part_length (value_or sheet n t) ≤ t.len * longest_value sheet
  unfolding value_or value_part
  value_or_short n t h = go (ltb n (count_of sheet)) refl
    where
      go : (b : Bool) → ltb n (count_of sheet) ≡ b → part_length (value_or sheet n t) ≤ t.len * longest_value sheet
      go true e = rw e (le_trans (value_short sheet n (ltb-true n (count_of sheet) e)) (rw one-mul at (mul-le-mul_right (longest_value sheet) h)))
      go false e = rw e (rw mul-one at (mul-le-mul_left t.len (longest_some sheet)))

  stands_short : (index : ℕ) (t : Token) → 1 ≤ t.len → part_length (stands_for s sheet index t) ≤ t.len * longest_value sheet
  unfolding stands_for get
  stands_short index t h = go (is_placeholder t) refl
    where
      go : (b : Bool) → is_placeholder t ≡ b → part_length (stands_for s sheet index t) ≤ t.len * longest_value sheet
      go true e = rw e (value_or_short (taken s sheet index t.key) t h)
      go false e = rw e (rw mul-one at (mul-le-mul_left t.len (longest_some sheet)))

  -- ---- the whole text

  module _ (good : is_sheet sheet ≡ true) where
    pub filled_short : (settings : Settings) → length (filled settings s sheet) ≤ most_filled s sheet
    unfolding filled most_filled
    filled_short settings = text_by_bytes (fill_walk s sheet) settings s (longest_value sheet) each 0
      where
        each : (index : ℕ) (t : Token) → 1 ≤ t.len → t.start + t.len ≤ length s → length (part_bytes s sheet (stands_for s sheet index t)) ≤ t.len * longest_value sheet
        each index t h k = rw (← stands_long s sheet index t (part_length (stands_for s sheet index t)) good k refl) (stands_short index t h)

    pub most_fits : (n : ℕ) → length s ≤ 65536 → n ≡ longest_value sheet → Fits w64 (length s * n)
    most_fits n h e =
        let m : n ≤ 65536 = rw e (longest_small sheet good) in
        let k : length s * n ≤ 65536 * 65536 = mul-le-mul h m in
        record { fits = omega arith }

  pub most_is : (n : ℕ) → n ≡ longest_value sheet → length s * n ≡ most_filled s sheet
  unfolding most_filled
  most_is n e = rw e
