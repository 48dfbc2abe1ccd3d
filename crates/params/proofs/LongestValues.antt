-- The longest value of a sheet.
-- Assumes nothing.
use Prim.Native.Nat.{ℕ, zero, suc, ◌+◌, ◌≤◌, ◌<◌, max}
use native.Mathlib.Nat.{le_refl}
use native.Mathlib.Omega.{arith}
use mathlib.Core.Path.{◌≡◌, refl}
use mathlib.Core.Bool.{Bool, true, false}
use mathlib.Core.List.{List}
use borrow.Author.Tests.{ltb-true, ltb-false}
use lib.Dec.{ltb}
use Rattle.std.specs.Prelude.{fold}
use Rattle.params.specs.declared.Part.{Part}
use Rattle.params.specs.Sheet.{count_of, lengths_at, place_of, is_sheet}
use Rattle.params.specs.Get.{value_part}
use Rattle.params.specs.Filled.{part_length}
use Rattle.params.specs.Inner.Entries.{entry, entries_from, entries}
use Rattle.params.specs.Inner.Longest.{longest_of, longest_value}
use Rattle.params.proofs.EntriesInside.{sheet_short, at_end_lem}

-- the longer of a length and of an entry's value
abbrev pub longer : ℕ → List ℕ × Part → ℕ
longer n x = max n (part_length x.1)

module _ (sheet : List ℕ) where
  abbrev value_length : ℕ → ℕ
  value_length n = (lengths_at sheet (place_of sheet n)).value

  -- ---- of the first n entries

  some_longest : (n : ℕ) → 1 ≤ longest_of sheet n
  unfolding longest_of
  some_longest zero = le_refl 1
  some_longest (suc n) = let h = some_longest n in omega (arith, h)

  longest_above : (n i : ℕ) → i < n → value_length i ≤ longest_of sheet n
  unfolding longest_of
  longest_above zero i h = absurd (let z : ⊥ = omega arith in z)
  longest_above (suc n) i h = go (ltb i n) refl (longest_above n i)
    where
      go : (t : Bool) → ltb i n ≡ t → (i < n → value_length i ≤ longest_of sheet n) → value_length i ≤ longest_of sheet (suc n)
      go true e ih = let k = ih (ltb-true i n e) in omega (arith, k)
      go false e ih = let k : i ≡ n = let l : n ≤ i = ltb-false i n e in omega arith in rw k (omega arith)

  pub longest_some : 1 ≤ longest_value sheet
  unfolding longest_value
  longest_some = some_longest (count_of sheet)

  pub value_short : (n : ℕ) → n < count_of sheet → value_length n ≤ longest_value sheet
  unfolding longest_value
  value_short n h = longest_above (count_of sheet) n h

  module _ (good : is_sheet sheet ≡ true) where
    value_small : (n : ℕ) → n < count_of sheet → value_length n ≤ 65536
    value_small n h =
        let k = at_end_lem sheet good (place_of sheet n) n refl (count_of sheet) h (le_refl (count_of sheet)) in
        omega (arith, k, sheet_short sheet good)

    first_small : (n : ℕ) → n ≤ count_of sheet → longest_of sheet n ≤ 65536
    unfolding longest_of
    first_small zero h = omega arith
    first_small (suc n) h = let k = first_small n (omega arith) in let l = value_small n (omega arith) in omega (arith, k, l)

    pub longest_small : longest_value sheet ≤ 65536
    unfolding longest_value
    longest_small = first_small (count_of sheet) (le_refl (count_of sheet))

  -- ---- over the entries as a list

  longest_from : (left n : ℕ) → fold longer (longest_of sheet n) (entries_from sheet n left) ≡ longest_of sheet (n + left)
  unfolding entries_from entry value_part longest_of
  longest_from zero n = let z : n + 0 ≡ n = omega arith in rw z
  longest_from (suc left) n = let z : n + suc left ≡ suc n + left = omega arith in rw z (longest_from left (suc n))

  pub longest_listed : fold longer 1 (entries sheet) ≡ longest_value sheet
  unfolding entries longest_value longest_of
  longest_listed = let z : 0 + count_of sheet ≡ count_of sheet = omega arith in rw z at (longest_from (count_of sheet) 0)
