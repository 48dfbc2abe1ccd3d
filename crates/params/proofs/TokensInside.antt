-- What stands for a token lies inside its source.
-- Assumes nothing.
use Prim.Native.Nat.{ℕ, ◌+◌, ◌≤◌, ◌<◌}
use native.Mathlib.Nat.{le_refl}
use native.Mathlib.Omega.{arith}
use mathlib.Core.Path.{◌≡◌, refl}
use mathlib.Core.Bool.{Bool, true, false}
use mathlib.Core.List.{List}
use borrow.Author.Tests.{ltb-true}
use lib.Dec.{ltb}
use lib.ListN.{length, drop, length-drop}
use lib.Seq.{length-take-le}
use Rattle.tokenizer.specs.declared.Token.{Token}
use Rattle.params.specs.declared.Part.{Part}
use Rattle.params.specs.declared.Part.TheVariants as P
use Rattle.params.specs.Sheet.{count_of, place_of, is_sheet}
use Rattle.params.specs.Inner.Inside.{PartInside}
use Rattle.params.specs.Get.{taken, value_part, value_or, get}
use Rattle.params.specs.Filled.{is_placeholder, stands_for, part_bytes, part_length}
use Rattle.params.proofs.EntriesInside.{at_end_lem}

module _ (s sheet : List ℕ) (good : is_sheet sheet ≡ true) (t : Token) (inside : t.start + t.len ≤ length s) where
  value_inside : (n : ℕ) → PartInside s sheet (value_or sheet n t)
  unfolding value_or value_part
  value_inside n = go (ltb n (count_of sheet)) refl
    where
      go : (b : Bool) → ltb n (count_of sheet) ≡ b → PartInside s sheet (value_or sheet n t)
      go true e =
          let h : n < count_of sheet = ltb-true n (count_of sheet) e in
          let k = at_end_lem sheet good (place_of sheet n) n refl (count_of sheet) h (le_refl (count_of sheet)) in
          rw e k
      go false e = rw e inside

  pub stands_inside : (index : ℕ) → PartInside s sheet (stands_for s sheet index t)
  unfolding stands_for get
  stands_inside index = go (is_placeholder t) refl
    where
      go : (b : Bool) → is_placeholder t ≡ b → PartInside s sheet (stands_for s sheet index t)
      go true e = rw e (value_inside (taken s sheet index t.key))
      go false e = rw e inside

module _ (s sheet : List ℕ) where
  pub part_is_long : (p : Part) → PartInside s sheet p → length (part_bytes s sheet p) ≡ part_length p
  part_is_long (P.Statement start len) h = length-take-le len (drop start s) (rw length-drop (omega arith))
  part_is_long (P.Sheet start len) h = length-take-le len (drop start sheet) (rw length-drop (omega arith))
