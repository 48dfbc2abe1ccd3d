-- `Params::get`: the value that an index takes, and the counter one value further.
-- Assumes nothing.
use Prim.Native.Nat.{ℕ, ◌+◌, ◌-◌, ◌^◌, ◌≤◌, ◌<◌, min}
use native.Mathlib.Nat.{le_refl}
use native.Mathlib.Omega.{arith}
use mathlib.Core.Path.{◌≡◌, refl, sym, ap, ◌∙◌}
use mathlib.Core.Bool.{Bool, true, false, cond}
use mathlib.Core.List.{List, [], ◌∷◌}
use borrow.Author.Tests.{le-ltb, ltb-true, ltb-false}
use lib.Dec.{ltb, eqb}
use lib.ListN.{drop}
use lib.Seq.{drop-drop}
use Rattle.std.specs.Prelude.{Option, Some, None, MatchOption}
use Rattle.recognisers.specs.declared.Key.{Key}
use Rattle.recognisers.specs.declared.Key.TheVariants as K
use Rattle.params.specs.declared.Part.{Part}
use Rattle.params.specs.declared.QueryParams.TheVariants as Q
use Rattle.params.specs.declared.entries.Entry.{Entry}
use Rattle.params.specs.Sheet.{count_of, is_sheet}
use Rattle.params.specs.Keys.{has_name}
use Rattle.params.specs.Get.{by_index, taken_from, largest}
use Rattle.params.specs.Inner.Entries.{entries, seen, numbered, index_told}
use Rattle.params.proofs.EntriesInside.{count_small}
use Rattle.params.proofs.EntryLists.{none_behind}

module _ (sheet : List ℕ) where
  -- ---- the value of an entry

  pub none_numbered : (n : ℕ) → count_of sheet ≤ n → None ≡ numbered sheet n
  unfolding numbered
  none_numbered n h = let k : ltb n (count_of sheet) ≡ false = le-ltb n (count_of sheet) h in rw k

  -- ---- with an indexed sheet, where the key tells an index

  module _ (s : List ℕ) (index : ℕ) (key : Option Key) (b : Bool) (e : b ≡ has_name s key) (r : Option Part) (f : b ≡ false) where
    pub index_kept : is_sheet sheet ≡ true → (n : ℕ) → Some n ≡ index_told key → r ≡ numbered sheet n → r ≡ numbered sheet (taken_from Q.Indexed s sheet index key)
    index_kept good n g h = h ∙ told key g ∙ rw (← e, f)
      where
        one : (m : ℕ) → numbered sheet (cond (eqb m 0) largest (m - 1)) ≡ numbered sheet (cond (eqb m 0) (count_of sheet) (m - 1))
        one m = either (eqb m 0)
          where
            either : (t : Bool) → numbered sheet (cond t largest (m - 1)) ≡ numbered sheet (cond t (count_of sheet) (m - 1))
            either true = sym (none_numbered largest (let k = count_small sheet good in omega (arith, k))) ∙ none_numbered (count_of sheet) (le_refl (count_of sheet))
            either false = refl

        told : (k : Option Key) → Some n ≡ index_told k → numbered sheet n ≡ numbered sheet (by_index sheet index k)
        told None g = let z : ◌≡◌ {A = ℕ} 0 1 = cc in absurd (let w : ⊥ = omega arith in w)
        told (Some (K.Named start len)) g = let z : ◌≡◌ {A = ℕ} 0 1 = cc in absurd (let w : ⊥ = omega arith in w)
        told (Some (K.Escaped start len)) g = let z : ◌≡◌ {A = ℕ} 0 1 = cc in absurd (let w : ⊥ = omega arith in w)
        told (Some (K.ZeroIndexed m)) g = let z : n ≡ m = cc in rw z
        told (Some (K.OneIndexed m)) g = let z : n ≡ cond (eqb m 0) largest (m - 1) = cc in rw z (one m)

  -- ---- one value further

  module _ (index m : ℕ) (h : index < 2 ^ 64) (e : m ≡ min (index + 1) (2 ^ 64 - 1)) where
    module _ (good : is_sheet sheet ≡ true) (r : Option Entry) (left others : List (List ℕ × Part)) (at : left ≡ drop index (entries sheet))
        (gave : MatchOption r ((left ≡ []) × (others ≡ [])) (λ x. left ≡ seen x ∷ others)) where
      after : drop 1 left ≡ others
      after = go r gave
        where
          go : (r : Option Entry) → MatchOption r ((left ≡ []) × (others ≡ [])) (λ x. left ≡ seen x ∷ others) → drop 1 left ≡ others
          go None (f, g) = rw (f, g)
          go (Some x) f = rw f

      pub ahead_past : others ≡ drop m (entries sheet)
      ahead_past = go (ltb index largest) refl
        where
          go : (b : Bool) → ltb index largest ≡ b → others ≡ drop m (entries sheet)
          go true f =
              let k : index < largest = ltb-true index largest f in
              let n : m ≡ index + 1 = omega arith in
              rw n (sym after ∙ ap (drop 1) at ∙ drop-drop 1 index (entries sheet))
          go false f =
              let k : largest ≤ index = ltb-false index largest f in
              let c = count_small sheet good in
              let none : left ≡ [] = at ∙ none_behind sheet index (omega (arith, c)) in
              sym after ∙ rw none (sym (none_behind sheet m (omega (arith, c))))
