-- The places of a well-formed sheet's entries: what is read there lies inside, and which entry a walk finds.
-- Assumes nothing.
use Prim.Native.Nat.{ℕ, suc, ◌+◌, ◌*◌, ◌≤◌, ◌<◌, zero-le}
use native.Mathlib.Numerals.{add-one}
use native.Mathlib.Omega.{arith}
use mathlib.Core.Path.{◌≡◌, refl, sym, ap, ◌∙◌}
use mathlib.Core.Bool.{Bool, true, false, ◌&&◌, false≢true}
use mathlib.Core.List.{List}
use borrow.Author.Tests.{leb-true, eqb-true}
use lib.Dec.{leb, eqb}
use lib.ListN.{length}
use mir.Syntax.{w64}
use mir.Val.{Fits}
use Rattle.params.specs.declared.Lengths.{Lengths}
use Rattle.params.specs.declared.Place.{Place}
use Rattle.params.specs.Sheet.{count_of, width, lengths_at, past, place_of, fills_exactly, is_sheet_length, is_kind_and_count, is_sheet, bodies_are_utf8}
use Rattle.params.proofs.SheetEntries.{either_width, place_entry, body_up_to, bodies_start, lengths_before}

left_true : (a b : Bool) → (a && b) ≡ true → a ≡ true
left_true true b e = refl
left_true false b e = absurd (false≢true e)

right_true : (a b : Bool) → (a && b) ≡ true → b ≡ true
right_true true b e = e
right_true false b e = absurd (false≢true e)

module _ (sheet : List ℕ) where
  module _ (good : is_sheet sheet ≡ true) where
    length_good : is_sheet_length (length sheet) ≡ true
    unfolding is_sheet
    length_good = left_true (is_sheet_length (length sheet)) _ good

    rest_good : (is_kind_and_count sheet && (fills_exactly sheet && bodies_are_utf8 sheet (count_of sheet))) ≡ true
    unfolding is_sheet
    rest_good = right_true (is_sheet_length (length sheet)) _ good

    pub sheet_short : length sheet ≤ 65536
    unfolding is_sheet_length
    sheet_short = leb-true (length sheet) 65536 (right_true (leb 3 (length sheet)) _ length_good)

    pub sheet_fills : (place_of sheet (count_of sheet)).body ≡ length sheet
    unfolding fills_exactly
    sheet_fills =
        eqb-true _ _ (left_true (eqb (place_of sheet (count_of sheet)).body (length sheet)) _ (right_true (is_kind_and_count sheet) _ rest_good))

    pub start_inside : (place_of sheet 0).body ≤ length sheet
    start_inside = rw (← sheet_fills) (body_up_to sheet 0 (count_of sheet) zero-le)

    pub count_small : count_of sheet ≤ 65536
    count_small =
        let h : 3 + count_of sheet * width sheet ≤ length sheet = rw (← bodies_start sheet) start_inside in
        let k : count_of sheet ≤ 3 + count_of sheet * width sheet = either_width sheet (λ w. count_of sheet ≤ 3 + count_of sheet * w) (omega arith) (omega arith) in
        omega (arith, h, k, sheet_short)

    -- ---- the lengths and the bodies of an entry, at its place, lie inside

    module _ (p : Place) (i : ℕ) (e : p ≡ place_of sheet i) (n : ℕ) (h : i < n) (k : n ≤ count_of sheet) where
      pub at_entry : p.entry ≤ 65536
      at_entry = let f : p.entry ≡ i = ap (λ (q : Place). q.entry) e ∙ place_entry sheet i in omega (arith, count_small)

      pub at_lengths : p.lengths + width sheet ≤ length sheet
      at_lengths =
          let m : (place_of sheet i).lengths + width sheet ≤ (place_of sheet 0).body = lengths_before sheet i (omega arith) in
          let l : p.lengths ≡ (place_of sheet i).lengths = ap (λ (q : Place). q.lengths) e in
          omega (arith, m, l, start_inside)

      pub at_end_lem : p.body + (lengths_at sheet p).name + (lengths_at sheet p).value ≤ length sheet
      unfolding place_of past
      at_end_lem =
          let m : (place_of sheet (suc i)).body ≤ (place_of sheet (count_of sheet)).body = body_up_to sheet (suc i) (count_of sheet) (omega arith) in
          let b : (past sheet p).body ≡ (place_of sheet (suc i)).body = ap (λ (q : Place). (past sheet q).body) e in
          omega (arith, m, b, sheet_fills)

      pub at_body : p.body ≤ 65536
      at_body = omega (arith, at_end_lem, sheet_short)

      module _ (l : Lengths) (f : l ≡ lengths_at sheet p) where
        pub at_name : p.body + l.name ≤ length sheet
        at_name = rw f (omega (arith, at_end_lem))

        pub name_fits : Fits w64 (p.body + l.name)
        name_fits = record { fits = omega (arith, at_name, sheet_short) }

  pub entry_of : (p : Place) (n : ℕ) → p ≡ place_of sheet n → p.entry ≡ n
  entry_of p n e = ap (λ (q : Place). q.entry) e ∙ place_entry sheet n

  pub stands : (p : Place) (n : ℕ) → p ≡ place_of sheet n → p ≡ place_of sheet p.entry
  stands p n e = e ∙ ap (place_of sheet) (sym (entry_of p n e))

  -- the next place
  pub next_stands : (p : Place) (i : ℕ) (q : Place) → p ≡ place_of sheet i → q ≡ past sheet p → q ≡ place_of sheet (i + 1)
  unfolding place_of
  next_stands p i q e f = f ∙ ap (past sheet) e ∙ ap (place_of sheet) (sym (add-one i))

  module _ (p q : Place) (e : p ≡ place_of sheet p.entry) (f : q ≡ past sheet p) where
    pub past_stands : q ≡ place_of sheet q.entry
    past_stands = stands q (p.entry + 1) (next_stands p p.entry q e f)

    pub past_within : (n : ℕ) → n ≡ count_of sheet → p.entry < n → q.entry ≤ count_of sheet
    past_within n g h = let k : q.entry ≡ p.entry + 1 = entry_of q (p.entry + 1) (next_stands p p.entry q e f) in omega arith
