-- The entries of a sheet, one behind the other.
-- Assumes nothing.
use Prim.Native.Nat.{ℕ, zero, suc, ◌+◌, ◌-◌, ◌*◌, ◌≤◌, ◌<◌, zero-le}
use native.Mathlib.Nat.{le_refl, le_trans}
use native.Mathlib.Numerals.{add-one}
use native.Mathlib.Omega.{arith}
use mathlib.Core.Path.{◌≡◌, refl, sym, ap, ◌∙◌}
use mathlib.Core.Bool.{Bool, true, false, cond, ◌&&◌, false≢true}
use mathlib.Core.List.{List}
use borrow.Author.Tests.{ne_eqb, leb-true, leb-false}
use lib.Dec.{leb, eqb}
use lib.ListN.{length}
use Rattle.characters.specs.Utf8.{well_formed}
use Rattle.params.specs.declared.Lengths.{Lengths}
use Rattle.params.specs.declared.Place.{Place}
use Rattle.params.specs.Inner.Bodies.{are_bodies}
use Rattle.params.specs.Sheet.{count_of, is_named, width, lengths_at, past, place_of, name_at, value_at, name_of, value_of, bodies_are_utf8, fills_exactly}

module _ (sheet : List ℕ) where
  pub either_width : (P : ℕ → Type 0) → P 4 → P 2 → P (width sheet)
  unfolding width
  either_width P p q = go (is_named sheet)
    where
      go : (b : Bool) → P (cond b 4 2)
      go true = p
      go false = q

  pub place_entry : (n : ℕ) → (place_of sheet n).entry ≡ n
  unfolding place_of past
  place_entry zero = refl
  place_entry (suc n) = rw (place_entry n, add-one)

  pub place_lengths : (n : ℕ) → (place_of sheet n).lengths ≡ 3 + n * width sheet
  unfolding place_of past
  place_lengths zero = omega arith
  place_lengths (suc n) = rw (place_lengths n) (either_width (λ w. 3 + n * w + w ≡ 3 + suc n * w) (omega arith) (omega arith))

  -- the bodies go on
  pub body_next : (n : ℕ) → (place_of sheet n).body ≤ (place_of sheet (suc n)).body
  unfolding place_of past
  body_next n = omega arith

  pub body_on : (n k : ℕ) → (place_of sheet n).body ≤ (place_of sheet (n + k)).body
  body_on n zero = let e : n + 0 ≡ n = omega arith in rw e (le_refl (place_of sheet n).body)
  body_on n (suc k) = let e : n + suc k ≡ suc (n + k) = omega arith in rw e (le_trans (body_on n k) (body_next (n + k)))

  pub body_up_to : (n m : ℕ) → n ≤ m → (place_of sheet n).body ≤ (place_of sheet m).body
  body_up_to n m h = let e : m ≡ n + (m - n) = omega arith in rw e (body_on n (m - n))

  pub bodies_start : (place_of sheet 0).body ≡ 3 + count_of sheet * width sheet
  unfolding place_of
  bodies_start = refl

  -- an entry's lengths stand before the first body
  pub lengths_before : (n : ℕ) → n < count_of sheet → (place_of sheet n).lengths + width sheet ≤ (place_of sheet 0).body
  lengths_before n h = rw (place_lengths n, bodies_start) (either_width (λ w. 3 + n * w + w ≤ 3 + count_of sheet * w) (omega arith) (omega arith))

  -- ---- UTF-8 of the first entries

  abbrev good_at : ℕ → Bool
  good_at n = well_formed (name_of sheet n) && well_formed (value_of sheet n)

  pub utf8_next : (n : ℕ) → bodies_are_utf8 sheet (suc n) ≡ (bodies_are_utf8 sheet n && good_at n)
  unfolding bodies_are_utf8
  utf8_next n = refl

  left_false : (a b : Bool) → a ≡ false → (a && b) ≡ false
  left_false a b e = rw e

  utf8_stays : (n k : ℕ) → bodies_are_utf8 sheet n ≡ false → bodies_are_utf8 sheet (n + k) ≡ false
  utf8_stays n zero e = let f : n + 0 ≡ n = omega arith in rw f e
  utf8_stays n (suc k) e = let f : n + suc k ≡ suc (n + k) = omega arith in rw (f, utf8_next (n + k)) (left_false _ _ (utf8_stays n k e))

  utf8_up_to : (n m : ℕ) → n ≤ m → bodies_are_utf8 sheet n ≡ false → bodies_are_utf8 sheet m ≡ false
  utf8_up_to n m h e = let f : m ≡ n + (m - n) = omega arith in rw f (utf8_stays n (m - n) e)

  -- ---- the sheet is looked through: p is the place of entry number i, and the entries before it are good

  pub record Checking (i : ℕ) (p : Place) : Type 0 where
    pub stands : p ≡ place_of sheet i
    pub from : (place_of sheet 0).body ≤ length sheet
    pub inside : p.body ≤ length sheet
    pub good : bodies_are_utf8 sheet i ≡ true

  abbrev whole : Bool
  whole = fills_exactly sheet && bodies_are_utf8 sheet (count_of sheet)

  -- a body past the end
  too_long : (n : ℕ) → n ≤ count_of sheet → length sheet < (place_of sheet n).body → false ≡ whole
  unfolding fills_exactly
  too_long n h k =
      let d : (place_of sheet (count_of sheet)).body ≡ length sheet → ⊥ = λ e. let m = body_up_to n (count_of sheet) h in let z : ⊥ = omega (arith, m, e, k) in z in
      rw (ne_eqb _ _ d)

  right_false : (a b : Bool) → b ≡ false → false ≡ (a && b)
  right_false true b e = sym e
  right_false false b e = refl

  module _ (p : Place) where
    pub start_long : p ≡ place_of sheet 0 → length sheet < p.body → false ≡ whole
    start_long e h = too_long 0 zero-le (rw (← e) h)

    pub check_start : p ≡ place_of sheet 0 → p.body ≤ length sheet → Checking 0 p
    unfolding bodies_are_utf8
    check_start e h = record { stands = e; from = rw e at h; inside = h; good = refl }

    module _ (i : ℕ) (at : Checking i p) where
      pub check_entry : i < 65536 → p.entry ≤ 65536
      check_entry h = let e : p.entry ≡ i = ap (λ (q : Place). q.entry) at.stands ∙ place_entry i in omega arith

      module _ (n : ℕ) (count : n ≡ count_of sheet) (h : i < n) where
        below : i < count_of sheet
        below = rw (← count) h

        pub check_lengths : p.lengths + width sheet ≤ length sheet
        check_lengths =
            let m : (place_of sheet i).lengths + width sheet ≤ (place_of sheet 0).body = lengths_before i below in
            let l : p.lengths ≡ (place_of sheet i).lengths = ap (λ (q : Place). q.lengths) at.stands in
            omega (arith, m, l, at.from)

        abbrev good_here : Bool
        good_here = leb (past sheet p).body (length sheet) && (well_formed (name_at sheet p) && well_formed (value_at sheet p))

        next_stands : past sheet p ≡ place_of sheet (suc i)
        unfolding place_of
        next_stands = ap (past sheet) at.stands

        next_good : bodies_are_utf8 sheet (suc i) ≡ (well_formed (name_at sheet p) && well_formed (value_at sheet p))
        unfolding name_of value_of
        next_good = rw (utf8_next i, at.good, ← at.stands)

        module _ (b : Bool) (l : Lengths) (lengths : l ≡ lengths_at sheet p) (told : b ≡ are_bodies sheet p.body l) where
          e : b ≡ good_here
          unfolding past name_at value_at
          e = rw lengths at told

          pub check_more : b ≡ true → (q : Place) → q ≡ past sheet p → Checking (i + 1) q
          check_more f q g = rw (g, add-one i) (go (leb (past sheet p).body (length sheet)) refl)
            where
              go : (t : Bool) → leb (past sheet p).body (length sheet) ≡ t → Checking (suc i) (past sheet p)
              go true k =
                  let m : (well_formed (name_at sheet p) && well_formed (value_at sheet p)) ≡ true = sym (sym f ∙ e ∙ rw k) in
                  record { stands = next_stands; from = at.from; inside = leb-true _ _ k; good = rw next_good m }
              go false k = absurd (false≢true (sym (sym f ∙ e ∙ rw k)))

          pub check_fails : b ≡ false → false ≡ whole
          check_fails f = go (leb (past sheet p).body (length sheet)) refl
            where
              go : (t : Bool) → leb (past sheet p).body (length sheet) ≡ t → false ≡ whole
              go true k =
                  let m : (well_formed (name_at sheet p) && well_formed (value_at sheet p)) ≡ false = sym (sym f ∙ e ∙ rw k) in
                  right_false (fills_exactly sheet) _ (utf8_up_to (suc i) (count_of sheet) (omega (arith, below)) (next_good ∙ m))
              go false k = too_long (suc i) (omega (arith, below)) (rw (← next_stands) (leb-false _ _ k))

    pub check_end : (i n : ℕ) → n ≡ count_of sheet → i ≤ n → n ≤ i → Checking i p → eqb p.body (length sheet) ≡ whole
    unfolding fills_exactly
    check_end i n count h l at =
        let d : count_of sheet ≡ i = omega arith in
        let g : bodies_are_utf8 sheet (count_of sheet) ≡ true = rw d at.good in
        let k : p.body ≡ (place_of sheet (count_of sheet)).body = rw d (ap (λ (q : Place). q.body) at.stands) in
        rw (g, k) (sym (and_true (eqb (place_of sheet (count_of sheet)).body (length sheet))))
      where
        and_true : (b : Bool) → (b && true) ≡ b
        and_true true = refl
        and_true false = refl
