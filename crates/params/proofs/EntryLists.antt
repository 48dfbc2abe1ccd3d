-- The entries of a sheet as a list: what an iterator over them gives, and which is found.
-- Assumes nothing.
use Prim.Native.Nat.{ℕ, zero, suc, ◌+◌, ◌-◌, ◌≤◌, ◌<◌, min}
use native.Mathlib.Numerals.{add-one}
use native.Mathlib.Omega.{arith}
use mathlib.Core.Path.{◌≡◌, refl, sym, ap, ◌∙◌}
use mathlib.Core.Bool.{Bool, true, false}
use mathlib.Core.List.{List, [], ◌∷◌}
use borrow.Author.Tests.{lt-ltb, le-ltb, ltb-true, ltb-false, leb-true, leb-false}
use lib.Dec.{ltb, leb}
use lib.ListN.{length, take, drop, drop_of_length-le}
use Rattle.std.specs.Prelude.{Option, Some, None}
use Rattle.params.specs.declared.Lengths.{Lengths}
use Rattle.params.specs.declared.Part.{Part}
use Rattle.params.specs.declared.Part.TheVariants as P
use Rattle.params.specs.declared.Place.{Place}
use Rattle.params.specs.declared.entries.Entries.{Entries}
use Rattle.params.specs.declared.entries.Entry.{Entry}
use Rattle.params.specs.declared.sheet.Sheet.{Sheet}
use Rattle.params.specs.Sheet.{count_of, lengths_at, past, place_of, name_at, name_of}
use Rattle.params.specs.Get.{value_part}
use Rattle.params.specs.Inner.Entries.{entry, entries_from, entries, seen, entries_left, numbered}
use Rattle.params.proofs.EntriesInside.{entry_of}

module _ (sheet : List ℕ) where
  pub entries_long : (left n : ℕ) → length (entries_from sheet n left) ≡ left
  unfolding entries_from
  entries_long zero n = refl
  entries_long (suc left) n = ap suc (entries_long left (suc n))

  -- those left where so many are passed
  pub entries_past : (left n i : ℕ) → i ≤ left → drop i (entries_from sheet n left) ≡ entries_from sheet (n + i) (left - i)
  unfolding entries_from
  entries_past left n zero h = let z : n + 0 ≡ n = omega arith in let d : left - 0 ≡ left = omega arith in rw (z, d)
  entries_past zero n (suc i) h = absurd (let z : ⊥ = omega arith in z)
  entries_past (suc left) n (suc i) h =
      let z : n + suc i ≡ suc n + i = omega arith in
      let d : suc left - suc i ≡ left - i = omega arith in
      rw (z, d) (entries_past left (suc n) i (omega arith))

  -- the entry at a place
  module _ (p : Place) (i : ℕ) (e : p ≡ place_of sheet i) (l : Lengths) (f : l ≡ lengths_at sheet p) where
    pub entry_here : ◌≡◌ {A = List ℕ × Part} (take (p.body + l.name - p.body) (drop p.body sheet), P.Sheet (p.body + l.name) l.value) (entry sheet i)
    unfolding entry name_of name_at value_part
    entry_here = let b : p.body + l.name - p.body ≡ l.name = omega arith in rw (← e, b, f)

-- ---- an iterator

module _ (es : Entries) where
  -- none is left
  pub none_left : (n : ℕ) → n ≡ count_of es.sheet.headed.bytes.now → n ≤ es.place.entry → entries_left es ≡ []
  unfolding entries_left entries_from
  none_left n e h = let d : count_of es.sheet.headed.bytes.now - es.place.entry ≡ 0 = omega arith in rw d

  -- the first, and the others
  pub some_left : (es' : Entries) (n : ℕ) (x : List ℕ × Part) → n ≡ count_of es.sheet.headed.bytes.now → es.place.entry < n → es'.sheet ≡ es.sheet
      → es'.place ≡ past es.sheet.headed.bytes.now es.place → x ≡ entry es.sheet.headed.bytes.now es.place.entry → entries_left es ≡ x ∷ entries_left es'
  unfolding entries_left entries_from past
  some_left es' n x e h k l f =
      let sheet : List ℕ = es.sheet.headed.bytes.now in
      let i : es'.place.entry ≡ es.place.entry + 1 = ap (λ (p : Place). p.entry) l in
      let d : count_of sheet - es.place.entry ≡ suc (count_of sheet - suc es.place.entry) = omega arith in
      let others : entries_left es' ≡ entries_from sheet (suc es.place.entry) (count_of sheet - suc es.place.entry) =
      ap (λ (q : Sheet). entries_from q.headed.bytes.now es'.place.entry (count_of q.headed.bytes.now - es'.place.entry)) k
      ∙ ap (λ (m : ℕ). entries_from sheet m (count_of sheet - m)) (i ∙ add-one es.place.entry) in
      rw (d, f, others)

  pub some_less : (es' : Entries) (n : ℕ) (x : List ℕ × Part) → n ≡ count_of es.sheet.headed.bytes.now → es.place.entry < n → es'.sheet ≡ es.sheet
      → es'.place ≡ past es.sheet.headed.bytes.now es.place → x ≡ entry es.sheet.headed.bytes.now es.place.entry → length (entries_left es') < length (entries_left es)
  some_less es' n x e h k l f = let d : length (entries_left es) ≡ suc (length (entries_left es')) = ap length (some_left es' n x e h k l f) in omega arith

-- ---- from a number on

module _ (sheet : List ℕ) where
  entries_count : length (entries sheet) ≡ count_of sheet
  unfolding entries
  entries_count = entries_long sheet (count_of sheet) 0

  -- behind the last there is none
  pub none_behind : (n : ℕ) → count_of sheet ≤ n → drop n (entries sheet) ≡ []
  none_behind n h = drop_of_length-le (entries sheet) (rw entries_count h)

  from_number : (n : ℕ) → n ≤ count_of sheet → entries_from sheet n (count_of sheet - n) ≡ drop n (entries sheet)
  unfolding entries
  from_number n h = sym (entries_past sheet (count_of sheet) 0 n h ∙ (let z : 0 + n ≡ n = omega arith in rw z))

pub left_from : (es : Entries) (m n k : ℕ) → es.place ≡ place_of es.sheet.headed.bytes.now m → k ≡ count_of es.sheet.headed.bytes.now → m ≡ min k n
    → entries_left es ≡ drop n (entries es.sheet.headed.bytes.now)
unfolding entries_left
left_from es m n c e d f = rw (entry_of es.sheet.headed.bytes.now es.place m e) (go (leb n (count_of es.sheet.headed.bytes.now)) refl)
  where
    go : (b : Bool) → leb n (count_of es.sheet.headed.bytes.now) ≡ b
        → entries_from es.sheet.headed.bytes.now m (count_of es.sheet.headed.bytes.now - m) ≡ drop n (entries es.sheet.headed.bytes.now)
    go true g =
        let h : n ≤ count_of es.sheet.headed.bytes.now = leb-true n (count_of es.sheet.headed.bytes.now) g in
        let k : m ≡ n = omega arith in
        rw k (from_number es.sheet.headed.bytes.now n h)
    go false g =
        let h : count_of es.sheet.headed.bytes.now < n = leb-false n (count_of es.sheet.headed.bytes.now) g in
        let k : m ≡ count_of es.sheet.headed.bytes.now = omega arith in
        rw k (from_number es.sheet.headed.bytes.now (count_of es.sheet.headed.bytes.now) (omega arith)
        ∙ none_behind es.sheet.headed.bytes.now (count_of es.sheet.headed.bytes.now) (omega arith)
        ∙ sym (none_behind es.sheet.headed.bytes.now n (omega arith)))

pub left_all : (es : Entries) → es.place ≡ place_of es.sheet.headed.bytes.now 0 → entries_left es ≡ entries es.sheet.headed.bytes.now
unfolding entries_left entries
left_all es e = rw (entry_of es.sheet.headed.bytes.now es.place 0 e) (let z : count_of es.sheet.headed.bytes.now - 0 ≡ count_of es.sheet.headed.bytes.now = omega arith in rw z)

-- ---- the value of entry number n

module _ (sheet : List ℕ) (n : ℕ) where
  pub no_number : (m : ℕ) → m ≡ count_of sheet → m ≤ n → None ≡ numbered sheet n
  unfolding numbered
  no_number m e h = let k : ltb n (count_of sheet) ≡ false = le-ltb n (count_of sheet) (omega arith) in rw k

  pub number_here : (m : ℕ) → m ≡ count_of sheet → n < m → (p : Place) → p ≡ place_of sheet n → (x : Entry) → seen x ≡ entry sheet p.entry → Some x.value ≡ numbered sheet n
  unfolding numbered entry
  number_here m e h p f x g =
      let k : ltb n (count_of sheet) ≡ true = lt-ltb n (count_of sheet) (omega arith) in
      let v : x.value ≡ value_part sheet (place_of sheet n) = ap (λ (q : List ℕ × Part). q.1) g ∙ ap (λ (i : ℕ). value_part sheet (place_of sheet i)) (entry_of sheet p n f) in
      rw (k, v)

  abbrev first_value : List (List ℕ × Part) → Option Part
  first_value [] = None
  first_value (x ∷ xs) = Some x.1

  value_first : first_value (drop n (entries sheet)) ≡ numbered sheet n
  unfolding numbered entry entries_from
  value_first = go (ltb n (count_of sheet)) refl
    where
      go : (b : Bool) → ltb n (count_of sheet) ≡ b → first_value (drop n (entries sheet)) ≡ numbered sheet n
      go true f =
          let h : n < count_of sheet = ltb-true n (count_of sheet) f in
          let d : count_of sheet - n ≡ suc (count_of sheet - suc n) = omega arith in
          rw (← from_number sheet n (omega arith), d, f)
      go false f = let h : count_of sheet ≤ n = ltb-false n (count_of sheet) f in rw (none_behind sheet n h, f)

  module _ (left : List (List ℕ × Part)) (e : left ≡ drop n (entries sheet)) where
    pub none_ahead : (r : Option Part) → r ≡ None → left ≡ [] → r ≡ numbered sheet n
    none_ahead r f g = f ∙ ap first_value (sym g ∙ e) ∙ value_first

    pub first_ahead : (x : Entry) (others : List (List ℕ × Part)) → left ≡ seen x ∷ others → Some x.value ≡ numbered sheet n
    first_ahead x others g = ap first_value (sym g ∙ e) ∙ value_first
