-- The first entry with a name, as it is found in the list of the entries.
-- Assumes nothing.
use Prim.Native.Nat.{ℕ, zero, suc, ◌+◌, ◌<◌, zero-le}
use native.Mathlib.Omega.{arith}
use mathlib.Core.Path.{◌≡◌, refl, ap, ◌∙◌}
use mathlib.Core.Bool.{Bool, true, false, cond, not}
use mathlib.Core.List.{List, [], ◌∷◌}
use borrow.Author.Tests.{lt-ltb, le-ltb}
use lib.Dec.{ltb}
use lib.ListN.{length}
use Rattle.std.specs.Prelude.{Option, Some, None, MatchOption, is_some}
use Rattle.std.specs.List.{AllWithin, HoldsAt}
use Rattle.recognisers.specs.declared.Key.{Key}
use Rattle.recognisers.specs.declared.Key.TheVariants.{Named, Escaped, ZeroIndexed, OneIndexed}
use Rattle.recognisers.specs.Same.{same}
use Rattle.tokenizer.specs.KeyText.{key_text}
use Rattle.params.specs.declared.Part.{Part}
use Rattle.params.specs.declared.entries.Entry.{Entry}
use Rattle.params.specs.Sheet.{count_of, name_of}
use Rattle.params.specs.Keys.{has_key}
use Rattle.params.specs.Get.{first_named, with_name, by_name}
use Rattle.params.specs.Inner.Entries.{entry, entries_from, entries, seen, numbered}

module _ (text : List ℕ) where
  abbrev pub Is : List ℕ × Part → Type 0
  Is x = same x.0 text ≡ true

  abbrev pub IsNot : List ℕ × Part → Type 0
  IsNot x = same x.0 text ≡ false

  -- the value of the first of these with the name
  value_named : List (List ℕ × Part) → Option Part
  value_named [] = None
  value_named (x ∷ xs) = cond (same x.0 text) (Some x.1) (value_named xs)

  named_nowhere : (xs : List (List ℕ × Part)) → AllWithin IsNot xs 0 (length xs) → None ≡ value_named xs
  unfolding value_named
  named_nowhere [] h = refl
  named_nowhere (x ∷ xs) h = let e : same x.0 text ≡ false = h 0 x zero-le (omega arith) in rw e (named_nowhere xs (λ k d l m. h (suc k) d zero-le (omega arith)))

  named_there : (xs : List (List ℕ × Part)) (i : ℕ) (y : List ℕ × Part) → i < length xs → HoldsAt (λ x. x ≡ y) xs i → Is y → AllWithin IsNot xs 0 i → Some y.1 ≡ value_named xs
  unfolding value_named
  named_there [] i y h at f g = absurd (let z : ⊥ = omega arith in z)
  named_there (x ∷ xs) zero y h at f g = let e : x ≡ y = at x in rw (e, f)
  named_there (x ∷ xs) (suc i) y h at f g =
      let e : same x.0 text ≡ false = g 0 x zero-le (omega arith) in
      rw e (named_there xs i y (omega arith) (λ d. at d) f (λ k d l m. g (suc k) d zero-le (omega arith)))

  module _ (sheet : List ℕ) where
    named_from : (left n : ℕ) → n + left ≡ count_of sheet → value_named (entries_from sheet n left) ≡ numbered sheet (first_named sheet text n left)
    unfolding value_named entries_from entry first_named numbered
    named_from zero n e = let k : ltb n (count_of sheet) ≡ false = le-ltb n (count_of sheet) (omega arith) in rw k
    named_from (suc left) n e = go (same (name_of sheet n) text) refl (named_from left (suc n) (omega arith))
      where
        go : (b : Bool) → same (name_of sheet n) text ≡ b → value_named (entries_from sheet (suc n) left) ≡ numbered sheet (first_named sheet text (suc n) left)
            → value_named (entries_from sheet n (suc left)) ≡ numbered sheet (first_named sheet text n (suc left))
        go true f g = let k : ltb n (count_of sheet) ≡ true = lt-ltb n (count_of sheet) (omega arith) in rw (f, k)
        go false f g = rw f g

    named_in : value_named (entries sheet) ≡ numbered sheet (with_name sheet text)
    unfolding entries with_name
    named_in = named_from (count_of sheet) 0 (omega arith)

    -- what is found in the list
    abbrev pub Finds : Option Entry → Type 0
    Finds r =
        MatchOption r (AllWithin IsNot (entries sheet) 0 (length (entries sheet)))
        (λ x. Is (seen x) × (i : ℕ) × (i < length (entries sheet)) × HoldsAt (λ y. y ≡ seen x) (entries sheet) i × AllWithin IsNot (entries sheet) 0 i)

has_key_is : (key : Option Key) → has_key key ≡ is_some key
has_key_is None = refl
has_key_is (Some (Named start len)) = refl
has_key_is (Some (Escaped start len)) = refl
has_key_is (Some (ZeroIndexed n)) = refl
has_key_is (Some (OneIndexed n)) = refl

module _ (s sheet : List ℕ) (key : Option Key) (b : Bool) (e : is_some key ≡ not b) where
  pub keyless : b ≡ true → None ≡ numbered sheet (by_name s sheet key)
  unfolding by_name numbered
  keyless f = let k : ltb (count_of sheet) (count_of sheet) ≡ false = le-ltb (count_of sheet) (count_of sheet) (omega arith) in rw (has_key_is key, e, f, k)

  keyed : b ≡ false → with_name sheet (key_text s key) ≡ by_name s sheet key
  unfolding by_name
  keyed f = rw (has_key_is key, e, f)

  pub found_nowhere : b ≡ false → (r : Option Part) → r ≡ None → Finds (key_text s key) sheet None → r ≡ numbered sheet (by_name s sheet key)
  found_nowhere f r e' h = e' ∙ named_nowhere (key_text s key) (entries sheet) h ∙ named_in (key_text s key) sheet ∙ ap (numbered sheet) (keyed f)

  pub found_there : b ≡ false → (x : Entry) → Finds (key_text s key) sheet (Some x) → Some x.value ≡ numbered sheet (by_name s sheet key)
  found_there f x (p, i, h, at, before) =
      named_there (key_text s key) (entries sheet) i (seen x) h at p before ∙ named_in (key_text s key) sheet ∙ ap (numbered sheet) (keyed f)
