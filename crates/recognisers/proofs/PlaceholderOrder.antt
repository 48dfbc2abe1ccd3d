-- The order of the placeholders' forms: which of them its first byte leaves.
-- Assumes nothing.
use Rattle.std.proofs.Common.{Option, Some, None}
use Prim.Native.Nat.{ℕ, suc, ◌<◌, suc-le-suc, zero-le}
use native.Mathlib.Omega.{arith}
use mathlib.Core.Path.{◌≡◌, refl, sym, ap, ◌∙◌}
use mathlib.Core.List.{List, [], ◌∷◌}
use mathlib.Core.Bool.{Bool, true, false, cond, not, ◌&&◌, ◌||◌, false≢true, and-eq-true_iff}
use lib.Dec.{ltb, eqb}
use borrow.Author.Tests.{eqb-true, le-leb}
use Rattle.characters.specs.Ascii.{is_letter}
use Rattle.characters.specs.Character.{continuations, continued}
use Rattle.characters.specs.Classes.{is_placeholder_name_character}
use Rattle.characters.specs.Runs.{run}
use Rattle.characters.proofs.AsciiRule.{name_byte}
use Rattle.characters.proofs.RunLaws.{ascii_first}
use Rattle.characters.proofs.Within.{within_high}
use Rattle.recognisers.specs.declared.Dialect.{Dialect}
use Rattle.recognisers.specs.declared.Piece.{Piece}
use Rattle.recognisers.specs.Text.{bytes}
use Rattle.recognisers.specs.Taking.{one, spelled, typed, is_digit, count, digit1, contains, starts_with}
use Rattle.recognisers.specs.Pieces.{alt}
use Rattle.recognisers.specs.Placeholder.{placeholder_name, indexed_taken, get_indexed_placeholder_token, ident_taken, get_ident_named_placeholder_token, braced_taken, get_braced_named_placeholder_token, string_named_taken, get_string_named_placeholder_token, get_placeholder_token}
use Rattle.recognisers.proofs.FirstBytes.{alt_nothing, first_not}
use Rattle.recognisers.proofs.OrderedChoice.{first_recognises, rest_recognises}

-- ---- a digit may stand in a name

digit_named : (d : ℕ) → is_digit d ≡ true → is_placeholder_name_character d ≡ true
digit_named d w = ((and-eq-true_iff (ltb d 128) (is_placeholder_name_character d)).0 (sym (name_byte d) ∙ go (is_letter d))).1
  where
    go : (t : Bool) → (t || (is_digit d || (eqb d 0x2E || (eqb d 0x5F || eqb d 0x24)))) ≡ true
    go true = refl
    go false = rw w

-- ---- names first

module _ (dialect : Dialect) where
  -- behind `$` there is a name where there are digits
  dollar_digit : (d : ℕ) (s : List ℕ) (t : Bool) → is_digit d ≡ t
      → alt (get_ident_named_placeholder_token (36 ∷ d ∷ s)) (get_string_named_placeholder_token dialect (36 ∷ d ∷ s)) ≡ get_placeholder_token true dialect (36 ∷ d ∷ s)
  unfolding get_placeholder_token get_ident_named_placeholder_token get_string_named_placeholder_token get_indexed_placeholder_token get_braced_named_placeholder_token indexed_taken ident_taken string_named_taken braced_taken placeholder_name spelled one typed contains digit1 count run
  dollar_digit d s true q =
      let small : d < 128 = let h = within_high 0x30 0x39 d q in omega arith in
      rw (ascii_first d s small, digit_named d q, le-leb 1 (suc (run is_placeholder_name_character (continued (continuations d) s) s)) (suc-le-suc zero-le))
  dollar_digit d s false q = rw q

  dollar_first : (s : List ℕ) → alt (get_ident_named_placeholder_token (36 ∷ s)) (get_string_named_placeholder_token dialect (36 ∷ s)) ≡ get_placeholder_token true dialect (36 ∷ s)
  unfolding get_placeholder_token get_ident_named_placeholder_token get_string_named_placeholder_token get_indexed_placeholder_token get_braced_named_placeholder_token indexed_taken ident_taken string_named_taken braced_taken placeholder_name spelled one typed contains digit1 count run
  dollar_first [] = refl
  dollar_first (d ∷ s) = dollar_digit d s (is_digit d) refl

  other_first : (b : ℕ) (s : List ℕ) → eqb b 63 ≡ false → eqb b 36 ≡ false → eqb b 123 ≡ false
      → alt (get_ident_named_placeholder_token (b ∷ s)) (get_string_named_placeholder_token dialect (b ∷ s)) ≡ get_placeholder_token true dialect (b ∷ s)
  unfolding get_placeholder_token get_indexed_placeholder_token get_braced_named_placeholder_token indexed_taken braced_taken spelled one typed contains
  other_first b s h i j = rw (h, i, j) (ap (alt (get_ident_named_placeholder_token (b ∷ s))) (alt_nothing _))

  names_first : (b : ℕ) (s : List ℕ) → eqb b 63 ≡ false → eqb b 123 ≡ false
      → alt (get_ident_named_placeholder_token (b ∷ s)) (get_string_named_placeholder_token dialect (b ∷ s)) ≡ get_placeholder_token true dialect (b ∷ s)
  names_first b s h j = go (eqb b 36) refl
    where
      go : (t : Bool) → eqb b 36 ≡ t → alt (get_ident_named_placeholder_token (b ∷ s)) (get_string_named_placeholder_token dialect (b ∷ s)) ≡ get_placeholder_token true dialect (b ∷ s)
      go true q = rw (eqb-true b 36 q) (dollar_first s)
      go false q = other_first b s h q j

  -- behind `?` there is no name
  mark_first : (s : List ℕ) → alt (get_indexed_placeholder_token (63 ∷ s)) (alt (get_ident_named_placeholder_token (63 ∷ s)) (get_string_named_placeholder_token dialect (63 ∷ s))) ≡ get_placeholder_token true dialect (63 ∷ s)
  unfolding get_placeholder_token get_ident_named_placeholder_token get_string_named_placeholder_token get_braced_named_placeholder_token ident_taken string_named_taken braced_taken spelled one typed contains
  mark_first s = refl

  -- ---- places first

  places_first : (b : ℕ) (s : List ℕ) → eqb b 123 ≡ false
      → alt (get_indexed_placeholder_token (b ∷ s)) (alt (get_ident_named_placeholder_token (b ∷ s)) (get_string_named_placeholder_token dialect (b ∷ s))) ≡ get_placeholder_token false dialect (b ∷ s)
  unfolding get_placeholder_token get_braced_named_placeholder_token braced_taken spelled one typed
  places_first b s j = rw j (ap (λ (x : Option Piece). alt (get_indexed_placeholder_token (b ∷ s)) (alt (get_ident_named_placeholder_token (b ∷ s)) x)) (alt_nothing _))

  -- ---- both

  in_order : (named : Bool) (s : List ℕ) → starts_with 123 s ≡ false
      → alt (cond (named && not (starts_with 63 s)) None (get_indexed_placeholder_token s)) (alt (get_ident_named_placeholder_token s) (get_string_named_placeholder_token dialect s)) ≡ get_placeholder_token named dialect s
  unfolding starts_with get_placeholder_token get_ident_named_placeholder_token get_string_named_placeholder_token get_indexed_placeholder_token get_braced_named_placeholder_token indexed_taken ident_taken string_named_taken braced_taken spelled one
  in_order true [] n = refl
  in_order false [] n = refl
  in_order false (b ∷ s) n = places_first b s n
  in_order true (b ∷ s) n = go (eqb b 63) refl
    where
      go : (t : Bool) → eqb b 63 ≡ t → alt (cond (not t) None (get_indexed_placeholder_token (b ∷ s))) (alt (get_ident_named_placeholder_token (b ∷ s)) (get_string_named_placeholder_token dialect (b ∷ s))) ≡ get_placeholder_token true dialect (b ∷ s)
      go true q = rw (eqb-true b 63 q) (mark_first s)
      go false q = names_first b s q n

-- behind any other mark
module _ (named : Bool) (dialect : Dialect) (s : List ℕ) (n : starts_with 123 s ≡ false) (found : Option Piece) (e : found ≡ cond (named && not (starts_with 63 s)) None (get_indexed_placeholder_token s)) where
  pub index_found : (p : Piece) → found ≡ Some p → Some p ≡ get_placeholder_token named dialect s
  index_found p k = first_recognises _ _ found p e k ∙ in_order dialect named s n

  pub name_found : (r : Option Piece) → found ≡ None → r ≡ alt (get_ident_named_placeholder_token s) (get_string_named_placeholder_token dialect s) → r ≡ get_placeholder_token named dialect s
  name_found r k f = rest_recognises _ _ found r e k f ∙ in_order dialect named s n

-- behind a brace
pub braces_are : (named : Bool) (dialect : Dialect) (s : List ℕ) (k : ℕ) (r : Option Piece) → starts_with k s ≡ true → k ≡ 123 → r ≡ get_braced_named_placeholder_token s → r ≡ get_placeholder_token named dialect s
unfolding starts_with get_placeholder_token get_ident_named_placeholder_token get_string_named_placeholder_token get_indexed_placeholder_token indexed_taken ident_taken string_named_taken spelled one typed contains
braces_are named dialect [] k r e q f = absurd (false≢true e)
braces_are true dialect (b ∷ s) k r e q f = f ∙ rw (eqb-true b k e ∙ q)
braces_are false dialect (b ∷ s) k r e q f = f ∙ rw (eqb-true b k e ∙ q)

-- behind `@` or `:` stands no index
no_index : (s : List ℕ) → starts_with 63 s ≡ false → starts_with 36 s ≡ false → None ≡ get_indexed_placeholder_token s
unfolding starts_with get_indexed_placeholder_token indexed_taken spelled one typed contains
no_index [] m d = refl
no_index (b ∷ s) m d = rw (m, d)

pub names_alone : (named : Bool) (dialect : Dialect) (s : List ℕ) (k : ℕ) → starts_with k s ≡ true → contains (bytes "@:") k ≡ true
    → (r : Option Piece) → r ≡ alt (get_ident_named_placeholder_token s) (get_string_named_placeholder_token dialect s) → r ≡ get_placeholder_token named dialect s
unfolding contains
names_alone named dialect s k e c r f =
    let m = first_not k s 63 e (λ q. false≢true (rw q at c)) in
    let d = first_not k s 36 e (λ q. false≢true (rw q at c)) in
    let b = first_not k s 123 e (λ q. false≢true (rw q at c)) in
    name_found named dialect s b None (go named (no_index s m d)) r refl f
  where
    go : (t : Bool) → None ≡ get_indexed_placeholder_token s → None ≡ cond (t && not (starts_with 63 s)) None (get_indexed_placeholder_token s)
    go true i = both (not (starts_with 63 s)) i
      where
        both : (u : Bool) → None ≡ get_indexed_placeholder_token s → None ≡ cond u None (get_indexed_placeholder_token s)
        both true i = refl
        both false i = i
    go false i = i
