-- Placeholders: their numbers, names and escapes.
-- Assumes nothing.
use Rattle.std.proofs.Common.{Option, Some, None}
use Rattle.std.specs.Option.{option_map}
use Rattle.std.specs.List.{position, list_any, zip}
use Prim.Native.Nat.{ℕ, suc, ◌+◌, ◌-◌, ◌*◌, ◌^◌, ◌≤◌, ◌<◌, zero-le}
use native.Mathlib.Nat.{le_refl, le_trans, le_of_eq}
use native.Mathlib.Numerals.{add-one}
use native.Mathlib.Omega.{arith}
use mathlib.Core.Path.{◌≡◌, refl, sym, ap, ◌∙◌}
use mathlib.Core.List.{List, [], ◌∷◌}
use mathlib.Core.Bool.{and-false, ◌||◌, Bool, true, false, cond, ◌&&◌}
use lib.ListN.{length, drop, take, get_or, drop_of_length-le}
use lib.Seq.{drop-cons}
use lib.Dec.{leb, eqb}
use borrow.Author.Tests.{lt-ltb, le-ltb, le-leb, lt-leb}
use Rattle.characters.specs.Runs.{in_class, run}
use Rattle.characters.specs.Classes.{is_placeholder_name_character}
use Rattle.characters.specs.declared.Class.TheVariants.{PlaceholderName}
use Rattle.characters.proofs.RunLaws.{run_inside}
use Rattle.recognisers.specs.declared.Dialect.{Dialect}
use Rattle.recognisers.specs.declared.Dialect.TheVariants.{Generic, PostgreSql, SQLServer}
use Rattle.recognisers.specs.declared.Key.{Key}
use Rattle.recognisers.specs.declared.Piece.{Piece}
use Rattle.recognisers.specs.declared.Key.TheVariants.{Named, Escaped, ZeroIndexed, OneIndexed}
use Rattle.recognisers.specs.declared.TokenKind.TheVariants.{Placeholder}
use Rattle.recognisers.specs.Text.{bytes}
use Rattle.recognisers.specs.Pieces.{piece}
use Rattle.recognisers.specs.Taking.{taken, more, done, one, typed, spelled, digit1, contains, starts_with}
use Rattle.recognisers.specs.Strings.{closed_by, in_sql_server, placeholder_quoted_taken, placeholder_string_taken}
use Rattle.recognisers.specs.Placeholder.{number_from, number_of, indexed_key, indexed_taken, placeholder_name, through_brace, braced_text, has_escape, string_key, string_named_taken, string_named_pairs, get_indexed_placeholder_token, get_string_named_placeholder_token}
use Rattle.recognisers.proofs.TakenInside.{Inside, or_inside, done_inside, one_inside, spelled_inside, cond_inside}
use Rattle.recognisers.proofs.LibraryWords.{found}
use Rattle.recognisers.proofs.Digits.{digits_inside}
use Rattle.recognisers.proofs.ClosingQuote.{quoted_inside}

-- ---- a number

grows : (n : ℕ) (ds : List ℕ) → n ≤ number_from n ds
unfolding number_from
grows n [] = le_refl n
grows n (d ∷ ds) = le_trans (omega arith) (grows (n * 10 + (d - 48)) ds)

pub record NumberAt (s : List ℕ) (n i : ℕ) : Type 0 where
  pub inside : i ≤ length s
  pub fits : n < 2 ^ 64
  pub same : number_from n (drop i s) ≡ number_from 0 s

module _ (s : List ℕ) where
  module _ (n i d : ℕ) (at : NumberAt s n i) (h : i < length s) (c : d ≡ get_or s i 0 - 48) where
    next : number_from (n * 10 + d) (drop (i + 1) s) ≡ number_from 0 s
    unfolding number_from
    next = rw (add-one i, c) (sym (rw (drop-cons s i 0 h)) ∙ at.same)

    pub number_more : n * 10 + d < 2 ^ 64 → NumberAt s (n * 10 + d) (i + 1)
    number_more f = record { inside = omega arith; fits = f; same = next }

    pub number_over : (q : Option ℕ) → 2 ^ 64 ≤ n * 10 + d → q ≡ None → q ≡ number_of s
    number_over q f g =
        let o : 2 ^ 64 ≤ number_from 0 s = le_trans f (le_trans (grows (n * 10 + d) (drop (i + 1) s)) (le_of_eq next)) in
        g ∙ rw (le-ltb (number_from 0 s) (2 ^ 64) o)

  pub number_end : (n i : ℕ) → NumberAt s n i → length s ≤ i → Some n ≡ number_of s
  unfolding number_from
  number_end n i at h =
      let e : n ≡ number_from 0 s = rw (drop_of_length-le s h) at at.same in
      rw (← e, lt-ltb n (2 ^ 64) at.fits)

module _ (s : List ℕ) (n : ℕ) where
  pub no_index : n ≤ 1 → None ≡ indexed_key s n
  unfolding indexed_key
  no_index h = rw (le-leb n 1 h)

  module _ (m : Option ℕ) (h : 1 < n) (f : m ≡ number_of (take (n - 1) (drop 1 s))) where
    pub index_none : (k : Option Key) → m ≡ None → k ≡ None → k ≡ indexed_key s n
    unfolding indexed_key
    index_none k g q = q ∙ rw (lt-leb n 1 h, ← f, g)

    module _ (t : Bool) (v : ℕ) (e : t ≡ starts_with 36 (drop 0 s)) (g : m ≡ Some v) where
      pub from_one : t ≡ true → Some (OneIndexed v) ≡ indexed_key s n
      unfolding indexed_key
      from_one y = rw (lt-leb n 1 h, ← f, g, ← e, y)

      pub from_zero : t ≡ false → Some (ZeroIndexed v) ≡ indexed_key s n
      unfolding indexed_key
      from_zero y = rw (lt-leb n 1 h, ← f, g, ← e, y)

-- ---- what is taken lies inside

pub name_inside : Inside placeholder_name
unfolding placeholder_name in_class
name_inside s = cond_inside (leb 1 (run is_placeholder_name_character 0 s)) (Some (run is_placeholder_name_character 0 s)) (length s) (run_inside PlaceholderName 0 s)

indexed_inside : Inside indexed_taken
unfolding indexed_taken
indexed_inside s =
    or_inside (one (contains (bytes "?$")) (digit1 done) s) (spelled typed (bytes "?") done s) (length s)
    (one_inside (contains (bytes "?$")) (digit1 done) digits_inside s)
    (spelled_inside typed (bytes "?") done done_inside s)

brackets_inside : (dialect : Dialect) (s : List ℕ) → taken (in_sql_server dialect (spelled typed (bytes "[") (closed_by 93 (bytes "]"))) s) ≤ length s
brackets_inside Generic s = zero-le
brackets_inside PostgreSql s = zero-le
brackets_inside SQLServer s = spelled_inside typed (bytes "[") (closed_by 93 (bytes "]")) (quoted_inside 93 (bytes "]")) s

pub placeholder_string_inside : (dialect : Dialect) → Inside (placeholder_string_taken dialect)
unfolding placeholder_string_taken placeholder_quoted_taken
placeholder_string_inside dialect s =
    or_inside (spelled typed (bytes "`") (closed_by 96 (bytes "`")) s) _ (length s)
    (spelled_inside typed (bytes "`") (closed_by 96 (bytes "`")) (quoted_inside 96 (bytes "`")) s)
    (or_inside (in_sql_server dialect (spelled typed (bytes "[") (closed_by 93 (bytes "]"))) s) _ (length s)
    (brackets_inside dialect s)
    (or_inside (spelled typed (bytes "\"") (closed_by 34 (bytes "\\")) s) _ (length s)
    (spelled_inside typed (bytes "\"") (closed_by 34 (bytes "\\")) (quoted_inside 34 (bytes "\\")) s)
    (or_inside (spelled typed (bytes "'") (closed_by 39 (bytes "\\")) s) (spelled typed (bytes "N'") (closed_by 39 (bytes "\\")) s) (length s)
    (spelled_inside typed (bytes "'") (closed_by 39 (bytes "\\")) (quoted_inside 39 (bytes "\\")) s)
    (spelled_inside typed (bytes "N'") (closed_by 39 (bytes "\\")) (quoted_inside 39 (bytes "\\")) s))))

string_named_inside : (dialect : Dialect) → Inside (string_named_taken dialect)
unfolding string_named_taken
string_named_inside dialect s = one_inside (contains (bytes "@:")) (placeholder_string_taken dialect) (placeholder_string_inside dialect) s

-- n bytes were taken, so the rest has them
module _ (s : List ℕ) (t : Option ℕ) (n : ℕ) where
  pub indexed_fits : t ≡ indexed_taken s → t ≡ Some n → n ≤ length s
  indexed_fits e f = let h : taken t ≤ length s = rw e (indexed_inside s) in rw f at h

  pub string_named_fits : (dialect : Dialect) → t ≡ string_named_taken dialect s → t ≡ Some n → n ≤ length s
  string_named_fits dialect e f = let h : taken t ≤ length s = rw e (string_named_inside dialect s) in rw f at h

-- ---- a token of what was taken

module _ (s : List ℕ) (t : Option ℕ) where
  module _ (e : t ≡ indexed_taken s) where
    pub indexed_token : (n : ℕ) (k : Option Key) (p : Piece) → t ≡ Some n → k ≡ indexed_key s n → p ≡ piece Placeholder n None → Some (record { kind = p.kind; len = p.len; alias = p.alias; key = k; escaped = p.escaped }) ≡ get_indexed_placeholder_token s
    unfolding get_indexed_placeholder_token
    indexed_token n k p f g h = rw (← e, f, g, h)

    pub indexed_nothing : (r : Option Piece) → t ≡ None → r ≡ None → r ≡ get_indexed_placeholder_token s
    unfolding get_indexed_placeholder_token
    indexed_nothing r f g = g ∙ rw (← e, f)

  module _ (dialect : Dialect) (e : t ≡ string_named_taken dialect s) where
    pub string_token : (n : ℕ) (k : Option Key) (q : ℕ) (p : Piece) → t ≡ Some n → k ≡ string_key s n → q ≡ string_named_pairs (take n s)
        → p ≡ piece Placeholder n None → Some (record { kind = p.kind; len = p.len; alias = p.alias; key = k; escaped = q }) ≡ get_string_named_placeholder_token dialect s
    unfolding get_string_named_placeholder_token
    string_token n k q p f g h i = rw (← e, f, g, h, i)

    pub string_nothing : (r : Option Piece) → t ≡ None → r ≡ None → r ≡ get_string_named_placeholder_token dialect s
    unfolding get_string_named_placeholder_token
    string_nothing r f g = g ∙ rw (← e, f)

-- ---- braces

brace_at : (s : List ℕ) → through_brace s ≡ option_map (λ i. i + 1) (position (λ b. eqb b 125) s)
unfolding through_brace
brace_at [] = refl
brace_at (b ∷ s) = rw (found (λ b. eqb b 125) b s) (go (eqb b 125) (position (λ b. eqb b 125) s) (brace_at s))
  where
    go : (t : Bool) (o : Option ℕ) → through_brace s ≡ option_map (λ i. i + 1) o → cond t (Some 1) (more 1 (through_brace s)) ≡ option_map (λ i. i + 1) (cond t (Some 0) (more 1 o))
    go true o e = refl
    go false (Some i) e = rw e (ap Some (omega arith))
    go false None e = rw e

module _ (s : List ℕ) (t : Option ℕ) (e : t ≡ position (λ b. eqb b 125) s) where
  pub brace_none : (q : Option ℕ) → t ≡ None → q ≡ None → q ≡ through_brace s
  brace_none q f g = g ∙ rw (brace_at s, ← e, f)

  pub brace_here : (i : ℕ) → t ≡ Some i → Some (i + 1) ≡ through_brace s
  brace_here i f = rw (brace_at s, ← e, f)

brace_inside : Inside through_brace
unfolding through_brace
brace_inside [] = zero-le
brace_inside (b ∷ s) = go (eqb b 125) (through_brace s) (brace_inside s)
  where
    go : (t : Bool) (o : Option ℕ) → taken o ≤ length s → taken (cond t (Some 1) (more 1 o)) ≤ suc (length s)
    go true o h = omega arith
    go false (Some n) h = omega arith
    go false None h = zero-le

pub braced_inside : Inside braced_text
unfolding braced_text
braced_inside s = go (starts_with 125 s) (brace_inside s)
  where
    go : (t : Bool) → taken (through_brace s) ≤ length s → taken (cond t None (through_brace s)) ≤ length s
    go true h = zero-le
    go false h = h

-- ---- escapes

pub escape_at : (quote : ℕ) (s : List ℕ) → list_any (λ p. eqb p.0 92 && eqb p.1 quote) (zip s (drop 1 s)) ≡ has_escape quote s
unfolding has_escape starts_with
escape_at quote [] = refl
escape_at quote (b ∷ []) = sym (rw (and-false (eqb b 92)))
escape_at quote (b ∷ d ∷ s) = ap (λ (t : Bool). (eqb b 92 && eqb d quote) || t) (escape_at quote (d ∷ s))

module _ (s : List ℕ) (n : ℕ) where
  pub short_key : n < 3 → Some (Named 2 0) ≡ string_key s n
  unfolding string_key has_escape
  short_key h = let z : n - 3 ≡ 0 = omega arith in rw z

  module _ (r : Bool) (h : 3 ≤ n) (e : r ≡ has_escape (get_or s (n - 1) 0) (take (n - 1 - 2) (drop 2 s))) where
    says : r ≡ has_escape (get_or s (n - 1) 0) (take (n - 3) (drop 2 s))
    says = e ∙ ap (λ (k : ℕ). has_escape (get_or s (n - 1) 0) (take k (drop 2 s))) (let z : n - 1 - 2 ≡ n - 3 = omega arith in z)

    pub escaped_key : r ≡ true → Some (Escaped 2 (n - 3)) ≡ string_key s n
    unfolding string_key
    escaped_key t = rw (← says, t)

    pub named_key : r ≡ false → Some (Named 2 (n - 3)) ≡ string_key s n
    unfolding string_key
    named_key t = rw (← says, t)

pub brace_first : (s : List ℕ) (r : Bool) → r ≡ starts_with 125 (drop 0 s) → r ≡ true → None ≡ braced_text s
unfolding braced_text
brace_first s r e t = rw (← e, t)

pub brace_later : (s : List ℕ) (r : Bool) (q : Option ℕ) → r ≡ starts_with 125 (drop 0 s) → r ≡ false → q ≡ through_brace s → q ≡ braced_text s
unfolding braced_text
brace_later s r q e t f = f ∙ rw (← e, t)
