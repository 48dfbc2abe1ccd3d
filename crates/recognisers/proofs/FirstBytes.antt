-- With which first bytes a recogniser can succeed, and which of its forms is left behind one of them.
-- Assumes nothing.
use Rattle.std.proofs.Common.{Option, Some, None, slice_get}
use Prim.Native.Nat.{ℕ, ◌+◌, ◌-◌, ◌≤◌, ◌<◌, min}
use native.Mathlib.Nat.{le_of_suc-le-suc, not-suc-le-zero}
use native.Mathlib.Omega.{arith}
use mathlib.Core.Path.{◌≡◌, refl, sym, ap, ◌∙◌}
use mathlib.Core.List.{List, [], ◌∷◌}
use mathlib.Core.Bool.{Bool, true, false, cond, not, ◌||◌, false≢true}
use lib.ListN.{length, drop, get_or}
use lib.Dec.{leb, ltb, eqb}
use borrow.Author.Tests.{ltb-true, ltb-false, eqb-true}
use Rattle.characters.specs.Ranges.{within, in_ranges}
use Rattle.characters.specs.WhiteSpace.{white_space}
use Rattle.characters.specs.Character.{code_point}
use Rattle.characters.specs.Classes.{is_whitespace}
use Rattle.characters.specs.Runs.{run}
use Rattle.characters.proofs.Below.{all_below, below}
use Rattle.characters.proofs.RunLaws.{ascii_first}
use Rattle.characters.proofs.WhiteStarts.{white_none, white_two, white_three, white_four}
use Rattle.characters.proofs.Within.{within_low, within_high}
use Rattle.recognisers.specs.declared.Piece.{Piece}
use Rattle.recognisers.specs.declared.Dialect.{Dialect}
use Rattle.recognisers.specs.declared.Dialect.TheVariants.{Generic, PostgreSql, SQLServer}
use Rattle.recognisers.specs.declared.TokenKind.TheVariants.{LineComment, BlockComment, TypeSpecifier, OpenParen, CloseParen, Operator}
use Rattle.recognisers.specs.Text.{bytes}
use Rattle.recognisers.specs.Taking.{Taker, more, or, done, one, spelled, typed, capital, literal, caseless, blanks, end_of_word, is_digit, count, digit1, at_least, contains, starts_with, starts_among}
use Rattle.recognisers.specs.Pieces.{token_of, alt}
use Rattle.recognisers.specs.Comment.{till_line_ending, through_block_end, get_comment_token}
use Rattle.recognisers.specs.TypeSpecifier.{get_type_specifier_token}
use Rattle.recognisers.specs.Strings.{hex_taken, quoted_taken, string_taken, placeholder_quoted_taken, placeholder_string_taken}
use Rattle.recognisers.specs.Parens.{in_postgre_sql, get_open_paren_token, get_close_paren_token}
use Rattle.recognisers.specs.Words.{get_whitespace_token, is_operator, get_operator_token}
use Rattle.recognisers.specs.Number.{decimal_number, scientific_notation, unsigned, get_number_token}
use Rattle.recognisers.specs.Placeholder.{indexed_taken, get_indexed_placeholder_token, ident_taken, get_ident_named_placeholder_token, braced_taken, get_braced_named_placeholder_token, string_named_taken, get_string_named_placeholder_token, get_placeholder_token}

-- ---- a choice whose other part fails

pub or_fails : (t : Option ℕ) → t ≡ or t None
or_fails (Some n) = refl
or_fails None = refl

pub alt_nothing : (r : Option Piece) → r ≡ alt r None
alt_nothing (Some p) = refl
alt_nothing None = refl

-- ---- a byte that is not among some

module _ (ks : List ℕ) (b : ℕ) (n : contains ks b ≡ false) where
  pub none_of : (k : ℕ) → contains ks k ≡ true → eqb b k ≡ false
  none_of k c = go (eqb b k) refl
    where
      go : (t : Bool) → eqb b k ≡ t → t ≡ false
      go true q = absurd (false≢true (sym n ∙ (ap (contains ks) (eqb-true b k q) ∙ c)))
      go false q = refl

  -- nor does its capital stand there
  pub no_capital : (k : ℕ) → contains ks k ≡ true → contains ks (k + 32) ≡ true → eqb (capital b) k ≡ false
  unfolding capital
  no_capital k c d = go (within 0x61 0x7A b) refl
    where
      low : within 0x61 0x7A b ≡ true → (t : Bool) → eqb (b - 0x20) k ≡ t → t ≡ false
      low w true q =
          let h : 0x61 ≤ b = within_low 0x61 0x7A b w in
          let e : b - 0x20 ≡ k = eqb-true (b - 0x20) k q in
          let f : b ≡ k + 32 = omega arith in
          absurd (false≢true (sym n ∙ (ap (contains ks) f ∙ d)))
      low w false q = refl

      go : (t : Bool) → within 0x61 0x7A b ≡ t → eqb (cond t (b - 0x20) b) k ≡ false
      go true w = low w (eqb (b - 0x20) k) refl
      go false w = none_of k c

-- an opener of one byte
pub opened : (k : ℕ) (then : Taker) (s : List ℕ) (r : Option ℕ) → starts_with k s ≡ true → r ≡ more 1 (then (drop 1 s)) → r ≡ literal (k ∷ []) then s
unfolding starts_with spelled one typed
opened k then [] r e f = absurd (false≢true e)
opened k then (b ∷ s) r e f = f ∙ rw e

-- ---- whitespace

abbrev white_starts : List ℕ
white_starts = 0x09 ∷ 0x0A ∷ 0x0B ∷ 0x0C ∷ 0x0D ∷ 0x20 ∷ 0xC0 ∷ 0xC2 ∷ 0xE0 ∷ 0xE1 ∷ 0xE2 ∷ 0xE3 ∷ 0xF0 ∷ []

whites_among : all_below (λ k. not (is_whitespace k) || contains white_starts k) 128 ≡ true
unfolding contains is_whitespace in_ranges within white_space
whites_among = refl

module _ (b : ℕ) (s : List ℕ) (n : contains white_starts b ≡ false) where
  -- it is none of them
  is_no : (k : ℕ) → contains white_starts k ≡ true → b ≡ k → ⊥
  is_no k c e = false≢true (sym n ∙ (ap (contains white_starts) e ∙ c))

  ascii_no : b < 128 → is_whitespace (code_point (b ∷ s)) ≡ false
  ascii_no h = rw (ascii_first b s h) (go (is_whitespace b) refl (below (λ k. not (is_whitespace k) || contains white_starts k) 128 whites_among b h))
    where
      go : (t : Bool) → is_whitespace b ≡ t → (not t || contains white_starts b) ≡ true → t ≡ false
      go true q f = absurd (false≢true (sym n ∙ f))
      go false q f = refl

  wide_no : 128 ≤ b → is_whitespace (code_point (b ∷ s)) ≡ false
  unfolding contains
  wide_no h = go (ltb b 0xC0) (ltb b 0xE0) (ltb b 0xF0) refl refl refl
    where
      go : (t u v : Bool) → ltb b 0xC0 ≡ t → ltb b 0xE0 ≡ u → ltb b 0xF0 ≡ v → is_whitespace (code_point (b ∷ s)) ≡ false
      go true u v p q r = white_none b s h (ltb-true b 0xC0 p)
      go false true v p q r = white_two b (ltb-false b 0xC0 p) (ltb-true b 0xE0 q) (is_no 0xC0 refl) (is_no 0xC2 refl) s
      go false false true p q r =
          let k : 0xE0 ≤ b = ltb-false b 0xE0 q in
          let o : 0xE3 < b = omega (arith, is_no 0xE0 refl, is_no 0xE1 refl, is_no 0xE2 refl, is_no 0xE3 refl) in
          white_three b o (ltb-true b 0xF0 r) s
      go false false false p q r =
          let k : 0xF0 ≤ b = ltb-false b 0xF0 r in
          let o : 0xF0 < b = omega (arith, is_no 0xF0 refl) in
          white_four b o s

  no_white : is_whitespace (code_point (b ∷ s)) ≡ false
  no_white = go (ltb b 128) refl
    where
      go : (t : Bool) → ltb b 128 ≡ t → is_whitespace (code_point (b ∷ s)) ≡ false
      go true q = ascii_no (ltb-true b 128 q)
      go false q = wide_no (ltb-false b 128 q)

no_whitespace_cons : (b : ℕ) (s : List ℕ) → contains white_starts b ≡ false → None ≡ get_whitespace_token (b ∷ s)
unfolding get_whitespace_token run
no_whitespace_cons b s n = rw (no_white b s n)

-- ---- comments

no_comment_cons : (b : ℕ) (s : List ℕ) → contains (bytes "#-/") b ≡ false → None ≡ get_comment_token (b ∷ s)
unfolding get_comment_token spelled one typed contains
no_comment_cons b s n = rw (none_of (bytes "#-/") b n 35 refl, none_of (bytes "#-/") b n 45 refl, none_of (bytes "#-/") b n 47 refl)

-- ---- type specifiers

no_specifier_cons : (allowed : Bool) (b : ℕ) (s : List ℕ) → contains (bytes ":[") b ≡ false → None ≡ get_type_specifier_token allowed (b ∷ s)
unfolding get_type_specifier_token spelled one typed contains
no_specifier_cons true b s n = rw (none_of (bytes ":[") b n 58 refl, none_of (bytes ":[") b n 91 refl)
no_specifier_cons false b s n = refl

-- ---- strings

no_string_cons : (dialect : Dialect) (b : ℕ) (s : List ℕ) → contains (bytes "'\"`[NExX") b ≡ false → None ≡ string_taken dialect (b ∷ s)
unfolding string_taken quoted_taken hex_taken spelled one typed contains
no_string_cons dialect b s n = go dialect
  where
    no : (k : ℕ) → contains (bytes "'\"`[NExX") k ≡ true → eqb b k ≡ false
    no = none_of (bytes "'\"`[NExX") b n

    go : (d : Dialect) → None ≡ string_taken d (b ∷ s)
    go Generic = rw (no 96 refl, no 34 refl, no 39 refl, no 78 refl, no 69 refl, no 120 refl, no 88 refl)
    go PostgreSql = rw (no 96 refl, no 34 refl, no 39 refl, no 78 refl, no 69 refl, no 120 refl, no 88 refl)
    go SQLServer = rw (no 96 refl, no 91 refl, no 34 refl, no 39 refl, no 78 refl, no 69 refl, no 120 refl, no 88 refl)

no_named_cons : (dialect : Dialect) (b : ℕ) (s : List ℕ) → contains (bytes "'\"`[N") b ≡ false → None ≡ placeholder_string_taken dialect (b ∷ s)
unfolding placeholder_string_taken placeholder_quoted_taken spelled one typed contains
no_named_cons dialect b s n = go dialect
  where
    no : (k : ℕ) → contains (bytes "'\"`[N") k ≡ true → eqb b k ≡ false
    no = none_of (bytes "'\"`[N") b n

    go : (d : Dialect) → None ≡ placeholder_string_taken d (b ∷ s)
    go Generic = rw (no 96 refl, no 34 refl, no 39 refl, no 78 refl)
    go PostgreSql = rw (no 96 refl, no 34 refl, no 39 refl, no 78 refl)
    go SQLServer = rw (no 96 refl, no 91 refl, no 34 refl, no 39 refl, no 78 refl)

-- ---- parens

no_open_cons : (dialect : Dialect) (b : ℕ) (s : List ℕ) → contains (bytes "([Cc") b ≡ false → None ≡ get_open_paren_token dialect (b ∷ s)
unfolding get_open_paren_token spelled one typed contains
no_open_cons Generic b s n = rw (none_of (bytes "([Cc") b n 40 refl, no_capital (bytes "([Cc") b n 67 refl refl)
no_open_cons PostgreSql b s n = rw (none_of (bytes "([Cc") b n 40 refl, none_of (bytes "([Cc") b n 91 refl, no_capital (bytes "([Cc") b n 67 refl refl)
no_open_cons SQLServer b s n = rw (none_of (bytes "([Cc") b n 40 refl, no_capital (bytes "([Cc") b n 67 refl refl)

no_close_cons : (dialect : Dialect) (b : ℕ) (s : List ℕ) → contains (bytes ")]Ee") b ≡ false → None ≡ get_close_paren_token dialect (b ∷ s)
unfolding get_close_paren_token spelled one typed contains
no_close_cons Generic b s n = rw (none_of (bytes ")]Ee") b n 41 refl, no_capital (bytes ")]Ee") b n 69 refl refl)
no_close_cons PostgreSql b s n = rw (none_of (bytes ")]Ee") b n 41 refl, none_of (bytes ")]Ee") b n 93 refl, no_capital (bytes ")]Ee") b n 69 refl refl)
no_close_cons SQLServer b s n = rw (none_of (bytes ")]Ee") b n 41 refl, no_capital (bytes ")]Ee") b n 69 refl refl)

-- ---- placeholders

no_placeholder_cons : (named : Bool) (dialect : Dialect) (b : ℕ) (s : List ℕ) → contains (bytes "?@:${") b ≡ false → None ≡ get_placeholder_token named dialect (b ∷ s)
unfolding get_placeholder_token get_ident_named_placeholder_token get_string_named_placeholder_token get_indexed_placeholder_token get_braced_named_placeholder_token indexed_taken ident_taken string_named_taken braced_taken spelled one typed contains
no_placeholder_cons named dialect b s n = go named
  where
    no : (k : ℕ) → contains (bytes "?@:${") k ≡ true → eqb b k ≡ false
    no = none_of (bytes "?@:${") b n

    go : (t : Bool) → None ≡ get_placeholder_token t dialect (b ∷ s)
    go true = rw (no 63 refl, no 64 refl, no 58 refl, no 36 refl, no 123 refl)
    go false = rw (no 63 refl, no 64 refl, no 58 refl, no 36 refl, no 123 refl)

-- ---- numbers

digits_among : all_below (λ k. not (is_digit k) || contains (bytes "-0123456789") k) 128 ≡ true
unfolding contains within
digits_among = refl

digit_among : (b : ℕ) → is_digit b ≡ true → contains (bytes "-0123456789") b ≡ true
digit_among b w = go (below (λ k. not (is_digit k) || contains (bytes "-0123456789") k) 128 digits_among b small) w
  where
    small : b < 128
    small = let h : b ≤ 0x39 = within_high 0x30 0x39 b w in omega arith

    go : (not (is_digit b) || contains (bytes "-0123456789") b) ≡ true → is_digit b ≡ true → contains (bytes "-0123456789") b ≡ true
    go f q = rw q at f

no_digit : (b : ℕ) → contains (bytes "-0123456789") b ≡ false → is_digit b ≡ false
no_digit b n = go (is_digit b) refl
  where
    go : (t : Bool) → is_digit b ≡ t → t ≡ false
    go true q = absurd (false≢true (sym n ∙ digit_among b q))
    go false q = refl

-- no number without a digit
no_digit_left : (s : List ℕ) → leb 1 (count is_digit s) ≡ false → None ≡ unsigned s
unfolding unsigned scientific_notation decimal_number digit1
no_digit_left s n = rw n

no_number_cons : (b : ℕ) (s : List ℕ) → contains (bytes "-0123456789") b ≡ false → None ≡ get_number_token (b ∷ s)
unfolding get_number_token spelled one typed contains count
no_number_cons b s n = rw (none_of (bytes "-0123456789") b n 45 refl, ← no_digit_left (b ∷ s) (rw (no_digit b n)))

-- ---- what is left behind a first byte

hash_left : (s : List ℕ) → starts_with 35 s ≡ true → token_of LineComment (literal (bytes "#") till_line_ending s) ≡ get_comment_token s
unfolding starts_with get_comment_token spelled one typed
hash_left [] e = absurd (false≢true e)
hash_left (b ∷ s) e = rw (eqb-true b 35 e) (alt_nothing _)

dashes_left : (s : List ℕ) → starts_with 45 s ≡ true → token_of LineComment (literal (bytes "--") till_line_ending s) ≡ get_comment_token s
unfolding starts_with get_comment_token spelled one typed
dashes_left [] e = absurd (false≢true e)
dashes_left (b ∷ s) e = rw (eqb-true b 45 e) (alt_nothing _)

block_left : (s : List ℕ) → starts_with 35 s ≡ false → starts_with 45 s ≡ false → token_of BlockComment (literal (bytes "/*") through_block_end s) ≡ get_comment_token s
unfolding starts_with get_comment_token spelled one typed
block_left [] e f = refl
block_left (b ∷ s) e f = rw (e, f)

open_square_left : (dialect : Dialect) (s : List ℕ) → starts_with 91 s ≡ true → token_of OpenParen (in_postgre_sql dialect (literal (bytes "[") done) s) ≡ get_open_paren_token dialect s
unfolding starts_with get_open_paren_token spelled one typed capital within
open_square_left dialect [] e = absurd (false≢true e)
open_square_left Generic (b ∷ s) e = rw (eqb-true b 91 e)
open_square_left PostgreSql (b ∷ s) e = rw (eqb-true b 91 e)
open_square_left SQLServer (b ∷ s) e = rw (eqb-true b 91 e)

open_round_left : (dialect : Dialect) (s : List ℕ) → starts_with 40 s ≡ true → token_of OpenParen (Some 1) ≡ get_open_paren_token dialect s
unfolding starts_with get_open_paren_token spelled one typed
open_round_left dialect [] e = absurd (false≢true e)
open_round_left dialect (b ∷ s) e = rw (eqb-true b 40 e)

open_left : (dialect : Dialect) (s : List ℕ) → starts_with 40 s ≡ false → starts_with 91 s ≡ false → token_of OpenParen (caseless (bytes "CASE") end_of_word s) ≡ get_open_paren_token dialect s
unfolding starts_with get_open_paren_token spelled one typed
open_left Generic [] e f = refl
open_left PostgreSql [] e f = refl
open_left SQLServer [] e f = refl
open_left Generic (b ∷ s) e f = rw e
open_left PostgreSql (b ∷ s) e f = rw (e, f)
open_left SQLServer (b ∷ s) e f = rw e

close_square_left : (dialect : Dialect) (s : List ℕ) → starts_with 93 s ≡ true → token_of CloseParen (in_postgre_sql dialect (literal (bytes "]") done) s) ≡ get_close_paren_token dialect s
unfolding starts_with get_close_paren_token spelled one typed capital within
close_square_left dialect [] e = absurd (false≢true e)
close_square_left Generic (b ∷ s) e = rw (eqb-true b 93 e)
close_square_left PostgreSql (b ∷ s) e = rw (eqb-true b 93 e)
close_square_left SQLServer (b ∷ s) e = rw (eqb-true b 93 e)

close_round_left : (dialect : Dialect) (s : List ℕ) → starts_with 41 s ≡ true → token_of CloseParen (Some 1) ≡ get_close_paren_token dialect s
unfolding starts_with get_close_paren_token spelled one typed
close_round_left dialect [] e = absurd (false≢true e)
close_round_left dialect (b ∷ s) e = rw (eqb-true b 41 e)

close_left : (dialect : Dialect) (s : List ℕ) → starts_with 41 s ≡ false → starts_with 93 s ≡ false
    → token_of CloseParen (or (caseless (bytes "END") (blanks (caseless (bytes "CASE") end_of_word)) s) (caseless (bytes "END") end_of_word s)) ≡ get_close_paren_token dialect s
unfolding starts_with get_close_paren_token spelled one typed
close_left Generic [] e f = refl
close_left PostgreSql [] e f = refl
close_left SQLServer [] e f = refl
close_left Generic (b ∷ s) e f = rw e
close_left PostgreSql (b ∷ s) e f = rw (e, f)
close_left SQLServer (b ∷ s) e f = rw e

colons_left : (s : List ℕ) → starts_with 58 s ≡ true → token_of TypeSpecifier (literal (bytes "::") done s) ≡ get_type_specifier_token true s
unfolding starts_with get_type_specifier_token spelled one typed
colons_left [] e = absurd (false≢true e)
colons_left (b ∷ s) e = rw (eqb-true b 58 e) (ap (token_of TypeSpecifier) (or_fails _))

brackets_left : (s : List ℕ) → starts_with 58 s ≡ false → token_of TypeSpecifier (literal (bytes "[]") done s) ≡ get_type_specifier_token true s
unfolding starts_with get_type_specifier_token spelled one typed
brackets_left [] e = refl
brackets_left (b ∷ s) e = rw e

-- ---- as the recognisers use them, where the first byte is not among those that may stand there

module _ (r : Option Piece) (f : r ≡ None) where
  pub no_whitespace : (s : List ℕ) → starts_among white_starts s ≡ false → r ≡ get_whitespace_token s
  unfolding starts_among get_whitespace_token run
  no_whitespace [] e = f
  no_whitespace (b ∷ s) e = f ∙ no_whitespace_cons b s e

  pub no_comment : (s : List ℕ) → starts_among (bytes "#-/") s ≡ false → r ≡ get_comment_token s
  unfolding starts_among get_comment_token spelled one
  no_comment [] e = f
  no_comment (b ∷ s) e = f ∙ no_comment_cons b s e

  pub no_specifier : (allowed : Bool) (s : List ℕ) → starts_among (bytes ":[") s ≡ false → r ≡ get_type_specifier_token allowed s
  unfolding starts_among get_type_specifier_token spelled one
  no_specifier true [] e = f
  no_specifier false [] e = f
  no_specifier allowed (b ∷ s) e = f ∙ no_specifier_cons allowed b s e

  pub no_open : (dialect : Dialect) (s : List ℕ) → starts_among (bytes "([Cc") s ≡ false → r ≡ get_open_paren_token dialect s
  unfolding starts_among get_open_paren_token spelled one
  no_open Generic [] e = f
  no_open PostgreSql [] e = f
  no_open SQLServer [] e = f
  no_open dialect (b ∷ s) e = f ∙ no_open_cons dialect b s e

  pub no_close : (dialect : Dialect) (s : List ℕ) → starts_among (bytes ")]Ee") s ≡ false → r ≡ get_close_paren_token dialect s
  unfolding starts_among get_close_paren_token spelled one
  no_close Generic [] e = f
  no_close PostgreSql [] e = f
  no_close SQLServer [] e = f
  no_close dialect (b ∷ s) e = f ∙ no_close_cons dialect b s e

  pub no_placeholder : (named : Bool) (dialect : Dialect) (s : List ℕ) → starts_among (bytes "?@:${") s ≡ false → r ≡ get_placeholder_token named dialect s
  unfolding starts_among get_placeholder_token get_ident_named_placeholder_token get_string_named_placeholder_token get_indexed_placeholder_token get_braced_named_placeholder_token indexed_taken ident_taken string_named_taken braced_taken spelled one
  no_placeholder true dialect [] e = f
  no_placeholder false dialect [] e = f
  no_placeholder named dialect (b ∷ s) e = f ∙ no_placeholder_cons named dialect b s e

module _ (r : Option ℕ) (f : r ≡ None) where
  pub no_string : (dialect : Dialect) (s : List ℕ) → starts_among (bytes "'\"`[NExX") s ≡ false → r ≡ string_taken dialect s
  unfolding starts_among string_taken quoted_taken hex_taken spelled one
  no_string Generic [] e = f
  no_string PostgreSql [] e = f
  no_string SQLServer [] e = f
  no_string dialect (b ∷ s) e = f ∙ no_string_cons dialect b s e

  pub no_named_string : (dialect : Dialect) (s : List ℕ) → starts_among (bytes "'\"`[N") s ≡ false → r ≡ placeholder_string_taken dialect s
  unfolding starts_among placeholder_string_taken placeholder_quoted_taken spelled one
  no_named_string Generic [] e = f
  no_named_string PostgreSql [] e = f
  no_named_string SQLServer [] e = f
  no_named_string dialect (b ∷ s) e = f ∙ no_named_cons dialect b s e

pub no_number : (s : List ℕ) (p : Bool) → p ≡ starts_among (bytes "-0123456789") s → p ≡ false → None ≡ get_number_token s
unfolding starts_among get_number_token unsigned scientific_notation decimal_number digit1 count spelled one
no_number [] p e n = refl
no_number (b ∷ s) p e n = no_number_cons b s (sym e ∙ n)

-- ---- as they use them by the first byte k: r is made of what was taken

-- which byte it is, and which it is not
module _ (k : ℕ) where
  pub first_is : (s : List ℕ) (m : ℕ) → starts_with k s ≡ true → k ≡ m → starts_with m s ≡ true
  first_is s m e q = rw q at e

  pub is_other : (b m : ℕ) → eqb b k ≡ true → (k ≡ m → ⊥) → eqb b m ≡ false
  is_other b m e n = go (eqb b m) refl
    where
      go : (t : Bool) → eqb b m ≡ t → t ≡ false
      go true q = absurd (n (sym (eqb-true b k e) ∙ eqb-true b m q))
      go false q = refl

  pub first_not : (s : List ℕ) (m : ℕ) → starts_with k s ≡ true → (k ≡ m → ⊥) → starts_with m s ≡ false
  unfolding starts_with
  first_not [] m e n = absurd (false≢true e)
  first_not (b ∷ s) m e n = is_other b m e n

module _ (k : ℕ) (t : Option ℕ) (r : Option Piece) (s : List ℕ) (e : starts_with k s ≡ true) where
  pub hash_comment : k ≡ 35 → t ≡ literal (bytes "#") till_line_ending s → r ≡ token_of LineComment t → r ≡ get_comment_token s
  hash_comment q f g = g ∙ (ap (token_of LineComment) f ∙ hash_left s (first_is k s 35 e q))

  pub dashed_comment : k ≡ 45 → t ≡ literal (bytes "--") till_line_ending s → r ≡ token_of LineComment t → r ≡ get_comment_token s
  dashed_comment q f g = g ∙ (ap (token_of LineComment) f ∙ dashes_left s (first_is k s 45 e q))

  pub block_comment_is : (k ≡ 35 → ⊥) → (k ≡ 45 → ⊥) → t ≡ literal (bytes "/*") through_block_end s → r ≡ token_of BlockComment t → r ≡ get_comment_token s
  block_comment_is n m f g = g ∙ (ap (token_of BlockComment) f ∙ block_left s (first_not k s 35 e n) (first_not k s 45 e m))

  module _ (allowed : Bool) (y : allowed ≡ true) where
    pub colons : k ≡ 58 → t ≡ literal (bytes "::") done s → r ≡ token_of TypeSpecifier t → r ≡ get_type_specifier_token allowed s
    colons q f g = rw y (g ∙ (ap (token_of TypeSpecifier) f ∙ colons_left s (first_is k s 58 e q)))

    pub brackets : (k ≡ 58 → ⊥) → t ≡ literal (bytes "[]") done s → r ≡ token_of TypeSpecifier t → r ≡ get_type_specifier_token allowed s
    brackets n f g = rw y (g ∙ (ap (token_of TypeSpecifier) f ∙ brackets_left s (first_not k s 58 e n)))

  module _ (dialect : Dialect) where
    pub open_round : k ≡ 40 → t ≡ Some 1 → r ≡ token_of OpenParen t → r ≡ get_open_paren_token dialect s
    open_round q f g = g ∙ (ap (token_of OpenParen) f ∙ open_round_left dialect s (first_is k s 40 e q))

    pub open_square : k ≡ 91 → t ≡ in_postgre_sql dialect (literal (bytes "[") done) s → r ≡ token_of OpenParen t → r ≡ get_open_paren_token dialect s
    open_square q f g = g ∙ (ap (token_of OpenParen) f ∙ open_square_left dialect s (first_is k s 91 e q))

    pub open_other : (k ≡ 40 → ⊥) → (k ≡ 91 → ⊥) → t ≡ caseless (bytes "CASE") end_of_word s → r ≡ token_of OpenParen t → r ≡ get_open_paren_token dialect s
    open_other n m f g = g ∙ (ap (token_of OpenParen) f ∙ open_left dialect s (first_not k s 40 e n) (first_not k s 91 e m))

    pub close_round : k ≡ 41 → t ≡ Some 1 → r ≡ token_of CloseParen t → r ≡ get_close_paren_token dialect s
    close_round q f g = g ∙ (ap (token_of CloseParen) f ∙ close_round_left dialect s (first_is k s 41 e q))

    pub close_square : k ≡ 93 → t ≡ in_postgre_sql dialect (literal (bytes "]") done) s → r ≡ token_of CloseParen t → r ≡ get_close_paren_token dialect s
    close_square q f g = g ∙ (ap (token_of CloseParen) f ∙ close_square_left dialect s (first_is k s 93 e q))

    pub close_other : (k ≡ 41 → ⊥) → (k ≡ 93 → ⊥) → t ≡ or (caseless (bytes "END") (blanks (caseless (bytes "CASE") end_of_word)) s) (caseless (bytes "END") end_of_word s) → r ≡ token_of CloseParen t → r ≡ get_close_paren_token dialect s
    close_other n m f g = g ∙ (ap (token_of CloseParen) f ∙ close_left dialect s (first_not k s 41 e n) (first_not k s 93 e m))

-- ---- a run of operators needs two

abbrev operator_run : List ℕ → Option Piece
operator_run s = token_of Operator (at_least 2 (min (count is_operator s) 5))

none_taken : (t : Bool) → None ≡ token_of Operator (at_least 2 (min (cond t 1 0) 5))
none_taken true = refl
none_taken false = refl

module _ (s : List ℕ) where
  pub no_operator_text : None ≡ slice_get s 0 → None ≡ get_operator_token s
  unfolding get_operator_token count
  no_operator_text q = go s q
    where
      go : (s : List ℕ) → None ≡ slice_get s 0 → None ≡ operator_run s
      go [] q = refl
      go (a ∷ s) q = absurd (let z : ⊥ = cc in z)

  pub no_operator : (b : ℕ) → Some b ≡ slice_get s 0 → is_operator b ≡ false → None ≡ get_operator_token s
  unfolding get_operator_token count
  no_operator b q f = go s q
    where
      go : (s : List ℕ) → Some b ≡ slice_get s 0 → None ≡ operator_run s
      go [] q = absurd (let z : ⊥ = cc in z)
      go (a ∷ s) q =
          let k : b ≡ a = cc in
          rw (← k, f) refl

  pub one_byte : length s ≤ 1 → None ≡ get_operator_token s
  unfolding get_operator_token count
  one_byte l = go s l
    where
      go : (s : List ℕ) → length s ≤ 1 → None ≡ operator_run s
      go [] l = refl
      go (a ∷ []) l = none_taken (is_operator a)
      go (a ∷ b ∷ s) l = absurd (not-suc-le-zero (le_of_suc-le-suc l))

  pub lone_operator : (b : ℕ) → 1 < length s → b ≡ get_or s 1 0 → is_operator b ≡ false → None ≡ get_operator_token s
  unfolding get_operator_token count
  lone_operator b l e f = go s l e
    where
      go : (s : List ℕ) → 1 < length s → b ≡ get_or s 1 0 → None ≡ operator_run s
      go [] l e = absurd (not-suc-le-zero l)
      go (a ∷ []) l e = absurd (not-suc-le-zero (le_of_suc-le-suc l))
      go (a ∷ c ∷ s) l e = rw (← e, f) (none_taken (is_operator a))
