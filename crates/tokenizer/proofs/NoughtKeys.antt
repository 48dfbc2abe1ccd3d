-- A token whose key is a one-indexed zero begins with `$0`: the only recogniser that gives such a key reads digits behind a `$`.
-- Assumes nothing.
use Rattle.std.proofs.Common.{Option, Some, None}
use Prim.Native.Nat.{ℕ, suc, ◌+◌, ◌-◌, ◌*◌, ◌^◌, ◌≤◌, ◌<◌}
use native.Mathlib.Nat.{le_trans}
use native.Mathlib.Omega.{arith}
use mathlib.Core.Path.{◌≡◌, refl, ◌∙◌, subst}
use mathlib.Core.List.{List, [], ◌∷◌}
use mathlib.Core.Bool.{Bool, true, false, cond, not, ◌&&◌, ◌||◌, false≢true}
use lib.Dec.{leb, ltb, eqb}
use lib.ListN.{length, get_or, take, drop}
use borrow.Author.Tests.{leb-true, le-leb, eq-eqb}
use Rattle.std.proofs.lemmas.Bool.{lt-leb}
use Rattle.characters.specs.Ranges.{within}
use Rattle.recognisers.specs.declared.Piece.{Piece}
use Rattle.recognisers.specs.declared.Dialect.{Dialect}
use Rattle.recognisers.specs.declared.Key.{Key}
use Rattle.recognisers.specs.declared.Key.TheVariants as K
use Rattle.recognisers.specs.declared.TokenKind.{TokenKind}
use Rattle.recognisers.specs.declared.TokenKind.TheVariants as T
use Rattle.recognisers.specs.Text.{byte, bytes}
use Rattle.recognisers.specs.Taking.{or, more, done, one, spelled, typed, literal, digit1, count, is_digit, contains, starts_with}
use Rattle.recognisers.specs.Pieces.{token_of, quote_token, alt}
use Rattle.recognisers.specs.Comment.{till_line_ending, through_block_end, get_comment_token}
use Rattle.recognisers.specs.TypeSpecifier.{get_type_specifier_token}
use Rattle.recognisers.specs.Strings.{string_taken, get_string_token}
use Rattle.recognisers.specs.Parens.{get_open_paren_token, get_close_paren_token}
use Rattle.recognisers.specs.Number.{get_number_token}
use Rattle.recognisers.specs.Placeholder.{keyed, number_from, number_of, indexed, indexed_key, indexed_taken, ident_taken, braced_taken, has_escape, string_key, string_named_taken, get_indexed_placeholder_token, get_ident_named_placeholder_token, get_braced_named_placeholder_token, get_string_named_placeholder_token, get_placeholder_token}
use Rattle.recognisers.specs.Words.{get_whitespace_token, get_operator_token, get_word_token, get_any_other_char}
use Rattle.reserved.specs.declared.TopLevel.{TopLevel}
use Rattle.reserved.specs.Phrases.{first_phrase}
use Rattle.reserved.specs.TopLevel.{top_level_phrases}
use Rattle.reserved.specs.NewlineAfter.{newline_after_phrases}
use Rattle.reserved.specs.Newline.{newline_phrases}
use Rattle.reserved.specs.Join.{join_phrases}
use Rattle.reserved.specs.NoIndent.{no_indent_phrases}
use Rattle.reserved.specs.Plain.{plain_two_phrases, plain_one_phrases}
use Rattle.reserved.specs.Reserved.{top_level_token, newline_token, get_top_level_reserved_token, get_newline_after_reserved_token, get_newline_reserved_token, get_join_token, get_top_level_reserved_token_no_indent, get_plain_reserved_token, may_be_reserved, get_reserved_word_token}
use Rattle.calls.specs.declared.Settings.{Settings}
use Rattle.tokenizer.specs.declared.Memory.{Memory}
use Rattle.tokenizer.specs.NextToken.{next_piece}
use Rattle.tokenizer.specs.Tokens.{placed, tokens}
use Rattle.tokenizer.proofs.ByOrder.{by_order}
use Rattle.tokenizer.proofs.EachToken.{Each, each_token}

-- `$0` stands at the start
abbrev pub nought_here : List ℕ → Bool
nought_here s = starts_with (byte "$") s && starts_with (byte "0") (drop 1 s)

-- it does where this is the key
abbrev pub Stands : List ℕ → Option Key → Type 0
Stands s None = Unit {0}
Stands s (Some (K.Named start len)) = Unit {0}
Stands s (Some (K.Escaped start len)) = Unit {0}
Stands s (Some (K.ZeroIndexed n)) = Unit {0}
Stands s (Some (K.OneIndexed n)) = n ≡ 0 → nought_here s ≡ true

abbrev PieceStands : List ℕ → Option Piece → Type 0
PieceStands s (Some p) = Stands s p.key
PieceStands s None = Unit {0}

-- ---- a number that is nought begins with `0`

number_more : (n : ℕ) (digits : List ℕ) → n ≤ number_from n digits
unfolding number_from
number_more n [] = omega arith
number_more n (d ∷ digits) = le_trans (omega arith) (number_more (n * 10 + (d - byte "0")) digits)

-- a digit that is nought, and those behind it
digit_nought : (c : ℕ) (rest : List ℕ) → is_digit c ≡ true → number_from 0 (c ∷ rest) ≡ 0 → eqb c 48 ≡ true
unfolding number_from within
digit_nought c rest d e = go (leb 48 c) refl (leb c 57) d
  where
    go : (t : Bool) → leb 48 c ≡ t → (u : Bool) → (t && u) ≡ true → eqb c 48 ≡ true
    go true f u g =
        let least : 48 ≤ c = leb-true 48 c f in
        let most = number_more (0 * 10 + (c - byte "0")) rest in
        let is : c ≡ 48 = omega (arith, least, most, e) in
        eq-eqb c 48 is
    go false f u g = absurd (false≢true g)

number_is : (digits : List ℕ) (m : ℕ) → number_of digits ≡ Some m → number_from 0 digits ≡ m
number_is digits m = go (ltb (number_from 0 digits) (2 ^ 64))
  where
    go : (t : Bool) → cond t (Some (number_from 0 digits)) None ≡ Some m → number_from 0 digits ≡ m
    go true e = cc
    go false e = absurd (let z : ◌≡◌ {A = ℕ} 0 1 = cc in let y : ⊥ = omega arith in y)

-- ---- the indexed placeholder

module _ (s : List ℕ) where
  told_stands : (q : Option ℕ) → ((m : ℕ) → q ≡ Some m → m ≡ 0 → starts_with (byte "0") (drop 1 s) ≡ true) → (f : Bool) → starts_with (byte "$") s ≡ f → Stands s (indexed f q)
  told_stands (Some n) h true e = λ z. rw (e, h n refl z) refl
  told_stands (Some n) h false e = tt
  told_stands None h f e = tt

  -- the mark alone
  mark_stands : (t : Bool) → PieceStands s (keyed (indexed_key s) (cond t (more 1 (Some 0)) None))
  unfolding indexed_key
  mark_stands true = tt
  mark_stands false = tt

-- the mark and digits, of which there is one at least
digits_stand : (b c : ℕ) (rest : List ℕ) → is_digit c ≡ true → (n : ℕ) → Stands (b ∷ c ∷ rest) (indexed_key (b ∷ c ∷ rest) (suc (suc n)))
unfolding indexed_key starts_with
digits_stand b c rest d n =
    let e : suc (suc n) - 1 ≡ suc n = omega arith in
    let f : leb (suc (suc n)) 1 ≡ false = lt-leb _ _ (omega arith) in
    rw (e, f)
    (told_stands (b ∷ c ∷ rest) (number_of (c ∷ take n rest)) (λ m g z. digit_nought c (take n rest) d (number_is (c ∷ take n rest) m g ∙ z)) (eqb b (byte "$")) refl)

indexed_stands : (s : List ℕ) → PieceStands s (get_indexed_placeholder_token s)
unfolding get_indexed_placeholder_token indexed_taken one spelled digit1 count
indexed_stands [] = tt
indexed_stands (b ∷ []) = go (contains (bytes "?$") b)
  where
    go : (t : Bool) → PieceStands (b ∷ []) (keyed (indexed_key (b ∷ [])) (or (cond t (more 1 (digit1 done [])) None) (spelled typed (bytes "?") done (b ∷ []))))
    go true = mark_stands (b ∷ []) (eqb (typed b) 63)
    go false = mark_stands (b ∷ []) (eqb (typed b) 63)
indexed_stands (b ∷ c ∷ rest) = go (contains (bytes "?$") b) (is_digit c) refl
  where
    go : (t u : Bool) → is_digit c ≡ u
        → PieceStands (b ∷ c ∷ rest) (keyed (indexed_key (b ∷ c ∷ rest)) (or (cond t (more 1 (digit1 done (c ∷ rest))) None) (spelled typed (bytes "?") done (b ∷ c ∷ rest))))
    go true true e =
        let n : suc (suc (count is_digit rest)) ≡ 1 + (suc (count is_digit rest) + 0) = omega arith in
        let f : leb 1 (suc (count is_digit rest)) ≡ true = le-leb _ _ (omega arith) in
        rw (e, f) (subst (λ (k : ℕ). Stands (b ∷ c ∷ rest) (indexed_key (b ∷ c ∷ rest) k)) n (digits_stand b c rest e (count is_digit rest)))
    go true false e = rw e (mark_stands (b ∷ c ∷ rest) (eqb (typed b) 63))
    go false u e = mark_stands (b ∷ c ∷ rest) (eqb (typed b) 63)

-- ---- the others have other keys, or none

alt_stands : (s : List ℕ) (a b : Option Piece) → PieceStands s a → PieceStands s b → PieceStands s (alt a b)
alt_stands s (Some p) b h l = h
alt_stands s None b h l = l

token_stands : (s : List ℕ) (kind : TokenKind) (t : Option ℕ) → PieceStands s (token_of kind t)
token_stands s kind (Some n) = tt
token_stands s kind None = tt

module _ (s : List ℕ) where
  ident_stands : PieceStands s (get_ident_named_placeholder_token s)
  unfolding get_ident_named_placeholder_token
  ident_stands = go (ident_taken s)
    where
      go : (t : Option ℕ) → PieceStands s (keyed (λ n. Some (K.Named 1 (n - 1))) t)
      go (Some n) = tt
      go None = tt

  braced_stands : PieceStands s (get_braced_named_placeholder_token s)
  unfolding get_braced_named_placeholder_token
  braced_stands = go (braced_taken s)
    where
      go : (t : Option ℕ) → PieceStands s (keyed (λ n. Some (K.Named 1 (n - 2))) t)
      go (Some n) = tt
      go None = tt

  string_key_stands : (n : ℕ) → Stands s (string_key s n)
  unfolding string_key
  string_key_stands n = go (has_escape (get_or s (n - 1) 0) (take (n - 3) (drop 2 s)))
    where
      go : (t : Bool) → Stands s (cond t (Some (K.Escaped 2 (n - 3))) (Some (K.Named 2 (n - 3))))
      go true = tt
      go false = tt

  quote_stands : (kind : TokenKind) (key : ℕ → Option Key) (escaped : ℕ → ℕ) → ((n : ℕ) → Stands s (key n)) → (t : Option ℕ) → PieceStands s (quote_token kind key escaped t)
  quote_stands kind key escaped h (Some n) = h n
  quote_stands kind key escaped h None = tt

  module _ (dialect : Dialect) where
    string_named_stands : PieceStands s (get_string_named_placeholder_token dialect s)
    unfolding get_string_named_placeholder_token
    string_named_stands = quote_stands T.Placeholder (string_key s) _ string_key_stands (string_named_taken dialect s)

    string_stands : PieceStands s (get_string_token dialect s)
    unfolding get_string_token
    string_stands = quote_stands T.String (λ n. None) _ (λ n. tt) (string_taken dialect s)

    placeholder_stands : (named : Bool) → PieceStands s (get_placeholder_token named dialect s)
    unfolding get_placeholder_token
    placeholder_stands true =
        alt_stands s (get_ident_named_placeholder_token s) _ ident_stands
        (alt_stands s (get_string_named_placeholder_token dialect s) _ string_named_stands
        (alt_stands s (get_indexed_placeholder_token s) (get_braced_named_placeholder_token s) (indexed_stands s) braced_stands))
    placeholder_stands false =
        alt_stands s (get_indexed_placeholder_token s) _ (indexed_stands s)
        (alt_stands s (get_ident_named_placeholder_token s) _ ident_stands
        (alt_stands s (get_string_named_placeholder_token dialect s) (get_braced_named_placeholder_token s) string_named_stands braced_stands))

    open_paren_stands : PieceStands s (get_open_paren_token dialect s)
    unfolding get_open_paren_token
    open_paren_stands = token_stands s T.OpenParen _

    close_paren_stands : PieceStands s (get_close_paren_token dialect s)
    unfolding get_close_paren_token
    close_paren_stands = token_stands s T.CloseParen _

  type_specifier_stands : (allowed : Bool) → PieceStands s (get_type_specifier_token allowed s)
  unfolding get_type_specifier_token
  type_specifier_stands true = token_stands s T.TypeSpecifier _
  type_specifier_stands false = tt

  top_level_stands : (last : TopLevel) (t : Option ℕ) → PieceStands s (top_level_token last s t)
  top_level_stands last (Some n) = tt
  top_level_stands last None = tt

  newline_stands : (between : Bool) (t : Option ℕ) → PieceStands s (newline_token between s t)
  newline_stands between (Some n) = tt
  newline_stands between None = tt

  cond_stands : (t : Bool) (r : Option Piece) → PieceStands s r → PieceStands s (cond t None r)
  cond_stands true r h = tt
  cond_stands false r h = h

  reserved_stands : (dot between : Bool) (last : TopLevel) → PieceStands s (get_reserved_word_token dot between last s)
  unfolding get_reserved_word_token get_top_level_reserved_token get_newline_after_reserved_token get_newline_reserved_token get_join_token get_top_level_reserved_token_no_indent get_plain_reserved_token
  reserved_stands dot between last =
      cond_stands (dot || not (may_be_reserved s)) _
      (alt_stands s (top_level_token last s (first_phrase top_level_phrases s)) _ (top_level_stands last (first_phrase top_level_phrases s))
      (alt_stands s (token_of T.ReservedNewlineAfter (first_phrase newline_after_phrases s)) _ (token_stands s T.ReservedNewlineAfter (first_phrase newline_after_phrases s))
      (alt_stands s (newline_token between s (first_phrase newline_phrases s)) _ (newline_stands between (first_phrase newline_phrases s))
      (alt_stands s (token_of T.Join (first_phrase join_phrases s)) _ (token_stands s T.Join (first_phrase join_phrases s))
      (alt_stands s (token_of T.ReservedTopLevelNoIndent (first_phrase no_indent_phrases s)) _ (token_stands s T.ReservedTopLevelNoIndent (first_phrase no_indent_phrases s))
      (alt_stands s (token_of T.Reserved (first_phrase plain_two_phrases s)) _ (token_stands s T.Reserved (first_phrase plain_two_phrases s))
      (token_stands s T.Reserved (first_phrase plain_one_phrases s))))))))

  comment_stands : PieceStands s (get_comment_token s)
  unfolding get_comment_token
  comment_stands =
      alt_stands s (token_of T.LineComment (literal (bytes "#") till_line_ending s)) _ (token_stands s T.LineComment (literal (bytes "#") till_line_ending s))
      (alt_stands s (token_of T.LineComment (literal (bytes "--") till_line_ending s)) _ (token_stands s T.LineComment (literal (bytes "--") till_line_ending s))
      (token_stands s T.BlockComment (literal (bytes "/*") through_block_end s)))

  whitespace_stands : PieceStands s (get_whitespace_token s)
  unfolding get_whitespace_token
  whitespace_stands = token_stands s T.Whitespace _

  number_stands : PieceStands s (get_number_token s)
  unfolding get_number_token
  number_stands = token_stands s T.Number _

  operator_stands : PieceStands s (get_operator_token s)
  unfolding get_operator_token
  operator_stands = token_stands s T.Operator _

  word_stands : PieceStands s (get_word_token s)
  unfolding get_word_token
  word_stands = token_stands s T.Word _

  other_stands : PieceStands s (get_any_other_char s)
  unfolding get_any_other_char
  other_stands = token_stands s T.Operator _

piece_stands : (settings : Settings) (memory : Memory) (s : List ℕ) → PieceStands s (next_piece settings memory s)
piece_stands settings memory s =
    by_order settings memory s s (λ a a'. PieceStands s a) (λ a a'. PieceStands s a) (λ a a' b b'. alt_stands s a b) (whitespace_stands s) (comment_stands s)
    (type_specifier_stands s memory.type_specifier) (string_stands s settings.dialect)
    (open_paren_stands s settings.dialect) (close_paren_stands s settings.dialect) (number_stands s)
    (reserved_stands s memory.after_dot memory.after_between memory.top_level) (operator_stands s)
    (placeholder_stands s settings.dialect settings.named) (word_stands s) (other_stands s)

-- ---- each token

placed_stands : (s : List ℕ) (at : ℕ) (key : Option Key) → Stands s key → Stands s (placed at key)
placed_stands s at None h = h
placed_stands s at (Some (K.Named start len)) h = h
placed_stands s at (Some (K.Escaped start len)) h = h
placed_stands s at (Some (K.ZeroIndexed n)) h = h
placed_stands s at (Some (K.OneIndexed n)) h = h

pub each_nought : (settings : Settings) (s : List ℕ) → Each (λ t. Stands (drop t.start s) t.key) (tokens settings s)
each_nought settings s = each_token settings s (λ t. Stands (drop t.start s) t.key) (λ at. Unit {0}) one tt
  where
    one : (memory : Memory) (at : ℕ) (p : Piece) → at < length s → Unit {0} → next_piece settings memory (drop at s) ≡ Some p → Stands (drop at s) (placed at p.key) × Unit {0}
    one memory at p h u e =
        let f : PieceStands (drop at s) (Some p) = rw e at (piece_stands settings memory (drop at s)) in
        (placed_stands (drop at s) at p.key f, tt)
