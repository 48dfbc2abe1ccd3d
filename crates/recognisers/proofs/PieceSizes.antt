-- Every token is at least one byte, lies inside the rest, has its alias and its key's text inside it, and two bytes at least for each
-- escaped quote.
-- Assumes nothing.
use Rattle.std.proofs.Common.{Option, Some, None}
use Prim.Native.Nat.{ℕ, zero, suc, ◌+◌, ◌-◌, ◌*◌, ◌^◌, ◌≤◌, ◌<◌, min, zero-le}
use native.Mathlib.Nat.{le_refl, le_trans, min-le_left}
use native.Mathlib.Omega.{arith}
use mathlib.Core.Path.{◌≡◌, refl}
use mathlib.Core.List.{List, [], ◌∷◌}
use mathlib.Core.Bool.{Bool, true, false, cond, ◌||◌, false≢true}
use lib.ListN.{length, drop, take, get_or}
use lib.Seq.{length-take-le}
use lib.Dec.{leb, ltb, eqb}
use borrow.Author.Tests.{leb-true, ltb-true}
use Rattle.characters.specs.Character.{character_length}
use Rattle.characters.specs.Classes.{is_whitespace, is_word_character}
use Rattle.characters.specs.Runs.{in_class, run}
use Rattle.characters.specs.declared.Class.TheVariants as C
use Rattle.characters.proofs.RunLaws.{run_inside, character_inside}
use Rattle.recognisers.specs.declared.TokenKind.{TokenKind}
use Rattle.recognisers.specs.declared.TokenKind.TheVariants as K
use Rattle.recognisers.specs.declared.Dialect.{Dialect}
use Rattle.recognisers.specs.declared.Dialect.TheVariants.{Generic, PostgreSql, SQLServer}
use Rattle.recognisers.specs.declared.Key.{Key}
use Rattle.recognisers.specs.declared.Key.TheVariants.{Named, Escaped, ZeroIndexed, OneIndexed}
use Rattle.recognisers.specs.declared.Piece.{Piece}
use Rattle.recognisers.specs.Text.{byte, bytes}
use Rattle.recognisers.specs.Taking.{Taker, taken, more, or, done, one, spelled, typed, capital, blanks, end_of_word, digit0, digit1, count, is_digit, at_least, contains, starts_with}
use Rattle.recognisers.specs.Pieces.{token_of, quote_token, alt}
use Rattle.recognisers.specs.Inner.KeyStart.{key_start}
use Rattle.recognisers.specs.Comment.{till_line_ending, through_block_end, get_comment_token}
use Rattle.recognisers.specs.TypeSpecifier.{get_type_specifier_token}
use Rattle.recognisers.specs.Strings.{closed_by, in_sql_server, hex_taken, quoted_taken, string_taken, string_pairs, get_string_token, placeholder_quoted_taken, placeholder_string_taken}
use Rattle.recognisers.specs.Parens.{in_postgre_sql, get_open_paren_token, get_close_paren_token}
use Rattle.recognisers.specs.Number.{decimal_number, exponent, scientific_notation, unsigned, get_number_token}
use Rattle.recognisers.specs.Placeholder.{keyed, number_from, number_of, indexed, indexed_key, indexed_taken, get_indexed_placeholder_token, placeholder_name, ident_taken, get_ident_named_placeholder_token, braced_text, braced_taken, get_braced_named_placeholder_token, has_escape, string_key, string_named_taken, string_named_pairs, get_string_named_placeholder_token, get_placeholder_token}
use Rattle.recognisers.specs.Words.{get_whitespace_token, is_operator, get_operator_token, get_word_token, get_any_other_char}
use Rattle.recognisers.proofs.ByteLoops.{count_inside}
use Rattle.recognisers.proofs.TakenInside.{Inside, cond_inside, or_inside, done_inside, one_inside, spelled_inside, end_of_word_inside}
use Rattle.recognisers.proofs.CommentLoops.{line_inside, block_inside}
use Rattle.recognisers.proofs.ClosingQuote.{quoted_inside}
use Rattle.recognisers.proofs.EscapedQuotes.{few_string, few_named}
use Rattle.recognisers.proofs.Blanks.{blanks_inside}
use Rattle.recognisers.proofs.Digits.{digits_inside, unsigned_inside}
use Rattle.recognisers.proofs.PlaceholderLaws.{name_inside, placeholder_string_inside, braced_inside}

-- ---- what a taker takes: so many bytes at least

abbrev pub Least : ℕ → Option ℕ → Type 0
Least k (Some n) = k ≤ n
Least k None = Unit {0}

least_any : (t : Option ℕ) → Least 0 t
least_any (Some n) = zero-le
least_any None = tt

pub or_least : (k : ℕ) (a b : Option ℕ) → Least k a → Least k b → Least k (or a b)
or_least k (Some n) b h l = h
or_least k None b h l = l

pub cond_least : (k : ℕ) (t : Bool) (a : Option ℕ) → Least k a → Least k (cond t a None)
cond_least k true a h = h
cond_least k false a h = tt

pub more_least : (m k : ℕ) (t : Option ℕ) → k ≤ m → Least k (more m t)
more_least m k (Some n) h = omega arith
more_least m k None h = tt

one_more_least : (k : ℕ) (t : Option ℕ) → Least k t → Least (suc k) (more 1 t)
one_more_least k (Some n) h = omega arith
one_more_least k None h = tt

pub one_least : (k : ℕ) (test : ℕ → Bool) (then : Taker) → ((s : List ℕ) → Least k (then s)) → (s : List ℕ) → Least (suc k) (one test then s)
unfolding one
one_least k test then h [] = tt
one_least k test then h (b ∷ s) = cond_least (suc k) (test b) (more 1 (then s)) (one_more_least k (then s) (h s))

-- one byte at least
pub one_some : (test : ℕ → Bool) (then : Taker) (s : List ℕ) → Least 1 (one test then s)
one_some test then s = one_least 0 test then (λ r. least_any (then r)) s

pub spelled_some : (form : ℕ → ℕ) (w : ℕ) (word : List ℕ) (then : Taker) (s : List ℕ) → Least 1 (spelled form (w ∷ word) then s)
unfolding spelled
spelled_some form w word then s = one_some (λ b. eqb (form b) w) (spelled form word then) s

at_least_lem : (k n : ℕ) → Least k (at_least k n)
at_least_lem k n = go (leb k n) refl
  where
    go : (t : Bool) → leb k n ≡ t → Least k (cond t (Some n) None)
    go true e = leb-true k n e
    go false e = tt

digit1_some : (then : Taker) (s : List ℕ) → Least 1 (digit1 then s)
unfolding digit1
digit1_some then s = go (leb 1 (count is_digit s)) refl
  where
    go : (t : Bool) → leb 1 (count is_digit s) ≡ t → Least 1 (cond t (more (count is_digit s) (then (drop (count is_digit s) s))) None)
    go true e = more_least (count is_digit s) 1 (then (drop (count is_digit s) s)) (leb-true 1 (count is_digit s) e)
    go false e = tt

-- ---- what a recogniser tells of its token

-- a key's text lies inside a token of n bytes, with the closing quote behind it where escapes are to be undone; a number
-- fits 64 bits
abbrev pub KeyFits : ℕ → Option Key → Type 0
KeyFits n None = Unit {0}
KeyFits n (Some (Named start len)) = start + len ≤ n
KeyFits n (Some (Escaped start len)) = start + len < n
KeyFits n (Some (ZeroIndexed i)) = i < 2 ^ 64
KeyFits n (Some (OneIndexed i)) = i < 2 ^ 64

pub key_start_lem : (n : ℕ) (key : Option Key) → KeyFits n key → key_start key ≤ n
key_start_lem n None h = zero-le
key_start_lem n (Some (Named start len)) h = omega arith
key_start_lem n (Some (Escaped start len)) h = omega arith
key_start_lem n (Some (ZeroIndexed i)) h = zero-le
key_start_lem n (Some (OneIndexed i)) h = zero-le

pub record Sound (s : List ℕ) (p : Piece) : Type 0 where
  pub some : 1 ≤ p.len
  pub inside : p.len ≤ length s
  pub alias_inside : p.alias ≤ p.len
  pub key_inside : KeyFits p.len p.key
  pub escaped_inside : p.escaped * 2 ≤ p.len

abbrev pub Sized : List ℕ → Option Piece → Type 0
Sized s (Some p) = Sound s p
Sized s None = Unit {0}

pub alt_sized : (s : List ℕ) (a b : Option Piece) → Sized s a → Sized s b → Sized s (alt a b)
alt_sized s (Some p) b h l = h
alt_sized s None b h l = l

pub token_sized : (s : List ℕ) (kind : TokenKind) (t : Option ℕ) → Least 1 t → taken t ≤ length s → Sized s (token_of kind t)
token_sized s kind (Some n) h l = record { some = h; inside = l; alias_inside = le_refl n; key_inside = tt; escaped_inside = zero-le }
token_sized s kind None h l = tt

keyed_sized : (s : List ℕ) (key : ℕ → Option Key) (least : ℕ) (t : Option ℕ) → ((n : ℕ) → least ≤ n → KeyFits n (key n)) → Least 1 t → Least least t → taken t ≤ length s → Sized s (keyed key t)
keyed_sized s key least (Some n) k h m l = record { some = h; inside = l; alias_inside = le_refl n; key_inside = k n m; escaped_inside = zero-le }
keyed_sized s key least None k h m l = tt

-- the same of a token with escaped quotes, where its value tells how many
quote_sized : (s : List ℕ) (kind : TokenKind) (key : ℕ → Option Key) (pairs : List ℕ → ℕ) → ((v : List ℕ) → pairs v * 2 ≤ length v) → (least : ℕ) (t : Option ℕ)
    → ((n : ℕ) → least ≤ n → KeyFits n (key n)) → Least 1 t → Least least t → taken t ≤ length s → Sized s (quote_token kind key (λ n. pairs (take n s)) t)
quote_sized s kind key pairs f least (Some n) k h m l =
    let e = length-take-le n s l in
    record { some = h; inside = l; alias_inside = le_refl n; key_inside = k n m; escaped_inside = omega (arith, e, f (take n s)) }
quote_sized s kind key pairs f least None k h m l = tt

-- ---- each recogniser

-- so many bytes, where there are that many at least
run_sized : (kind : TokenKind) (k n : ℕ) (s : List ℕ) → 1 ≤ k → n ≤ length s → Sized s (token_of kind (at_least k n))
run_sized kind k n s h l = token_sized s kind (at_least k n) (weaker (at_least k n) (at_least_lem k n)) (cond_inside (leb k n) (Some n) (length s) l)
  where
    weaker : (t : Option ℕ) → Least k t → Least 1 t
    weaker (Some m) q = le_trans h q
    weaker None q = tt

pub whitespace_sized : (s : List ℕ) → Sized s (get_whitespace_token s)
unfolding get_whitespace_token in_class
whitespace_sized s = run_sized K.Whitespace 1 (run is_whitespace 0 s) s (le_refl 1) (run_inside C.Whitespace 0 s)

pub word_sized : (s : List ℕ) → Sized s (get_word_token s)
unfolding get_word_token in_class
word_sized s = run_sized K.Word 1 (run is_word_character 0 s) s (le_refl 1) (run_inside C.Word 0 s)

pub operator_sized : (s : List ℕ) → Sized s (get_operator_token s)
unfolding get_operator_token
operator_sized s =
    run_sized K.Operator 2 (min (count is_operator s) 5) s (omega arith) (le_trans (min-le_left (count is_operator s) 5) (count_inside is_operator s))

pub other_sized : (s : List ℕ) → Sized s (get_any_other_char s)
unfolding get_any_other_char
other_sized s = go (starts_with (byte "\n") s || starts_with (byte "\r") s)
  where
    go : (t : Bool) → Sized s (token_of K.Operator (cond t None (at_least 1 (character_length s))))
    go true = tt
    go false = run_sized K.Operator 1 (character_length s) s (le_refl 1) (character_inside s)

-- a token that begins with these bytes
spelled_sized : (kind : TokenKind) (form : ℕ → ℕ) (w : ℕ) (word : List ℕ) (then : Taker) → Inside then → (s : List ℕ) → Sized s (token_of kind (spelled form (w ∷ word) then s))
spelled_sized kind form w word then h s =
    token_sized s kind (spelled form (w ∷ word) then s) (spelled_some form w word then s) (spelled_inside form (w ∷ word) then h s)

pub comment_sized : (s : List ℕ) → Sized s (get_comment_token s)
unfolding get_comment_token
comment_sized s =
    alt_sized s (token_of K.LineComment (spelled typed (bytes "#") till_line_ending s)) _
    (spelled_sized K.LineComment typed (byte "#") [] till_line_ending line_inside s)
    (alt_sized s (token_of K.LineComment (spelled typed (bytes "--") till_line_ending s)) _
    (spelled_sized K.LineComment typed (byte "-") (bytes "-") till_line_ending line_inside s)
    (spelled_sized K.BlockComment typed (byte "/") (bytes "*") through_block_end block_inside s))

pub type_specifier_sized : (allowed : Bool) (s : List ℕ) → Sized s (get_type_specifier_token allowed s)
unfolding get_type_specifier_token
type_specifier_sized true s =
    token_sized s K.TypeSpecifier (or (spelled typed (bytes "::") done s) (spelled typed (bytes "[]") done s))
    (or_least 1 (spelled typed (bytes "::") done s) _ (spelled_some typed (byte ":") (bytes ":") done s) (spelled_some typed (byte "[") (bytes "]") done s))
    (or_inside (spelled typed (bytes "::") done s) _ (length s) (spelled_inside typed (bytes "::") done done_inside s) (spelled_inside typed (bytes "[]") done done_inside s))
type_specifier_sized false s = tt

-- ---- strings

-- what takes bytes, and none that are not there
pub record Takes (k : ℕ) (s : List ℕ) (t : Option ℕ) : Type 0 where
  pub least : Least k t
  pub inside : taken t ≤ length s

pub or_takes : (k : ℕ) (s : List ℕ) (a b : Option ℕ) → Takes k s a → Takes k s b → Takes k s (or a b)
or_takes k s a b h l = record { least = or_least k a b h.least l.least; inside = or_inside a b (length s) h.inside l.inside }

pub spelled_takes : (form : ℕ → ℕ) (w : ℕ) (word : List ℕ) (then : Taker) → Inside then → (s : List ℕ) → Takes 1 s (spelled form (w ∷ word) then s)
spelled_takes form w word then h s = record { least = spelled_some form w word then s; inside = spelled_inside form (w ∷ word) then h s }

pub fails_takes : (k : ℕ) (s : List ℕ) → Takes k s None
fails_takes k s = record { least = tt; inside = zero-le }

pub takes_sized : (s : List ℕ) (kind : TokenKind) (t : Option ℕ) → Takes 1 s t → Sized s (token_of kind t)
takes_sized s kind t h = token_sized s kind t h.least h.inside

-- a quote, and the text up to its closing one
quote : (w : ℕ) (word : List ℕ) (desired : ℕ) (escapes : List ℕ) (s : List ℕ) → Takes 1 s (spelled typed (w ∷ word) (closed_by desired escapes) s)
quote w word desired escapes s = spelled_takes typed w word (closed_by desired escapes) (quoted_inside desired escapes) s

in_sql_server_lem : (dialect : Dialect) (s : List ℕ) → Takes 1 s (in_sql_server dialect (spelled typed (bytes "[") (closed_by (byte "]") (bytes "]"))) s)
in_sql_server_lem Generic s = fails_takes 1 s
in_sql_server_lem PostgreSql s = fails_takes 1 s
in_sql_server_lem SQLServer s = quote (byte "[") [] (byte "]") (bytes "]") s

hex_takes : (s : List ℕ) → Takes 1 s (hex_taken s)
unfolding hex_taken
hex_takes s = or_takes 1 s _ _ (quote (byte "x") (bytes "'") (byte "'") [] s) (quote (byte "X") (bytes "'") (byte "'") [] s)

quoted_takes : (s : List ℕ) → Takes 1 s (quoted_taken s)
unfolding quoted_taken
quoted_takes s =
    or_takes 1 s _ _ (quote (byte "\"") [] (byte "\"") (bytes "\"\\") s)
    (or_takes 1 s _ _ (quote (byte "'") [] (byte "'") (bytes "'\\") s)
    (or_takes 1 s _ _ (quote (byte "N") (bytes "'") (byte "'") (bytes "'\\") s)
    (or_takes 1 s _ _ (quote (byte "E") (bytes "'") (byte "'") (bytes "'\\") s) (hex_takes s))))

string_takes : (dialect : Dialect) (s : List ℕ) → Takes 1 s (string_taken dialect s)
unfolding string_taken
string_takes dialect s =
    or_takes 1 s _ _ (quote (byte "`") [] (byte "`") (bytes "`") s) (or_takes 1 s _ _ (in_sql_server_lem dialect s) (quoted_takes s))

pub string_fits : (dialect : Dialect) (s : List ℕ) (t : Option ℕ) (n : ℕ) → t ≡ string_taken dialect s → t ≡ Some n → n ≤ length s
string_fits dialect s t n e f = rw (← e, f) at (string_takes dialect s).inside

pub string_sized : (dialect : Dialect) (s : List ℕ) → Sized s (get_string_token dialect s)
unfolding get_string_token
string_sized dialect s =
    let h = string_takes dialect s in
    quote_sized s K.String (λ n. None) string_pairs few_string 0 (string_taken dialect s) (λ n l. tt) h.least (least_any (string_taken dialect s)) h.inside

-- ---- parentheses

in_postgresql : (dialect : Dialect) (w : ℕ) (s : List ℕ) → Takes 1 s (in_postgre_sql dialect (spelled typed (w ∷ []) done) s)
in_postgresql Generic w s = fails_takes 1 s
in_postgresql PostgreSql w s = spelled_takes typed w [] done done_inside s
in_postgresql SQLServer w s = fails_takes 1 s

pub open_paren_sized : (dialect : Dialect) (s : List ℕ) → Sized s (get_open_paren_token dialect s)
unfolding get_open_paren_token
open_paren_sized dialect s =
    takes_sized s K.OpenParen _
    (or_takes 1 s _ _ (spelled_takes typed (byte "(") [] done done_inside s)
    (or_takes 1 s _ _ (in_postgresql dialect (byte "[") s) (spelled_takes capital (byte "C") (bytes "ASE") end_of_word end_of_word_inside s)))

pub close_paren_sized : (dialect : Dialect) (s : List ℕ) → Sized s (get_close_paren_token dialect s)
unfolding get_close_paren_token
close_paren_sized dialect s =
    takes_sized s K.CloseParen _
    (or_takes 1 s _ _ (spelled_takes typed (byte ")") [] done done_inside s)
    (or_takes 1 s _ _ (in_postgresql dialect (byte "]") s)
    (or_takes 1 s _ _ (spelled_takes capital (byte "E") (bytes "ND") (blanks (spelled capital (bytes "CASE") end_of_word)) (blanks_inside _ (spelled_inside capital (bytes "CASE") end_of_word end_of_word_inside)) s)
    (spelled_takes capital (byte "E") (bytes "ND") end_of_word end_of_word_inside s))))

-- ---- numbers

decimal_some : (then : Taker) (s : List ℕ) → Least 1 (decimal_number then s)
unfolding decimal_number
decimal_some then s = digit1_some (spelled typed (bytes ".") (digit0 then)) s

unsigned_some : (s : List ℕ) → Least 1 (unsigned s)
unfolding unsigned scientific_notation
unsigned_some s =
    or_least 1 (or (decimal_number exponent s) (digit1 exponent s)) (or (decimal_number done s) (digit1 done s))
    (or_least 1 (decimal_number exponent s) (digit1 exponent s) (decimal_some exponent s) (digit1_some exponent s))
    (or_least 1 (decimal_number done s) (digit1 done s) (decimal_some done s) (digit1_some done s))

pub number_sized : (s : List ℕ) → Sized s (get_number_token s)
unfolding get_number_token
number_sized s =
    takes_sized s K.Number _
    (or_takes 1 s _ _ (spelled_takes typed (byte "-") [] unsigned unsigned_inside s) (record { least = unsigned_some s; inside = unsigned_inside s }))

-- ---- placeholders

-- a mark, and a taker behind it
mark_takes : (test : ℕ → Bool) (then : Taker) → Inside then → (s : List ℕ) → Takes 1 s (one test then s)
mark_takes test then h s = record { least = one_some test then s; inside = one_inside test then h s }

number_fits : (n i : ℕ) → cond (ltb n (2 ^ 64)) (Some n) None ≡ Some i → i < 2 ^ 64
number_fits n i e = go (ltb n (2 ^ 64)) refl
  where
    go : (t : Bool) → ltb n (2 ^ 64) ≡ t → i < 2 ^ 64
    go true q = let m : ◌≡◌ {A = Option ℕ} (Some n) (Some i) = rw q at e in let j : n ≡ i = cc in rw (← j) (ltb-true n (2 ^ 64) q)
    go false q = let m : ◌≡◌ {A = Option ℕ} None (Some i) = rw q at e in let z : ◌≡◌ {A = ℕ} 0 1 = cc in absurd (let y : ⊥ = omega arith in y)

indexed_key_lem : (s : List ℕ) (n : ℕ) → 0 ≤ n → KeyFits n (indexed_key s n)
unfolding indexed_key
indexed_key_lem s n h = go (leb n 1) (starts_with (byte "$") s) (number_of (take (n - 1) (drop 1 s))) refl
  where
    go : (t f : Bool) (m : Option ℕ) → number_of (take (n - 1) (drop 1 s)) ≡ m → KeyFits n (cond t None (indexed f m))
    go true f m e = tt
    go false true (Some i) e = number_fits (number_from 0 (take (n - 1) (drop 1 s))) i e
    go false false (Some i) e = number_fits (number_from 0 (take (n - 1) (drop 1 s))) i e
    go false f None e = tt

pub indexed_sized : (s : List ℕ) → Sized s (get_indexed_placeholder_token s)
unfolding get_indexed_placeholder_token indexed_taken
indexed_sized s = go _ (or_takes 1 s _ _ (mark_takes (contains (bytes "?$")) (digit1 done) digits_inside s) (spelled_takes typed (byte "?") [] done done_inside s))
  where
    go : (t : Option ℕ) → Takes 1 s t → Sized s (keyed (indexed_key s) t)
    go t h = keyed_sized s (indexed_key s) 0 t (indexed_key_lem s) h.least (least_any t) h.inside

pub ident_sized : (s : List ℕ) → Sized s (get_ident_named_placeholder_token s)
unfolding get_ident_named_placeholder_token ident_taken
ident_sized s =
    let h = mark_takes (contains (bytes "@:$")) placeholder_name name_inside s in
    keyed_sized s (λ n. Some (Named 1 (n - 1))) 1 (one (contains (bytes "@:$")) placeholder_name s) (λ n k. omega arith) h.least h.least h.inside

pub braced_sized : (s : List ℕ) → Sized s (get_braced_named_placeholder_token s)
unfolding get_braced_named_placeholder_token braced_taken
braced_sized s =
    let h = spelled_takes typed (byte "{") [] braced_text braced_inside s in
    keyed_sized s (λ n. Some (Named 1 (n - 2))) 1 (spelled typed (bytes "{") braced_text s) (λ n k. omega arith) h.least h.least h.inside

placeholder_string_some : (dialect : Dialect) (s : List ℕ) → Least 1 (placeholder_string_taken dialect s)
unfolding placeholder_string_taken placeholder_quoted_taken
placeholder_string_some dialect s =
    (or_takes 1 s _ _ (quote (byte "`") [] (byte "`") (bytes "`") s)
    (or_takes 1 s _ _ (in_sql_server_lem dialect s)
    (or_takes 1 s _ _ (quote (byte "\"") [] (byte "\"") (bytes "\\") s)
    (or_takes 1 s _ _ (quote (byte "'") [] (byte "'") (bytes "\\") s) (quote (byte "N") (bytes "'") (byte "'") (bytes "\\") s))))).least

-- an escape takes some text
escape_some : (quote n : ℕ) (s : List ℕ) → has_escape quote (take n s) ≡ true → 1 ≤ n
unfolding has_escape
escape_some quote zero s e = absurd (false≢true e)
escape_some quote (suc n) s e = omega arith

string_key_lem : (s : List ℕ) (n : ℕ) → 2 ≤ n → KeyFits n (string_key s n)
unfolding string_key
string_key_lem s n h = go (has_escape (get_or s (n - 1) 0) (take (n - 3) (drop 2 s))) refl
  where
    go : (t : Bool) → has_escape (get_or s (n - 1) 0) (take (n - 3) (drop 2 s)) ≡ t → KeyFits n (cond t (Some (Escaped 2 (n - 3))) (Some (Named 2 (n - 3))))
    go true e = let k = escape_some (get_or s (n - 1) 0) (n - 3) (drop 2 s) e in omega arith
    go false e = omega arith

pub string_named_sized : (dialect : Dialect) (s : List ℕ) → Sized s (get_string_named_placeholder_token dialect s)
unfolding get_string_named_placeholder_token string_named_taken
string_named_sized dialect s =
    let h = mark_takes (contains (bytes "@:")) (placeholder_string_taken dialect) (placeholder_string_inside dialect) s in
    quote_sized s K.Placeholder (string_key s) string_named_pairs few_named 2 (one (contains (bytes "@:")) (placeholder_string_taken dialect) s) (string_key_lem s) h.least (one_least 1 (contains (bytes "@:")) (placeholder_string_taken dialect) (placeholder_string_some dialect) s) h.inside

module _ (s : List ℕ) (a b c d : Option Piece) where
  four_sized : Sized s a → Sized s b → Sized s c → Sized s d → Sized s (alt a (alt b (alt c d)))
  four_sized h i j k = alt_sized s a (alt b (alt c d)) h (alt_sized s b (alt c d) i (alt_sized s c d j k))

pub placeholder_sized : (named : Bool) (dialect : Dialect) (s : List ℕ) → Sized s (get_placeholder_token named dialect s)
unfolding get_placeholder_token
placeholder_sized true dialect s =
    four_sized s (get_ident_named_placeholder_token s) (get_string_named_placeholder_token dialect s) (get_indexed_placeholder_token s) (get_braced_named_placeholder_token s)
    (ident_sized s) (string_named_sized dialect s) (indexed_sized s) (braced_sized s)
placeholder_sized false dialect s =
    four_sized s (get_indexed_placeholder_token s) (get_ident_named_placeholder_token s) (get_string_named_placeholder_token dialect s) (get_braced_named_placeholder_token s)
    (indexed_sized s) (ident_sized s) (string_named_sized dialect s) (braced_sized s)
