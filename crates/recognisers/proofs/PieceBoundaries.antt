-- What any recogniser takes from a well-formed text ends where a character ends.
-- Assumes nothing.
use Rattle.std.proofs.Common.{Option, Some, None}
use Prim.Native.Nat.{ℕ, zero, suc, ◌-◌, ◌≤◌, ◌<◌, min, zero-le, suc-le-suc}
use native.Mathlib.Nat.{le_refl, le_of_suc-le-suc, not-suc-le-zero, min-le_left}
use native.Mathlib.Omega.{arith}
use mathlib.Core.Path.{◌≡◌, refl}
use mathlib.Core.List.{List, [], ◌∷◌}
use mathlib.Core.Bool.{Bool, true, false, cond, not, ◌&&◌, ◌||◌, false≢true, and-eq-true_iff}
use lib.ListN.{drop}
use lib.Seq.{drop-drop}
use lib.Dec.{leb, ltb, eqb}
use borrow.Author.Tests.{leb-true, ltb-true, eqb-true}
use Rattle.characters.specs.Ranges.{within}
use Rattle.characters.specs.Character.{character_length, code_point}
use Rattle.characters.specs.Classes.{is_whitespace, is_word_character, is_placeholder_name_character}
use Rattle.characters.specs.Runs.{run}
use Rattle.characters.specs.Utf8.{well_formed}
use Rattle.characters.proofs.Within.{within_high}
use Rattle.characters.proofs.WellFormedSteps.{well_formed_step}
use Rattle.recognisers.specs.declared.Piece.{Piece}
use Rattle.recognisers.specs.declared.Dialect.{Dialect}
use Rattle.recognisers.specs.declared.Dialect.TheVariants.{Generic, PostgreSql, SQLServer}
use Rattle.recognisers.specs.declared.Key.{Key}
use Rattle.recognisers.specs.declared.Key.TheVariants.{Named}
use Rattle.recognisers.specs.declared.TokenKind.{TokenKind}
use Rattle.recognisers.specs.declared.TokenKind.TheVariants as K
use Rattle.recognisers.specs.Text.{byte, bytes}
use Rattle.recognisers.specs.Taking.{Taker, more, or, done, one, spelled, typed, capital, blanks, end_of_word, digit0, digit1, count, is_digit, at_least, contains, starts_with}
use Rattle.recognisers.specs.Pieces.{token_of, quote_token, alt}
use Rattle.recognisers.specs.Comment.{till_line_ending, through_block_end, get_comment_token}
use Rattle.recognisers.specs.TypeSpecifier.{get_type_specifier_token}
use Rattle.recognisers.specs.Strings.{take_till_escaping, closed_by, in_sql_server, hex_taken, quoted_taken, string_taken, get_string_token, placeholder_quoted_taken, placeholder_string_taken}
use Rattle.recognisers.specs.Parens.{in_postgre_sql, get_open_paren_token, get_close_paren_token}
use Rattle.recognisers.specs.Number.{decimal_number, signed_digits, exponent, scientific_notation, unsigned, get_number_token}
use Rattle.recognisers.specs.Placeholder.{keyed, indexed_key, indexed_taken, get_indexed_placeholder_token, placeholder_name, ident_taken, get_ident_named_placeholder_token, through_brace, braced_text, braced_taken, get_braced_named_placeholder_token, string_key, string_named_taken, get_string_named_placeholder_token, get_placeholder_token}
use Rattle.recognisers.specs.Words.{get_whitespace_token, is_operator, get_operator_token, get_word_token, get_any_other_char}
use Rattle.characters.proofs.WellFormedCuts.{Stop, at_end_lem, before, behind, stop_cut, stop_later, ascii_next, run_cut}

-- ---- what a taker leaves

abbrev pub Left : List ℕ → Option ℕ → Type 0
Left s (Some n) = well_formed (drop n s) ≡ true
Left s None = Unit {0}

pub record Leaves (s : List ℕ) (t : Option ℕ) : Type 0 where
  pub left : Left s t

pub fails_leaves : (s : List ℕ) → Leaves s None
fails_leaves s = record { left = tt }

abbrev pub Cuts : Taker → Type 0
Cuts part = (s : List ℕ) → well_formed s ≡ true → Leaves s (part s)

pub or_leaves : (s : List ℕ) (a b : Option ℕ) → Leaves s a → Leaves s b → Leaves s (or a b)
or_leaves s (Some n) b h l = h
or_leaves s None b h l = l

pub cond_leaves : (s : List ℕ) (t : Bool) (a : Option ℕ) → Leaves s a → Leaves s (cond t a None)
cond_leaves s true a h = h
cond_leaves s false a h = fails_leaves s

pub more_leaves : (n : ℕ) (s : List ℕ) (t : Option ℕ) → Leaves (drop n s) t → Leaves s (more n t)
more_leaves n s (Some m) h = record { left = rw (← drop-drop m n s) h.left }
more_leaves n s None h = fails_leaves s

-- only ASCII bytes pass the test
abbrev Plain : (ℕ → Bool) → Type 0
Plain test = (b : ℕ) → test b ≡ true → b < 0x80

pub one_cuts : (test : ℕ → Bool) → Plain test → (then : Taker) → Cuts then → Cuts (one test then)
unfolding one
one_cuts test a then h [] w = fails_leaves []
one_cuts test a then h (b ∷ s) w = go (test b) refl
  where
    go : (t : Bool) → test b ≡ t → Leaves (b ∷ s) (cond t (more 1 (then s)) None)
    go true e = more_leaves 1 (b ∷ s) (then s) (h s (ascii_next b s (a b e) w))
    go false e = fails_leaves (b ∷ s)

-- the form of an ASCII byte is ASCII only for ASCII bytes
abbrev Keeps : (ℕ → ℕ) → Type 0
Keeps form = (b w : ℕ) → w < 0x80 → eqb (form b) w ≡ true → b < 0x80

typed_keeps : Keeps typed
unfolding typed
typed_keeps b w h e = rw (eqb-true b w e) h

pub capital_keeps : Keeps capital
unfolding capital within
capital_keeps b w h e = go (leb 0x61 b) (leb b 0x7A) refl refl
  where
    go : (t u : Bool) → leb 0x61 b ≡ t → leb b 0x7A ≡ u → b < 0x80
    go true true f g = omega (arith, leb-true b 0x7A g)
    go false u f g = let k : eqb b w ≡ true = rw f at e in rw (eqb-true b w k) h
    go true false f g = let k : eqb b w ≡ true = rw (f, g) at e in rw (eqb-true b w k) h

abbrev pub all_ascii : List ℕ → Bool
all_ascii [] = true
all_ascii (w ∷ word) = ltb w 0x80 && all_ascii word

pub spelled_cuts : (form : ℕ → ℕ) → Keeps form → (word : List ℕ) → all_ascii word ≡ true → (then : Taker) → Cuts then → Cuts (spelled form word then)
unfolding spelled
spelled_cuts form k [] a then h s w = h s w
spelled_cuts form k (x ∷ word) a then h s w =
    let b = (and-eq-true_iff (ltb x 0x80) (all_ascii word)).0 a in
    one_cuts (λ b. eqb (form b) x) (λ c e. k c x (ltb-true x 0x80 b.0) e) (spelled form word then) (spelled_cuts form k word b.1 then h) s w

pub done_cuts : Cuts done
done_cuts s w = record { left = w }

pub end_of_word_cuts : Cuts end_of_word
unfolding end_of_word
end_of_word_cuts s w = go (is_word_character (code_point s))
  where
    go : (t : Bool) → Leaves s (cond t None (Some 0))
    go true = fails_leaves s
    go false = record { left = w }

pub blanks_cuts : (then : Taker) → Cuts then → Cuts (blanks then)
unfolding blanks
blanks_cuts then h s w =
    cond_leaves s (is_whitespace (code_point s)) (more (run is_whitespace 0 s) (then (drop (run is_whitespace 0 s) s)))
    (more_leaves (run is_whitespace 0 s) s (then (drop (run is_whitespace 0 s) s)) (h (drop (run is_whitespace 0 s) s) (run_cut is_whitespace 0 s w)))

-- ---- bytes that pass a test

count_cut : (test : ℕ → Bool) → Plain test → (s : List ℕ) (n : ℕ) → n ≤ count test s → well_formed s ≡ true → well_formed (drop n s) ≡ true
unfolding count
count_cut test a s zero h w = w
count_cut test a [] (suc n) h w = w
count_cut test a (b ∷ s) (suc n) h w = go (test b) refl (λ k v. count_cut test a s n k v) h
  where
    go : (t : Bool) → test b ≡ t → (n ≤ count test s → well_formed s ≡ true → well_formed (drop n s) ≡ true) → suc n ≤ cond t (suc (count test s)) 0 → well_formed (drop n s) ≡ true
    go true e rest h = rest (le_of_suc-le-suc h) (ascii_next b s (a b e) w)
    go false e rest h = absurd (not-suc-le-zero h)

digit_plain : Plain is_digit
digit_plain b e = omega (arith, within_high 0x30 0x39 b e)

contains_plain : (among : List ℕ) → all_ascii among ≡ true → Plain (contains among)
unfolding contains
contains_plain [] a b e = absurd (false≢true e)
contains_plain (x ∷ among) a b e =
    let k = (and-eq-true_iff (ltb x 0x80) (all_ascii among)).0 a in
    go (eqb b x) refl (contains_plain among k.1 b) k.0 e
  where
    go : (t : Bool) → eqb b x ≡ t → (contains among b ≡ true → b < 0x80) → ltb x 0x80 ≡ true → (t || contains among b) ≡ true → b < 0x80
    go true q rest k e = rw (eqb-true b x q) (ltb-true x 0x80 k)
    go false q rest k e = rest e

digit0_cuts : (then : Taker) → Cuts then → Cuts (digit0 then)
unfolding digit0
digit0_cuts then h s w =
    more_leaves (count is_digit s) s (then (drop (count is_digit s) s))
    (h (drop (count is_digit s) s) (count_cut is_digit digit_plain s (count is_digit s) (le_refl (count is_digit s)) w))

digit1_cuts : (then : Taker) → Cuts then → Cuts (digit1 then)
unfolding digit1 digit0
digit1_cuts then h s w = cond_leaves s (leb 1 (count is_digit s)) (more (count is_digit s) (then (drop (count is_digit s) s))) (digit0_cuts then h s w)

-- ---- scans

abbrev Stops : List ℕ → Option ℕ → Type 0
Stops s (Some n) = Stop s n
Stops s None = Unit {0}

stops_leave : (s : List ℕ) (t : Option ℕ) → Stops s t → well_formed s ≡ true → Leaves s t
stops_leave s (Some n) h w = record { left = stop_cut s n h w }
stops_leave s None h w = fails_leaves s

later : (b : ℕ) (s : List ℕ) (t : Option ℕ) → Stops s t → Stops (b ∷ s) (more 1 t)
later b s (Some n) h = stop_later b s n h
later b s None h = tt

-- a byte that is this ASCII one
is_ascii : (b c : ℕ) → c < 0x80 → eqb b c ≡ true → b < 0x80
is_ascii b c h e = rw (eqb-true b c e) h

line_stops : (s : List ℕ) → Stops s (till_line_ending s)
unfolding till_line_ending
line_stops [] = at_end_lem refl
line_stops (b ∷ s) = go (eqb b 10) (eqb b 13) (starts_with 10 s) refl refl (line_stops s)
  where
    go : (t u v : Bool) → eqb b 10 ≡ t → eqb b 13 ≡ u → Stops s (till_line_ending s) → Stops (b ∷ s) (cond t (Some 0) (cond u (cond v (Some 0) None) (more 1 (till_line_ending s))))
    go true u v e f h = before (suc-le-suc zero-le) (is_ascii b 10 (omega arith) e)
    go false true true e f h = before (suc-le-suc zero-le) (is_ascii b 13 (omega arith) f)
    go false true false e f h = tt
    go false false v e f h = later b s (till_line_ending s) h

block_stops : (s : List ℕ) → Stops s (through_block_end s)
unfolding through_block_end starts_with
block_stops [] = at_end_lem refl
block_stops (b ∷ s) = go (eqb b 42) (starts_with 47 s) refl (block_stops s)
  where
    slash : (r : List ℕ) → starts_with 47 r ≡ true → Stops (b ∷ r) (Some 2)
    slash [] e = absurd (false≢true e)
    slash (c ∷ r) e = behind 1 refl (suc-le-suc (suc-le-suc zero-le)) (is_ascii c 47 (omega arith) e)

    go : (t u : Bool) → starts_with 47 s ≡ u → Stops s (through_block_end s) → Stops (b ∷ s) (cond (t && u) (Some 2) (more 1 (through_block_end s)))
    go true true e h = slash s e
    go true false e h = later b s (through_block_end s) h
    go false u e h = later b s (through_block_end s) h

closed_stops : (desired : ℕ) → desired < 0x80 → (escapes : List ℕ) (passing : Bool) (s : List ℕ) → Stops s (more 1 (take_till_escaping desired escapes passing s))
unfolding take_till_escaping
closed_stops d l escapes passing [] = tt
closed_stops d l escapes true (b ∷ s) = later b s (more 1 (take_till_escaping d escapes false s)) (closed_stops d l escapes false s)
closed_stops d l escapes false (b ∷ s) =
    go (not (contains escapes b && starts_with d s)) (eqb b d) refl (closed_stops d l escapes (contains escapes b && starts_with d s) s)
  where
    go : (t u : Bool) → eqb b d ≡ u → Stops s (more 1 (take_till_escaping d escapes (contains escapes b && starts_with d s) s))
        → Stops (b ∷ s) (more 1 (cond (t && u) (Some 0) (more 1 (take_till_escaping d escapes (contains escapes b && starts_with d s) s))))
    go true true e h = behind 0 refl (suc-le-suc zero-le) (is_ascii b d l e)
    go true false e h = later b s (more 1 (take_till_escaping d escapes (contains escapes b && starts_with d s) s)) h
    go false u e h = later b s (more 1 (take_till_escaping d escapes (contains escapes b && starts_with d s) s)) h

brace_stops : (s : List ℕ) → Stops s (through_brace s)
unfolding through_brace
brace_stops [] = tt
brace_stops (b ∷ s) = go (eqb b 125) refl (brace_stops s)
  where
    go : (t : Bool) → eqb b 125 ≡ t → Stops s (through_brace s) → Stops (b ∷ s) (cond t (Some 1) (more 1 (through_brace s)))
    go true e h = behind 0 refl (suc-le-suc zero-le) (is_ascii b 125 (omega arith) e)
    go false e h = later b s (through_brace s) h

line_cuts : Cuts till_line_ending
line_cuts s w = stops_leave s (till_line_ending s) (line_stops s) w

block_cuts : Cuts through_block_end
block_cuts s w = stops_leave s (through_block_end s) (block_stops s) w

closed_cuts : (desired : ℕ) → desired < 0x80 → (escapes : List ℕ) → Cuts (closed_by desired escapes)
unfolding closed_by
closed_cuts d l escapes s w = stops_leave s (more 1 (take_till_escaping d escapes false s)) (closed_stops d l escapes false s) w

braced_cuts : Cuts braced_text
unfolding braced_text
braced_cuts s w = go (starts_with 125 s)
  where
    go : (t : Bool) → Leaves s (cond t None (through_brace s))
    go true = fails_leaves s
    go false = stops_leave s (through_brace s) (brace_stops s) w

-- ---- what a recogniser leaves

abbrev pub Bounded : List ℕ → Option Piece → Type 0
Bounded s (Some p) = well_formed (drop p.len s) ≡ true
Bounded s None = Unit {0}

pub alt_bounded : (s : List ℕ) (a b : Option Piece) → Bounded s a → Bounded s b → Bounded s (alt a b)
alt_bounded s (Some p) b h l = h
alt_bounded s None b h l = l

quote_bounded : (s : List ℕ) (kind : TokenKind) (key : ℕ → Option Key) (escaped : ℕ → ℕ) (t : Option ℕ) → Leaves s t → Bounded s (quote_token kind key escaped t)
quote_bounded s kind key escaped (Some n) h = h.left
quote_bounded s kind key escaped None h = tt

pub token_bounded : (s : List ℕ) (kind : TokenKind) (t : Option ℕ) → Leaves s t → Bounded s (token_of kind t)
token_bounded s kind (Some n) h = h.left
token_bounded s kind None h = tt

keyed_bounded : (s : List ℕ) (key : ℕ → Option Key) (t : Option ℕ) → Leaves s t → Bounded s (keyed key t)
keyed_bounded s key (Some n) h = h.left
keyed_bounded s key None h = tt

at_least_leaves : (s : List ℕ) (k n : ℕ) → well_formed (drop n s) ≡ true → Leaves s (at_least k n)
at_least_leaves s k n h = cond_leaves s (leb k n) (Some n) (record { left = h })

module _ (s : List ℕ) (w : well_formed s ≡ true) where
  pub whitespace_bounded : Bounded s (get_whitespace_token s)
  unfolding get_whitespace_token
  whitespace_bounded = token_bounded s K.Whitespace _ (at_least_leaves s 1 (run is_whitespace 0 s) (run_cut is_whitespace 0 s w))

  pub word_bounded : Bounded s (get_word_token s)
  unfolding get_word_token
  word_bounded = token_bounded s K.Word _ (at_least_leaves s 1 (run is_word_character 0 s) (run_cut is_word_character 0 s w))

  pub operator_bounded : Bounded s (get_operator_token s)
  unfolding get_operator_token is_operator
  operator_bounded =
      token_bounded s K.Operator _
      (at_least_leaves s 2 (min (count is_operator s) 5)
      (count_cut is_operator (contains_plain (bytes "!<>=|:-~*&@^?#/%") refl) s (min (count is_operator s) 5) (min-le_left (count is_operator s) 5) w))

  character_left : (s : List ℕ) → well_formed s ≡ true → well_formed (drop (character_length s) s) ≡ true
  unfolding character_length
  character_left [] w = w
  character_left (b ∷ s) w = (well_formed_step b s w).rest

  pub other_bounded : Bounded s (get_any_other_char s)
  unfolding get_any_other_char
  other_bounded = token_bounded s K.Operator _ (go (starts_with 10 s || starts_with 13 s))
    where
      go : (t : Bool) → Leaves s (cond t None (at_least 1 (character_length s)))
      go true = fails_leaves s
      go false = at_least_leaves s 1 (character_length s) (character_left s w)

  -- these bytes, and a part behind them
  literal_leaves : (word : List ℕ) → all_ascii word ≡ true → (then : Taker) → Cuts then → Leaves s (spelled typed word then s)
  literal_leaves word a then h = spelled_cuts typed typed_keeps word a then h s w

  caseless_leaves : (word : List ℕ) → all_ascii word ≡ true → (then : Taker) → Cuts then → Leaves s (spelled capital word then s)
  caseless_leaves word a then h = spelled_cuts capital capital_keeps word a then h s w

  pub comment_bounded : Bounded s (get_comment_token s)
  unfolding get_comment_token
  comment_bounded =
      alt_bounded s (token_of K.LineComment (spelled typed (bytes "#") till_line_ending s)) _
      (token_bounded s K.LineComment _ (literal_leaves (bytes "#") refl till_line_ending line_cuts))
      (alt_bounded s (token_of K.LineComment (spelled typed (bytes "--") till_line_ending s)) _
      (token_bounded s K.LineComment _ (literal_leaves (bytes "--") refl till_line_ending line_cuts))
      (token_bounded s K.BlockComment _ (literal_leaves (bytes "/*") refl through_block_end block_cuts)))

  pub type_specifier_bounded : (allowed : Bool) → Bounded s (get_type_specifier_token allowed s)
  unfolding get_type_specifier_token
  type_specifier_bounded true =
      token_bounded s K.TypeSpecifier _
      (or_leaves s (spelled typed (bytes "::") done s) _ (literal_leaves (bytes "::") refl done done_cuts) (literal_leaves (bytes "[]") refl done done_cuts))
  type_specifier_bounded false = tt

  -- ---- strings

  quote : (word : List ℕ) (desired : ℕ) (escapes : List ℕ) → all_ascii word ≡ true → desired < 0x80 → Leaves s (spelled typed word (closed_by desired escapes) s)
  quote word desired escapes a l = literal_leaves word a (closed_by desired escapes) (closed_cuts desired l escapes)

  in_sql_server_lem : (dialect : Dialect) → Leaves s (in_sql_server dialect (spelled typed (bytes "[") (closed_by (byte "]") (bytes "]"))) s)
  in_sql_server_lem Generic = fails_leaves s
  in_sql_server_lem PostgreSql = fails_leaves s
  in_sql_server_lem SQLServer = quote (bytes "[") (byte "]") (bytes "]") refl (omega arith)

  hex_leaves : Leaves s (hex_taken s)
  unfolding hex_taken
  hex_leaves = or_leaves s (spelled typed (bytes "x'") (closed_by (byte "'") []) s) _ (quote (bytes "x'") (byte "'") [] refl (omega arith)) (quote (bytes "X'") (byte "'") [] refl (omega arith))

  quoted_leaves : Leaves s (quoted_taken s)
  unfolding quoted_taken
  quoted_leaves =
      or_leaves s (spelled typed (bytes "\"") (closed_by (byte "\"") (bytes "\"\\")) s) _ (quote (bytes "\"") (byte "\"") (bytes "\"\\") refl (omega arith))
      (or_leaves s (spelled typed (bytes "'") (closed_by (byte "'") (bytes "'\\")) s) _ (quote (bytes "'") (byte "'") (bytes "'\\") refl (omega arith))
      (or_leaves s (spelled typed (bytes "N'") (closed_by (byte "'") (bytes "'\\")) s) _ (quote (bytes "N'") (byte "'") (bytes "'\\") refl (omega arith))
      (or_leaves s (spelled typed (bytes "E'") (closed_by (byte "'") (bytes "'\\")) s) _ (quote (bytes "E'") (byte "'") (bytes "'\\") refl (omega arith)) hex_leaves)))

  pub string_bounded : (dialect : Dialect) → Bounded s (get_string_token dialect s)
  unfolding get_string_token string_taken
  string_bounded dialect =
      quote_bounded s K.String _ _ _
      (or_leaves s (spelled typed (bytes "`") (closed_by (byte "`") (bytes "`")) s) _ (quote (bytes "`") (byte "`") (bytes "`") refl (omega arith))
      (or_leaves s (in_sql_server dialect (spelled typed (bytes "[") (closed_by (byte "]") (bytes "]"))) s) _ (in_sql_server_lem dialect) quoted_leaves))

  -- ---- parentheses

  in_postgresql : (dialect : Dialect) (word : List ℕ) → all_ascii word ≡ true → Leaves s (in_postgre_sql dialect (spelled typed word done) s)
  in_postgresql Generic word a = fails_leaves s
  in_postgresql PostgreSql word a = literal_leaves word a done done_cuts
  in_postgresql SQLServer word a = fails_leaves s

  pub open_paren_bounded : (dialect : Dialect) → Bounded s (get_open_paren_token dialect s)
  unfolding get_open_paren_token
  open_paren_bounded dialect =
      token_bounded s K.OpenParen _
      (or_leaves s (spelled typed (bytes "(") done s) _ (literal_leaves (bytes "(") refl done done_cuts)
      (or_leaves s (in_postgre_sql dialect (spelled typed (bytes "[") done) s) _ (in_postgresql dialect (bytes "[") refl)
      (caseless_leaves (bytes "CASE") refl end_of_word end_of_word_cuts)))

  pub close_paren_bounded : (dialect : Dialect) → Bounded s (get_close_paren_token dialect s)
  unfolding get_close_paren_token
  close_paren_bounded dialect =
      token_bounded s K.CloseParen _
      (or_leaves s (spelled typed (bytes ")") done s) _ (literal_leaves (bytes ")") refl done done_cuts)
      (or_leaves s (in_postgre_sql dialect (spelled typed (bytes "]") done) s) _ (in_postgresql dialect (bytes "]") refl)
      (or_leaves s (spelled capital (bytes "END") (blanks (spelled capital (bytes "CASE") end_of_word)) s) _
      (caseless_leaves (bytes "END") refl _ (blanks_cuts _ (spelled_cuts capital capital_keeps (bytes "CASE") refl end_of_word end_of_word_cuts)))
      (caseless_leaves (bytes "END") refl end_of_word end_of_word_cuts))))

-- ---- numbers

digits_cuts : Cuts (digit1 done)
digits_cuts = digit1_cuts done done_cuts

decimal_cuts : (then : Taker) → Cuts then → Cuts (decimal_number then)
unfolding decimal_number
decimal_cuts then h s w = digit1_cuts _ (spelled_cuts typed typed_keeps (bytes ".") refl (digit0 then) (digit0_cuts then h)) s w

exponent_cuts : Cuts exponent
unfolding exponent signed_digits
exponent_cuts s w = spelled_cuts typed typed_keeps (bytes "e") refl signed_digits signed s w
  where
    signed : Cuts signed_digits
    signed r v =
        or_leaves r (one (contains (bytes "-+")) (digit1 done) r) (digit1 done r)
        (one_cuts (contains (bytes "-+")) (contains_plain (bytes "-+") refl) (digit1 done) digits_cuts r v) (digits_cuts r v)

unsigned_cuts : Cuts unsigned
unfolding unsigned scientific_notation
unsigned_cuts s w =
    or_leaves s (or (decimal_number exponent s) (digit1 exponent s)) _
    (or_leaves s (decimal_number exponent s) (digit1 exponent s) (decimal_cuts exponent exponent_cuts s w) (digit1_cuts exponent exponent_cuts s w))
    (or_leaves s (decimal_number done s) (digit1 done s) (decimal_cuts done done_cuts s w) (digits_cuts s w))

pub number_bounded : (s : List ℕ) → well_formed s ≡ true → Bounded s (get_number_token s)
unfolding get_number_token
number_bounded s w =
    token_bounded s K.Number _
    (or_leaves s (spelled typed (bytes "-") unsigned s) (unsigned s) (literal_leaves s w (bytes "-") refl unsigned unsigned_cuts) (unsigned_cuts s w))

-- ---- placeholders

name_cuts : Cuts placeholder_name
unfolding placeholder_name
name_cuts s w = at_least_leaves s 1 (run is_placeholder_name_character 0 s) (run_cut is_placeholder_name_character 0 s w)

placeholder_string_cuts : (dialect : Dialect) → Cuts (placeholder_string_taken dialect)
unfolding placeholder_string_taken placeholder_quoted_taken
placeholder_string_cuts dialect s w =
    or_leaves s (spelled typed (bytes "`") (closed_by (byte "`") (bytes "`")) s) _ (quote s w (bytes "`") (byte "`") (bytes "`") refl (omega arith))
    (or_leaves s (in_sql_server dialect (spelled typed (bytes "[") (closed_by (byte "]") (bytes "]"))) s) _ (in_sql_server_lem s w dialect)
    (or_leaves s (spelled typed (bytes "\"") (closed_by (byte "\"") (bytes "\\")) s) _ (quote s w (bytes "\"") (byte "\"") (bytes "\\") refl (omega arith))
    (or_leaves s (spelled typed (bytes "'") (closed_by (byte "'") (bytes "\\")) s) _ (quote s w (bytes "'") (byte "'") (bytes "\\") refl (omega arith))
    (quote s w (bytes "N'") (byte "'") (bytes "\\") refl (omega arith)))))

module _ (s : List ℕ) (w : well_formed s ≡ true) where
  indexed_bounded : Bounded s (get_indexed_placeholder_token s)
  unfolding get_indexed_placeholder_token indexed_taken
  indexed_bounded =
      keyed_bounded s (indexed_key s) _
      (or_leaves s (one (contains (bytes "?$")) (digit1 done) s) _ (one_cuts (contains (bytes "?$")) (contains_plain (bytes "?$") refl) (digit1 done) digits_cuts s w)
      (literal_leaves s w (bytes "?") refl done done_cuts))

  ident_bounded : Bounded s (get_ident_named_placeholder_token s)
  unfolding get_ident_named_placeholder_token ident_taken
  ident_bounded = keyed_bounded s (λ n. Some (Named 1 (n - 1))) _ (one_cuts (contains (bytes "@:$")) (contains_plain (bytes "@:$") refl) placeholder_name name_cuts s w)

  string_named_bounded : (dialect : Dialect) → Bounded s (get_string_named_placeholder_token dialect s)
  unfolding get_string_named_placeholder_token string_named_taken
  string_named_bounded dialect =
      quote_bounded s K.Placeholder (string_key s) _ _ (one_cuts (contains (bytes "@:")) (contains_plain (bytes "@:") refl) (placeholder_string_taken dialect) (placeholder_string_cuts dialect) s w)

  braced_bounded : Bounded s (get_braced_named_placeholder_token s)
  unfolding get_braced_named_placeholder_token braced_taken
  braced_bounded = keyed_bounded s (λ n. Some (Named 1 (n - 2))) _ (literal_leaves s w (bytes "{") refl braced_text braced_cuts)

  four_bounded : (a b c d : Option Piece) → Bounded s a → Bounded s b → Bounded s c → Bounded s d → Bounded s (alt a (alt b (alt c d)))
  four_bounded a b c d h i j k = alt_bounded s a (alt b (alt c d)) h (alt_bounded s b (alt c d) i (alt_bounded s c d j k))

  pub placeholder_bounded : (named : Bool) (dialect : Dialect) → Bounded s (get_placeholder_token named dialect s)
  unfolding get_placeholder_token
  placeholder_bounded true dialect =
      four_bounded (get_ident_named_placeholder_token s) (get_string_named_placeholder_token dialect s) (get_indexed_placeholder_token s) (get_braced_named_placeholder_token s)
      ident_bounded (string_named_bounded dialect) indexed_bounded braced_bounded
  placeholder_bounded false dialect =
      four_bounded (get_indexed_placeholder_token s) (get_ident_named_placeholder_token s) (get_string_named_placeholder_token dialect s) (get_braced_named_placeholder_token s)
      indexed_bounded ident_bounded (string_named_bounded dialect) braced_bounded
