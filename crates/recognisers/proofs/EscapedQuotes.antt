-- How many quotes are escaped: the loop that counts them, how many there can be, and that the token's value alone tells it.
-- Assumes nothing.
use Rattle.std.proofs.Common.{Option, Some, None}
use Prim.Native.Nat.{ℕ, suc, ◌+◌, ◌-◌, ◌*◌, ◌≤◌, ◌<◌, zero-le}
use native.Mathlib.Nat.{add-zero}
use native.Mathlib.Numerals.{add-one, add-two}
use native.Mathlib.Omega.{arith}
use mathlib.Core.Path.{◌≡◌, refl, sym, ap, ◌∙◌}
use mathlib.Core.List.{List, [], ◌∷◌}
use mathlib.Core.Bool.{Bool, true, false, cond, not, ◌&&◌, and_comm, and-eq-true_iff}
use lib.ListN.{length, drop, take, get_or, drop_of_length-le, length-drop}
use lib.Seq.{drop-cons}
use lib.Dec.{eqb}
use borrow.Author.Tests.{eq-eqb, ne_eqb}
use Rattle.characters.proofs.Rests.{part_end}
use Rattle.recognisers.specs.declared.Dialect.{Dialect}
use Rattle.recognisers.specs.declared.TokenKind.TheVariants.{String}
use Rattle.recognisers.specs.Text.{bytes}
use Rattle.recognisers.specs.Pieces.{piece}
use Rattle.recognisers.specs.Taking.{taken, more, one, typed, spelled, contains, starts_with, starts_among}
use Rattle.recognisers.specs.declared.Piece.{Piece}
use Rattle.recognisers.specs.Strings.{take_till_escaping, closed_by, pairs_passed, pairs_behind, pairs_in, string_taken, string_pairs, get_string_token, placeholder_string_pairs}
use Rattle.recognisers.specs.Placeholder.{string_named_pairs}
use Rattle.recognisers.proofs.Spelling.{not_fails}
use Rattle.recognisers.proofs.ClosingQuote.{starts_some}

-- where one byte more makes m, what holds behind each number that it can be made of holds of m
one_more : (m : ℕ) (o : Option ℕ) → more 1 o ≡ Some m → (P : ℕ → Type 0) → ((n : ℕ) → o ≡ Some n → P (suc n)) → P m
one_more m (Some n) e P f = let z : 1 + n ≡ m = ap taken e in let y : m ≡ suc n = omega (arith, z) in rw y (f n refl)
one_more m None e P f = not_fails m e

module _ (d : ℕ) (esc : List ℕ) where
  abbrev passed : List ℕ → ℕ
  passed = pairs_passed d esc false

  -- ---- the loop

  -- i bytes are passed, and pairs among them
  pub record PairsAt (s : List ℕ) (pairs i : ℕ) : Type 0 where
    pub inside : i ≤ length s
    pub few : pairs ≤ i
    pub same : passed s ≡ pairs + passed (drop i s)

  module _ (s : List ℕ) (pairs i : ℕ) (r : Bool) (at : PairsAt s pairs i) (h : i < length s) (c : r ≡ (starts_with d (drop (i + 1) s) && contains esc (get_or s i 0))) where
    pair : r ≡ (contains esc (get_or s i 0) && starts_with d (drop (suc i) s))
    pair = c ∙ rw (add-one i) (and_comm (starts_with d (drop (suc i) s)) (contains esc (get_or s i 0)))

    module _ (t : r ≡ true) where
      behind : suc i < length s
      behind =
          let o = starts_some d (drop (suc i) s) ((and-eq-true_iff (contains esc (get_or s i 0)) (starts_with d (drop (suc i) s))).0 (sym pair ∙ t)).1 in
          omega (arith, length-drop (suc i) s)

      pub pairs_two : PairsAt s (pairs + 1) (i + 2)
      unfolding pairs_passed
      pairs_two =
          let one_on : passed (drop i s) ≡ pairs_passed d esc true (drop (suc i) s) = rw (drop-cons s i 0 h, ← pair, t) in
          let two_on : pairs_passed d esc true (drop (suc i) s) ≡ suc (passed (drop (suc (suc i)) s)) = rw (drop-cons s (suc i) 0 behind) in
          let all : passed s ≡ pairs + suc (passed (drop (suc (suc i)) s)) = at.same ∙ ap (λ k. pairs + k) (one_on ∙ two_on) in
          record {
            inside = omega (arith, behind);
            few = omega (arith, at.few);
            same = rw (add-two i) (omega (arith, all));
          }

    module _ (t : r ≡ false) where
      pub pairs_here : get_or s i 0 ≡ d → pairs ≡ passed s
      unfolding pairs_passed
      pairs_here e = sym (at.same ∙ rw (drop-cons s i 0 h, ← pair, t, eq-eqb (get_or s i 0) d e) (add-zero pairs))

      pub pairs_one : (get_or s i 0 ≡ d → ⊥) → PairsAt s pairs (i + 1)
      unfolding pairs_passed
      pairs_one n =
          let on : passed (drop i s) ≡ passed (drop (suc i) s) = rw (drop-cons s i 0 h, ← pair, t, ne_eqb (get_or s i 0) d n) in
          record { inside = omega arith; few = omega (arith, at.few); same = rw (add-one i) (at.same ∙ ap (λ k. pairs + k) on) }

  pub pairs_none : (s : List ℕ) (pairs i : ℕ) → PairsAt s pairs i → length s ≤ i → pairs ≡ passed s
  unfolding pairs_passed
  pairs_none s pairs i at h = sym (at.same ∙ rw (drop_of_length-le s h) (add-zero pairs))

  -- ---- behind an opener

  pub behind_short : (v : List ℕ) (n : ℕ) → length v < n → 0 ≡ pairs_behind n d esc v
  unfolding pairs_passed
  behind_short v n h = let k : length v ≤ n = omega arith in rw (drop_of_length-le v k)

  -- ---- a pair takes two bytes

  few_pairs : (behind : Bool) (s : List ℕ) → pairs_passed d esc behind s * 2 ≤ length s + cond behind 1 0
  unfolding pairs_passed
  few_pairs behind [] = zero-le
  few_pairs true (b ∷ s) = omega (arith, few_pairs false s)
  few_pairs false (b ∷ s) = go (contains esc b && starts_with d s) (eqb b d) (few_pairs (contains esc b && starts_with d s) s)
    where
      go : (p q : Bool) → pairs_passed d esc p s * 2 ≤ length s + cond p 1 0
          → cond (not p && q) 0 (pairs_passed d esc p s) * 2 ≤ suc (length s) + 0
      go true q h = omega (arith, h)
      go false true h = zero-le
      go false false h = omega (arith, h)

  pub few_behind : (n : ℕ) (v : List ℕ) → pairs_behind n d esc v * 2 ≤ length v
  few_behind n v = omega (arith, few_pairs false (drop n v), length-drop n v)

  -- ---- the value alone tells it: what stands behind the closing quote counts nothing

  starts_taken : (k : ℕ) (s : List ℕ) → starts_with d (take (suc k) s) ≡ starts_with d s
  unfolding starts_with
  starts_taken k [] = refl
  starts_taken k (b ∷ s) = refl

  walk_tells : (behind : Bool) (s : List ℕ) (m : ℕ) → take_till_escaping d esc behind s ≡ Some m → pairs_passed d esc behind (take (suc m) s) ≡ pairs_passed d esc behind s
  unfolding take_till_escaping pairs_passed
  walk_tells behind [] m e = refl
  walk_tells true (b ∷ s) m e =
      one_more m (take_till_escaping d esc false s) e (λ k. pairs_passed d esc true (take (suc k) (b ∷ s)) ≡ suc (passed s)) (λ n f. ap suc (walk_tells false s n f))
  walk_tells false (b ∷ s) m e =
      go (contains esc b && starts_with d s) (eqb b d) refl refl e (walk_tells (contains esc b && starts_with d s) s)
    where
      go : (p q : Bool) → (contains esc b && starts_with d s) ≡ p → eqb b d ≡ q
          → cond (not p && q) (Some 0) (more 1 (take_till_escaping d esc p s)) ≡ Some m
          → ((n : ℕ) → take_till_escaping d esc p s ≡ Some n → pairs_passed d esc p (take (suc n) s) ≡ pairs_passed d esc p s)
          → pairs_passed d esc false (take (suc m) (b ∷ s)) ≡ cond (not p && q) 0 (pairs_passed d esc p s)
      go false true f g h tells =
          let z : 0 ≡ m = ap taken h in
          rw (← z) (either (not (contains esc b && starts_with d []) && eqb b d))
        where
          either : (x : Bool) → ◌≡◌ {A = ℕ} (cond x 0 0) 0
          either true = refl
          either false = refl
      go true q f g h tells =
          one_more m (take_till_escaping d esc true s) h (λ k. pairs_passed d esc false (take (suc k) (b ∷ s)) ≡ pairs_passed d esc true s)
          (λ n i. rw (starts_taken n s, f) (tells n i))
      go false false f g h tells =
          one_more m (take_till_escaping d esc false s) h (λ k. pairs_passed d esc false (take (suc k) (b ∷ s)) ≡ pairs_passed d esc false s)
          (λ n i. rw (starts_taken n s, f, g) (tells n i))

  pub value_tells : (opener s : List ℕ) (n : ℕ) → spelled typed opener (closed_by d esc) s ≡ Some n → pairs_behind (length opener) d esc (take n s) ≡ pairs_behind (length opener) d esc s
  unfolding spelled one closed_by
  value_tells [] s n e =
      one_more n (take_till_escaping d esc false s) e (λ k. passed (take k s) ≡ passed s) (λ m f. walk_tells false s m f)
  value_tells (w ∷ word) [] n e = not_fails n e
  value_tells (w ∷ word) (b ∷ s) n e = go (eqb (typed b) w) e (value_tells word s)
    where
      go : (t : Bool) → cond t (more 1 (spelled typed word (closed_by d esc) s)) None ≡ Some n
          → ((m : ℕ) → spelled typed word (closed_by d esc) s ≡ Some m → pairs_behind (length word) d esc (take m s) ≡ pairs_behind (length word) d esc s)
          → pairs_behind (suc (length word)) d esc (take n (b ∷ s)) ≡ pairs_behind (length word) d esc s
      go true f tells =
          one_more n (spelled typed word (closed_by d esc) s) f (λ k. pairs_behind (suc (length word)) d esc (take k (b ∷ s)) ≡ pairs_behind (length word) d esc s) tells
      go false f tells = not_fails n f

-- ---- by the opener

module _ (single double letters v : List ℕ) (q : ℕ) (tick : Bool) (a : tick ≡ starts_with 96 v) where
  pub in_ticks : tick ≡ true → q ≡ pairs_behind 1 96 (bytes "`") v → q ≡ pairs_in single double letters v
  unfolding pairs_in
  in_ticks e f = f ∙ rw (← a, e)

  module _ (n : tick ≡ false) (bracket : Bool) (b : bracket ≡ starts_with 91 v) where
    pub in_brackets : bracket ≡ true → q ≡ pairs_behind 1 93 (bytes "]") v → q ≡ pairs_in single double letters v
    unfolding pairs_in
    in_brackets e f = f ∙ rw (← a, n, ← b, e)

    module _ (m : bracket ≡ false) (two : Bool) (c : two ≡ starts_with 34 v) where
      pub in_double : two ≡ true → q ≡ pairs_behind 1 34 double v → q ≡ pairs_in single double letters v
      unfolding pairs_in
      in_double e f = f ∙ rw (← a, n, ← b, m, ← c, e)

      module _ (l : two ≡ false) (quote : Bool) (g : quote ≡ starts_with 39 v) where
        pub in_single : quote ≡ true → q ≡ pairs_behind 1 39 single v → q ≡ pairs_in single double letters v
        unfolding pairs_in
        in_single e f = f ∙ rw (← a, n, ← b, m, ← c, l, ← g, e)

        module _ (o : quote ≡ false) (letter : Bool) (h : letter ≡ starts_among letters v) where
          pub in_letter : letter ≡ true → q ≡ pairs_behind 2 39 single v → q ≡ pairs_in single double letters v
          unfolding pairs_in
          in_letter e f = f ∙ rw (← a, n, ← b, m, ← c, l, ← g, o, ← h, e)

          pub in_none : letter ≡ false → 0 ≡ pairs_in single double letters v
          unfolding pairs_in
          in_none e = rw (← a, n, ← b, m, ← c, l, ← g, o, ← h, e)

few_in : (single double letters v : List ℕ) → pairs_in single double letters v * 2 ≤ length v
unfolding pairs_in
few_in single double letters v =
    go (starts_with 96 v) (starts_with 91 v) (starts_with 34 v) (starts_with 39 v) (starts_among letters v)
  where
    go : (a b c d e : Bool)
        → cond a (pairs_behind 1 96 (bytes "`") v) (cond b (pairs_behind 1 93 (bytes "]") v) (cond c (pairs_behind 1 34 double v) (cond d (pairs_behind 1 39 single v) (cond e (pairs_behind 2 39 single v) 0)))) * 2
        ≤ length v
    go true b c d e = few_behind 96 (bytes "`") 1 v
    go false true c d e = few_behind 93 (bytes "]") 1 v
    go false false true d e = few_behind 34 double 1 v
    go false false false true e = few_behind 39 single 1 v
    go false false false false true = few_behind 39 single 2 v
    go false false false false false = zero-le

pub few_string : (v : List ℕ) → string_pairs v * 2 ≤ length v
unfolding string_pairs
few_string v = few_in _ _ _ v

-- behind the mark
pub named_short : (v : List ℕ) → length v ≡ 0 → 0 ≡ string_named_pairs v
unfolding string_named_pairs placeholder_string_pairs pairs_in starts_with starts_among
named_short v h = let k : length v ≤ 1 = omega arith in rw (drop_of_length-le v k)

pub named_rest : (v : List ℕ) (q : ℕ) → q ≡ pairs_in (bytes "\\") (bytes "\\") (bytes "N") (take (length v - 1) (drop 1 v)) → q ≡ string_named_pairs v
unfolding string_named_pairs placeholder_string_pairs
named_rest v q e = e ∙ ap (pairs_in (bytes "\\") (bytes "\\") (bytes "N")) (part_end v 1)

pub few_named : (v : List ℕ) → string_named_pairs v * 2 ≤ length v
unfolding string_named_pairs placeholder_string_pairs
few_named v = omega (arith, few_in (bytes "\\") (bytes "\\") (bytes "N") (drop 1 v), length-drop 1 v)

-- ---- a String token

module _ (dialect : Dialect) (s : List ℕ) (t : Option ℕ) (e : t ≡ string_taken dialect s) where
  pub string_token : (n q : ℕ) (p : Piece) → t ≡ Some n → q ≡ string_pairs (take n s) → p ≡ piece String n None → Some (record { kind = p.kind; len = p.len; alias = p.alias; key = p.key; escaped = q }) ≡ get_string_token dialect s
  unfolding get_string_token
  string_token n q p f g h = rw (← e, f, g, h)

  pub string_nothing : (r : Option Piece) → t ≡ None → r ≡ None → r ≡ get_string_token dialect s
  unfolding get_string_token
  string_nothing r f g = g ∙ rw (← e, f)
