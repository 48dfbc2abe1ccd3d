-- A look for a closing quote that fails, fails behind it too, wherever a byte stands that is not the quote; and the same of a brace
-- and of a line that a lone CR ends. What hints say, and how they are used and learnt.
-- Assumes nothing.
use Rattle.std.proofs.Common.{Option, Some, None}
use Rattle.std.specs.List.{position}
use Rattle.std.proofs.lemmas.List.Quantifiers.{position-Some}
use Prim.Native.Nat.{ℕ, zero, suc, ◌+◌, ◌-◌, ◌^◌, ◌≤◌, ◌<◌, zero-le}
use mir.Syntax.{w64}
use mir.Val.{Fits}
use native.Mathlib.Nat.{not-suc-le-zero}
use native.Mathlib.Omega.{arith}
use mathlib.Core.Path.{◌≡◌, refl, sym, ap, ◌∙◌}
use mathlib.Core.List.{List, [], ◌∷◌}
use mathlib.Core.Bool.{Bool, true, false, cond, not, ◌&&◌, false≢true, and-eq-true_iff}
use lib.ListN.{length, drop, take, get_or, length-drop}
use lib.Seq.{drop-cons, drop-drop}
use lib.Dec.{eqb}
use borrow.Author.Tests.{eqb-true}
use Rattle.characters.proofs.Rests.{part_end}
use Rattle.recognisers.specs.Text.{bytes}
use Rattle.recognisers.specs.Taking.{Taker, more, contains, starts_with}
use Rattle.recognisers.specs.Strings.{take_till_escaping}
use Rattle.recognisers.specs.Comment.{till_line_ending}
use Rattle.recognisers.specs.Placeholder.{through_brace, braced_text}
use Rattle.recognisers.specs.declared.hints.Hints.{Hints}
use Rattle.recognisers.specs.Inner.Known.{nothing_known, Known, Barren, Looked, before, failed, Truthful}
use Rattle.recognisers.proofs.Spelling.{not_fails}
use Rattle.recognisers.proofs.CommentLoops.{PassedAt, breaks, lone, line_is}
use Rattle.recognisers.proofs.LibraryWords.{found, some_same}
use Rattle.recognisers.proofs.ClosingQuote.{starts_some, quote_two, quote_here}

more_fails : (n : ℕ) (t : Option ℕ) → more n t ≡ None → t ≡ None
more_fails n (Some m) e = absurd (let z : ◌≡◌ {A = ℕ} 0 1 = cc in let w : ⊥ = omega arith in w)
more_fails n None e = refl

module _ (d : ℕ) (esc : List ℕ) where
  abbrev till : Taker
  till = take_till_escaping d esc false

  -- law 1: the state before a byte that is not the quote is `false`
  abbrev pub Unclosed : List ℕ → Type 0
  Unclosed s = (q : ℕ) → starts_with d (drop q s) ≡ false → till (drop q s) ≡ None

  pub unclosed_from : (behind : Bool) (s : List ℕ) → (behind ≡ true → starts_with d s ≡ true) → take_till_escaping d esc behind s ≡ None → Unclosed s
  unfolding take_till_escaping starts_with
  unclosed_from behind [] b e zero n = refl
  unclosed_from behind [] b e (suc q) n = refl
  unclosed_from true (c ∷ s) b e zero n = absurd (false≢true (sym n ∙ b refl))
  unclosed_from true (c ∷ s) b e (suc q) n = unclosed_from false s (λ f. absurd (false≢true f)) (more_fails 1 (till s) e) q n
  unclosed_from false (c ∷ s) b e zero n = e
  unclosed_from false (c ∷ s) b e (suc q) n =
      unclosed_from (contains esc c && starts_with d s) s
      (λ f. ((and-eq-true_iff (contains esc c) (starts_with d s)).0 f).1)
      (go (not (contains esc c && starts_with d s) && eqb c d) (take_till_escaping d esc (contains esc c && starts_with d s) s) e)
      q n
    where
      go : (t : Bool) (o : Option ℕ) → cond t (Some 0) (more 1 o) ≡ None → o ≡ None
      go true o h = absurd (let z : ◌≡◌ {A = ℕ} 0 1 = cc in let w : ⊥ = omega arith in w)
      go false o h = more_fails 1 o h

  pub unclosed : (s : List ℕ) → till s ≡ None → Unclosed s
  unclosed s e = unclosed_from false s (λ f. absurd (false≢true f)) e

  -- law 2: it is kept when the front is dropped
  pub known_drop : (s : List ℕ) (k n : ℕ) → Known d esc s k → Known d esc (drop n s) k
  known_drop s k n h = record { fails = λ q l e. rw (drop-drop q n s) (h.fails (n + q) (rw (drop-drop q n s) at l) (rw (drop-drop q n s) at e)) }

  none_left : (r : List ℕ) → length r ≤ 0 → till r ≡ None
  unfolding take_till_escaping
  none_left [] l = refl
  none_left (b ∷ r) l = absurd (not-suc-le-zero l)

  -- nothing is known at first
  pub known_none : (s : List ℕ) → Known d esc s 0
  known_none s = record { fails = λ q l e. none_left (drop q s) l }

  -- a look that has failed says all of what stands behind it
  pub known_failed : (s : List ℕ) (n : ℕ) → n ≤ length s → till (drop n s) ≡ None → Known d esc s (length s - n)
  known_failed s n i e = record { fails = λ q l f. behind q l f }
    where
      behind : (q : ℕ) → length (drop q s) ≤ length s - n → starts_with d (drop q s) ≡ false → till (drop q s) ≡ None
      behind q l f =
          let le : n ≤ q = omega (arith, length-drop q s) in
          let back : n + (q - n) ≡ q = omega arith in
          let same : drop (q - n) (drop n s) ≡ drop q s = drop-drop (q - n) n s ∙ rw back in
          rw (← same) (unclosed (drop n s) e (q - n) (rw same f))

  -- law 3: where the rest is known, a look ends where the run of quotes at its start ends
  pub run_ends : (s : List ℕ) (k i : ℕ) → Known d esc s k → length s ≤ k → PassedAt till s i → starts_with d (drop i s) ≡ false → None ≡ till s
  run_ends s k i h l at e = sym (at.same ∙ ap (more i) (h.fails i (rw length-drop (omega arith)) e))

  -- what a look may have told
  pub known_looked : (fails : List ℕ → Type 0) → ((r : List ℕ) → fails r → till r ≡ None) → (s : List ℕ) (n k m : ℕ) → Known d esc s k → Looked fails s n k m → Known d esc s m
  known_looked fails t s n k m h before = h
  known_looked fails t s n k m h (failed i e) = known_failed s n i (t (drop n s) e)

  -- behind the first byte
  pub known_behind : (s rest : List ℕ) (x k : ℕ) → s ≡ x ∷ rest → Known d esc s k → Known d esc rest k
  known_behind s rest x k e h = let w : Known d esc (drop 1 s) k = known_drop s k 1 h in rw e at w

  pub known_part : (s : List ℕ) (k n : ℕ) → Known d esc s k → Known d esc (take (length s - n) (drop n s)) k
  known_part s k n h = rw (part_end s n) (known_drop s k n h)

  module _ (s : List ℕ) (i : ℕ) (r : Bool) (e : r ≡ starts_with d (drop i s)) (y : r ≡ true) where
    pub run_inside : i < length s
    run_inside = let o = starts_some d (drop i s) (sym e ∙ y) in omega (arith, length-drop i s)

    run_byte : get_or s i 0 ≡ d
    unfolding starts_with
    run_byte = eqb-true (get_or s i 0) d (go (drop-cons s i 0 run_inside) (sym e ∙ y))
      where
        go : drop i s ≡ get_or s i 0 ∷ drop (suc i) s → starts_with d (drop i s) ≡ true → eqb (get_or s i 0) d ≡ true
        go f g = rw f at g

    module _ (p : Bool) (at : PassedAt till s i) (c : p ≡ (starts_with d (drop (i + 1) s) && contains esc (get_or s i 0))) where
      pub run_two : p ≡ true → PassedAt till s (i + 2)
      run_two t = quote_two d esc s i p at run_inside c t

      pub run_less : p ≡ true → length s - (i + 2) < length s - i
      run_less t = let m = run_two t in omega (arith, m.inside)

      pub run_here : p ≡ false → Some i ≡ till s
      run_here t = quote_here d esc s i p at run_inside c t run_byte

-- a look at a part that reaches to the end
pub looked_failed : (fails : List ℕ → Type 0) (s rest : List ℕ) (n k : ℕ) → rest ≡ take (length s - n) (drop n s) → length rest + n ≡ length s → fails rest → Looked fails s n k (length rest)
looked_failed fails s rest n k e l h =
    let f : rest ≡ drop n s = e ∙ part_end s n in
    let m : length s - n ≡ length rest = omega arith in
    rw (← m) (failed (omega arith) (rw f at h))

-- the place behind a byte that stands there
pub next_fits : (d : ℕ) (s : List ℕ) (i : ℕ) (r : Bool) → r ≡ starts_with d (drop i s) → r ≡ true → length s < 2 ^ 64 → Fits w64 (i + 1)
next_fits d s i r e y h = let o = starts_some d (drop i s) (sym e ∙ y) in record { fits = omega (arith, length-drop i s) }

-- ---- a part that fails

module _ (taker : Taker) where
  pub barren_drop : (s : List ℕ) (l m n : ℕ) → Barren taker s l m → Barren taker (drop n s) l m
  barren_drop s l m n h = record { fails = λ q a b. rw (drop-drop q n s) (h.fails (n + q) (rw (drop-drop q n s) at a) (rw (drop-drop q n s) at b)) }

  barren_part : (s : List ℕ) (l m n : ℕ) → Barren taker s l m → Barren taker (take (length s - n) (drop n s)) l m
  barren_part s l m n h = rw (part_end s n) (barren_drop s l m n h)

  -- what is known of a part up to the end is known of the whole
  pub barren_whole : (s : List ℕ) (l n : ℕ) → n ≤ length s → Barren taker (take (length s - n) (drop n s)) l (length (take (length s - n) (drop n s))) → Barren taker s l (length s - n)
  barren_whole s l n i h = record { fails = λ q a b. behind q a b }
    where
      rest : Barren taker (drop n s) l (length (drop n s))
      rest = rw (part_end s n) at h

      behind : (q : ℕ) → l ≤ length (drop q s) → length (drop q s) ≤ length s - n → taker (drop q s) ≡ None
      behind q a b =
          let le : n ≤ q = omega (arith, length-drop q s) in
          let back : n + (q - n) ≡ q = omega arith in
          let same : drop (q - n) (drop n s) ≡ drop q s = drop-drop (q - n) n s ∙ rw back in
          rw (← same) (rest.fails (q - n) (rw same a) (rw same (omega (arith, length-drop n s))))

-- no brace closes behind a look for one that has failed
brace_later : (s : List ℕ) → through_brace s ≡ None → (q : ℕ) → through_brace (drop q s) ≡ None
unfolding through_brace
brace_later [] e zero = refl
brace_later [] e (suc q) = refl
brace_later (b ∷ s) e zero = e
brace_later (b ∷ s) e (suc q) = brace_later s (go (eqb b 125) (through_brace s) e) q
  where
    go : (t : Bool) (o : Option ℕ) → cond t (Some 1) (more 1 o) ≡ None → o ≡ None
    go true o h = absurd (let z : ◌≡◌ {A = ℕ} 0 1 = cc in let w : ⊥ = omega arith in w)
    go false o h = more_fails 1 o h

pub brace_looked : (fails : List ℕ → Type 0) → ((r : List ℕ) → fails r → through_brace r ≡ None) → (s : List ℕ) (n k m : ℕ) → Barren through_brace s 0 k → Looked fails s n k m → Barren through_brace s 0 m
brace_looked fails t s n k m h before = h
brace_looked fails t s n k m h (failed i e) = barren_whole through_brace s 0 n i (rw (part_end s n) (record { fails = λ q a b. brace_later (drop n s) (t (drop n s) e) q }))

-- the first break stands as far from each place before it
break_later : (q : ℕ) (s : List ℕ) (i : ℕ) → position breaks s ≡ Some i → q ≤ i → position breaks (drop q s) ≡ Some (i - q)
break_later zero s i e l = e ∙ ap Some (let z : i ≡ i - 0 = omega arith in z)
break_later (suc q) [] i e l = not_fails i e
break_later (suc q) (b ∷ s) i e l = go (breaks b) (position breaks s) refl (sym (found breaks b s) ∙ e) (λ k f m. break_later q s k f m)
  where
    go : (t : Bool) (o : Option ℕ) → position breaks s ≡ o → cond t (Some 0) (more 1 o) ≡ Some i → ((k : ℕ) → position breaks s ≡ Some k → q ≤ k → position breaks (drop q s) ≡ Some (k - q)) → position breaks (drop q s) ≡ Some (i - suc q)
    go true o p f h = absurd (let z : 0 ≡ i = some_same f in let y : ⊥ = omega arith in y)
    go false None p f h = not_fails i f
    go false (Some k) p f h =
        let z : 1 + k ≡ i = some_same f in
        let m : k - q ≡ i - suc q = omega arith in
        h k p (omega arith) ∙ ap Some m

pub lone_from : (s : List ℕ) (t : Option ℕ) (i : ℕ) (r : Bool) → t ≡ position breaks s → t ≡ Some i → r ≡ lone (take (length s - i) (drop i s)) → r ≡ true → Barren till_line_ending s (length s - i) (length s)
lone_from s t i r e f g h = record { fails = λ q a b. at q a }
  where
    there : lone (drop i s) ≡ true
    there = rw (part_end s i) at (sym g ∙ h)

    at : (q : ℕ) → length s - i ≤ length (drop q s) → till_line_ending (drop q s) ≡ None
    at q a =
        let m : i < length s = (position-Some breaks s i 0 (sym e ∙ f)).0 in
        let k : q ≤ i = omega (arith, length-drop q s) in
        let p = break_later q s i (sym e ∙ f) k in
        let d : drop (i - q) (drop q s) ≡ drop i s = drop-drop (i - q) q s ∙ (let z : q + (i - q) ≡ i = omega arith in rw z) in
        rw (line_is (drop q s), p, d, there)

-- ---- all classes

no_brace : (s : List ℕ) → Barren through_brace s 0 0
unfolding through_brace
no_brace s = record { fails = λ q a b. none (drop q s) b }
  where
    none : (r : List ℕ) → length r ≤ 0 → through_brace r ≡ None
    none [] l = refl
    none (b ∷ r) l = absurd (not-suc-le-zero l)

pub truthful_none : (h : Hints) (s : List ℕ) → h ≡ nothing_known → Truthful h s
unfolding Truthful
truthful_none h s e =
    rw e
    (record {
      square = known_none _ _ s;
      double = known_none _ _ s;
      single = known_none _ _ s;
      brace = no_brace s;
      line = record { fails = λ q a b. absurd (let z : ⊥ = omega arith in z) };
    })

-- of a part up to the end too
pub truthful_part : (h : Hints) (s : List ℕ) (n : ℕ) → Truthful h s → Truthful h (take (length s - n) (drop n s))
unfolding Truthful
truthful_part h s n t =
    record {
      square = known_part _ _ s _ n t.square;
      double = known_part _ _ s _ n t.double;
      single = known_part _ _ s _ n t.single;
      brace = barren_part through_brace s _ _ n t.brace;
      line = barren_part till_line_ending s _ _ n t.line;
    }

module _ (h : Hints) (s : List ℕ) (t : Truthful h s) where
  pub square_known : Known 93 (bytes "]") s h.square
  unfolding Truthful
  square_known = t.square

  pub double_known : Known 34 (bytes "\"\\") s h.double
  unfolding Truthful
  double_known = t.double

  pub single_known : Known 39 (bytes "'\\") s h.single
  unfolding Truthful
  single_known = t.single

  pub brace_known : length s ≤ h.brace → None ≡ through_brace s
  unfolding Truthful
  brace_known m = sym (t.brace.fails 0 zero-le m)

  pub line_known : h.line_shortest ≤ length s → length s ≤ h.line_longest → None ≡ till_line_ending s
  unfolding Truthful
  line_known l m = sym (t.line.fails 0 l m)

  pub brace_unclosed : (r : Bool) → r ≡ starts_with 125 (drop 0 s) → r ≡ false → length s ≤ h.brace → None ≡ braced_text s
  unfolding braced_text
  brace_unclosed r e f m = brace_known m ∙ rw (← e, f)

-- ---- a hint renewed

module _ (h : Hints) (s : List ℕ) (k : ℕ) (t : Truthful h s) where
  pub square_learnt : Known 93 (bytes "]") s k → Truthful (record { square = k; double = h.double; single = h.single; brace = h.brace; line_shortest = h.line_shortest; line_longest = h.line_longest }) s
  unfolding Truthful
  square_learnt u = record { square = u; double = t.double; single = t.single; brace = t.brace; line = t.line }

  pub double_learnt : Known 34 (bytes "\"\\") s k → Truthful (record { square = h.square; double = k; single = h.single; brace = h.brace; line_shortest = h.line_shortest; line_longest = h.line_longest }) s
  unfolding Truthful
  double_learnt u = record { square = t.square; double = u; single = t.single; brace = t.brace; line = t.line }

  pub single_learnt : Known 39 (bytes "'\\") s k → Truthful (record { square = h.square; double = h.double; single = k; brace = h.brace; line_shortest = h.line_shortest; line_longest = h.line_longest }) s
  unfolding Truthful
  single_learnt u = record { square = t.square; double = t.double; single = u; brace = t.brace; line = t.line }

  pub brace_learnt : Barren through_brace s 0 k → Truthful (record { square = h.square; double = h.double; single = h.single; brace = k; line_shortest = h.line_shortest; line_longest = h.line_longest }) s
  unfolding Truthful
  brace_learnt u = record { square = t.square; double = t.double; single = t.single; brace = u; line = t.line }

  pub line_learnt : (rest : List ℕ) (n : ℕ) → rest ≡ take (length s - n) (drop n s) → length rest + n ≡ length s → Barren till_line_ending rest k (length rest) → Truthful (record { square = h.square; double = h.double; single = h.single; brace = h.brace; line_shortest = k; line_longest = length rest }) s
  unfolding Truthful
  line_learnt rest n e l u =
      let m : length s - n ≡ length rest = omega arith in
      let w : Barren till_line_ending s k (length s - n) = barren_whole till_line_ending s k n (omega arith) (rw e at u) in
      record { square = t.square; double = t.double; single = t.single; brace = t.brace; line = rw m at w }

pub brace_hint : (h : Hints) (s : List ℕ) → Truthful h s → Barren through_brace s 0 h.brace
unfolding Truthful
brace_hint h s t = t.brace
