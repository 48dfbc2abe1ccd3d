-- Line comments: they are refused exactly where the first CR or LF is a CR without LF, they end at whitespace or at the end,
-- and they end at the same place in a tight text that has a LF there or ends.
-- Assumes nothing.
use Rattle.std.specs.Prelude.{is_some, not}
use Rattle.std.proofs.Common.{Option, Some, None}
use Prim.Native.Nat.{ℕ, zero, suc, ◌+◌}
use native.Mathlib.Omega.{arith}
use mathlib.Core.Path.{◌≡◌, refl, sym, ap, ◌∙◌}
use mathlib.Core.List.{List, [], ◌∷◌, ◌++◌}
use mathlib.Core.Bool.{Bool, true, false, cond, not, ◌||◌, false≢true}
use lib.ListN.{take, drop}
use lib.Dec.{eqb}
use borrow.Author.Tests.{eqb-true}
use Rattle.characters.specs.Ranges.{within, in_ranges}
use Rattle.characters.specs.WhiteSpace.{white_space}
use Rattle.characters.specs.Character.{continuations, continued, first_bits, with_bits, code_point}
use Rattle.characters.specs.Classes.{is_whitespace}
use Rattle.recognisers.specs.Taking.{more, starts_with}
use Rattle.recognisers.specs.Comment.{till_line_ending}
use Rattle.recognisers.proofs.Spelling.{not_fails}
use Rattle.tight.specs.Returning.{returns}
use Rattle.tight.proofs.Whitespace.{is_blank}
use Rattle.tight.proofs.Sim.{Sim, nil, keep, same, swap, lose}

abbrev pub is_nil : List ℕ → Bool
is_nil [] = true
is_nil (b ∷ x) = false

-- after n bytes, the end or a LF
pub data Broken : ℕ → List ℕ → Type 0 where
  at_nil : {n : ℕ} → Broken n []
  at_newline : {x : List ℕ} → Broken 0 (10 ∷ x)
  later : {n b : ℕ} {x : List ℕ} → Broken n x → Broken (suc n) (b ∷ x)

broken_now : {x : List ℕ} → Broken 0 x → till_line_ending x ≡ Some 0
unfolding till_line_ending
broken_now at_nil = refl
broken_now at_newline = refl

zero≢suc : {A : Type 0} {n : ℕ} → Some 0 ≡ Some (suc n) → A
zero≢suc {n} e = absurd (let z : 0 ≡ suc n = cc in omega arith)

pub bytes_inj : {n m : ℕ} → Some n ≡ Some m → n ≡ m
bytes_inj e = cc

-- a byte of a line comment that is not its last
inside : {n : ℕ} (t u v : Bool) (o : Option ℕ) → cond t (Some 0) (cond u (cond v (Some 0) None) (more 1 o)) ≡ Some (suc n) → (t ≡ false) × (u ≡ false) × (o ≡ Some n)
inside true u v o e = zero≢suc e
inside false true true o e = zero≢suc e
inside false true false o e = not_fails _ e
inside false false v None e = not_fails _ e
inside {n} false false v (Some m) e = (refl, refl, ap Some (let z : 1 + m ≡ suc n = bytes_inj e in omega arith))

pub line_sim : {n : ℕ} {x x' : List ℕ} → Sim n x x' → Broken n x' → till_line_ending x ≡ Some n → till_line_ending x' ≡ Some n
unfolding till_line_ending
line_sim nil b e = e
line_sim (keep {n} {b} {x} s) (later r) e =
    let i = inside (eqb b 10) (eqb b 13) (starts_with 10 x) (till_line_ending x) e in
    rw (i.0, i.1, line_sim s r i.2) (ap Some (omega arith))
line_sim (same s) r e = broken_now r
line_sim (swap w p s) r e = broken_now r
line_sim (lose w p s) r e = broken_now r

pub newline_blank : (x : List ℕ) → is_blank (10 ∷ x) ≡ true
unfolding is_whitespace in_ranges within white_space code_point continuations continued first_bits with_bits
newline_blank x = refl

pub return_blank : (x : List ℕ) → is_blank (13 ∷ x) ≡ true
unfolding is_whitespace in_ranges within white_space code_point continuations continued first_bits with_bits
return_blank x = refl

pub line_end : (x : List ℕ) (n : ℕ) → till_line_ending x ≡ Some n → (is_nil (drop n x) || is_blank (drop n x)) ≡ true
unfolding till_line_ending
line_end [] zero e = refl
line_end [] (suc n) e = refl
line_end (b ∷ x) (suc n) e = line_end x n (inside (eqb b 10) (eqb b 13) (starts_with 10 x) (till_line_ending x) e).2
line_end (b ∷ x) zero e = go (eqb b 10) (eqb b 13) refl refl
  where
    at : (c : ℕ) → is_blank (c ∷ x) ≡ true → b ≡ c → is_blank (b ∷ x) ≡ true
    at c h f = rw f h

    more≢ : (o : Option ℕ) → more 1 o ≡ Some 0 → ⊥
    more≢ None f = not_fails _ f
    more≢ (Some m) f = let z : 1 + m ≡ 0 = bytes_inj f in omega arith

    go : (t u : Bool) → eqb b 10 ≡ t → eqb b 13 ≡ u → is_blank (b ∷ x) ≡ true
    go true u f g = at 10 (newline_blank x) (eqb-true b 10 f)
    go false true f g = at 13 (return_blank x) (eqb-true b 13 g)
    go false false f g = absurd (more≢ (till_line_ending x) (rw (f, g) at e))

-- ---- where a line comment is refused

abbrev refused : Option ℕ → Bool
refused (Some n) = false
refused None = true

refused_is : (x : List ℕ) → refused (till_line_ending x) ≡ returns x
unfolding till_line_ending returns
refused_is [] = refl
refused_is (b ∷ x) = go (eqb b 10) (eqb b 13) (starts_with 10 x) (till_line_ending x) (returns x) (refused_is x)
  where
    go : (t u v : Bool) (o : Option ℕ) (w : Bool) → refused o ≡ w → refused (cond t (Some 0) (cond u (cond v (Some 0) None) (more 1 o))) ≡ cond t false (cond u (not v) w)
    go true u v o w e = refl
    go false true true o w e = refl
    go false true false o w e = refl
    go false false v None w e = e
    go false false v (Some m) w e = e

pub line_return : (x : List ℕ) → till_line_ending x ≡ None → returns x ≡ true
line_return x e = sym (refused_is x) ∙ ap refused e

pub return_line : (x : List ℕ) → returns x ≡ true → till_line_ending x ≡ None
return_line x e = go (till_line_ending x) (refused_is x ∙ e)
  where
    go : (o : Option ℕ) → refused o ≡ true → o ≡ None
    go None h = refl
    go (Some m) h = absurd (false≢true h)

-- no such CR from the comment's text on, nor behind the comment
pub line_quiet : (x : List ℕ) (n : ℕ) → till_line_ending x ≡ Some n → returns x ≡ false
line_quiet x n e = sym (refused_is x) ∙ ap refused e

-- as the code asks it
pub none_returns : (x : List ℕ) → returns x ≡ not (is_some (till_line_ending x))
none_returns x = go (till_line_ending x) refl
  where
    go : (o : Option ℕ) → till_line_ending x ≡ o → returns x ≡ not (is_some o)
    go (Some n) e = line_quiet x n e
    go None e = line_return x e

pub line_end_quiet : (x : List ℕ) (n : ℕ) → till_line_ending x ≡ Some n → returns (drop n x) ≡ false
unfolding till_line_ending returns
line_end_quiet [] zero e = refl
line_end_quiet [] (suc n) e = refl
line_end_quiet (b ∷ x) zero e = line_quiet (b ∷ x) 0 e
line_end_quiet (b ∷ x) (suc n) e = line_end_quiet x n (inside (eqb b 10) (eqb b 13) (starts_with 10 x) (till_line_ending x) e).2

-- behind a line comment stand whitespace or the end, and no such CR comes first there, nor from the comment's text on
pub record Lined (n : ℕ) (y : List ℕ) : Type 0 where
  pub ends : (is_nil (drop n y) || is_blank (drop n y)) ≡ true
  pub behind : returns (drop n y) ≡ false
  pub whole : returns y ≡ false

-- ---- what is kept of it: where the first CR or LF of x is a CR without LF, so it is in x'

abbrev pub Returning : List ℕ → List ℕ → Type 0
Returning x x' = returns x ≡ true → returns x' ≡ true

-- bytes that are the same before rests of which it is kept, where the second is no LF
pub returns_kept : (n : ℕ) (x y' : List ℕ) → starts_with 10 y' ≡ false → Returning (drop n x) y' → Returning x (take n x ++ y')
unfolding returns starts_with
returns_kept zero x y' f k h = k h
returns_kept (suc n) [] y' f k h = absurd (false≢true h)
returns_kept (suc n) (b ∷ x) y' f k h = go (eqb b 10) (eqb b 13) h (returns_kept n x y' f k)
  where
    next : (n : ℕ) (x : List ℕ) → starts_with 10 x ≡ false → starts_with 10 (take n x ++ y') ≡ false
    next zero x e = f
    next (suc n) [] e = f
    next (suc n) (c ∷ x) e = e

    turn : (t : Bool) → not t ≡ true → t ≡ false
    turn true e = sym e
    turn false e = refl

    go : (t u : Bool) → cond t false (cond u (not (starts_with 10 x)) (returns x)) ≡ true → Returning x (take n x ++ y')
        → cond t false (cond u (not (starts_with 10 (take n x ++ y'))) (returns (take n x ++ y'))) ≡ true
    go true u e i = e
    go false true e i = rw (next n x (turn (starts_with 10 x) e))
    go false false e i = i e

-- a gap's bytes that do not return, before a rest
pub returns_past : (n : ℕ) (x : List ℕ) → returns (take n x) ≡ false → returns x ≡ true → returns (drop n x) ≡ true
unfolding returns starts_with
returns_past zero x g h = h
returns_past (suc n) [] g h = h
returns_past (suc n) (b ∷ x) g h = go (eqb b 10) (eqb b 13) g h (returns_past n x)
  where
    next : (n : ℕ) (x : List ℕ) → not (starts_with 10 (take n x)) ≡ false → not (starts_with 10 x) ≡ true → ⊥
    next zero x e f = false≢true (sym e)
    next (suc n) [] e f = false≢true (sym e)
    next (suc n) (c ∷ x) e f = false≢true (sym e ∙ f)

    go : (t u : Bool) → cond t false (cond u (not (starts_with 10 (take n x))) (returns (take n x))) ≡ false → cond t false (cond u (not (starts_with 10 x)) (returns x)) ≡ true
        → (returns (take n x) ≡ false → returns x ≡ true → returns (drop n x) ≡ true) → returns (drop n x) ≡ true
    go true u e f i = absurd (false≢true f)
    go false true e f i = absurd (next n x e f)
    go false false e f i = i e f

-- the bytes up to what is no LF
pub returns_part : (n : ℕ) (x : List ℕ) → starts_with 10 (drop n x) ≡ false → returns x ≡ false → returns (take n x) ≡ false
unfolding returns starts_with
returns_part zero x f h = refl
returns_part (suc n) [] f h = refl
returns_part (suc n) (b ∷ x) f h = go (eqb b 10) (eqb b 13) h (returns_part n x f)
  where
    next : (n : ℕ) (x : List ℕ) → starts_with 10 (drop n x) ≡ false → not (starts_with 10 x) ≡ false → not (starts_with 10 (take n x)) ≡ false
    next zero x f e = absurd (false≢true (sym e ∙ ap not f))
    next (suc n) [] f e = e
    next (suc n) (c ∷ x) f e = e

    go : (t u : Bool) → cond t false (cond u (not (starts_with 10 x)) (returns x)) ≡ false → (returns x ≡ false → returns (take n x) ≡ false)
        → cond t false (cond u (not (starts_with 10 (take n x))) (returns (take n x))) ≡ false
    go true u e i = refl
    go false true e i = next n x f e
    go false false e i = i e

-- where no whitespace stands
pub no_newline : (z : List ℕ) → is_blank z ≡ false → starts_with 10 z ≡ false
unfolding starts_with
no_newline [] h = refl
no_newline (b ∷ x) h = go (eqb b 10) refl
  where
    go : (t : Bool) → eqb b 10 ≡ t → t ≡ false
    go true e = absurd (false≢true (sym h ∙ rw (eqb-true b 10 e) (newline_blank x)))
    go false e = refl

pub returns_head : (b : ℕ) (x : List ℕ) → is_blank (b ∷ x) ≡ false → returns (b ∷ x) ≡ returns x
unfolding returns
returns_head b x h = go (eqb b 10) (eqb b 13) refl refl
  where
    go : (t u : Bool) → eqb b 10 ≡ t → eqb b 13 ≡ u → cond t false (cond u (not (starts_with 10 x)) (returns x)) ≡ returns x
    go true u e f = absurd (false≢true (sym h ∙ rw (eqb-true b 10 e) (newline_blank x)))
    go false true e f = absurd (false≢true (sym h ∙ rw (eqb-true b 13 f) (return_blank x)))
    go false false e f = refl
