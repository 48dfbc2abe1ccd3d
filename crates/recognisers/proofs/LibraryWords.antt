-- What the library's words say in the crate's: one law for each.
-- Assumes nothing.
use Rattle.std.proofs.Common.{Option, Some, None}
use Rattle.std.proofs.Common.{Bor}
use Rattle.std.specs.List.{list_any, list_all, zip, position, position_or_len}
use Rattle.std.specs.Option.{unwrap_or, is_some, option_eq, IfSome}
use Prim.Native.Nat.{ℕ, suc, ◌+◌, ◌≤◌, ◌<◌}
use native.Mathlib.Nat.{le_of_suc-le-suc, not-suc-le-zero}
use native.Mathlib.Omega.{arith}
use native.Mathlib.Numerals.{one-add}
use mathlib.Core.Path.{◌≡◌, refl, sym, ap, ◌∙◌}
use mathlib.Core.List.{List, [], ◌∷◌}
use mathlib.Core.Bool.{Bool, true, false, cond, not, false≢true}
use lib.ListN.{length, drop, take, get_or, drop_of_length-le}
use lib.Seq.{drop-cons}
use Rattle.std.specs.List.{slice_get}
use lib.Dec.{eqb, ltb}
use lib.Pointwise.{pointwise}
use borrow.Author.Tests.{eq-eqb, eqb-true, lt-ltb, le-ltb, ltb-true, ltb-false}
use Rattle.std.specs.Char.{to_ascii_uppercase}
use Rattle.characters.specs.Ranges.{within}
use Rattle.recognisers.specs.Taking.{more, is_spelled, typed, capital, contains, count, starts_with, starts_among}
use Rattle.recognisers.specs.Inner.FirstAmong.{FirstAmong}
use Rattle.recognisers.specs.Same.{same}

eqb_turned : (a b : ℕ) → eqb a b ≡ eqb b a
eqb_turned a b = go (eqb a b) (eqb b a) refl refl
  where
    go : (t u : Bool) → eqb a b ≡ t → eqb b a ≡ u → t ≡ u
    go true u e f = sym (eq-eqb b a (sym (eqb-true a b e))) ∙ f
    go false true e f = sym e ∙ eq-eqb a b (sym (eqb-true b a f))
    go false false e f = refl

-- `contains`
pub contains_any : (bytes : List ℕ) (b : ℕ) → list_any (λ y. eqb y b) bytes ≡ contains bytes b
unfolding contains
contains_any [] b = refl
contains_any (e ∷ bytes) b = rw (eqb_turned e b, contains_any bytes b)

-- `starts_with`
pub starts : (w s : List ℕ) → pointwise eqb w (take (length w) s) ≡ is_spelled typed w s
unfolding is_spelled typed
starts [] s = refl
starts (x ∷ w) [] = refl
starts (x ∷ w) (y ∷ s) = rw (eqb_turned x y, starts w s)

-- the same, turned round for a word that is written out
pub spelled_starts : (w s : List ℕ) → is_spelled typed w s ≡ pointwise eqb w (take (length w) s)
spelled_starts w s = sym (starts w s)

-- `strip_prefix`
pub stripped : (w s : List ℕ) → pointwise eqb (take (length w) s) w ≡ is_spelled typed w s
unfolding is_spelled typed
stripped [] s = refl
stripped (x ∷ w) [] = refl
stripped (x ∷ w) (y ∷ s) = rw (stripped w s)

-- `==`
pub equal : (s t : List ℕ) → pointwise eqb s t ≡ same s t
unfolding same
equal [] [] = refl
equal [] (c ∷ t) = refl
equal (b ∷ s) [] = refl
equal (b ∷ s) (c ∷ t) = rw (equal s t)

-- `split_at_checked`, `zip` and `all`
pub paired : (form : ℕ → ℕ) (w s : List ℕ) → length w ≤ length s → list_all (λ p. eqb (form p.0) p.1) (zip (take (length w) s) w) ≡ is_spelled form w s
unfolding is_spelled
paired form [] [] l = refl
paired form [] (b ∷ s) l = refl
paired form (x ∷ w) [] l = absurd (not-suc-le-zero l)
paired form (x ∷ w) (b ∷ s) l = rw (paired form w s (le_of_suc-le-suc l))

not_none : {a : ℕ} → Some a ≡ None → ⊥
not_none e = false≢true (ap is_some (sym e))

pub some_same : {a b : ℕ} → Some a ≡ Some b → a ≡ b
some_same {a} e = ap (λ (o : Option ℕ). unwrap_or o a) e

-- `to_ascii_uppercase`
pub upper : (b : ℕ) → to_ascii_uppercase b ≡ capital b
unfolding capital within
upper b = grind arith

-- `get(i) == Some(b)`
pub stood : (s : List ℕ) (i : ℕ) (y : Bor ℕ) (r : Option (Bor ℕ)) → is_some r ≡ ltb i (length s) → IfSome r (λ x. x.now ≡ get_or s i x.now) → option_eq (λ (x y : Bor ℕ). eqb x.now y.now) r (Some y) ≡ starts_with y.now (drop i s)
unfolding starts_with
stood s i y (Some x) e f = sym (rw (drop-cons s i x.now (ltb-true i (length s) (sym e)), ← f))
stood s i y None e f = sym (rw (drop_of_length-le s (ltb-false i (length s) (sym e))))

-- `first` and `split_first`
pub first_among : (ms s : List ℕ) (x : ℕ) (q : Bool) → Some x ≡ slice_get s 0 → q ≡ contains ms x → q ≡ starts_among ms s
unfolding starts_among
first_among ms [] x q e f = absurd (not_none e)
first_among ms (b ∷ s) x q e f = f ∙ ap (contains ms) (some_same e)

pub first_here : (s : List ℕ) (x : ℕ) → Some x ≡ slice_get s 0 → starts_with x s ≡ true
unfolding starts_with
first_here [] x e = absurd (not_none e)
first_here (b ∷ s) x e = rw (some_same e) (eq-eqb b b refl)

pub first_none : (ms s : List ℕ) → None ≡ slice_get s 0 → false ≡ starts_among ms s
unfolding starts_among
first_none ms [] e = refl
first_none ms (b ∷ s) e = absurd (not_none (sym e))

pub first_lacks : (ms s : List ℕ) (q : Option ℕ) → q ≡ None → None ≡ slice_get s 0 → FirstAmong ms s q
first_lacks ms s q e f = rw e (sym (first_none ms s f))

pub split_among : (ms s rest : List ℕ) (x : ℕ) (r q : Bool) → s ≡ x ∷ rest → q ≡ contains ms x → q ≡ r → starts_among ms s ≡ r
unfolding starts_among
split_among ms s rest x r q e f g = rw e (sym f ∙ g)

pub split_rest : (s rest : List ℕ) (x : ℕ) → s ≡ x ∷ rest → rest ≡ drop 1 s
split_rest s rest x e = rw e

pub split_none : (ms s : List ℕ) → length s ≡ 0 → starts_among ms s ≡ false
unfolding starts_among
split_none ms [] e = refl
split_none ms (b ∷ s) e = absurd (let z : ⊥ = omega arith in z)

-- `position`
both_on : (k n : ℕ) → ltb (1 + k) (suc n) ≡ ltb k n
both_on k n = go (ltb k n) refl
  where
    go : (t : Bool) → ltb k n ≡ t → ltb (1 + k) (suc n) ≡ t
    go true e = lt-ltb (1 + k) (suc n) (let h : k < n = ltb-true k n e in omega arith)
    go false e = le-ltb (1 + k) (suc n) (let h : n ≤ k = ltb-false k n e in omega arith)

pub found : {A : Type 0} (test : A → Bool) (b : A) (s : List A) → position test (b ∷ s) ≡ cond (test b) (Some 0) (more 1 (position test s))
found test b s = go (test b) (position_or_len test s)
  where
    inner : (t : Bool) (k : ℕ) → cond t (Some (1 + k)) None ≡ more 1 (cond t (Some k) None)
    inner true k = refl
    inner false k = refl

    go : (t : Bool) (k : ℕ) → cond (ltb (cond (not t) (1 + k) 0) (suc (length s))) (Some (cond (not t) (1 + k) 0)) None ≡ cond t (Some 0) (more 1 (cond (ltb k (length s)) (Some k) None))
    go true k = rw (lt-ltb 0 (suc (length s)) (omega arith))
    go false k = rw (both_on k (length s)) (inner (ltb k (length s)) k)

-- `position` and `unwrap_or`
pub counted : (test : ℕ → Bool) (s : List ℕ) → unwrap_or (position (λ b. not (test b)) s) (length s) ≡ count test s
unfolding count
counted test [] = refl
counted test (b ∷ s) = rw (found (λ b. not (test b)) b s) (go (test b) (position (λ b. not (test b)) s) (counted test s))
  where
    go : (t : Bool) (o : Option ℕ) → unwrap_or o (length s) ≡ count test s → unwrap_or (cond (not t) (Some 0) (more 1 o)) (suc (length s)) ≡ cond t (suc (count test s)) 0
    go true (Some k) h = rw one-add (ap suc h)
    go true None h = ap suc h
    go false o h = refl
