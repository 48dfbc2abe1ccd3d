-- Nested alternatives are the phrases written out where no choice hides another, that is where no two that are to be told
-- apart can stand at one place (`clear`, a test that computes).
-- Assumes nothing.
use Rattle.std.proofs.Common.{Option, Some, None}
use Prim.Native.Nat.{ℕ}
use native.Mathlib.Nat.{add-zero}
use mathlib.Core.Path.{◌≡◌, refl, sym, ap, ◌∙◌}
use mathlib.Core.List.{List, [], ◌∷◌, ◌++◌}
use mathlib.Core.Bool.{Bool, true, false, not, ◌&&◌, ◌||◌, false≢true, and-eq-true_iff}
use lib.ListN.{length, drop}
use lib.Seq.{drop-drop}
use lib.Dec.{eqb}
use borrow.Author.Tests.{eqb-true, eq-eqb}
use Rattle.recognisers.specs.Taking.{Taker, more, or, done, typed, is_spelled, literal}
use Rattle.recognisers.proofs.Spelling.{not_fails, more_zero, spelled_is}
use Rattle.reserved.specs.UcChoices.{Choice, words, both, either, maybe, behind, first_word, choose}
use Rattle.reserved.proofs.Behind.{behind_behind, behind_same, literal_behind}
use Rattle.reserved.proofs.UcFind.{left_of}
use Rattle.reserved.proofs.UcWords.{literal_append}

-- ---- taking one after the other

pub or_fails : (t : Option ℕ) → or t None ≡ t
or_fails (Some n) = refl
or_fails None = refl

-- ---- phrases written out: the first that stands, with what follows it

abbrev pub first_then : List (List ℕ) → Taker → Taker
first_then [] then s = None
first_then (w ∷ ws) then s = or (literal w then s) (first_then ws then s)

first_then_append : (A B : List (List ℕ)) (then : Taker) (s : List ℕ) → first_then (A ++ B) then s ≡ or (first_then A then s) (first_then B then s)
first_then_append [] B then s = refl
first_then_append (w ∷ A) B then s = rw (first_then_append A B then s) (go (literal w then s))
  where
    go : (t : Option ℕ) → or t (or (first_then A then s) (first_then B then s)) ≡ or (or t (first_then A then s)) (first_then B then s)
    go (Some n) = refl
    go None = refl

abbrev prefixed : List ℕ → List (List ℕ) → List (List ℕ)
prefixed w [] = []
prefixed w (x ∷ B) = (w ++ x) ∷ prefixed w B

abbrev pairs : List (List ℕ) → List (List ℕ) → List (List ℕ)
pairs [] B = []
pairs (w ∷ A) B = prefixed w B ++ pairs A B

-- a choice written out, before phrases that follow it
abbrev written : Choice → List (List ℕ) → List (List ℕ)
written (words ws) B = pairs ws B
written (both a b) B = written a (written b B)
written (either a b) B = written a B ++ written b B
written (maybe a) B = written a B ++ B

-- ---- words that cannot stand at one place

abbrev apart_from : List ℕ → List (List ℕ) → Bool
apart_from w [] = true
apart_from w (x ∷ B) = (not (is_spelled typed w x) && not (is_spelled typed x w)) && apart_from w B

abbrev all_apart : List (List ℕ) → List (List ℕ) → Bool
all_apart [] B = true
all_apart (w ∷ A) B = apart_from w B && all_apart A B

abbrev each_apart : List (List ℕ) → Bool
each_apart [] = true
each_apart (w ∷ A) = apart_from w A && each_apart A

-- two words at one place: one begins with the other
one_begins : (w x s : List ℕ) → is_spelled typed w s ≡ true → is_spelled typed x s ≡ true → (not (is_spelled typed w x) && not (is_spelled typed x w)) ≡ false
unfolding is_spelled typed
one_begins [] x s e f = refl
one_begins (c ∷ w) [] s e f = refl
one_begins (c ∷ w) (d ∷ x) [] e f = absurd (false≢true e)
one_begins (c ∷ w) (d ∷ x) (b ∷ s) e f =
    let e₂ = (and-eq-true_iff (eqb b c) (is_spelled typed w s)).0 e in
    let f₂ = (and-eq-true_iff (eqb b d) (is_spelled typed x s)).0 f in
    let p = eqb-true b c e₂.0 in
    let q = eqb-true b d f₂.0 in
    rw (← p, ← q, eq-eqb b b refl) (one_begins w x s e₂.1 f₂.1)

not_there : (x : List ℕ) (then : Taker) (s : List ℕ) → is_spelled typed x s ≡ false → literal x then s ≡ None
not_there x then s e = spelled_is typed x s then ∙ rw e

apart_fails : (w : List ℕ) (B : List (List ℕ)) (then : Taker) (s : List ℕ) → is_spelled typed w s ≡ true → apart_from w B ≡ true → first_then B then s ≡ None
apart_fails w [] then s e a = refl
apart_fails w (x ∷ B) then s e a =
    let a₂ = (and-eq-true_iff (not (is_spelled typed w x) && not (is_spelled typed x w)) (apart_from w B)).0 a in
    go (is_spelled typed x s) refl a₂.0 (apart_fails w B then s e a₂.1)
  where
    go : (t : Bool) → is_spelled typed x s ≡ t → (not (is_spelled typed w x) && not (is_spelled typed x w)) ≡ true → first_then B then s ≡ None → or (literal x then s) (first_then B then s) ≡ None
    go true q o rest = absurd (false≢true (sym (one_begins w x s e q) ∙ o))
    go false q o rest = rw (not_there x then s q, rest)

-- ---- where a choice stands, one of its words does

abbrev any_spelled : List (List ℕ) → List ℕ → Bool
any_spelled [] s = false
any_spelled (w ∷ A) s = is_spelled typed w s || any_spelled A s

any_apart : (A B : List (List ℕ)) (then : Taker) (s : List ℕ) → any_spelled A s ≡ true → all_apart A B ≡ true → first_then B then s ≡ None
any_apart [] B then s e a = absurd (false≢true e)
any_apart (w ∷ A) B then s e a =
    let a₂ = (and-eq-true_iff (apart_from w B) (all_apart A B)).0 a in
    go (is_spelled typed w s) refl a₂.0 (λ f. any_apart A B then s f a₂.1)
  where
    go : (t : Bool) → is_spelled typed w s ≡ t → apart_from w B ≡ true → (any_spelled A s ≡ true → first_then B then s ≡ None) → first_then B then s ≡ None
    go true q o rest = apart_fails w B then s q o
    go false q o rest = rest (rw q at e)

any_append : (A B : List (List ℕ)) (s : List ℕ) → any_spelled (A ++ B) s ≡ (any_spelled A s || any_spelled B s)
any_append [] B s = refl
any_append (w ∷ A) B s = rw (any_append A B s) (go (is_spelled typed w s))
  where
    go : (t : Bool) → (t || (any_spelled A s || any_spelled B s)) ≡ ((t || any_spelled A s) || any_spelled B s)
    go true = refl
    go false = refl

spelled_append : (w x s : List ℕ) → is_spelled typed w s ≡ true → is_spelled typed (w ++ x) s ≡ is_spelled typed x (drop (length w) s)
unfolding is_spelled
spelled_append [] x s e = refl
spelled_append (c ∷ w) x [] e = absurd (false≢true e)
spelled_append (c ∷ w) x (b ∷ s) e =
    let e₂ = (and-eq-true_iff (eqb (typed b) c) (is_spelled typed w s)).0 e in
    rw e₂.0 (spelled_append w x s e₂.1)

any_prefixed : (w : List ℕ) (B : List (List ℕ)) (s : List ℕ) → is_spelled typed w s ≡ true → any_spelled (prefixed w B) s ≡ any_spelled B (drop (length w) s)
any_prefixed w [] s e = refl
any_prefixed w (x ∷ B) s e = rw (spelled_append w x s e, any_prefixed w B s e)

there : (w s : List ℕ) → is_spelled typed w s ≡ true → literal w done s ≡ Some (length w)
there w s e = spelled_is typed w s done ∙ rw e (ap Some (add-zero (length w)))

or_true : (a b : Bool) → b ≡ true → (a || b) ≡ true
or_true true b e = refl
or_true false b e = e

words_cover : (ws B : List (List ℕ)) (s : List ℕ) (n : ℕ) → first_word ws s ≡ Some n → any_spelled B (drop n s) ≡ true → any_spelled (pairs ws B) s ≡ true
unfolding first_word
words_cover [] B s n e a = not_fails n e
words_cover (w ∷ ws) B s n e a = any_append (prefixed w B) (pairs ws B) s ∙ go (is_spelled typed w s) refl (words_cover ws B s n)
  where
    go : (t : Bool) → is_spelled typed w s ≡ t → (first_word ws s ≡ Some n → any_spelled B (drop n s) ≡ true → any_spelled (pairs ws B) s ≡ true) → (any_spelled (prefixed w B) s || any_spelled (pairs ws B) s) ≡ true
    go true q ih =
        let f : Some (length w) ≡ Some n = rw (there w s q) at e in
        let l : length w ≡ n = cc in
        rw (any_prefixed w B s q, l, a)
    go false q ih = or_true (any_spelled (prefixed w B) s) (any_spelled (pairs ws B) s) (ih (rw (not_there w done s q) at e) a)

covers : (c : Choice) (B : List (List ℕ)) (s : List ℕ) (n : ℕ) → choose c s ≡ Some n → any_spelled B (drop n s) ≡ true → any_spelled (written c B) s ≡ true
unfolding choose
covers (words ws) B s n e a = words_cover ws B s n e a
covers (both c d) B s n e a = go (choose c s) refl e (λ k. covers c (written d B) s k) (λ k m. covers d B (drop k s) m)
  where
    go : (t : Option ℕ) → choose c s ≡ t → behind t (choose d) s ≡ Some n → ((k : ℕ) → choose c s ≡ Some k → any_spelled (written d B) (drop k s) ≡ true → any_spelled (written c (written d B)) s ≡ true)
        → ((k m : ℕ) → choose d (drop k s) ≡ Some m → any_spelled B (drop m (drop k s)) ≡ true → any_spelled (written d B) (drop k s) ≡ true) → any_spelled (written c (written d B)) s ≡ true
    go (Some k) q f ih jh =
        let l = left_of k (choose d (drop k s)) n f in
        ih k q (jh k l.left l.is (rw (drop-drop l.left k s, ← l.sum) a))
    go None q f ih jh = not_fails n f
covers (either c d) B s n e a = any_append (written c B) (written d B) s ∙ go (choose c s) refl e (covers c B s n) (covers d B s n)
  where
    go : (t : Option ℕ) → choose c s ≡ t → or t (choose d s) ≡ Some n → (choose c s ≡ Some n → any_spelled B (drop n s) ≡ true → any_spelled (written c B) s ≡ true)
        → (choose d s ≡ Some n → any_spelled B (drop n s) ≡ true → any_spelled (written d B) s ≡ true) → (any_spelled (written c B) s || any_spelled (written d B) s) ≡ true
    go (Some k) q f ih jh = rw (ih (q ∙ f) a)
    go None q f ih jh = or_true (any_spelled (written c B) s) (any_spelled (written d B) s) (jh f a)
covers (maybe c) B s n e a = any_append (written c B) B s ∙ go (choose c s) refl e (covers c B s n)
  where
    go : (t : Option ℕ) → choose c s ≡ t → or t (Some 0) ≡ Some n → (choose c s ≡ Some n → any_spelled B (drop n s) ≡ true → any_spelled (written c B) s ≡ true) → (any_spelled (written c B) s || any_spelled B s) ≡ true
    go (Some k) q f ih = rw (ih (q ∙ f) a)
    go None q f ih = let z : 0 ≡ n = cc in or_true (any_spelled (written c B) s) (any_spelled B s) (rw (← z) at a)

-- the words of a choice
abbrev pub own : Choice → List (List ℕ)
own c = written c ([] ∷ [])

excludes : (c : Choice) (B : List (List ℕ)) (then : Taker) (s : List ℕ) (n : ℕ) → choose c s ≡ Some n → all_apart (own c) B ≡ true → first_then B then s ≡ None
unfolding is_spelled
excludes c B then s n e a = any_apart (own c) B then s (covers c ([] ∷ []) s n e refl) a

-- ---- no way back is needed

-- no choice hides another, before phrases that follow
abbrev pub clear : Choice → List (List ℕ) → Bool
clear (words ws) B = each_apart ws
clear (both a b) B = clear a (written b B) && clear b B
clear (either a b) B = (clear a B && clear b B) && all_apart (own a) (written b B)
clear (maybe a) B = clear a B && all_apart (own a) B

or_behind : (t : Option ℕ) (a b : Taker) (s : List ℕ) → or (behind t a s) (behind t b s) ≡ behind t (λ u. or (a u) (b u)) s
or_behind (Some n) a b s = go (a (drop n s))
  where
    go : (u : Option ℕ) → or (more n u) (more n (b (drop n s))) ≡ more n (or u (b (drop n s)))
    go (Some m) = refl
    go None = refl
or_behind None a b s = refl

prefixed_then : (w : List ℕ) (B : List (List ℕ)) (then : Taker) (s : List ℕ) → first_then (prefixed w B) then s ≡ behind (literal w done s) (first_then B then) s
prefixed_then w [] then s = go (literal w done s)
  where
    go : (t : Option ℕ) → None ≡ behind t (λ u. None) s
    go (Some n) = refl
    go None = refl
prefixed_then w (x ∷ B) then s =
    rw (literal_append w x then s, literal_behind w (literal x then) s, prefixed_then w B then s) (or_behind (literal w done s) (literal x then) (first_then B then) s)

first_word_is : (ws : List (List ℕ)) (s : List ℕ) → first_word ws s ≡ first_then ws done s
unfolding first_word
first_word_is [] s = refl
first_word_is (w ∷ ws) s = rw (first_word_is ws s)

words_commit : (ws B : List (List ℕ)) (then : Taker) (s : List ℕ) → each_apart ws ≡ true → behind (first_word ws s) (first_then B then) s ≡ first_then (pairs ws B) then s
unfolding first_word
words_commit [] B then s h = refl
words_commit (w ∷ ws) B then s h =
    let h₂ = (and-eq-true_iff (apart_from w ws) (each_apart ws)).0 h in
    go (is_spelled typed w s) refl h₂.0 (words_commit ws B then s h₂.1)
    ∙ sym (first_then_append (prefixed w B) (pairs ws B) then s ∙ rw (prefixed_then w B then s))
  where
    go : (t : Bool) → is_spelled typed w s ≡ t → apart_from w ws ≡ true → behind (first_word ws s) (first_then B then) s ≡ first_then (pairs ws B) then s
        → behind (or (literal w done s) (first_word ws s)) (first_then B then) s ≡ or (behind (literal w done s) (first_then B then) s) (first_then (pairs ws B) then s)
    go true q o ih =
        let none : first_word ws s ≡ None = first_word_is ws s ∙ apart_fails w ws done s q o in
        rw (← ih, none, or_fails (literal w done s)) (sym (or_fails (behind (literal w done s) (first_then B then) s)))
    go false q o ih = rw (not_there w done s q) ih

pub commits : (c : Choice) (B : List (List ℕ)) (then : Taker) (s : List ℕ) → clear c B ≡ true → behind (choose c s) (first_then B then) s ≡ first_then (written c B) then s
unfolding choose
commits (words ws) B then s h = words_commit ws B then s h
commits (both a b) B then s h =
    let h₂ = (and-eq-true_iff (clear a (written b B)) (clear b B)).0 h in
    behind_behind (choose a s) (choose b) (first_then B then) s
    ∙ behind_same (choose a s) (λ u. behind (choose b u) (first_then B then) u) (first_then (written b B) then) s (λ u. commits b B then u h₂.1)
    ∙ commits a (written b B) then s h₂.0
commits (either a b) B then s h =
    let h₂ = (and-eq-true_iff (clear a B && clear b B) (all_apart (own a) (written b B))).0 h in
    let h₃ = (and-eq-true_iff (clear a B) (clear b B)).0 h₂.0 in
    go (choose a s) refl h₂.1 (commits b B then s h₃.1)
    ∙ sym (first_then_append (written a B) (written b B) then s ∙ rw (commits a B then s h₃.0))
  where
    go : (t : Option ℕ) → choose a s ≡ t → all_apart (own a) (written b B) ≡ true → behind (choose b s) (first_then B then) s ≡ first_then (written b B) then s
        → behind (or t (choose b s)) (first_then B then) s ≡ or (behind t (first_then B then) s) (first_then (written b B) then s)
    go (Some n) q o jh = rw (excludes a (written b B) then s n q o) (sym (or_fails (more n (first_then B then (drop n s)))))
    go None q o jh = jh
commits (maybe a) B then s h =
    let h₂ = (and-eq-true_iff (clear a B) (all_apart (own a) B)).0 h in
    go (choose a s) refl h₂.1
    ∙ sym (first_then_append (written a B) B then s ∙ rw (commits a B then s h₂.0))
  where
    go : (t : Option ℕ) → choose a s ≡ t → all_apart (own a) B ≡ true → behind (or t (Some 0)) (first_then B then) s ≡ or (behind t (first_then B then) s) (first_then B then s)
    go (Some n) q o = rw (excludes a B then s n q o) (sym (or_fails (more n (first_then B then (drop n s)))))
    go None q o = more_zero (first_then B then s)
