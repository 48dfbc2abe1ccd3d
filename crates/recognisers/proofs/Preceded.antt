-- What a taker takes behind a front, as a function with `?` answers it: the front is not there, the taker fails behind it, or both are
-- passed.
-- Assumes nothing.
use Rattle.std.proofs.Common.{Bor, Option, Some, None}
use Rattle.std.specs.Bool.{then_some}
use Prim.Native.Nat.{ℕ, ◌+◌, ◌-◌, ◌^◌, ◌≤◌, ◌<◌}
use native.Mathlib.Nat.{add-zero}
use native.Mathlib.Omega.{arith}
use mathlib.Core.Path.{◌≡◌, refl, sym, ap, ◌∙◌}
use mathlib.Core.List.{List, [], ◌∷◌}
use mathlib.Core.Bool.{Bool, true, false, false≢true}
use lib.ListN.{length, drop, take, length-drop}
use lib.Dec.{eqb}
use lib.Pointwise.{pointwise}
use mir.Syntax.{w64}
use mir.Val.{Fits}
use Rattle.recognisers.specs.Taking.{Taker, taken, more, done, one, spelled, is_spelled, typed, contains, starts_among}
use Rattle.recognisers.specs.Inner.Behind.{Behind}
use Rattle.recognisers.proofs.Spelling.{spelled_is}
use Rattle.recognisers.proofs.TakenInside.{Inside}
use Rattle.recognisers.proofs.LibraryWords.{stripped, starts}

-- no sum of a front and what stands behind it is too large
module _ (then : Taker) (inside : Inside then) where
  pub front_fits : (s x : List ℕ) (n m : ℕ) (t : Option ℕ) → length x + n ≡ length s → t ≡ then x → t ≡ Some m → length s < 2 ^ 64 → Fits w64 (n + m)
  front_fits s x n m t l e f h =
      let i : taken (then x) ≤ length x = inside x in
      let k : m ≤ length x = rw (← e, f) at i in
      record { fits = omega arith }

  pub cut_fits : (s x : List ℕ) (n m : ℕ) (t : Option ℕ) → n ≤ length s → x ≡ drop n s → t ≡ then x → t ≡ Some m → length s < 2 ^ 64 → Fits w64 (n + m)
  cut_fits s x n m t l f e q h = front_fits s x n m t (rw f (omega (arith, length-drop n s))) e q h

  pub one_fits : (s x : List ℕ) (m : ℕ) (t : Option ℕ) → x ≡ drop 1 s → t ≡ then x → t ≡ Some m → length s < 2 ^ 64 → Fits w64 (1 + m)
  one_fits s x m t f e q h =
      let i : taken (then x) ≤ length x = inside x in
      let k : m ≤ length x = rw (← e, q) at i in
      let l : length x ≡ length s - 1 = ap length f ∙ length-drop 1 s in
      record { fits = omega arith }

module _ (then : Taker) where
  module _ (form : ℕ → ℕ) (w s : List ℕ) (n : ℕ) (l : n ≡ length w) where
    pub spelled_none : (q : Option ℕ) → q ≡ None → is_spelled form w s ≡ false → q ≡ spelled form w then s
    spelled_none q g e = g ∙ sym (spelled_is form w s then ∙ rw e)

    module _ (x : List ℕ) (t : Option ℕ) (e : is_spelled form w s ≡ true) (f : x ≡ drop n s) (g : t ≡ then x) where
      behind : spelled form w then s ≡ more n t
      behind = spelled_is form w s then ∙ rw (e, ← l, ← f, ← g)

      pub spelled_fails : (q : Option ℕ) → q ≡ None → t ≡ None → q ≡ spelled form w then s
      spelled_fails q h k = h ∙ sym (behind ∙ rw k)

      pub spelled_then : (m : ℕ) → t ≡ Some m → Some (n + m) ≡ spelled form w then s
      spelled_then m k = sym (behind ∙ rw k)

  -- the same, as `strip_prefix` tells it
  module _ (w s : List ℕ) (n : ℕ) (l : n ≡ length w) where
    there : (b : Bool) → pointwise eqb (take n s) w ≡ b → is_spelled typed w s ≡ b
    there b e = sym (stripped w s) ∙ rw l at e

    pub literal_none : (q : Option ℕ) → q ≡ None → pointwise eqb (take n s) w ≡ false → q ≡ spelled typed w then s
    literal_none q g e = spelled_none typed w s n l q g (there false e)

    module _ (x : List ℕ) (t : Option ℕ) (e : pointwise eqb (take n s) w ≡ true) (f : x ≡ drop n s) (g : t ≡ then x) where
      pub literal_fails : (q : Option ℕ) → q ≡ None → t ≡ None → q ≡ spelled typed w then s
      literal_fails = spelled_fails typed w s n l x t (there true e) f g

      pub literal_then : (m : ℕ) → t ≡ Some m → Some (n + m) ≡ spelled typed w then s
      literal_then = spelled_then typed w s n l x t (there true e) f g

  -- and as `starts_with` tells it
  module _ (w s : List ℕ) (r : Bool) (e : r ≡ pointwise eqb w (take (length w) s)) where
    begins : (b : Bool) → r ≡ b → is_spelled typed w s ≡ b
    begins b q = sym (starts w s) ∙ (sym e ∙ q)

    pub begun_none : r ≡ false → None ≡ spelled typed w then s
    begun_none q = spelled_none typed w s (length w) refl None refl (begins false q)

    module _ (q : r ≡ true) (x : List ℕ) (t : Option ℕ) (f : x ≡ drop (length w) s) (g : t ≡ then x) where
      pub begun_fails : (p : Option ℕ) → p ≡ None → t ≡ None → p ≡ spelled typed w then s
      begun_fails = spelled_fails typed w s (length w) refl x t (begins true q) f g

      pub begun_then : (m : ℕ) → t ≡ Some m → Some (length w + m) ≡ spelled typed w then s
      begun_then = spelled_then typed w s (length w) refl x t (begins true q) f g

  -- one of the marks
  module _ (ms : List ℕ) where
    pub marked_none : (s : List ℕ) (q : Option ℕ) → q ≡ None → starts_among ms s ≡ false → q ≡ one (contains ms) then s
    unfolding one starts_among
    marked_none [] q g e = g
    marked_none (b ∷ s) q g e = g ∙ rw e

    module _ (x : List ℕ) (t : Option ℕ) (g : t ≡ then x) where
      marked : (s : List ℕ) → starts_among ms s ≡ true → x ≡ drop 1 s → more 1 t ≡ one (contains ms) then s
      unfolding one starts_among
      marked [] e f = absurd (false≢true e)
      marked (b ∷ s) e f = rw (e, ← f, ← g)

      pub marked_fails : (s : List ℕ) → starts_among ms s ≡ true → x ≡ drop 1 s → (q : Option ℕ) → q ≡ None → t ≡ None → q ≡ one (contains ms) then s
      marked_fails s e f q h k = h ∙ rw k at (marked s e f)

      pub marked_then : (s : List ℕ) → starts_among ms s ≡ true → x ≡ drop 1 s → (m : ℕ) → t ≡ Some m → Some (1 + m) ≡ one (contains ms) then s
      marked_then s e f m k = rw k at (marked s e f)

-- the word alone
pub literal_alone : (w s : List ℕ) (r : Bool) (q : Option ℕ) → r ≡ pointwise eqb w (take (length w) s) → q ≡ then_some r (length w) → q ≡ spelled typed w done s
literal_alone w s r q e f = f ∙ ap (λ (b : Bool). then_some b (length w)) (e ∙ starts w s) ∙ go (is_spelled typed w s) refl
  where
    go : (b : Bool) → is_spelled typed w s ≡ b → then_some b (length w) ≡ spelled typed w done s
    go true h = sym (spelled_is typed w s done ∙ rw h (ap Some (add-zero (length w))))
    go false h = sym (spelled_is typed w s done ∙ rw h)

-- what stands behind n bytes, where they pass
pub told_behind : (s : List ℕ) (n : ℕ) (x : Bor (List ℕ)) (passes : Bool) (q : Option (Bor (List ℕ))) → q ≡ then_some passes x → x.now ≡ drop n s → length x.now + n ≡ length s → Behind passes n s q
told_behind s n x true q e f l = rw e (refl, f, l)
told_behind s n x false q e f l = rw e refl

-- where one of some bytes stands at the start, there is one
pub some_first : (ms s : List ℕ) (r : Bool) → r ≡ starts_among ms s → r ≡ true → 1 ≤ length s
unfolding starts_among
some_first ms [] r e q = absurd (false≢true (sym e ∙ q))
some_first ms (b ∷ s) r e q = omega arith
