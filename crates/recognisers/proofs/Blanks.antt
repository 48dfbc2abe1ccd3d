-- Whitespace and what follows it.
-- Assumes nothing.
use Rattle.std.proofs.Common.{Option, Some, None}
use Prim.Native.Nat.{ℕ, ◌+◌, ◌-◌, ◌^◌, ◌≤◌, ◌<◌, zero-le, suc-le-suc}
use mathlib.Core.Path.{◌≡◌, refl, sym, ◌∙◌}
use mathlib.Core.List.{List, [], ◌∷◌}
use mathlib.Core.Bool.{true, false}
use lib.ListN.{length, drop, take}
use mir.Syntax.{w64}
use mir.Val.{Fits}
use Rattle.characters.specs.Classes.{is_whitespace}
use Rattle.characters.specs.Character.{code_point}
use Rattle.characters.specs.Runs.{in_class, run}
use Rattle.characters.specs.declared.Class.TheVariants.{Whitespace}
use Rattle.characters.proofs.ClassesApart.{end_not_white}
use Rattle.characters.proofs.Rests.{part_end}
use Rattle.characters.proofs.RunLaws.{run_inside, run_none_class, run_some_class}
use Rattle.recognisers.specs.Taking.{Taker, taken, more, capital, spelled, blanks, end_of_word}
use Rattle.recognisers.proofs.TakenInside.{Inside, fits_more, then_inside, cond_inside, spelled_inside, end_of_word_inside}

module _ (s : List ℕ) (n : ℕ) (e : n ≡ run (in_class Whitespace) 0 s) where
  pub blanks_fit : n ≤ length s
  blanks_fit = rw e (run_inside Whitespace 0 s)

  none : n ≡ 0 → is_whitespace (code_point s) ≡ false
  unfolding in_class
  none z = go s refl
    where
      go : (t : List ℕ) → s ≡ t → is_whitespace (code_point s) ≡ false
      go [] q = rw q end_not_white
      go (b ∷ t) q = run_none_class Whitespace s (rw q (suc-le-suc zero-le)) (sym e ∙ z)

  module _ (then : Taker) where
    pub blanks_none : n ≡ 0 → None ≡ blanks then s
    unfolding blanks
    blanks_none z = rw (none z)

    pub blanks_then : (t q : Option ℕ) → (n ≡ 0 → ⊥) → t ≡ then (take (length s - n) (drop n s)) → q ≡ more n t → q ≡ blanks then s
    unfolding blanks in_class
    blanks_then t q z f g =
        let some : is_whitespace (code_point s) ≡ true = run_some_class Whitespace s (λ y. z (e ∙ y)) in
        g ∙ rw (some, ← e, f, part_end s n)

pub blanks_inside : (then : Taker) → Inside then → Inside (blanks then)
unfolding blanks in_class
blanks_inside then h s =
    cond_inside (is_whitespace (code_point s)) (more (run is_whitespace 0 s) (then (drop (run is_whitespace 0 s) s))) (length s)
    (then_inside (run is_whitespace 0 s) then s (run_inside Whitespace 0 s) h)

-- ---- a word in capitals behind whitespace, as `blanks_then_word` and `end_case` use it

module _ (case : List ℕ) where
  abbrev word : Taker
  word = spelled capital case end_of_word

  pub word_inside : Inside word
  word_inside = spelled_inside capital case end_of_word end_of_word_inside

  module _ (s : List ℕ) (n : ℕ) (e : n ≡ run (in_class Whitespace) 0 s) where
    pub behind_none : n ≡ 0 → None ≡ blanks word s
    behind_none = blanks_none s n e word

    module _ (t : Option ℕ) (z : n ≡ 0 → ⊥) (f : t ≡ word (take (length s - n) (drop n s))) where
      pub behind_fails : (q : Option ℕ) → t ≡ None → q ≡ None → q ≡ blanks word s
      behind_fails q g h = blanks_then s n e word t q z f (h ∙ rw g)

      pub behind_then : (m : ℕ) → t ≡ Some m → Some (n + m) ≡ blanks word s
      behind_then m g = blanks_then s n e word t (Some (n + m)) z f (rw g)

    pub behind_fits : (t : Option ℕ) (m : ℕ) → t ≡ word (take (length s - n) (drop n s)) → t ≡ Some m → length s < 2 ^ 64 → Fits w64 (n + m)
    behind_fits t m q g f = let h : n + taken t < 2 ^ 64 = fits_more word word_inside s n t q (blanks_fit s n e) f in record { fits = rw g at h }
