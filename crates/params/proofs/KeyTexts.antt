-- A key's text, compared and measured.
-- Assumes nothing.
use Prim.Native.Nat.{ℕ, suc, ◌+◌, ◌-◌, ◌≤◌}
use native.Mathlib.Nat.{le_refl}
use native.Mathlib.Omega.{arith}
use mathlib.Core.Path.{◌≡◌, refl, sym, ◌∙◌}
use mathlib.Core.Bool.{Bool, true, false, ◌&&◌, false≢true}
use mathlib.Core.List.{List, [], ◌∷◌}
use borrow.Author.Tests.{lt-ltb, ne_eqb}
use lib.Dec.{ltb, eqb}
use lib.ListN.{length, take, drop, get_or, length-drop}
use lib.Seq.{length-take-le}
use Rattle.std.specs.Prelude.{Option, Some}
use Rattle.std.proofs.lemmas.List.{nil_from_length, take_all}
use Rattle.recognisers.specs.declared.Key.{Key}
use Rattle.recognisers.specs.declared.Key.TheVariants.{Named, Escaped}
use Rattle.recognisers.specs.Text.{byte}
use Rattle.recognisers.specs.Taking.{starts_with}
use Rattle.recognisers.specs.Same.{same}
use Rattle.tokenizer.specs.KeyText.{unescaped}
use Rattle.params.specs.Keys.{has_name}
use Rattle.tokenizer.specs.Inner.Inside.{key_end}

-- ---- the text with escapes undone, from a byte on

module _ (quote : ℕ) where
  pub undone : (b : ℕ) (rest : List ℕ) → (eqb b (byte "\\") && starts_with quote rest) ≡ true → unescaped quote (b ∷ rest) ≡ unescaped quote rest
  unfolding unescaped
  undone b rest e = rw e

  pub stays : (b : ℕ) (rest : List ℕ) → (eqb b (byte "\\") && starts_with quote rest) ≡ false → unescaped quote (b ∷ rest) ≡ b ∷ unescaped quote rest
  unfolding unescaped
  stays b rest e = rw e

  -- some text is left of some text
  pub some_left : (text : List ℕ) → ltb 0 (length (unescaped quote text)) ≡ ltb 0 (length text)
  unfolding unescaped starts_with
  some_left [] = refl
  some_left (b ∷ rest) = go (eqb b (byte "\\") && starts_with quote rest) refl (some_left rest)
    where
      right : (x y : Bool) → (x && y) ≡ true → y ≡ true
      right true y e = e
      right false y e = absurd (false≢true e)

      some : (l : List ℕ) → starts_with quote l ≡ true → ltb 0 (length l) ≡ true
      some [] e = absurd (false≢true e)
      some (c ∷ l) e = lt-ltb 0 (suc (length l)) (omega arith)

      go : (t : Bool) → (eqb b (byte "\\") && starts_with quote rest) ≡ t → ltb 0 (length (unescaped quote rest)) ≡ ltb 0 (length rest)
          → ltb 0 (length (unescaped quote (b ∷ rest))) ≡ ltb 0 (length (b ∷ rest))
      go true e ih = rw (undone b rest e) (ih ∙ some rest (right (eqb b (byte "\\")) (starts_with quote rest) e) ∙ sym (lt-ltb 0 (suc (length rest)) (omega arith)))
      go false e ih = rw (stays b rest e) (lt-ltb 0 (suc (length (unescaped quote rest))) (omega arith) ∙ sym (lt-ltb 0 (suc (length rest)) (omega arith)))

-- ---- the name compared with the text

pub same_nothing : (name : List ℕ) → eqb (length name) 0 ≡ same name []
unfolding same
same_nothing [] = refl
same_nothing (b ∷ name) = ne_eqb (suc (length name)) 0 (λ (e : suc (length name) ≡ 0). let z : ⊥ = omega arith in z)

-- a byte stands first in some name alone
pub some_name : (b : ℕ) (name : List ℕ) (k : Bool) → k ≡ starts_with b name → k ≡ true → 1 ≤ length name
unfolding starts_with
some_name b [] k e f = absurd (false≢true (sym e ∙ f))
some_name b (c ∷ name) k e f = omega arith

-- what is left of the name and of the text compares as the whole does
module _ (whole : Bool) (name text : List ℕ) (quote : ℕ) (at : whole ≡ same name (unescaped quote text)) where
  module _ (b : ℕ) (rest : List ℕ) (e : text ≡ b ∷ rest) (t : Bool) (f : t ≡ (eqb b (byte "\\") && starts_with quote rest)) where
    pub compare_skip : t ≡ true → whole ≡ same name (unescaped quote rest)
    compare_skip g = at ∙ rw (e, undone quote b rest (sym f ∙ g))

    module _ (g : t ≡ false) where
      here : whole ≡ same name (b ∷ unescaped quote rest)
      here = at ∙ rw (e, stays quote b rest (sym f ∙ g))

      pub compare_fails : (k : Bool) → k ≡ starts_with b name → k ≡ false → false ≡ whole
      unfolding same starts_with
      compare_fails k h l = sym (here ∙ other name (sym h ∙ l))
        where
          other : (n : List ℕ) → starts_with b n ≡ false → same n (b ∷ unescaped quote rest) ≡ false
          other [] m = refl
          other (c ∷ n) m = rw m

      pub compare_more : (k : Bool) → k ≡ starts_with b name → k ≡ true → whole ≡ same (take (length name - 1) (drop 1 name)) (unescaped quote rest)
      unfolding same starts_with
      compare_more k h l = here ∙ one name (sym h ∙ l)
        where
          one : (n : List ℕ) → starts_with b n ≡ true → same n (b ∷ unescaped quote rest) ≡ same (take (length n - 1) (drop 1 n)) (unescaped quote rest)
          one [] m = absurd (false≢true m)
          one (c ∷ n) m = let l : length (c ∷ n) - 1 ≡ length n = omega arith in rw (m, l, take_all (length n) n (le_refl (length n)))

  pub compare_end : length text ≡ 0 → eqb (length name) 0 ≡ whole
  unfolding unescaped
  compare_end h = same_nothing name ∙ sym (at ∙ (let z : text ≡ [] = nil_from_length text h in rw z))

-- ---- by the key's case

module _ (start len : ℕ) (key : Option Key) (s : List ℕ) (h : key_end key ≤ length s) where
  pub named_named : key ≡ Some (Named start len) → ltb 0 len ≡ has_name s key
  unfolding has_name
  named_named e =
      let m : start + len ≤ length s = rw e at h in
      let k : length (take len (drop start s)) ≡ len = length-take-le len (drop start s) (rw length-drop (omega arith)) in
      rw (e, k)

  pub escaped_named : key ≡ Some (Escaped start len) → ltb 0 len ≡ has_name s key
  unfolding has_name
  escaped_named e =
      let m : start + len + 1 ≤ length s = rw e at h in
      let k : length (take len (drop start s)) ≡ len = length-take-le len (drop start s) (rw length-drop (omega arith)) in
      rw (e, some_left (get_or s (start + len) 0) (take len (drop start s)), k)
