-- A run goes character by character.
-- Assumes nothing.
use Prim.Native.Nat.{ℕ, zero, suc, ◌+◌, ◌-◌, ◌^◌, ◌≤◌, ◌<◌, zero-le, suc-le-suc}
use native.Mathlib.Nat.{le_of_suc-le-suc, not-suc-le-zero, add-zero, zero-add, suc-add, add_assoc}
use native.Mathlib.Omega.{arith}
use mathlib.Core.Path.{◌≡◌, refl, sym, ap, ◌∙◌}
use mathlib.Core.List.{List, [], ◌∷◌}
use mathlib.Core.Bool.{Bool, true, false, cond, ◌&&◌, false≢true, and-eq-true_iff}
use lib.ListN.{length, drop, get_or, drop_of_length-le, length-drop}
use lib.Seq.{drop-cons, drop-drop}
use mir.Syntax.{w64}
use mir.Val.{Fits}
use lib.Dec.{ltb}
use borrow.Author.Tests.{lt-ltb, ltb-true}
use Rattle.std.specs.Bool.{then_some}
use Rattle.std.specs.declared.option.Option.{Option}
use Rattle.std.specs.declared.option.Option.TheVariants.{Some, None}
use Rattle.characters.specs.declared.Character.{Character}
use Rattle.characters.specs.Character.{is_continuation, continuations, continued, first_bits, with_bits, code_point, character_length, character}
use Rattle.characters.specs.declared.Class.{Class}
use Rattle.characters.specs.declared.Class.TheVariants.{Whitespace, Word, PlaceholderName}
use Rattle.characters.specs.Runs.{in_class, run}
use Rattle.characters.specs.Inner.RunAt.{RunAt}
use Rattle.characters.proofs.ClassesApart.{zero_not_white, zero_no_word, zero_no_name}

pub continued_inside : (n : ℕ) (s : List ℕ) → continued n s ≤ length s
unfolding continued
continued_inside zero s = zero-le
continued_inside (suc n) [] = zero-le
continued_inside (suc n) (b ∷ s) = go (is_continuation b) (continued_inside n s)
  where
    go : (t : Bool) → continued n s ≤ length s → cond t (suc (continued n s)) 0 ≤ suc (length s)
    go true h = suc-le-suc h
    go false h = zero-le

pub character_inside : (s : List ℕ) → character_length s ≤ length s
unfolding character_length
character_inside [] = zero-le
character_inside (b ∷ s) = suc-le-suc (continued_inside (continuations b) s)

pub character_some : (s : List ℕ) → 0 < length s → 0 < character_length s
unfolding character_length
character_some [] h = h
character_some (b ∷ s) h = suc-le-suc zero-le

module _ (class : Class) where
  run_pass : (n : ℕ) (s : List ℕ) → n ≤ length s → run (in_class class) n s ≡ n + run (in_class class) 0 (drop n s)
  unfolding run
  run_pass zero s h = sym (zero-add (run (in_class class) 0 s))
  run_pass (suc n) [] h = absurd (not-suc-le-zero h)
  run_pass (suc n) (b ∷ s) h = ap suc (run_pass n s (le_of_suc-le-suc h)) ∙ sym (suc-add n (run (in_class class) 0 (drop n s)))

  pub run_step : (s : List ℕ) → 0 < length s → run (in_class class) 0 s ≡ cond (in_class class (code_point s)) (character_length s + run (in_class class) 0 (drop (character_length s) s)) 0
  unfolding run character_length
  run_step [] h = absurd (not-suc-le-zero h)
  run_step (b ∷ s) h =
      rw (run_pass (continued (continuations b) s) s (continued_inside (continuations b) s), suc-add (continued (continuations b) s) (run (in_class class) 0 (drop (continued (continuations b) s) s)))

  pub run_inside : (passed : ℕ) (s : List ℕ) → run (in_class class) passed s ≤ length s
  unfolding run
  run_inside passed [] = zero-le
  run_inside (suc passed) (b ∷ s) = suc-le-suc (run_inside passed s)
  run_inside zero (b ∷ s) = go (in_class class (code_point (b ∷ s))) (run_inside (continued (continuations b) s) s)
    where
      go : (t : Bool) → run (in_class class) (continued (continuations b) s) s ≤ length s → cond t (suc (run (in_class class) (continued (continuations b) s) s)) 0 ≤ suc (length s)
      go true h = suc-le-suc h
      go false h = zero-le

  -- no byte is taken exactly where the first character is not of the class
  pub run_none_class : (s : List ℕ) → 0 < length s → run (in_class class) 0 s ≡ 0 → in_class class (code_point s) ≡ false
  run_none_class s o e = go (in_class class (code_point s)) refl
    where
      go : (t : Bool) → in_class class (code_point s) ≡ t → in_class class (code_point s) ≡ false
      go true q =
          let r = run_step s o in
          let v : run (in_class class) 0 s ≡ character_length s + run (in_class class) 0 (drop (character_length s) s) = r ∙ rw q in
          absurd (let k = character_some s o in let z : ⊥ = omega arith in z)
      go false q = q

  pub run_some_class : (s : List ℕ) → (run (in_class class) 0 s ≡ 0 → ⊥) → in_class class (code_point s) ≡ true
  unfolding run
  run_some_class [] n = absurd (n refl)
  run_some_class (b ∷ s) n = go (in_class class (code_point (b ∷ s))) refl
    where
      go : (t : Bool) → in_class class (code_point (b ∷ s)) ≡ t → in_class class (code_point (b ∷ s)) ≡ true
      go true q = q
      go false q = absurd (n (rw q))

  -- ---- the loop

  end_outside : in_class class (code_point []) ≡ false
  unfolding code_point in_class
  end_outside = go class
    where
      go : (k : Class) → in_class k 0 ≡ false
      go Whitespace = zero_not_white
      go Word = zero_no_word
      go PlaceholderName = zero_no_name

  -- what `step` answers at the start of some bytes
  abbrev pub stepped : List ℕ → Option ℕ
  stepped s = then_some (in_class class (code_point s)) (character_length s)

  record Stepped (s : List ℕ) (n : ℕ) : Type 0 where
    some : 0 < length s
    of_class : in_class class (code_point s) ≡ true
    is : n ≡ character_length s

  step_is : (s : List ℕ) (n : ℕ) → Some n ≡ stepped s → Stepped s n
  step_is s n e = go s (in_class class (code_point s)) refl e
    where
      go : (s : List ℕ) (t : Bool) → in_class class (code_point s) ≡ t → Some n ≡ then_some t (character_length s) → Stepped s n
      go s false q f = absurd (let z : ⊥ = cc in z)
      go [] true q f = absurd (false≢true (sym end_outside ∙ q))
      go (b ∷ s) true q f = record { some = suc-le-suc zero-le; of_class = q; is = cc }

  module _ (s : List ℕ) (i n : ℕ) (at : RunAt class s i) (e : Some n ≡ stepped (drop i s)) where
    at_most : i + n ≤ length s
    at_most =
        let k = step_is (drop i s) n e in
        let m = character_inside (drop i s) in
        let l = at.inside in
        omega (arith, k.is, length-drop i s)

    pub run_fits : length s < 2 ^ 64 → Fits w64 (i + n)
    run_fits f = record { fits = omega (arith, at_most) }

    pub run_more : RunAt class s (i + n)
    run_more =
        let k = step_is (drop i s) n e in
        record {
          inside = at_most;
          same = at.same ∙ rw (run_step (drop i s) k.some, k.of_class, ← k.is, drop-drop n i s) (sym (add_assoc i n (run (in_class class) 0 (drop (i + n) s))));
        }

    pub run_shorter : length s - (i + n) < length s - i
    run_shorter =
        let k = step_is (drop i s) n e in
        let o = character_some (drop i s) k.some in
        omega (arith, at_most, k.is)

  pub run_stop : (s : List ℕ) (i : ℕ) → RunAt class s i → None ≡ stepped (drop i s) → i ≡ run (in_class class) 0 s
  unfolding run
  run_stop s i at e = go (drop i s) (in_class class (code_point (drop i s))) refl at.same e
    where
      go : (t : List ℕ) (r : Bool) → in_class class (code_point t) ≡ r → run (in_class class) 0 s ≡ i + run (in_class class) 0 t → None ≡ then_some r (character_length t) → i ≡ run (in_class class) 0 s
      go t true q f g = absurd (let z : ⊥ = cc in z)
      go [] false q f g = sym (f ∙ add-zero i)
      go (b ∷ t) false q f g = sym (f ∙ rw q (add-zero i))

  pub run_end : (s : List ℕ) (i : ℕ) → RunAt class s i → length s ≤ i → i ≡ run (in_class class) 0 s
  unfolding run
  run_end s i at h = sym (at.same ∙ rw (drop_of_length-le s h) (add-zero i))

  pub run_all : (s : List ℕ) (i : ℕ) → RunAt class s i → length s ≤ i → length s ≡ run (in_class class) 0 s
  run_all s i at h = let l = at.inside in omega (arith, run_end s i at h)

-- ---- an ASCII character

pub ascii_length : (s : List ℕ) (i : ℕ) → i < length s → get_or s i 0 < 128 → character_length (drop i s) ≡ 1
unfolding character_length continuations continued
ascii_length s i h l = rw (drop-cons s i 0 h, lt-ltb (get_or s i 0) 0xC0 (omega arith))

pub ascii_code : (s : List ℕ) (i : ℕ) → i < length s → get_or s i 0 < 128 → code_point (drop i s) ≡ get_or s i 0
unfolding code_point continuations continued first_bits with_bits
ascii_code s i h l = rw (drop-cons s i 0 h, lt-ltb (get_or s i 0) 0xC0 (omega arith), lt-ltb (get_or s i 0) 0x80 l)

pub ascii_character : (s : List ℕ) (i : ℕ) → i < length s → get_or s i 0 < 128 → ◌≡◌ {A = Character} (record { code_point = get_or s i 0; len = 1 }) (character (drop i s))
unfolding character
ascii_character s i h l = rw (ascii_code s i h l, ascii_length s i h l)

pub ascii_first : (b : ℕ) (s : List ℕ) → b < 128 → code_point (b ∷ s) ≡ b
ascii_first b s l = ascii_code (b ∷ s) 0 (suc-le-suc zero-le) l

-- as `step` and `run_of` use them: r is what a class says of the character at i
module _ (class : Class) (s : List ℕ) (i : ℕ) where
  module _ (h : i < length s) (r : Bool) (e : r ≡ (ltb (get_or s i 0) 128 && in_class class (get_or s i 0))) where
    pub step_ascii : get_or s i 0 < 128 → then_some r 1 ≡ stepped class (drop i s)
    step_ascii l =
        let same : r ≡ in_class class (get_or s i 0) = rw (lt-ltb (get_or s i 0) 128 l) at e in
        rw (ascii_code s i h l, ascii_length s i h l, same)

    pub byte_more : RunAt class s i → r ≡ true → RunAt class s (i + 1)
    byte_more at t =
        let both = (and-eq-true_iff (ltb (get_or s i 0) 128) (in_class class (get_or s i 0))).0 (sym e ∙ t) in
        run_more class s i 1 at (rw t at (step_ascii (ltb-true (get_or s i 0) 128 both.0)))

    pub byte_stop : RunAt class s i → r ≡ false → get_or s i 0 < 128 → i ≡ run (in_class class) 0 s
    byte_stop at t l = run_stop class s i at (rw t at (step_ascii l))

  pub step_wide : (x : Character) (r : Bool) → x ≡ character (drop i s) → r ≡ in_class class x.code_point → then_some r x.len ≡ stepped class (drop i s)
  unfolding character
  step_wide x r q e = rw (e, q)

  pub step_end : length s ≤ i → None ≡ stepped class (drop i s)
  step_end h = rw (drop_of_length-le s h, end_outside class)
