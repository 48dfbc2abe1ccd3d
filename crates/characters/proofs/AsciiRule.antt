-- Below 128 the rule says what the ranges of the classes say: one test that the checker computes over the 128 characters. From
-- 128 on the rule says that a character is none of them.
-- Assumes nothing.
use Prim.Native.Nat.{ℕ, ◌≤◌, ◌<◌}
use native.Mathlib.Omega.{arith}
use mathlib.Core.Path.{◌≡◌, refl, sym, ◌∙◌}
use mathlib.Core.Bool.{Bool, true, false, ◌&&◌, ◌||◌, beq, or_assoc, and-eq-true_iff}
use lib.Dec.{ltb, eqb}
use borrow.Author.Tests.{ltb-true, ltb-false, ne_eqb}
use Rattle.characters.specs.Ranges.{within, in_ranges}
use Rattle.characters.specs.WhiteSpace.{white_space}
use Rattle.characters.specs.Alphabetic.{alphabetic}
use Rattle.characters.specs.Numeric.{numeric}
use Rattle.characters.specs.Mark.{mark}
use Rattle.characters.specs.Connector.{connector}
use Rattle.characters.specs.Classes.{is_whitespace, is_alphabetic, is_numeric, is_mark, is_punctuation_connector, is_alphanumeric, is_word_character, is_placeholder_name_character}
use Rattle.characters.specs.Ascii.{is_letter, is_space, is_ascii_word, is_ascii_name}
use Rattle.characters.proofs.Below.{all_below, below}
use Rattle.characters.proofs.Within.{above_not}

-- ---- the computed test

same : (a b : Bool) → beq a b ≡ true → a ≡ b
same true true e = refl
same true false e = sym e
same false true e = e
same false false e = refl

-- the rule and the ranges say the same of a character, class by class
abbrev agrees : ℕ → Bool
agrees c =
    beq (is_space c) (is_whitespace c)
    && (beq (is_letter c) (is_alphabetic c)
    && (beq (within 0x30 0x39 c) (is_numeric c)
    && (beq (eqb c 0x5F) (is_punctuation_connector c) && beq false (is_mark c))))

pub ascii_by_rule : all_below agrees 128 ≡ true
unfolding is_letter is_space is_whitespace is_alphabetic is_numeric is_mark is_punctuation_connector in_ranges within white_space alphabetic numeric mark connector
ascii_by_rule = refl

-- ---- below 128

-- what the test says of a character
record Agrees (c : ℕ) : Type 0 where
  white_space : is_space c ≡ is_whitespace c
  letter : is_letter c ≡ is_alphabetic c
  digit : within 0x30 0x39 c ≡ is_numeric c
  underscore : eqb c 0x5F ≡ is_punctuation_connector c
  no_mark : false ≡ is_mark c

agree : (c : ℕ) → c < 128 → Agrees c
agree c h =
    let a = (and-eq-true_iff _ _).0 (below agrees 128 ascii_by_rule c h) in
    let b = (and-eq-true_iff _ _).0 a.1 in
    let d = (and-eq-true_iff _ _).0 b.1 in
    let e = (and-eq-true_iff _ _).0 d.1 in
    record {
      white_space = same _ _ a.0;
      letter = same _ _ b.0;
      digit = same _ _ d.0;
      underscore = same _ _ e.0;
      no_mark = same _ _ e.1;
    }

module _ (c : ℕ) (h : c < 128) where
  pub ascii_whitespace : is_space c ≡ is_whitespace c
  ascii_whitespace = (agree c h).white_space

  pub ascii_alphabetic : is_letter c ≡ is_alphabetic c
  ascii_alphabetic = (agree c h).letter

  pub ascii_numeric : within 0x30 0x39 c ≡ is_numeric c
  ascii_numeric = (agree c h).digit

  pub ascii_connector : eqb c 0x5F ≡ is_punctuation_connector c
  ascii_connector = (agree c h).underscore

  pub ascii_mark : false ≡ is_mark c
  ascii_mark = (agree c h).no_mark

  pub ascii_word : is_ascii_word c ≡ is_word_character c
  unfolding is_ascii_word is_word_character is_alphanumeric
  ascii_word =
      rw (← ascii_alphabetic, ← ascii_numeric, ← ascii_mark, ← ascii_connector) (sym (or_assoc (is_letter c) (within 0x30 0x39 c) (eqb c 0x5F)))

  ascii_name : (is_letter c || (within 0x30 0x39 c || (eqb c 0x2E || (eqb c 0x5F || eqb c 0x24)))) ≡ is_placeholder_name_character c
  unfolding is_placeholder_name_character is_alphanumeric
  ascii_name =
      rw (← ascii_alphabetic, ← ascii_numeric) (sym (or_assoc (is_letter c) (within 0x30 0x39 c) (eqb c 0x2E || (eqb c 0x5F || eqb c 0x24))))

-- ---- of every byte: an ASCII character of a class

module _ (c : ℕ) (h : 128 ≤ c) where
  no_other : (n : ℕ) → n < 128 → eqb c n ≡ false
  no_other n l = ne_eqb c n (λ e. omega arith)

  no_space : is_space c ≡ false
  unfolding is_space
  no_space = rw (above_not 9 13 c (omega arith), no_other 32 (omega arith))

  no_letter : is_letter c ≡ false
  unfolding is_letter
  no_letter = rw (above_not 0x41 0x5A c (omega arith), above_not 0x61 0x7A c (omega arith))

  no_digit : within 0x30 0x39 c ≡ false
  no_digit = above_not 0x30 0x39 c (omega arith)

  no_word : is_ascii_word c ≡ false
  unfolding is_ascii_word
  no_word = rw (no_letter, no_digit, no_other 0x5F (omega arith))

module _ (c : ℕ) where
  pub space_byte : is_space c ≡ (ltb c 128 && is_whitespace c)
  space_byte = go (ltb c 128) refl
    where
      go : (t : Bool) → ltb c 128 ≡ t → is_space c ≡ (t && is_whitespace c)
      go true e = ascii_whitespace c (ltb-true c 128 e)
      go false e = no_space c (ltb-false c 128 e)

  pub word_byte : is_ascii_word c ≡ (ltb c 128 && is_word_character c)
  word_byte = go (ltb c 128) refl
    where
      go : (t : Bool) → ltb c 128 ≡ t → is_ascii_word c ≡ (t && is_word_character c)
      go true e = ascii_word c (ltb-true c 128 e)
      go false e = no_word c (ltb-false c 128 e)

  pub name_byte : (is_letter c || (within 0x30 0x39 c || (eqb c 0x2E || (eqb c 0x5F || eqb c 0x24)))) ≡ (ltb c 128 && is_placeholder_name_character c)
  name_byte = go (ltb c 128) refl
    where
      go : (t : Bool) → ltb c 128 ≡ t → (is_letter c || (within 0x30 0x39 c || (eqb c 0x2E || (eqb c 0x5F || eqb c 0x24)))) ≡ (t && is_placeholder_name_character c)
      go true e = ascii_name c (ltb-true c 128 e)
      go false e =
          let h = ltb-false c 128 e in
          rw (no_letter c h, no_digit c h, no_other c h 0x2E (omega arith), no_other c h 0x5F (omega arith), no_other c h 0x24 (omega arith))

  pub ascii_name_byte : is_ascii_name c ≡ (ltb c 128 && is_placeholder_name_character c)
  unfolding is_ascii_name is_ascii_word
  ascii_name_byte = in_order (is_letter c) (within 0x30 0x39 c) (eqb c 0x2E) (eqb c 0x5F) (eqb c 0x24) ∙ name_byte
    where
      in_order : (l d p u s : Bool) → ((l || (d || u)) || (p || s)) ≡ (l || (d || (p || (u || s))))
      in_order true d p u s = refl
      in_order false true p u s = refl
      in_order false false true true s = refl
      in_order false false true false s = refl
      in_order false false false u s = refl
