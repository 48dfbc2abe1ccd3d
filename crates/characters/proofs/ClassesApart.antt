-- Which classes have no code point in common, and which class ASCII letters are of.
-- Assumes nothing.
use Prim.Native.Nat.{ℕ, ◌≤◌}
use native.Mathlib.Omega.{arith}
use mathlib.Core.Path.{◌≡◌, refl, sym, ◌∙◌}
use mathlib.Core.List.{List, [], ◌∷◌}
use mathlib.Core.Bool.{Bool, true, false, ◌&&◌, ◌||◌, false≢true, and-eq-true_iff}
use lib.Dec.{ltb, eqb}
use borrow.Author.Tests.{ltb-true, ne_eqb}
use Rattle.characters.specs.Ranges.{within, in_ranges}
use Rattle.characters.specs.WhiteSpace.{white_space}
use Rattle.characters.specs.Alphabetic.{alphabetic}
use Rattle.characters.specs.Numeric.{numeric}
use Rattle.characters.specs.Mark.{mark}
use Rattle.characters.specs.Connector.{connector}
use Rattle.characters.specs.Classes.{is_whitespace, is_alphabetic, is_numeric, is_mark, is_punctuation_connector, is_alphanumeric, is_word_character, is_placeholder_name_character}
use Rattle.characters.specs.Character.{code_point}
use Rattle.characters.proofs.Within.{within_low, within_high, within_is, below_not, above_not}

-- ---- ranges apart from ranges

abbrev pub apart_from : ℕ × ℕ → List (ℕ × ℕ) → Bool
apart_from range [] = true
apart_from range (other ∷ others) = (ltb range.1 other.0 || ltb other.1 range.0) && apart_from range others

abbrev apart : List (ℕ × ℕ) → List (ℕ × ℕ) → Bool
apart [] others = true
apart (range ∷ ranges) others = apart_from range others && apart ranges others

pub outside : (range : ℕ × ℕ) (others : List (ℕ × ℕ)) (c : ℕ) → apart_from range others ≡ true → within range.0 range.1 c ≡ true → in_ranges others c ≡ false
unfolding in_ranges
outside range [] c a e = refl
outside range (other ∷ others) c a e =
    let a₂ = (and-eq-true_iff (ltb range.1 other.0 || ltb other.1 range.0) (apart_from range others)).0 a in
    rw (outside range others c a₂.1 e, go (ltb range.1 other.0) (ltb other.1 range.0) refl refl a₂.0)
  where
    low : range.0 ≤ c
    low = within_low range.0 range.1 c e

    high : c ≤ range.1
    high = within_high range.0 range.1 c e

    go : (t u : Bool) → ltb range.1 other.0 ≡ t → ltb other.1 range.0 ≡ u → (t || u) ≡ true → within other.0 other.1 c ≡ false
    go true u q r o = below_not other.0 other.1 c (let k = ltb-true range.1 other.0 q in omega (arith, high))
    go false true q r o = above_not other.0 other.1 c (let k = ltb-true other.1 range.0 r in omega (arith, low))
    go false false q r o = absurd (false≢true o)

all_outside : (ranges others : List (ℕ × ℕ)) (c : ℕ) → apart ranges others ≡ true → in_ranges ranges c ≡ true → in_ranges others c ≡ false
unfolding in_ranges
all_outside [] others c a e = absurd (false≢true e)
all_outside (range ∷ ranges) others c a e =
    let a₂ = (and-eq-true_iff (apart_from range others) (apart ranges others)).0 a in
    go (within range.0 range.1 c) refl a₂.0 (all_outside ranges others c a₂.1)
  where
    go : (t : Bool) → within range.0 range.1 c ≡ t → apart_from range others ≡ true → (in_ranges ranges c ≡ true → in_ranges others c ≡ false) → in_ranges others c ≡ false
    go true q p rest = outside range others c p q
    go false q p rest = rest (rw q at e)

-- ---- tests that the checker computes over the tables

alphabetic_apart : apart white_space alphabetic ≡ true
unfolding white_space alphabetic
alphabetic_apart = refl

numeric_apart : apart white_space numeric ≡ true
unfolding white_space numeric
numeric_apart = refl

mark_apart : apart white_space mark ≡ true
unfolding white_space mark
mark_apart = refl

connector_apart : apart white_space connector ≡ true
unfolding white_space connector
connector_apart = refl

visible_apart : apart_from (0x21, 0x7F) white_space ≡ true
unfolding white_space
visible_apart = refl

-- ---- no whitespace is a word character, one of a placeholder's name, or visible ASCII

-- the ASCII characters behind the space, with U+007F, which is no whitespace either
pub visible_not_white : (c : ℕ) → 0x21 ≤ c → c ≤ 0x7F → is_whitespace c ≡ false
unfolding is_whitespace
visible_not_white c h l = outside (0x21, 0x7F) white_space c visible_apart (within_is 0x21 0x7F c h l)

module _ (c : ℕ) (e : is_whitespace c ≡ true) where
  no_alphanumeric : is_alphanumeric c ≡ false
  unfolding is_whitespace is_alphanumeric is_alphabetic is_numeric
  no_alphanumeric = rw (all_outside white_space alphabetic c alphabetic_apart e, all_outside white_space numeric c numeric_apart e)

  pub white_no_word : is_word_character c ≡ false
  unfolding is_whitespace is_word_character is_mark is_punctuation_connector
  white_no_word = rw (no_alphanumeric, all_outside white_space mark c mark_apart e, all_outside white_space connector c connector_apart e)

  no_sign : (n : ℕ) → is_whitespace n ≡ false → eqb c n ≡ false
  no_sign n f = ne_eqb c n (λ q. false≢true (sym f ∙ (rw q at e)))

  pub white_no_name : is_placeholder_name_character c ≡ false
  unfolding is_placeholder_name_character
  white_no_name =
      rw (no_alphanumeric, no_sign 0x2E (visible_not_white 0x2E (omega arith) (omega arith)), no_sign 0x5F (visible_not_white 0x5F (omega arith) (omega arith)), no_sign 0x24 (visible_not_white 0x24 (omega arith) (omega arith)))

pub space_white : is_whitespace 0x20 ≡ true
unfolding is_whitespace in_ranges within white_space
space_white = refl

-- ---- U+0000, which stands for the end of a text, is in no class

pub zero_not_white : is_whitespace 0 ≡ false
unfolding is_whitespace in_ranges within white_space
zero_not_white = refl

pub zero_no_word : is_word_character 0 ≡ false
unfolding is_word_character is_alphanumeric is_alphabetic is_numeric is_mark is_punctuation_connector in_ranges within alphabetic numeric mark connector
zero_no_word = refl

pub zero_no_name : is_placeholder_name_character 0 ≡ false
unfolding is_placeholder_name_character is_alphanumeric is_alphabetic is_numeric in_ranges within alphabetic numeric
zero_no_name = refl

pub end_not_white : is_whitespace (code_point []) ≡ false
unfolding code_point
end_not_white = zero_not_white

pub end_no_word : is_word_character (code_point []) ≡ false
unfolding code_point
end_no_word = zero_no_word

-- ---- ASCII letters are word characters

pub capital_word : (c : ℕ) → within 0x41 0x5A c ≡ true → is_word_character c ≡ true
unfolding is_word_character is_alphanumeric is_alphabetic in_ranges alphabetic
capital_word c e = rw e

pub small_word : (c : ℕ) → within 0x61 0x7A c ≡ true → is_word_character c ≡ true
unfolding is_word_character is_alphanumeric is_alphabetic in_ranges alphabetic
small_word c e = rw (above_not 0x41 0x5A c (let l = within_low 0x61 0x7A c e in omega arith), e)
