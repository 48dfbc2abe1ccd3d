-- Bytes in capitals, visible bytes, and the first character that they make.
-- Assumes nothing.
use Prim.Native.Nat.{ℕ, ◌-◌, ◌<◌}
use native.Mathlib.Omega.{arith}
use mathlib.Core.Path.{◌≡◌, refl, sym, ◌∙◌}
use mathlib.Core.List.{List, ◌∷◌}
use mathlib.Core.Bool.{Bool, true, false, false≢true}
use lib.Dec.{eqb}
use borrow.Author.Tests.{lt-ltb, ne_eqb}
use Rattle.characters.specs.Ranges.{within}
use Rattle.characters.specs.Classes.{is_whitespace, is_word_character}
use Rattle.characters.specs.Character.{is_continuation, continuations, continued, code_point}
use Rattle.characters.proofs.Within.{within_low, within_high, within_is, below_not, above_not}
use Rattle.characters.proofs.ClassesApart.{visible_not_white, space_white, capital_word, small_word}
use Rattle.characters.proofs.RunLaws.{ascii_first}
use Rattle.recognisers.specs.Taking.{capital}

-- ---- visible ASCII

abbrev pub is_visible : ℕ → Bool
is_visible p = within 0x21 0x7E p

-- ---- capitals

capital_letter : (b : ℕ) → within 0x61 0x7A b ≡ true → capital b ≡ b - 0x20
unfolding capital
capital_letter b e = rw e

pub capital_other : (b : ℕ) → within 0x61 0x7A b ≡ false → capital b ≡ b
unfolding capital
capital_other b e = rw e

-- what a capital may be the capital of
pub capital_visible : (b : ℕ) → is_visible (capital b) ≡ true → is_visible b ≡ true
capital_visible b v = go (within 0x61 0x7A b) refl
  where
    go : (t : Bool) → within 0x61 0x7A b ≡ t → is_visible b ≡ true
    go true e = within_is 0x21 0x7E b (let l = within_low 0x61 0x7A b e in omega arith) (let h = within_high 0x61 0x7A b e in omega arith)
    go false e = rw (capital_other b e) at v

pub capital_space : (b : ℕ) → capital b ≡ 32 → b ≡ 32
capital_space b v = go (within 0x61 0x7A b) refl
  where
    go : (t : Bool) → within 0x61 0x7A b ≡ t → b ≡ 32
    go true e =
        let c = capital_letter b e in
        let l = within_low 0x61 0x7A b e in
        absurd (let z : ⊥ = omega arith in z)
    go false e = sym (capital_other b e) ∙ v

pub continuation_capital : (b : ℕ) → is_continuation b ≡ true → capital b ≡ b
unfolding is_continuation
continuation_capital b e = capital_other b (above_not 0x61 0x7A b (let l = within_low 0x80 0xBF b e in omega arith))

pub continuation_stays : (b : ℕ) → is_continuation (capital b) ≡ is_continuation b
unfolding is_continuation
continuation_stays b = go (within 0x61 0x7A b) refl
  where
    go : (t : Bool) → within 0x61 0x7A b ≡ t → within 0x80 0xBF (capital b) ≡ within 0x80 0xBF b
    go true e =
        let c = capital_letter b e in
        let h = within_high 0x61 0x7A b e in
        below_not 0x80 0xBF (capital b) (omega arith) ∙ sym (below_not 0x80 0xBF b (omega arith))
    go false e = rw (capital_other b e)

pub continuation_hidden : (b : ℕ) → is_continuation b ≡ true → is_visible (capital b) ≡ false
unfolding is_continuation
continuation_hidden b e = rw (continuation_capital b e) (above_not 0x21 0x7E b (let l = within_low 0x80 0xBF b e in omega arith))

-- ---- the first character

ascii_alone : (b : ℕ) → b < 128 → continuations b ≡ 0
unfolding continuations
ascii_alone b l = rw (lt-ltb b 0xC0 (omega arith))

visible_ascii : (b : ℕ) → is_visible b ≡ true → b < 128
visible_ascii b v = let h = within_high 0x21 0x7E b v in omega arith

pub visible_alone : (b : ℕ) (s : List ℕ) → is_visible b ≡ true → continued (continuations b) s ≡ 0
unfolding continued
visible_alone b s v = rw (ascii_alone b (visible_ascii b v))

pub visible_first : (b : ℕ) (s : List ℕ) → is_visible b ≡ true → is_whitespace (code_point (b ∷ s)) ≡ false
visible_first b s v =
    rw (ascii_first b s (visible_ascii b v))
    (visible_not_white b (within_low 0x21 0x7E b v) (let h = within_high 0x21 0x7E b v in omega arith))

-- a character that is whitespace begins with no visible byte
pub white_hidden : (b : ℕ) (s : List ℕ) → is_whitespace (code_point (b ∷ s)) ≡ true → is_visible (capital b) ≡ false
white_hidden b s w = go (is_visible (capital b)) refl
  where
    go : (t : Bool) → is_visible (capital b) ≡ t → is_visible (capital b) ≡ false
    go true e = absurd (false≢true (sym (visible_first b s (capital_visible b e)) ∙ w))
    go false e = e

pub space_first : (s : List ℕ) → is_whitespace (code_point (32 ∷ s)) ≡ true
space_first s = rw (ascii_first 32 s (omega arith)) space_white

-- a character that is no whitespace does not begin with a space
pub other_no_space : (b : ℕ) (s : List ℕ) → is_whitespace (code_point (b ∷ s)) ≡ false → eqb (capital b) 32 ≡ false
other_no_space b s w = ne_eqb (capital b) 32 (λ e. false≢true (sym w ∙ (rw (capital_space b e) (space_first s))))

-- ---- letters

-- a letter is a word character in either case, whatever follows
pub letter_word : (b : ℕ) (s t : List ℕ) → within 0x61 0x7A b ≡ true → is_word_character (code_point (capital b ∷ t)) ≡ is_word_character (code_point (b ∷ s))
letter_word b s t e =
    let c = capital_letter b e in
    let l = within_low 0x61 0x7A b e in
    let h = within_high 0x61 0x7A b e in
    rw (ascii_first (capital b) t (omega arith), ascii_first b s (omega arith), small_word b e)
    (capital_word (capital b) (within_is 0x41 0x5A (capital b) (omega arith) (omega arith)))
