-- The level of a token: one step of it, how high it can be, and that it is the parens opened before less those that lowered it.
-- Assumes nothing.
use Prim.Native.Nat.{ℕ, zero, suc, pred, ◌+◌, ◌-◌, ◌^◌, ◌≤◌, ◌<◌, min, zero-le}
use native.Mathlib.Nat.{le_refl}
use native.Mathlib.Numerals.{add-one}
use native.Mathlib.Omega.{arith}
use mathlib.Core.Path.{◌≡◌, refl, ap}
use mathlib.Core.Bool.{Bool, true, false, cond}
use mathlib.Core.List.{List, [], ◌∷◌}
use lib.ListN.{length, take, get_or}
use borrow.Author.Tests.{eqb-true}
use Rattle.recognisers.specs.declared.TokenKind.{TokenKind}
use Rattle.recognisers.specs.declared.TokenKind.TheVariants.{OpenParen, CloseParen}
use Rattle.recognisers.specs.Kinds.{kind_number, is_kind}
use Rattle.calls.specs.declared.Settings.{Settings}
use Rattle.std.specs.Prelude.{Option, Some}
use Rattle.std.specs.Iterator.{YieldsFirst}
use Rattle.tokenizer.specs.declared.walking.Tokens.{Tokens}
use Rattle.tokenizer.specs.declared.Token.{Token}
use Rattle.tokenizer.specs.Levels.{level_past, levels_from, levels}
use Rattle.tokenizer.specs.Left.{tokens_left}
use Rattle.tokenizer.specs.Tokens.{tokens}
use Rattle.tokenizer.proofs.EndToEnd.{tokens_short}
use Rattle.tokenizer.proofs.Walks.{taken}

-- ---- one step

module _ (level : ℕ) (kind : TokenKind) (opens : Bool) (a : opens ≡ is_kind kind OpenParen) where
  pub level_raised : opens ≡ true → level + 1 ≡ level_past level kind
  unfolding level_past
  level_raised e = rw (← a, e) (add-one level)

  module _ (n : opens ≡ false) (closes : Bool) (b : closes ≡ is_kind kind CloseParen) where
    pub level_lowered : closes ≡ true → 0 < level → level - 1 ≡ level_past level kind
    unfolding level_past
    level_lowered e h = rw (← a, n, ← b, e) (one_less level)
      where
        one_less : (k : ℕ) → k - 1 ≡ pred k
        one_less zero = refl
        one_less (suc k) = omega arith

    pub level_floor : closes ≡ true → level ≤ 0 → level ≡ level_past level kind
    unfolding level_past
    level_floor e h = rw (← a, n, ← b, e) (at_floor level h)
      where
        at_floor : (k : ℕ) → k ≤ 0 → k ≡ pred k
        at_floor zero h = refl
        at_floor (suc k) h = absurd (let z : ⊥ = omega arith in z)

    pub level_kept : closes ≡ false → level ≡ level_past level kind
    unfolding level_past
    level_kept e = rw (← a, n, ← b, e)

pred_low : (k : ℕ) → pred k ≤ suc k
pred_low zero = zero-le
pred_low (suc k) = omega arith

-- no more than one higher
level_low : (level : ℕ) (kind : TokenKind) → level_past level kind ≤ suc level
unfolding level_past
level_low level kind = go (is_kind kind OpenParen) (is_kind kind CloseParen)
  where
    go : (a b : Bool) → cond a (suc level) (cond b (pred level) level) ≤ suc level
    go true b = le_refl (suc level)
    go false true = pred_low level
    go false false = omega arith

-- ---- in a loop over the tokens: with what is left, no more than the bytes

pub record Low (s : List ℕ) (level : ℕ) (it : Tokens) : Type 0 where
  pub low : level + length (tokens_left it) ≤ length s

module _ (s : List ℕ) (level : ℕ) (it it' : Tokens) (r : Option Token) (at : Low s level it) (e : YieldsFirst tokens_left it r it') (t : Token) (f : r ≡ Some t) where
  one_less : level + suc (length (tokens_left it')) ≤ length s
  one_less = omega (arith, at.low, ap length (taken it it' r e t f))

  pub level_fits : length s < 2 ^ 64 → level + 1 < 2 ^ 64
  level_fits h = omega (arith, one_less)

  pub level_low_past : (past : ℕ) → past ≡ level_past level t.kind → Low s past it'
  level_low_past past g = rw g (record { low = omega (arith, one_less, level_low level t.kind) })

pub level_low_start : (settings : Settings) (s : List ℕ) (it : Tokens) → tokens_left it ≡ tokens settings s → Low s 0 it
level_low_start settings s it e = record { low = rw e (omega (arith, tokens_short settings s)) }

-- ---- over a list of tokens

abbrev one_if : Bool → ℕ
one_if b = cond b 1 0

-- how many OpenParens there are
pub opened : List Token → ℕ
opened [] = 0
opened (t ∷ ts) = one_if (is_kind t.kind OpenParen) + opened ts

-- how many CloseParens lower the level: those that stand at a level above 0
pub lowered : ℕ → List Token → ℕ
lowered level [] = 0
lowered level (t ∷ ts) = cond (is_kind t.kind CloseParen) (min level 1) 0 + lowered (level_past level t.kind) ts

balanced : (level : ℕ) (kind : TokenKind) → level_past level kind + cond (is_kind kind CloseParen) (min level 1) 0 ≡ level + one_if (is_kind kind OpenParen)
unfolding level_past
balanced level kind = go (is_kind kind OpenParen) refl
  where
    not_both : (b : Bool) → is_kind kind OpenParen ≡ true → is_kind kind CloseParen ≡ b → suc level + cond b (min level 1) 0 ≡ level + 1
    not_both true e f = absurd (let x : kind_number kind ≡ 9 = eqb-true _ _ e in let y : kind_number kind ≡ 10 = eqb-true _ _ f in let z : ⊥ = omega (arith, x, y) in z)
    not_both false e f = omega arith

    one_less : (k : ℕ) → pred k + min k 1 ≡ k + 0
    one_less zero = refl
    one_less (suc k) = omega arith

    closing : (b : Bool) → cond b (pred level) level + cond b (min level 1) 0 ≡ level + 0
    closing true = one_less level
    closing false = refl

    go : (a : Bool) → is_kind kind OpenParen ≡ a → cond a (suc level) (cond (is_kind kind CloseParen) (pred level) level) + cond (is_kind kind CloseParen) (min level 1) 0 ≡ level + one_if a
    go true e = not_both (is_kind kind CloseParen) e refl
    go false e = closing (is_kind kind CloseParen)

-- the parens opened before a token, less those that lowered the level
levels_from_told : (level : ℕ) (ts : List Token) (i : ℕ) → i < length ts → get_or (levels_from level ts) i 0 + lowered level (take i ts) ≡ level + opened (take i ts)
unfolding levels_from lowered opened
levels_from_told level [] i h = absurd (let z : ⊥ = omega arith in z)
levels_from_told level (t ∷ ts) zero h = refl
levels_from_told level (t ∷ ts) (suc i) h =
    let ih = levels_from_told (level_past level t.kind) ts i (omega arith) in
    omega (arith, ih, balanced level t.kind)

pub levels_told : (ts : List Token) (i : ℕ) → i < length ts → get_or (levels ts) i 0 + lowered 0 (take i ts) ≡ opened (take i ts)
unfolding levels
levels_told ts i h = omega (arith, levels_from_told 0 ts i h)

-- no more than the tokens before it
levels_from_low : (level : ℕ) (ts : List Token) (i : ℕ) → get_or (levels_from level ts) i 0 ≤ level + i
unfolding levels_from
levels_from_low level [] i = zero-le
levels_from_low level (t ∷ ts) zero = omega arith
levels_from_low level (t ∷ ts) (suc i) = omega (arith, levels_from_low (level_past level t.kind) ts i, level_low level t.kind)

pub levels_low : (ts : List Token) (i : ℕ) → get_or (levels ts) i 0 ≤ i
unfolding levels
levels_low ts i = omega (arith, levels_from_low 0 ts i)
