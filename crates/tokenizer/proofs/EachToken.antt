-- What holds of each token, if it holds of each piece at each place.
-- Assumes nothing.
use Rattle.std.proofs.Common.{Option, Some, None}
use Prim.Native.Nat.{ℕ, zero, suc, ◌+◌, ◌-◌, ◌≤◌, ◌<◌, zero-le}
use native.Mathlib.Nat.{le_trans}
use native.Mathlib.Omega.{arith}
use mathlib.Core.Path.{◌≡◌, refl, ap}
use mathlib.Core.List.{List, [], ◌∷◌}
use lib.ListN.{length, get_or, take, drop, length-drop, drop_of_length-le}
use Rattle.recognisers.specs.declared.Piece.{Piece}
use Rattle.recognisers.specs.declared.Key.{Key}
use Rattle.recognisers.specs.declared.Key.TheVariants as K
use Rattle.tokenizer.specs.declared.Cursor.{Cursor}
use Rattle.tokenizer.specs.declared.Memory.{Memory}
use Rattle.calls.specs.declared.Settings.{Settings}
use Rattle.tokenizer.specs.declared.Token.{Token}
use Rattle.tokenizer.specs.Memory.{start, remembered}
use Rattle.tokenizer.specs.NextToken.{next_piece}
use Rattle.tokenizer.specs.Tokens.{placed, token_at, tokens}
use Rattle.tokenizer.specs.Inner.Inside.{key_end}
use Rattle.tokenizer.proofs.Steps.{left, Moved, moved, past_end}
use Rattle.tokenizer.proofs.EndToEnd.{Recognises, piece_recognised}
use Rattle.tokenizer.proofs.NextPieceSizes.{piece_sized}
use Rattle.recognisers.proofs.PieceSizes.{KeyFits, Sized}

abbrev pub Each : (Token → Type 0) → List Token → Type 0
Each P [] = Unit {0}
Each P (t ∷ ts) = P t × Each P ts

-- at a place in the list, as a chain of calls finds it
pub each_at : (P : Token → Type 0) (ts : List Token) → Each P ts → (k : ℕ) (t : Token) → k < length ts → t ≡ get_or ts k t → P t
each_at P [] h k t l e = absurd (let z : ⊥ = omega arith in z)
each_at P (u ∷ ts) h zero t l e = rw e h.0
each_at P (u ∷ ts) h (suc k) t l e = each_at P ts h.1 k t (omega arith) e

-- Q holds of the places where tokens start
module _ (settings : Settings) (s : List ℕ) (P : Token → Type 0) (Q : ℕ → Type 0)
    (one : (memory : Memory) (at : ℕ) (p : Piece) → at < length s → Q at → next_piece settings memory (drop at s) ≡ Some p → P (token_at settings at p) × Q (at + p.len)) where
  from_cursor : (fuel : ℕ) (c : Cursor) → length s - c.at ≤ fuel → Q c.at → Each P (left settings s c)
  from_cursor zero c h q = rw (drop_of_length-le s {i = c.at} (omega arith), past_end settings c.memory c.at 0) tt
  from_cursor (suc fuel) c h q = go (drop c.at s) refl (λ d. from_cursor fuel d)
    where
      on : (p : Piece) (c' : Cursor) → Moved settings s c (token_at settings c.at p) c' → c'.at ≡ c.at + p.len → P (token_at settings c.at p) × Q (c.at + p.len)
          → ((d : Cursor) → length s - d.at ≤ fuel → Q d.at → Each P (left settings s d)) → Each P (left settings s c)
      on p c' m a both ih = rw m.list (both.0, ih c' (omega (arith, h, m.on, m.inside)) (rw a both.1))

      go : (rest : List ℕ) → drop c.at s ≡ rest → ((d : Cursor) → length s - d.at ≤ fuel → Q d.at → Each P (left settings s d)) → Each P (left settings s c)
      go [] e ih = rw (e, past_end settings c.memory c.at 0) tt
      go (b ∷ rest) e ih = found (next_piece settings c.memory (drop c.at s)) refl (rw e (piece_recognised settings c.memory b rest))
        where
          found : (r : Option Piece) → next_piece settings c.memory (drop c.at s) ≡ r → Recognises r → Each P (left settings s c)
          found (Some p) k h =
              let n : length (drop c.at s) ≡ suc (length rest) = ap length e in
              let l : c.at < length s = omega (arith, n, length-drop c.at s) in
              on p (record { at = c.at + p.len; memory = remembered c.memory p.kind (take p.len (drop c.at s)) p.alias })
              (moved settings s c p k l) refl (one c.memory c.at p l q k) ih
          found None k h = absurd h

  pub each_token : Q 0 → Each P (tokens settings s)
  unfolding tokens
  each_token q = from_cursor (length s) (record { at = 0; memory = start }) (omega arith) q

-- a token lies inside the statement
pub each_inside : (settings : Settings) (s : List ℕ) → Each (λ t. t.start + t.len ≤ length s) (tokens settings s)
each_inside settings s = each_token settings s (λ t. t.start + t.len ≤ length s) (λ at. Unit {0}) one tt
  where
    one : (memory : Memory) (at : ℕ) (p : Piece) → at < length s → Unit {0} → next_piece settings memory (drop at s) ≡ Some p → (at + p.len ≤ length s) × Unit {0}
    one memory at p h u e =
        let f : Sized (drop at s) (Some p) = rw e at (piece_sized settings memory (drop at s)) in
        let i = f.inside in
        (omega (arith, h, length-drop at s), tt)

pub inside_at : (settings : Settings) (s : List ℕ) (k : ℕ) (t : Token) → k < length (tokens settings s) → t ≡ get_or (tokens settings s) k t → t.start + t.len ≤ length s
inside_at settings s k t l e = each_at (λ u. u.start + u.len ≤ length s) (tokens settings s) (each_inside settings s) k t l e

key_ends : (at n : ℕ) (key : Option Key) → KeyFits n key → key_end (placed at key) ≤ at + n
key_ends at n None h = zero-le
key_ends at n (Some (K.Named start len)) h = omega arith
key_ends at n (Some (K.Escaped start len)) h = omega arith
key_ends at n (Some (K.ZeroIndexed i)) h = zero-le
key_ends at n (Some (K.OneIndexed i)) h = zero-le

pub each_key : (settings : Settings) (s : List ℕ) → Each (λ t. key_end t.key ≤ length s) (tokens settings s)
each_key settings s = each_token settings s (λ t. key_end t.key ≤ length s) (λ at. Unit {0}) one tt
  where
    one : (memory : Memory) (at : ℕ) (p : Piece) → at < length s → Unit {0} → next_piece settings memory (drop at s) ≡ Some p → (key_end (placed at p.key) ≤ length s) × Unit {0}
    one memory at p h u e =
        let f : Sized (drop at s) (Some p) = rw e at (piece_sized settings memory (drop at s)) in
        let i = f.inside in
        (le_trans (key_ends at p.len p.key f.key_inside) (omega (arith, h, length-drop at s)), tt)

pub key_at : (settings : Settings) (s : List ℕ) (k : ℕ) (t : Token) → k < length (tokens settings s) → t ≡ get_or (tokens settings s) k t → key_end t.key ≤ length s
key_at settings s k t l e = each_at (λ u. key_end u.key ≤ length s) (tokens settings s) (each_key settings s) k t l e
