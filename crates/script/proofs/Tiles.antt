-- The tokens of a statement lie end to end: each has a byte and starts where the one before it ends, and the last one ends where
-- the statement does.
-- Assumes nothing.
use Rattle.std.proofs.Common.{Option, Some, None}
use Prim.Native.Nat.{ℕ, zero, suc, ◌+◌, ◌-◌, ◌≤◌}
use native.Mathlib.Omega.{arith}
use mathlib.Core.Path.{◌≡◌, refl, sym, ap, ◌∙◌}
use mathlib.Core.List.{List, [], ◌∷◌}
use lib.ListN.{length, take, drop, length-drop, drop_of_length-le}
use Rattle.recognisers.specs.declared.Piece.{Piece}
use Rattle.calls.specs.declared.Settings.{Settings}
use Rattle.tokenizer.specs.declared.Cursor.{Cursor}
use Rattle.tokenizer.specs.declared.Token.{Token}
use Rattle.tokenizer.specs.Memory.{start, remembered}
use Rattle.tokenizer.specs.NextToken.{next_piece}
use Rattle.tokenizer.specs.Tokens.{token_at, tokens}
use Rattle.tokenizer.proofs.EndToEnd.{Recognises, piece_recognised}
use Rattle.tokenizer.proofs.Steps.{left, Moved, moved, past_end}

pub record Tile (long at : ℕ) (t : Token) : Type 0 where
  pub from : t.start ≡ at
  pub some : 1 ≤ t.len
  pub inside : at + t.len ≤ long

-- these tokens fill a statement of this length from a place on
abbrev pub Tiled : ℕ → ℕ → List Token → Type 0
Tiled long at [] = at ≡ long
Tiled long at (t ∷ ts) = Tile long at t × Tiled long (at + t.len) ts

module _ (settings : Settings) (s : List ℕ) where
  ends : (c : Cursor) → length s ≤ c.at → c.at ≤ length s → Tiled (length s) c.at (left settings s c)
  ends c h k = rw (drop_of_length-le s {i = c.at} h, past_end settings c.memory c.at 0) (let z : c.at ≡ length s = omega arith in z)

  abbrev From : ℕ → Type 0
  From fuel = (c : Cursor) → length s - c.at ≤ fuel → c.at ≤ length s → Tiled (length s) c.at (left settings s c)

  from_cursor : (fuel : ℕ) → From fuel
  from_cursor zero c h k = ends c (omega arith) k
  from_cursor (suc fuel) c h k = go (drop c.at s) refl (from_cursor fuel)
    where
      on : (p : Piece) (c' : Cursor) → Moved settings s c (token_at settings c.at p) c' → c'.at ≡ c.at + p.len → From fuel → Tiled (length s) c.at (left settings s c)
      on p c' m a ih =
          rw m.list (
            record { from = refl; some = omega (arith, m.on, a); inside = omega (arith, m.inside, a) },
            rw (← a) (ih c' (omega (arith, m.on, m.inside)) m.inside),
          )

      go : (rest : List ℕ) → drop c.at s ≡ rest → From fuel → Tiled (length s) c.at (left settings s c)
      go [] e ih = ends c (let n : length s - c.at ≡ 0 = sym (length-drop c.at s) ∙ ap length e in omega arith) k
      go (b ∷ rest) e ih = found (next_piece settings c.memory (drop c.at s)) refl (rw e (piece_recognised settings c.memory b rest))
        where
          found : (r : Option Piece) → next_piece settings c.memory (drop c.at s) ≡ r → Recognises r → Tiled (length s) c.at (left settings s c)
          found (Some p) q r =
              let n : length (drop c.at s) ≡ suc (length rest) = ap length e in
              on p (record { at = c.at + p.len; memory = remembered c.memory p.kind (take p.len (drop c.at s)) p.alias })
              (moved settings s c p q (omega (arith, n, length-drop c.at s))) refl ih
          found None q r = absurd r

  pub tiled : Tiled (length s) 0 (tokens settings s)
  unfolding tokens
  tiled = from_cursor (length s) (record { at = 0; memory = start }) (omega arith) (omega arith)
