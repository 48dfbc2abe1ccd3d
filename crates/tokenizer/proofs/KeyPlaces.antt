-- A key's places, as a `match` on the key has them.
-- Assumes nothing.
use Rattle.std.proofs.Common.{Option, Some}
use Prim.Native.Nat.{ℕ, ◌+◌, ◌^◌, ◌<◌}
use mathlib.Core.Path.{◌≡◌}
use mir.Syntax.{w64}
use mir.Val.{Fits}
use Rattle.recognisers.specs.declared.Key.{Key}
use Rattle.recognisers.specs.declared.Key.TheVariants.{Named, Escaped, ZeroIndexed, OneIndexed}
use Rattle.recognisers.specs.Inner.KeyStart.{key_start}
use Rattle.tokenizer.specs.Tokens.{placed}

module _ (at : ℕ) (key : Option Key) where
  module _ (start len : ℕ) where
    pub named_fits : key ≡ Some (Named start len) → at + key_start key < 2 ^ 64 → Fits w64 (at + start)
    named_fits e h = record { fits = rw e at h }

    pub escaped_fits : key ≡ Some (Escaped start len) → at + key_start key < 2 ^ 64 → Fits w64 (at + start)
    escaped_fits e h = record { fits = rw e at h }

    pub placed_named : key ≡ Some (Named start len) → Some (Named (at + start) len) ≡ placed at key
    placed_named e = rw e

    pub placed_escaped : key ≡ Some (Escaped start len) → Some (Escaped (at + start) len) ≡ placed at key
    placed_escaped e = rw e

  pub placed_zero : (n : ℕ) → key ≡ Some (ZeroIndexed n) → Some (ZeroIndexed n) ≡ placed at key
  placed_zero n e = rw e

  pub placed_one : (n : ℕ) → key ≡ Some (OneIndexed n) → Some (OneIndexed n) ≡ placed at key
  placed_one n e = rw e
