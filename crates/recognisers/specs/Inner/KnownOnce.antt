-- What hints say of a text has one proof, so that a struct may keep it in a ghost field.
-- Assumes nothing.
use Prim.Native.Nat.{ℕ}
use mathlib.Core.List.{List}
use Rattle.std.proofs.Props.{props}
use Rattle.recognisers.specs.declared.hints.Hints.{Hints}
use Rattle.recognisers.specs.Inner.Known.{Truthful}

pub truthful_once : (hints : Hints) (s : List ℕ) → IsProp (Truthful hints s)
unfolding Truthful
truthful_once hints s = Prim.hlevel props
