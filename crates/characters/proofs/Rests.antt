-- The rest of a list, as a call gets it: a part up to the end.
-- Assumes nothing.
use Prim.Native.Nat.{ℕ, ◌-◌}
use native.Mathlib.Nat.{le_refl}
use mathlib.Core.Path.{◌≡◌}
use mathlib.Core.List.{List}
use lib.ListN.{length, drop, take, length-drop}
use lib.Seq.{take_all}

pub part_end : (s : List ℕ) (k : ℕ) → take (length s - k) (drop k s) ≡ drop k s
part_end s k = take_all (length s - k) (drop k s) (rw length-drop (le_refl (length s - k)))
