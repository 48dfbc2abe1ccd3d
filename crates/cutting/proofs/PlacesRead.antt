-- A place reads back as it was written.
-- Assumes nothing.
use Prim.Native.Nat.{◌^◌, ◌<◌}
use native.Mathlib.Omega.{arith}
use mathlib.Core.Path.{◌≡◌}
use Rattle.calls.specs.LittleEndian.{low_bytes, number_at}
use Rattle.script.specs.declared.Part.{Part}
use Rattle.script.specs.Places.{place_of}

module _ (p : Part) where
  pub start_read : p.start < 2 ^ 32 → number_at 4 (place_of p) 0 ≡ p.start
  unfolding number_at place_of low_bytes
  start_read h = omega arith

  pub len_read : p.len < 2 ^ 32 → number_at 4 (place_of p) 4 ≡ p.len
  unfolding number_at place_of low_bytes
  len_read h = omega arith
