-- Bytes stored at a place, and more behind them.
-- Assumes nothing.
use Prim.Native.Nat.{ℕ, suc, ◌+◌, ◌-◌, ◌≤◌}
use native.Mathlib.Nat.{add-zero, add-suc, suc-add}
use native.Mathlib.Omega.{arith}
use mathlib.Core.Path.{◌≡◌, sym, ap, ◌∙◌}
use mathlib.Core.List.{List, [], ◌∷◌, ◌++◌, append_assoc}
use lib.ListN.{length, take, drop, set, length-append, length-drop}
use lib.Seq.{sets, sets-eq, length-take-le, take_at, drop-append-add, drop-drop}
use borrow.Rule.Slice.PartMut.{put_mid}

pub both_put : (vs ws table : List ℕ) (i : ℕ) → sets (sets table i vs) (i + length vs) ws ≡ sets table i (vs ++ ws)
both_put [] ws table i = rw add-zero
both_put (v ∷ vs) ws table i = rw (add-suc, ← suc-add) (both_put vs ws (set table i v) (suc i))

-- bytes put where the written part ends
pub append_put : (before vs table : List ℕ) (i : ℕ) → length before ≡ i → i + length vs ≤ length table → sets (before ++ drop i table) i vs ≡ (before ++ vs) ++ drop (i + length vs) table
append_put before vs table i e h =
    let n : length (before ++ drop i table) ≡ length table = rw (length-append, length-drop, e) (omega arith) in
    sets-eq vs (before ++ drop i table) i (omega arith)
    ∙ rw (take_at before (drop i table) i e)
    (ap (λ (l : List ℕ). (before ++ vs) ++ l)
    (rw (← e) (drop-append-add before (drop (length before) table) (length vs) ∙ drop-drop (length vs) (length before) table)))

-- bytes copied over a part that is as long
pub copy_put : (bytes output part : List ℕ) (at : ℕ) → at + length bytes ≤ length output → part ≡ bytes
    → put_mid at (at + length bytes - at) output part ≡ sets output at bytes
copy_put bytes output part at h e =
    let room : at + length bytes - at ≡ length bytes = omega arith in
    rw (e, room, drop-drop, ← append_assoc) (sym (sets-eq bytes output at h))

-- the part of a source that is copied
module _ (start len : ℕ) where
  pub back : start + len - start ≡ len
  back = omega arith

  pub part_length_lem : (source : List ℕ) → start + len ≤ length source → length (take len (drop start source)) ≡ len
  part_length_lem source h = length-take-le len (drop start source) (rw length-drop (omega arith))
