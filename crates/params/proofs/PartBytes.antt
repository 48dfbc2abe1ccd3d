-- A part handed back, or put into an output.
-- Assumes nothing.
use Prim.Native.Nat.{ℕ, ◌+◌, ◌≤◌}
use mathlib.Core.Path.{◌≡◌}
use mathlib.Core.Bool.{true}
use mathlib.Core.List.{List}
use lib.ListN.{length}
use Rattle.params.specs.declared.Part.{Part}
use Rattle.tokenizer.specs.declared.Token.{Token}
use Rattle.params.specs.Sheet.{is_sheet}
use Rattle.params.specs.Filled.{stands_for, part_length}
use Rattle.params.specs.Inner.Inside.{PartInside}
use Rattle.params.proofs.TokensInside.{stands_inside}

-- what stands for a token, put
module _ (s sheet output : List ℕ) (at : ℕ) (index : ℕ) (t : Token) (p : Part) (e : p ≡ stands_for s sheet index t) where
  module _ (good : is_sheet sheet ≡ true) (h : t.start + t.len ≤ length s) where
    pub for_inside : PartInside s sheet p
    for_inside = rw e (stands_inside s sheet good t h index)

  pub for_room : at + part_length (stands_for s sheet index t) ≤ length output → at + part_length p ≤ length output
  for_room k = rw e k
