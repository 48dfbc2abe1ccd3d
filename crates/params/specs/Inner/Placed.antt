-- For inner contracts alone: what stands for a token, under the counter that is carried along.
use Rattle.std.specs.Prelude.{ℕ, List, Option}
use Rattle.params.specs.declared.Part.{Part}
use Rattle.params.specs.declared.getting.Params.{Params}
use Rattle.tokenizer.specs.declared.placed.PlacedToken.{PlacedToken}
use Rattle.params.specs.Get.{taken}
use Rattle.params.specs.Filled.{stands_for, bytes_for}
use Rattle.params.specs.Inner.Entries.{numbered}

-- the value of the entry that a placeholder takes
abbrev pub value_for : Params → PlacedToken → Option Part
value_for params t = numbered params.sheet.headed.bytes.now (taken t.statement.now params.sheet.headed.bytes.now params.index t.token.key)

abbrev pub part_for : Params → PlacedToken → Part
part_for params t = stands_for t.statement.now params.sheet.headed.bytes.now params.index t.token

abbrev pub bytes_to_put : Params → PlacedToken → List ℕ
bytes_to_put params t = bytes_for t.statement.now params.sheet.headed.bytes.now params.index t.token
