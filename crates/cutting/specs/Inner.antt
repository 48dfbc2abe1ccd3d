-- For inner contracts alone: a part as its place tells it.
use Rattle.std.specs.Prelude.{ℕ, List}
use Rattle.calls.specs.LittleEndian.{number_at}
use Rattle.script.specs.declared.Part.{Part}

abbrev pub part_at : List ℕ → Part
part_at place = record { start = number_at 4 place 0; len = number_at 4 place 4 }
