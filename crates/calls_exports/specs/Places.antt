-- A part of the statement or of the sheet, in numbers.
use Rattle.std.specs.Prelude.{ℕ}
use Rattle.params.specs.declared.Part.{Part}
use Rattle.params.specs.declared.Part.TheVariants.{Statement, Sheet}

-- 0 the statement, 1 the sheet
abbrev pub source_of : Part → ℕ
source_of (Statement start len) = 0
source_of (Sheet start len) = 1

abbrev pub start_of : Part → ℕ
start_of (Statement start len) = start
start_of (Sheet start len) = start
