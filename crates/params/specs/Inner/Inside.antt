-- For inner contracts and for that of `lookup_part`: what lies inside the statement or the sheet.
use Rattle.std.specs.Prelude.{ℕ, ◌+◌, ◌≤◌, List, length}
use Rattle.params.specs.declared.Part.{Part}
use Rattle.params.specs.declared.Part.TheVariants.{Statement, Sheet}

-- a part lies inside what it is a part of
abbrev pub PartInside : List ℕ → List ℕ → Part → Type 0
PartInside s sheet (Statement start len) = start + len ≤ length s
PartInside s sheet (Sheet start len) = start + len ≤ length sheet
