-- The number of each refusal, and the detail beside it. Number 0 is done: the detail is then the call's own.
use Rattle.std.specs.Prelude.{ℕ}
use Rattle.calls.specs.declared.Refusal.{Refusal}
use Rattle.calls.specs.declared.Refusal.TheVariants.{Overlong, NotUtf8, Setting, TableFull, Sheet, OutputFull, PartsFull, PlaceNought}

abbrev pub refusal_number : Refusal → ℕ
refusal_number (Overlong n) = 1
refusal_number (NotUtf8 n) = 2
refusal_number Setting = 3
refusal_number (TableFull n) = 4
refusal_number Sheet = 5
refusal_number (OutputFull n) = 6
refusal_number (PartsFull n) = 7
refusal_number (PlaceNought n) = 8

abbrev pub refusal_detail : Refusal → ℕ
refusal_detail (Overlong n) = n
refusal_detail (NotUtf8 n) = n
refusal_detail Setting = 0
refusal_detail (TableFull n) = n
refusal_detail Sheet = 0
refusal_detail (OutputFull n) = n
refusal_detail (PartsFull n) = n
refusal_detail (PlaceNought n) = n
