-- What an input has: a sheet's length in 4 bytes, so many bytes of sheet, and a statement up to the end. Where there are fewer
-- than 4 bytes, all of them are the sheet.
use Rattle.std.specs.Prelude.{◌≡◌, ℕ, List, [], Option, Some, IfSome, cond, nat_lt, length, take, drop}
use Rattle.calls.specs.LittleEndian.{number_at}

abbrev pub sheet_of : List ℕ → List ℕ
sheet_of input = cond (nat_lt (length input) 4) input (take (number_at 4 input 0) (drop 4 input))

abbrev pub statement_of : List ℕ → List ℕ
statement_of input = cond (nat_lt (length input) 4) [] (drop (number_at 4 input 0) (drop 4 input))

-- known bytes lose their first n, or all
abbrev pub Skips : Option (List ℕ) → Option (List ℕ) → ℕ → Type 0
Skips old new n = IfSome old (λ xs. new ≡ Some (drop n xs))
