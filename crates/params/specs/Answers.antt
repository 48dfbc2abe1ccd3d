-- What a caller of `fill` and of `lookup` is told, and what becomes of all that is lent.
use Rattle.std.specs.Prelude.{ℕ, cond, List, [], ◌∷◌, drop, Option, Some, None, Result, Ok, Err}
use Rattle.std.specs.Borrow.{Bor}
use Rattle.calls.specs.declared.Refusal.TheVariants as R
use Rattle.calls.specs.declared.Settings.{Settings}
use Rattle.calls.specs.Checks.{checked, accepted_or, told_number, told_detail}
use Rattle.calls.specs.Texts.{call_answer, call_output}
use Rattle.tokenizer.specs.declared.Token.{Token}
use Rattle.tokenizer.specs.Tokens.{tokens}
use Rattle.params.specs.declared.Found.{Found}
use Rattle.params.specs.declared.Part.{Part}
use Rattle.params.specs.declared.Part.TheVariants as P
use Rattle.params.specs.Sheet.{params_of, is_sheet}
use Rattle.params.specs.Nought.{first_nought}
use Rattle.params.specs.Filled.{stands_for, index_after, part_bytes, part_length, part_start, filled}
use Rattle.calls.specs.declared.Refusal.{Refusal}

-- what both calls refuse: a malformed sheet, once the statement and the settings are accepted
abbrev pub with_sheet : List ℕ → Result Settings Refusal → Result Settings Refusal
with_sheet sheet (Ok settings) = cond (is_sheet sheet) (Ok settings) (Err R.Sheet)
with_sheet sheet (Err refusal) = Err refusal

unfoldable pub checked_with : List ℕ → ℕ → ℕ → ℕ → List ℕ → Result Settings Refusal
checked_with s dialect joins named sheet = with_sheet sheet (checked dialect joins named s)

-- ---- fill

-- this, where no place nought stands in the way
abbrev pub unless_nought : {A : Type 0} → A → Option ℕ → Result A Refusal
unless_nought a (Some start) = Err (R.PlaceNought start)
unless_nought a None = Ok a

-- fill refuses it behind all that a lookup refuses
abbrev pub with_places : List ℕ → List ℕ → Result Settings Refusal → Result Settings Refusal
with_places s sheet (Ok settings) = unless_nought settings (first_nought (params_of sheet) (tokens settings s))
with_places s sheet (Err refusal) = Err refusal

unfoldable pub fill_checked : List ℕ → ℕ → ℕ → ℕ → List ℕ → Result Settings Refusal
fill_checked s dialect joins named sheet = with_places s sheet (checked_with s dialect joins named sheet)

-- the answer, for a statement, the settings as numbers, a sheet and an output of so many bytes
abbrev pub fill_answer : List ℕ → ℕ → ℕ → ℕ → List ℕ → ℕ → Result ℕ Refusal
fill_answer s dialect joins named sheet room = call_answer (λ settings. filled settings s sheet) room (fill_checked s dialect joins named sheet)

-- the whole output afterwards
abbrev pub fill_output : List ℕ → ℕ → ℕ → ℕ → List ℕ → List ℕ → List ℕ
fill_output s dialect joins named sheet output = call_output (λ settings. filled settings s sheet) output (fill_checked s dialect joins named sheet)

-- ---- lookup

-- the empty start of the statement, and the counter kept
unfoldable pub nothing_found : ℕ → Found
nothing_found counter = record { part = P.Statement 0 0; counter = counter }

-- what stands for a token, and the counter past it
abbrev pub found_for : List ℕ → List ℕ → ℕ → Token → Found
found_for s sheet counter t = record { part = stands_for s sheet counter t; counter = index_after s sheet counter t }

-- the same of the first of these tokens
unfoldable pub found_first : List ℕ → List ℕ → ℕ → List Token → Found
found_first s sheet counter [] = nothing_found counter
found_first s sheet counter (t ∷ ts) = found_for s sheet counter t

-- of the token at a place in the list
unfoldable pub found_at : Settings → List ℕ → List ℕ → ℕ → ℕ → Found
found_at settings s sheet place counter = found_first s sheet counter (drop place (tokens settings s))

-- the part handed back, of the statement or of the sheet, and the counter afterwards
unfoldable pub lookup_found : List ℕ → ℕ → ℕ → ℕ → List ℕ → ℕ → ℕ → Found
lookup_found s dialect joins named sheet place counter =
    accepted_or (λ settings. found_at settings s sheet place counter) (λ refusal. nothing_found counter) (checked_with s dialect joins named sheet)

abbrev pub lookup_part : List ℕ → ℕ → ℕ → ℕ → List ℕ → ℕ → ℕ → Part
lookup_part s dialect joins named sheet place counter = (lookup_found s dialect joins named sheet place counter).part

abbrev pub lookup_counter : List ℕ → ℕ → ℕ → ℕ → List ℕ → ℕ → ℕ → ℕ
lookup_counter s dialect joins named sheet place counter = (lookup_found s dialect joins named sheet place counter).counter

-- the bytes of the part
abbrev pub lookup_bytes : List ℕ → ℕ → ℕ → ℕ → List ℕ → ℕ → ℕ → List ℕ
lookup_bytes s dialect joins named sheet place counter = part_bytes s sheet (lookup_part s dialect joins named sheet place counter)

-- where it starts in memory, for a statement and a sheet that lie there
abbrev pub lookup_start : Bor (List ℕ) → ℕ → ℕ → ℕ → Bor (List ℕ) → ℕ → ℕ → ℕ × ℕ
lookup_start s dialect joins named sheet place counter =
    part_start s.ref_ptr sheet.ref_ptr (lookup_part s.now dialect joins named sheet.now place counter)

-- the number, and the detail beside it
unfoldable pub lookup_number : List ℕ → ℕ → ℕ → ℕ → List ℕ → ℕ
lookup_number s dialect joins named sheet = told_number (checked_with s dialect joins named sheet)

unfoldable pub lookup_detail : List ℕ → ℕ → ℕ → ℕ → List ℕ → ℕ → ℕ → ℕ
lookup_detail s dialect joins named sheet place counter =
    told_detail (part_length (lookup_part s dialect joins named sheet place counter)) (checked_with s dialect joins named sheet)
