-- For inner contracts alone: the entries of a sheet as a list, each a name and the part that is its value, and which are taken.
use Rattle.std.specs.Prelude.{ℕ, zero, suc, ◌-◌, Bool, false, not, cond, ◌&&◌, List, [], ◌∷◌, ltb, eqb, Option, Some, None}
use Rattle.recognisers.specs.declared.Key.{Key}
use Rattle.recognisers.specs.declared.Key.TheVariants as K
use Rattle.params.specs.declared.Part.{Part}
use Rattle.params.specs.declared.QueryParams.{QueryParams}
use Rattle.params.specs.declared.QueryParams.TheVariants as Q
use Rattle.params.specs.declared.entries.Entry.{Entry}
use Rattle.params.specs.declared.entries.Entries.{Entries}
use Rattle.params.specs.Sheet.{count_of, place_of, name_of}
use Rattle.params.specs.Keys.{has_name, has_no_index}
use Rattle.params.specs.Get.{largest, value_part}

-- entry number n
unfoldable pub entry : List ℕ → ℕ → List ℕ × Part
entry sheet n = (name_of sheet n, value_part sheet (place_of sheet n))

-- so many entries from number n on
unfoldable pub entries_from : List ℕ → ℕ → ℕ → List (List ℕ × Part)
entries_from sheet n zero = []
entries_from sheet n (suc left) = entry sheet n ∷ entries_from sheet (suc n) left

unfoldable pub entries : List ℕ → List (List ℕ × Part)
entries sheet = entries_from sheet 0 (count_of sheet)

-- an entry as it is listed, and those that an iterator has left
abbrev pub seen : Entry → List ℕ × Part
seen e = (e.name.now, e.value)

unfoldable pub entries_left : Entries → List (List ℕ × Part)
entries_left es = entries_from es.sheet.headed.bytes.now es.place.entry (count_of es.sheet.headed.bytes.now - es.place.entry)

-- the value of entry number n
unfoldable pub numbered : List ℕ → ℕ → Option Part
numbered sheet n = cond (ltb n (count_of sheet)) (Some (value_part sheet (place_of sheet n))) None

-- the index that a key tells, from zero on; behind a one-indexed zero no sheet has an entry
abbrev pub index_told : Option Key → Option ℕ
index_told None = None
index_told (Some (K.Named start len)) = None
index_told (Some (K.Escaped start len)) = None
index_told (Some (K.ZeroIndexed n)) = Some n
index_told (Some (K.OneIndexed n)) = Some (cond (eqb n 0) largest (n - 1))

-- the key takes the next in turn, or would
abbrev pub turn_from : QueryParams → List ℕ → Option Key → Bool
turn_from Q.Named s key = false
turn_from Q.Indexed s key = not (has_name s key) && has_no_index key
turn_from Q.None s key = false
