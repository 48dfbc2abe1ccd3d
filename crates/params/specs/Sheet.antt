-- The value sheet: kind, count and lengths first, then the bodies, each entry's name before its value.
use Rattle.std.specs.Prelude.{ℕ, zero, suc, ◌+◌, ◌*◌, Bool, true, cond, ◌&&◌, ◌||◌, List, leb, eqb, length, take, drop, get_or}
use Rattle.characters.specs.Utf8.{well_formed}
use Rattle.calls.specs.LittleEndian.{number_at}
use Rattle.params.specs.declared.Lengths.{Lengths}
use Rattle.params.specs.declared.Place.{Place}
use Rattle.params.specs.declared.QueryParams.{QueryParams}
use Rattle.params.specs.declared.QueryParams.TheVariants.{None, Named, Indexed}

unfoldable pub kind_of : List ℕ → ℕ
kind_of sheet = get_or sheet 0 0

-- kind 1 is named, 2 indexed, 0 none
unfoldable pub params_of : List ℕ → QueryParams
params_of sheet = cond (eqb (kind_of sheet) 1) Named (cond (eqb (kind_of sheet) 2) Indexed None)

unfoldable pub count_of : List ℕ → ℕ
count_of sheet = number_at 2 sheet 1

unfoldable pub is_named : List ℕ → Bool
is_named sheet = eqb (kind_of sheet) 1

-- how many bytes tell an entry's lengths
unfoldable pub width : List ℕ → ℕ
width sheet = cond (is_named sheet) 4 2

-- the lengths of the entry at a place; only a named sheet tells a name's
unfoldable pub lengths_at : List ℕ → Place → Lengths
lengths_at sheet p =
    cond (is_named sheet) (record { name = number_at 2 sheet p.lengths; value = number_at 2 sheet (p.lengths + 2) })
    (record { name = 0; value = number_at 2 sheet p.lengths })

-- the place of the entry behind
unfoldable pub past : List ℕ → Place → Place
past sheet p =
    record {
      entry = p.entry + 1;
      lengths = p.lengths + width sheet;
      body = p.body + (lengths_at sheet p).name + (lengths_at sheet p).value;
    }

-- where the lengths and the bodies of entry number n start, counted from 0
unfoldable pub place_of : List ℕ → ℕ → Place
place_of sheet zero = record { entry = 0; lengths = 3; body = 3 + count_of sheet * width sheet }
place_of sheet (suc n) = past sheet (place_of sheet n)

-- the bodies at a place
unfoldable pub name_at : List ℕ → Place → List ℕ
name_at sheet p = take (lengths_at sheet p).name (drop p.body sheet)

unfoldable pub value_at : List ℕ → Place → List ℕ
value_at sheet p = take (lengths_at sheet p).value (drop (p.body + (lengths_at sheet p).name) sheet)

-- the bodies of entry number n
unfoldable pub name_of : List ℕ → ℕ → List ℕ
name_of sheet n = name_at sheet (place_of sheet n)

unfoldable pub value_of : List ℕ → ℕ → List ℕ
value_of sheet n = value_at sheet (place_of sheet n)

-- every body of the first n entries is UTF-8
unfoldable pub bodies_are_utf8 : List ℕ → ℕ → Bool
bodies_are_utf8 sheet zero = true
bodies_are_utf8 sheet (suc n) = bodies_are_utf8 sheet n && (well_formed (name_of sheet n) && well_formed (value_of sheet n))

-- the last body ends where the sheet does
unfoldable pub fills_exactly : List ℕ → Bool
fills_exactly sheet = eqb (place_of sheet (count_of sheet)).body (length sheet)

-- 3 to 65,536 bytes
unfoldable pub is_sheet_length : ℕ → Bool
is_sheet_length n = leb 3 n && leb n 65536

-- kinds 0 to 2; kind 0 has count 0
unfoldable pub is_kind_and_count : List ℕ → Bool
is_kind_and_count sheet = leb (kind_of sheet) 2 && (leb 1 (kind_of sheet) || eqb (count_of sheet) 0)

-- a sheet that is not malformed
unfoldable pub is_sheet : List ℕ → Bool
is_sheet sheet = is_sheet_length (length sheet) && (is_kind_and_count sheet && (fills_exactly sheet && bodies_are_utf8 sheet (count_of sheet)))
