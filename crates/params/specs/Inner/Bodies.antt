-- For an inner contract alone: the bodies of an entry, as they are looked at before the bytes are known to be a sheet.
use Rattle.std.specs.Prelude.{ℕ, ◌+◌, Bool, ◌&&◌, List, leb, length, take, drop}
use Rattle.characters.specs.Utf8.{well_formed}
use Rattle.params.specs.declared.Lengths.{Lengths}

-- two bodies of these lengths, one behind the other from a place on, lie inside and are UTF-8
abbrev pub are_bodies : List ℕ → ℕ → Lengths → Bool
are_bodies bytes start l =
    leb (start + l.name + l.value) (length bytes) && (well_formed (take l.name (drop start bytes)) && well_formed (take l.value (drop (start + l.name) bytes)))
