-- A part's place in bytes: start and length, two 32-bit words, the lowest byte first.
use Rattle.std.specs.Prelude.{ℕ, List, [], ◌∷◌, ◌++◌}
use Rattle.calls.specs.LittleEndian.{le32}
use Rattle.script.specs.declared.Part.{Part}

-- the bytes of a place
abbrev pub place_bytes : ℕ
place_bytes = 8

unfoldable pub place_of : Part → List ℕ
place_of p = le32 p.start ++ le32 p.len

unfoldable pub places_of : List Part → List ℕ
places_of [] = []
places_of (p ∷ ps) = place_of p ++ places_of ps
