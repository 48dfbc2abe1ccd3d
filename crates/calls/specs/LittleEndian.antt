-- Numbers as bytes, the lowest first.
use Rattle.std.specs.Prelude.{ℕ, zero, suc, ◌+◌, ◌*◌, ◌/◌, ◌%◌, List, [], ◌∷◌, ◌++◌, get_or}

-- the lowest bytes of a number, so many
unfoldable pub low_bytes : ℕ → ℕ → List ℕ
low_bytes zero n = []
low_bytes (suc width) n = n % 256 ∷ low_bytes width (n / 256)

-- the number that so many bytes tell, from a place on
unfoldable pub number_at : ℕ → List ℕ → ℕ → ℕ
number_at zero s at = 0
number_at (suc width) s at = get_or s at 0 + 256 * number_at width s (at + 1)

-- a number of 32 bits
abbrev pub le32 : ℕ → List ℕ
le32 n = low_bytes 4 n

-- such numbers one behind the other
unfoldable pub words_of : List ℕ → List ℕ
words_of [] = []
words_of (n ∷ ns) = le32 n ++ words_of ns
