-- Bytes written as text that one can read.
use Rattle.std.specs.Prelude.{ℕ, List, [], ◌∷◌}
use Prim.Native.Char.{Char, code}
use Prim.Native.String.{String}
use Prim.Native.String as S

-- one ASCII character
abbrev pub byte : Char → ℕ
byte c = code c

-- the bytes of an ASCII text
abbrev pub bytes : String → List ℕ
bytes S.[] = []
bytes (S.◌∷◌ c s) = code c ∷ bytes s
