-- The character at the start of some bytes. On a well-formed text it is the scalar value and the length of the sequence
-- there (proofs/WellFormedSteps.antt). On any other bytes it is still one byte at least, and passes no byte that is no
-- continuation byte; its code point is then 0, which is in no class.
use Rattle.std.specs.Prelude.{ℕ, zero, suc, ◌+◌, ◌-◌, ◌*◌, ◌%◌, Bool, cond, List, [], ◌∷◌, ltb, eqb, take}
use Rattle.characters.specs.Ranges.{within}
use Rattle.characters.specs.declared.Character.{Character}

unfoldable pub is_continuation : ℕ → Bool
is_continuation b = within 0x80 0xBF b

-- how many continuation bytes a first byte calls for (table 3-6)
unfoldable pub continuations : ℕ → ℕ
continuations b = cond (ltb b 0xC0) 0 (cond (ltb b 0xE0) 1 (cond (ltb b 0xF0) 2 3))

-- of the first n bytes, how many are continuation bytes with nothing else before them
unfoldable pub continued : ℕ → List ℕ → ℕ
continued zero bytes = 0
continued (suc n) [] = 0
continued (suc n) (b ∷ bytes) = cond (is_continuation b) (suc (continued n bytes)) 0

-- the bits of a first byte that belong to the scalar value (table 3-6)
unfoldable pub first_bits : ℕ → ℕ
first_bits b = cond (ltb b 0x80) b (cond (ltb b 0xC0) 0 (cond (ltb b 0xE0) (b - 0xC0) (cond (ltb b 0xF0) (b - 0xE0) (b - 0xF0))))

-- the value with six bits more from each continuation byte
unfoldable pub with_bits : ℕ → List ℕ → ℕ
with_bits value [] = value
with_bits value (b ∷ bytes) = with_bits (value * 64 + b % 64) bytes

unfoldable pub character_length : List ℕ → ℕ
character_length [] = 0
character_length (b ∷ bytes) = suc (continued (continuations b) bytes)

unfoldable pub code_point : List ℕ → ℕ
code_point [] = 0
code_point (b ∷ bytes) =
    cond (eqb (continued (continuations b) bytes) (continuations b)) (with_bits (first_bits b) (take (continuations b) bytes)) 0

unfoldable pub character : List ℕ → Character
character bytes = record { code_point = code_point bytes; len = character_length bytes }
