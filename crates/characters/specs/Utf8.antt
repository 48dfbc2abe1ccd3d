-- UTF-8 as the Unicode Standard defines it: a text is well formed where it is made of the byte sequences of table 3-7.
use Rattle.std.specs.Prelude.{ℕ, zero, suc, Bool, true, false, cond, ◌&&◌, List, [], ◌∷◌, Option, Some, None, leb, ltb, length}
use Rattle.characters.specs.Ranges.{within}

-- Table 3-7. A row has the bytes, from first to last, that may stand at each place of a sequence.
unfoldable pub table_3_7 : List (List (ℕ × ℕ))
table_3_7 =
    ((0x00, 0x7F) ∷ [])
    ∷ ((0xC2, 0xDF) ∷ (0x80, 0xBF) ∷ [])
    ∷ ((0xE0, 0xE0) ∷ (0xA0, 0xBF) ∷ (0x80, 0xBF) ∷ [])
    ∷ ((0xE1, 0xEC) ∷ (0x80, 0xBF) ∷ (0x80, 0xBF) ∷ [])
    ∷ ((0xED, 0xED) ∷ (0x80, 0x9F) ∷ (0x80, 0xBF) ∷ [])
    ∷ ((0xEE, 0xEF) ∷ (0x80, 0xBF) ∷ (0x80, 0xBF) ∷ [])
    ∷ ((0xF0, 0xF0) ∷ (0x90, 0xBF) ∷ (0x80, 0xBF) ∷ (0x80, 0xBF) ∷ [])
    ∷ ((0xF1, 0xF3) ∷ (0x80, 0xBF) ∷ (0x80, 0xBF) ∷ (0x80, 0xBF) ∷ [])
    ∷ ((0xF4, 0xF4) ∷ (0x80, 0x8F) ∷ (0x80, 0xBF) ∷ (0x80, 0xBF) ∷ [])
    ∷ []

-- a sequence of the row stands at the start of the bytes
unfoldable pub fits_row : List (ℕ × ℕ) → List ℕ → Bool
fits_row [] bytes = true
fits_row (range ∷ row) [] = false
fits_row (range ∷ row) (b ∷ bytes) = within range.0 range.1 b && fits_row row bytes

-- the length of the sequence at the start of the bytes, by the first row that has it; 0 where no row does
unfoldable pub sequence_in : List (List (ℕ × ℕ)) → List ℕ → ℕ
sequence_in [] bytes = 0
sequence_in (row ∷ rows) bytes = cond (fits_row row bytes) (length row) (sequence_in rows bytes)

unfoldable pub sequence_length : List ℕ → ℕ
sequence_length bytes = sequence_in table_3_7 bytes

-- how many bytes are filled by well-formed sequences, one after the other from the start on, where the first `passed`
-- bytes belong to a sequence that has been seen
unfoldable pub well_formed_from : ℕ → List ℕ → ℕ
well_formed_from passed [] = 0
well_formed_from (suc passed) (b ∷ bytes) = suc (well_formed_from passed bytes)
well_formed_from zero (b ∷ bytes) = elim (sequence_length (b ∷ bytes)) [ zero ↦ 0 | suc n ↦ suc (well_formed_from n bytes) ]

-- the start of the first ill-formed sequence
unfoldable pub first_ill_formed : List ℕ → Option ℕ
first_ill_formed bytes = cond (ltb (well_formed_from 0 bytes) (length bytes)) (Some (well_formed_from 0 bytes)) None

unfoldable pub well_formed : List ℕ → Bool
well_formed bytes = leb (length bytes) (well_formed_from 0 bytes)
