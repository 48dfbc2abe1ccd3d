-- Connector punctuation: the category Pc: those of the crate unicode_categories 0.1.1. Made by tools/tables.rs.
-- 6 ranges, 10 code points; each range is its first and its last code point.
use Rattle.std.specs.Prelude.{ℕ, List, [], ◌∷◌}

unfoldable pub connector : List (ℕ × ℕ)
connector =
    (0x005F, 0x005F)
    ∷ (0x203F, 0x2040)
    ∷ (0x2054, 0x2054)
    ∷ (0xFE33, 0xFE34)
    ∷ (0xFE4D, 0xFE4F)
    ∷ (0xFF3F, 0xFF3F)
    ∷ []
