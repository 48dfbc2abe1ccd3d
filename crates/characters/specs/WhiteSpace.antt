-- White_Space: rustc's, Unicode 17.0.0. Made by tools/tables.rs.
-- 10 ranges, 25 code points; each range is its first and its last code point.
use Rattle.std.specs.Prelude.{ℕ, List, [], ◌∷◌}

unfoldable pub white_space : List (ℕ × ℕ)
white_space =
    (0x0009, 0x000D)
    ∷ (0x0020, 0x0020)
    ∷ (0x0085, 0x0085)
    ∷ (0x00A0, 0x00A0)
    ∷ (0x1680, 0x1680)
    ∷ (0x2000, 0x200A)
    ∷ (0x2028, 0x2029)
    ∷ (0x202F, 0x202F)
    ∷ (0x205F, 0x205F)
    ∷ (0x3000, 0x3000)
    ∷ []
