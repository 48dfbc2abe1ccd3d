-- For inner contracts alone: ranges of letters that Alphabetic has whole.
use Rattle.std.specs.Prelude.{ℕ, List, [], ◌∷◌}

-- Latin, Greek, Cyrillic
unfoldable pub western_letters : List (ℕ × ℕ)
western_letters = (0xC0, 0xD6) ∷ (0xD8, 0xF6) ∷ (0xF8, 0x2C1) ∷ (0x3A3, 0x3F5) ∷ (0x3F7, 0x481) ∷ []

-- kana, Chinese, Korean
unfoldable pub eastern_letters : List (ℕ × ℕ)
eastern_letters = (0x3041, 0x3096) ∷ (0x30A1, 0x30FA) ∷ (0x4E00, 0xA48C) ∷ (0xAC00, 0xD7A3) ∷ []
