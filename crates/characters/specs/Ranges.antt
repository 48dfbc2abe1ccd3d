-- A class of code points as a list of ranges, each its first and its last code point.
use Rattle.std.specs.Prelude.{ℕ, suc, Bool, true, false, ◌&&◌, ◌||◌, List, [], ◌∷◌, leb}

-- first to last, both of them within
unfoldable pub within : ℕ → ℕ → ℕ → Bool
within first last c = leb first c && leb c last

-- c lies in one of the ranges
unfoldable pub in_ranges : List (ℕ × ℕ) → ℕ → Bool
in_ranges [] c = false
in_ranges (range ∷ ranges) c = within range.0 range.1 c || in_ranges ranges c

-- the ranges are in order and apart, and none starts below `least`
unfoldable pub ordered : ℕ → List (ℕ × ℕ) → Bool
ordered least [] = true
ordered least (range ∷ ranges) = leb least range.0 && (leb range.0 range.1 && ordered (suc range.1) ranges)
