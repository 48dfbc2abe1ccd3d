-- For inner contracts alone: the most that a filled text can have, known before the statement is read.
use Rattle.std.specs.Prelude.{ℕ, zero, suc, ◌*◌, List, length, max}
use Rattle.params.specs.Sheet.{count_of, lengths_at, place_of}

-- the length of the longest value among the first n entries, and 1 where none is longer
unfoldable pub longest_of : List ℕ → ℕ → ℕ
longest_of sheet zero = 1
longest_of sheet (suc n) = max (longest_of sheet n) (lengths_at sheet (place_of sheet n)).value

unfoldable pub longest_value : List ℕ → ℕ
longest_value sheet = longest_of sheet (count_of sheet)

-- each token has a byte at least, and what stands for it is no longer than the token or than the longest value
unfoldable pub most_filled : List ℕ → List ℕ → ℕ
most_filled s sheet = length s * longest_value sheet
