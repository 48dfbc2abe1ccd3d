-- Runs of characters of one class.
use Rattle.std.specs.Prelude.{ℕ, zero, suc, Bool, cond, List, [], ◌∷◌}
use Rattle.characters.specs.declared.Class.{Class}
use Rattle.characters.specs.declared.Class.TheVariants.{Whitespace, Word, PlaceholderName}
use Rattle.characters.specs.Classes.{is_whitespace, is_word_character, is_placeholder_name_character}
use Rattle.characters.specs.Character.{continuations, continued, code_point}

unfoldable pub in_class : Class → ℕ → Bool
in_class Whitespace = is_whitespace
in_class Word = is_word_character
in_class PlaceholderName = is_placeholder_name_character

-- how many bytes the characters of the class take at the start, where the first `passed` bytes belong to a character that
-- has been seen
unfoldable pub run : (ℕ → Bool) → ℕ → List ℕ → ℕ
run class passed [] = 0
run class (suc passed) (b ∷ s) = suc (run class passed s)
run class zero (b ∷ s) = cond (class (code_point (b ∷ s))) (suc (run class (continued (continuations b) s) s)) 0
