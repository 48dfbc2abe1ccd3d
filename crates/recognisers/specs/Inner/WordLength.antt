-- For inner contracts alone: the word at the start of a text, as far as it is ASCII.
use Rattle.std.specs.Prelude.{ℕ, List}
use Rattle.characters.specs.Ascii.{is_ascii_word}
use Rattle.recognisers.specs.Taking.{count}

-- how long it is
unfoldable pub word_length : List ℕ → ℕ
word_length s = count is_ascii_word s
