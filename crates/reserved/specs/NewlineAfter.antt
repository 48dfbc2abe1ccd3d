-- The phrase of `get_newline_after_reserved_token`.
use Rattle.std.specs.Prelude.{List, [], ◌∷◌}
use Rattle.recognisers.specs.Text.{bytes}
use Rattle.reserved.specs.Phrases.{Phrase, phrase}

-- there is one
unfoldable pub newline_after_phrases : List Phrase
newline_after_phrases =
    phrase (bytes "DO UPDATE SET")
    ∷ []
