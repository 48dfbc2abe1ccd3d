-- The phrases of `get_newline_reserved_token`: the operators, then the actions of ALTER TABLE.
use Rattle.std.specs.Prelude.{List, [], ◌∷◌}
use Rattle.recognisers.specs.Text.{bytes}
use Rattle.reserved.specs.Phrases.{Phrase, phrase}

-- in the order of the Rust
unfoldable pub newline_phrases : List Phrase
newline_phrases =
    phrase (bytes "CROSS APPLY")
    ∷ phrase (bytes "OUTER APPLY")
    ∷ phrase (bytes "AND")
    ∷ phrase (bytes "OR")
    ∷ phrase (bytes "XOR")
    ∷ phrase (bytes "WHEN")
    ∷ phrase (bytes "ELSE")
    ∷ phrase (bytes "ADD")
    ∷ phrase (bytes "DROP")
    ∷ phrase (bytes "ALTER")
    ∷ phrase (bytes "VALIDATE")
    ∷ phrase (bytes "ENABLE")
    ∷ phrase (bytes "DISABLE")
    ∷ []
