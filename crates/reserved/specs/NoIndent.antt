-- The phrases of `get_top_level_reserved_token_no_indent`.
use Rattle.std.specs.Prelude.{List, [], ◌∷◌}
use Rattle.recognisers.specs.Text.{bytes}
use Rattle.reserved.specs.Phrases.{Phrase, phrase}

-- in the order of the Rust
unfoldable pub no_indent_phrases : List Phrase
no_indent_phrases =
    phrase (bytes "BEGIN")
    ∷ phrase (bytes "DECLARE")
    ∷ phrase (bytes "INTERSECT ALL")
    ∷ phrase (bytes "INTERSECT")
    ∷ phrase (bytes "MINUS")
    ∷ phrase (bytes "UNION ALL")
    ∷ phrase (bytes "UNION")
    ∷ phrase (bytes "WITH")
    ∷ phrase (bytes "$$")
    ∷ []
