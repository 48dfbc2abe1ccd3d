-- The phrases of `get_join_token`.
use Rattle.std.specs.Prelude.{List, [], ◌∷◌}
use Rattle.recognisers.specs.Text.{bytes}
use Rattle.reserved.specs.Phrases.{Phrase, phrase}

-- the standard joins, the warehouses’ own, then ASOF, PASTE and the GLOBAL ones
unfoldable pub join_phrases : List Phrase
join_phrases =
    phrase (bytes "JOIN")
    ∷ phrase (bytes "INNER JOIN")
    ∷ phrase (bytes "LEFT JOIN")
    ∷ phrase (bytes "RIGHT JOIN")
    ∷ phrase (bytes "FULL JOIN")
    ∷ phrase (bytes "CROSS JOIN")
    ∷ phrase (bytes "LEFT OUTER JOIN")
    ∷ phrase (bytes "RIGHT OUTER JOIN")
    ∷ phrase (bytes "FULL OUTER JOIN")
    ∷ phrase (bytes "INNER ANY JOIN")
    ∷ phrase (bytes "LEFT ANY JOIN")
    ∷ phrase (bytes "RIGHT ANY JOIN")
    ∷ phrase (bytes "ANY JOIN")
    ∷ phrase (bytes "SEMI JOIN")
    ∷ phrase (bytes "LEFT SEMI JOIN")
    ∷ phrase (bytes "RIGHT SEMI JOIN")
    ∷ phrase (bytes "LEFT ANTI JOIN")
    ∷ phrase (bytes "RIGHT ANTI JOIN")
    ∷ phrase (bytes "ASOF JOIN")
    ∷ phrase (bytes "LEFT ASOF JOIN")
    ∷ phrase (bytes "PASTE JOIN")
    ∷ phrase (bytes "GLOBAL INNER JOIN")
    ∷ phrase (bytes "GLOBAL LEFT JOIN")
    ∷ phrase (bytes "GLOBAL RIGHT JOIN")
    ∷ phrase (bytes "GLOBAL FULL JOIN")
    ∷ []
