-- The phrases of `get_top_level_reserved_token`, by their first letter.
use Rattle.std.specs.Prelude.{ℕ, List, [], ◌∷◌, ◌++◌}
use Rattle.recognisers.specs.Text.{bytes}
use Rattle.reserved.specs.Phrases.{Phrase, phrase, phrase_if_exists, each}

unfoldable pub creatable : List (List ℕ)
creatable =
    bytes "AGGREGATE"
    ∷ bytes "FUNCTION"
    ∷ bytes "LANGUAGE"
    ∷ bytes "PROCEDURE"
    ∷ bytes "RULE"
    ∷ bytes "TRIGGER"
    ∷ bytes "VIEW"
    ∷ []

unfoldable pub alterable_or_droppable : List (List ℕ)
alterable_or_droppable = creatable ++ bytes "TABLE" ∷ bytes "INDEX" ∷ []

-- each of these behind DROP, with IF EXISTS behind it or not
unfoldable pub each_dropped : List (List ℕ) → List Phrase
each_dropped [] = []
each_dropped (last ∷ lasts) = phrase_if_exists (bytes "DROP " ++ last) ∷ each_dropped lasts

unfoldable pub top_level_phrases : List Phrase
top_level_phrases =
    phrase (bytes "AFTER") ∷ each (bytes "ALTER ") alterable_or_droppable
    ++ each (bytes "CREATE OR REPLACE ") creatable
    ++ each (bytes "CREATE ") creatable
    ++ phrase (bytes "CREATE UNIQUE INDEX")
    ∷ phrase (bytes "CREATE INDEX")
    ∷ phrase (bytes "CREATE UNLOGGED TABLE")
    ∷ phrase (bytes "CREATE GLOBAL TEMPORARY TABLE")
    ∷ phrase (bytes "CREATE GLOBAL TEMP TABLE")
    ∷ phrase (bytes "CREATE GLOBAL TABLE")
    ∷ phrase (bytes "CREATE LOCAL TEMPORARY TABLE")
    ∷ phrase (bytes "CREATE LOCAL TEMP TABLE")
    ∷ phrase (bytes "CREATE LOCAL TABLE")
    ∷ phrase (bytes "CREATE TABLE")
    ∷ phrase (bytes "DELETE FROM")
    ∷ each_dropped alterable_or_droppable
    ++ phrase (bytes "EXCEPT")
    ∷ phrase (bytes "FETCH FIRST")
    ∷ phrase (bytes "FROM")
    ∷ phrase (bytes "FOR UPDATE")
    ∷ phrase (bytes "FOR NO KEY UPDATE")
    ∷ phrase (bytes "FOR SHARE")
    ∷ phrase (bytes "FOR KEY SHARE")
    ∷ phrase (bytes "GROUP BY")
    ∷ phrase (bytes "GO")
    ∷ phrase (bytes "HAVING")
    ∷ phrase (bytes "INSERT INTO")
    ∷ phrase (bytes "INSERT")
    ∷ phrase (bytes "LIMIT")
    ∷ phrase (bytes "MODIFY")
    ∷ phrase (bytes "MERGE INTO")
    ∷ phrase (bytes "ORDER BY")
    ∷ phrase (bytes "ON CONFLICT")
    ∷ phrase (bytes "PARTITION BY")
    ∷ phrase (bytes "RETURNING")
    ∷ phrase (bytes "SELECT DISTINCT")
    ∷ phrase (bytes "SELECT ALL")
    ∷ phrase (bytes "SELECT")
    ∷ phrase (bytes "SET CURRENT SCHEMA")
    ∷ phrase (bytes "SET SCHEMA")
    ∷ phrase (bytes "SET")
    ∷ phrase (bytes "UPDATE")
    ∷ phrase (bytes "USING")
    ∷ phrase (bytes "VALUES")
    ∷ phrase (bytes "WHERE")
    ∷ phrase (bytes "WINDOW")
    ∷ []
