-- The alternatives of `get_top_level_reserved_token` nested as the Rust nests them, on the string that `get_uc_words` made.
-- There is no way back into `alt` and `opt`. Written out phrase by phrase they are `top_level_phrases`: proofs/UcArms.antt.
use Rattle.std.specs.Prelude.{ℕ, List, [], ◌∷◌, drop, Option, Some, None}
use Rattle.recognisers.specs.Text.{bytes}
use Rattle.recognisers.specs.Taking.{Taker, more, or, done, literal, end_of_word}
use Rattle.reserved.specs.TopLevel.{creatable, alterable_or_droppable}
use Rattle.reserved.specs.UcWords.{get_uc_words, opt, finalized}

pub data Choice : Type 0 where
  -- `alt` of words
  words : List (List ℕ) → Choice
  -- one after the other
  both : Choice → Choice → Choice
  -- `alt`
  either : Choice → Choice → Choice
  -- `opt`
  maybe : Choice → Choice

abbrev pub word : List ℕ → Choice
word w = words (w ∷ [])

-- what was taken, and a taker behind it
abbrev pub behind : Option ℕ → Taker → Taker
behind (Some n) then uc = more n (then (drop n uc))
behind None then uc = None

-- the first of the words that stands there
unfoldable pub first_word : List (List ℕ) → Taker
first_word [] uc = None
first_word (w ∷ ws) uc = or (literal w done uc) (first_word ws uc)

unfoldable pub choose : Choice → Taker
choose (words ws) uc = first_word ws uc
choose (both a b) uc = behind (choose a uc) (choose b) uc
choose (either a b) uc = or (choose a uc) (choose b uc)
choose (maybe a) uc = or (choose a uc) (Some 0)

-- `terminated(.., end_of_word)`
pub data Arm : Type 0 where
  ended : Choice → Arm
  -- with `opt(" IF EXISTS")` as the last of the choice
  ended_if_exists : Choice → Arm

unfoldable pub arm_end : Arm → Taker
arm_end (ended c) uc = behind (choose c uc) end_of_word uc
arm_end (ended_if_exists c) uc = behind (choose c uc) (opt (bytes " IF EXISTS") end_of_word) uc

unfoldable pub first_arm : List Arm → Taker
first_arm [] uc = None
first_arm (arm ∷ arms) uc = or (arm_end arm uc) (first_arm arms uc)

unfoldable pub create : Choice
create =
    both (word (bytes "CREATE "))
    (either (both (maybe (word (bytes "OR REPLACE "))) (words creatable))
    (either (both (maybe (word (bytes "UNIQUE "))) (word (bytes "INDEX")))
    (both
    (maybe
    (either (word (bytes "UNLOGGED "))
    (both (words (bytes "GLOBAL " ∷ bytes "LOCAL " ∷ [])) (maybe (words (bytes "TEMPORARY " ∷ bytes "TEMP " ∷ []))))))
    (word (bytes "TABLE")))))

unfoldable pub for_lock : Choice
for_lock =
    both (word (bytes "FOR ")) (words (bytes "UPDATE" ∷ bytes "NO KEY UPDATE" ∷ bytes "SHARE" ∷ bytes "KEY SHARE" ∷ []))

-- the letters' alternatives one after the other: those of another letter than the text's fail
unfoldable pub top_level_arms : List Arm
top_level_arms =
    ended (word (bytes "AFTER"))
    ∷ ended (both (word (bytes "ALTER ")) (words alterable_or_droppable))
    ∷ ended create
    ∷ ended (word (bytes "DELETE FROM"))
    ∷ ended_if_exists (both (word (bytes "DROP ")) (words alterable_or_droppable))
    ∷ ended (word (bytes "EXCEPT"))
    ∷ ended (word (bytes "FETCH FIRST"))
    ∷ ended (word (bytes "FROM"))
    ∷ ended for_lock
    ∷ ended (word (bytes "GROUP BY"))
    ∷ ended (word (bytes "GO"))
    ∷ ended (word (bytes "HAVING"))
    ∷ ended (word (bytes "INSERT INTO"))
    ∷ ended (word (bytes "INSERT"))
    ∷ ended (word (bytes "LIMIT"))
    ∷ ended (word (bytes "MODIFY"))
    ∷ ended (word (bytes "MERGE INTO"))
    ∷ ended (word (bytes "ORDER BY"))
    ∷ ended (word (bytes "ON CONFLICT"))
    ∷ ended (word (bytes "PARTITION BY"))
    ∷ ended (word (bytes "RETURNING"))
    ∷ ended (word (bytes "SELECT DISTINCT"))
    ∷ ended (word (bytes "SELECT ALL"))
    ∷ ended (word (bytes "SELECT"))
    ∷ ended (word (bytes "SET CURRENT SCHEMA"))
    ∷ ended (word (bytes "SET SCHEMA"))
    ∷ ended (word (bytes "SET"))
    ∷ ended (word (bytes "UPDATE"))
    ∷ ended (word (bytes "USING"))
    ∷ ended (word (bytes "VALUES"))
    ∷ ended (word (bytes "WHERE"))
    ∷ ended (word (bytes "WINDOW"))
    ∷ []

unfoldable pub top_level_by_uc_words : Taker
top_level_by_uc_words s = finalized s (get_uc_words 4 s) (first_arm top_level_arms (get_uc_words 4 s))
