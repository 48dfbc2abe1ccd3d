-- A reserved phrase in the Rust's own way: `terminated(PHRASE, end_of_word)` on the string that `get_uc_words` makes, then
-- `finalize` on the input. It finds what `walk` finds: proofs/UcGroups.antt.
use Rattle.std.specs.Prelude.{ℕ, zero, suc, ◌+◌, Bool, true, false, cond, not, List, [], ◌∷◌, ◌++◌, map, length, take, drop, Option, Some, None}
use Rattle.recognisers.specs.Text.{byte, bytes}
use Rattle.recognisers.specs.Taking.{Taker, taken, more, or, done, typed, is_spelled, capital, literal, end_of_word}
use Rattle.characters.specs.Classes.{is_whitespace}
use Rattle.characters.specs.Runs.{run}
use Rattle.reserved.specs.Phrases.{Phrase, phrase, phrase_if_exists, after}

abbrev pub not_whitespace : ℕ → Bool
not_whitespace c = not (is_whitespace c)

abbrev pub trim_start : List ℕ → List ℕ
trim_start s = drop (run is_whitespace 0 s) s

abbrev pub is_empty : List ℕ → Bool
is_empty [] = true
is_empty (b ∷ s) = false

-- the first n words: `split_whitespace().take(n)`
unfoldable pub split_whitespace : ℕ → List ℕ → List (List ℕ)
split_whitespace zero s = []
split_whitespace (suc n) s =
    cond (is_empty (trim_start s)) []
    (take (run not_whitespace 0 (trim_start s)) (trim_start s)
    ∷ split_whitespace n (drop (run not_whitespace 0 (trim_start s)) (trim_start s)))

-- words that are not the first, each behind a space
abbrev pub spaced : List (List ℕ) → List ℕ
spaced [] = []
spaced (word ∷ words) = byte " " ∷ (word ++ spaced words)

-- `join(" ")`
abbrev pub join : List (List ℕ) → List ℕ
join [] = []
join (word ∷ words) = word ++ spaced words

abbrev pub to_ascii_uppercase : List ℕ → List ℕ
to_ascii_uppercase s = map capital s

unfoldable pub get_uc_words : ℕ → List ℕ → List ℕ
get_uc_words n s = to_ascii_uppercase (join (split_whitespace n s))

-- how many bytes stand before the first occurrence of a word
unfoldable pub find : List ℕ → Taker
find word [] = cond (is_spelled typed word []) (Some 0) None
find word (b ∷ s) = cond (is_spelled typed word (b ∷ s)) (Some 0) (more 1 (find word s))

abbrev pub last_or : List ℕ → List (List ℕ) → List ℕ
last_or none [] = none
last_or none (word ∷ words) = last_or word words

-- `split_whitespace().last().unwrap_or(token)`: there are no more words than bytes
unfoldable pub last_word : List ℕ → List ℕ
last_word token = last_or token (split_whitespace (length token) token)

-- how many bytes of the input are the token's: up to the end of what is the first occurrence of its last word in the whole
-- input, wherever that is
unfoldable pub finalize : List ℕ → List ℕ → ℕ
finalize s token = taken (find (last_word token) (to_ascii_uppercase s)) + length (last_word token)

-- `opt`: these bytes where they stand there, and no way back
unfoldable pub opt : List ℕ → Taker → Taker
opt word then s = after (literal word done s) then s

-- a phrase on the string that `get_uc_words` made
unfoldable pub uc_phrase : Phrase → Taker
uc_phrase (phrase words) uc = literal words end_of_word uc
uc_phrase (phrase_if_exists words) uc = literal words (opt (bytes " IF EXISTS") end_of_word) uc

-- `alt`
unfoldable pub first_uc_phrase : List Phrase → Taker
first_uc_phrase [] uc = None
first_uc_phrase (p ∷ phrases) uc = or (uc_phrase p uc) (first_uc_phrase phrases uc)

-- from what was taken of that string to what is taken of the input
abbrev pub finalized : List ℕ → List ℕ → Option ℕ → Option ℕ
finalized s uc (Some n) = Some (finalize s (take n uc))
finalized s uc None = None

unfoldable pub phrase_by_uc_words : ℕ → Phrase → Taker
phrase_by_uc_words n p s = finalized s (get_uc_words n s) (uc_phrase p (get_uc_words n s))

unfoldable pub first_by_uc_words : ℕ → List Phrase → Taker
first_by_uc_words n phrases s = finalized s (get_uc_words n s) (first_uc_phrase phrases (get_uc_words n s))

-- `get_plain_reserved_one_token` does without `finalize`, and takes the token's length
unfoldable pub first_by_uc_word : List Phrase → Taker
first_by_uc_word phrases s = first_uc_phrase phrases (get_uc_words 1 s)
