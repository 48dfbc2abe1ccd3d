-- Reserved phrases, compared with the text word by word: `terminated(PHRASE, end_of_word)` on `get_uc_words`, and `finalize`,
-- as a walk over the words in the text.
use Rattle.std.specs.Prelude.{ℕ, cond, List, [], ◌∷◌, ◌++◌, eqb, drop, Option, Some, None}
use Rattle.recognisers.specs.Text.{byte, bytes}
use Rattle.recognisers.specs.Taking.{Taker, more, or, done, one, capital, blanks, end_of_word}

-- the words of a phrase: a letter in either case, and any whitespace where the phrase has a space
unfoldable pub walk : List ℕ → Taker → Taker
walk [] then s = then s
walk (p ∷ words) then s = cond (eqb p (byte " ")) (blanks (walk words then) s) (one (λ b. eqb (capital b) p) (walk words then) s)

-- `opt`: the words where they stand there, and no way back
abbrev pub after : Option ℕ → Taker → Taker
after (Some n) then s = more n (then (drop n s))
after None then s = then s

unfoldable pub optional : List ℕ → Taker → Taker
optional words then s = after (walk words done s) then s

pub data Phrase : Type 0 where
  phrase : List ℕ → Phrase
  -- with `opt(" IF EXISTS")` behind it
  phrase_if_exists : List ℕ → Phrase

unfoldable pub phrase_end : Phrase → Taker
phrase_end (phrase words) s = walk words end_of_word s
phrase_end (phrase_if_exists words) s = walk words (optional (bytes " IF EXISTS") end_of_word) s

-- the first phrase of a list that stands at the start of the text
unfoldable pub first_phrase : List Phrase → Taker
first_phrase [] s = None
first_phrase (p ∷ phrases) s = or (phrase_end p s) (first_phrase phrases s)

-- each of these words behind others
unfoldable pub each : List ℕ → List (List ℕ) → List Phrase
each words [] = []
each words (last ∷ lasts) = phrase (words ++ last) ∷ each words lasts
