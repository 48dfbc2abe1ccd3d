-- For inner contracts alone: all phrases in the order in which they are tried, each with its group.
use Rattle.std.specs.Prelude.{ℕ, zero, suc, Bool, cond, List, [], ◌∷◌, ◌++◌, eqb, get_or, Option, Some, None}
use Rattle.std.specs.Borrow.{Bor}
use Rattle.characters.specs.Ascii.{is_ascii_word}
use Rattle.recognisers.specs.declared.Piece.{Piece}
use Rattle.recognisers.specs.Text.{bytes}
use Rattle.recognisers.specs.Taking.{Taker, end_of_word, count}
use Rattle.recognisers.specs.declared.TokenKind.TheVariants.{Reserved, ReservedTopLevelNoIndent, ReservedNewlineAfter}
use Rattle.recognisers.specs.declared.TokenKind.TheVariants.{Join as JoinToken}
use Rattle.recognisers.specs.Pieces.{token_of}
use Rattle.reserved.specs.declared.entries.Entry.{Entry}
use Rattle.reserved.specs.declared.entries.Group.{Group}
use Rattle.reserved.specs.declared.entries.Group.TheVariants.{TopLevel, Dropped, NewlineAfter, Newline, Join, NoIndent, Plain}
use Rattle.reserved.specs.declared.TopLevel.{TopLevel as LastTopLevel}
use Rattle.reserved.specs.Reserved.{top_level_token, newline_token}
use Rattle.reserved.specs.Phrases.{Phrase, phrase, phrase_if_exists, walk, optional}
use Rattle.reserved.specs.TopLevel.{top_level_phrases}
use Rattle.reserved.specs.NewlineAfter.{newline_after_phrases}
use Rattle.reserved.specs.Newline.{newline_phrases}
use Rattle.reserved.specs.Join.{join_phrases}
use Rattle.reserved.specs.NoIndent.{no_indent_phrases}
use Rattle.reserved.specs.Plain.{plain_two_phrases, plain_one_phrases}

-- a group's phrases, and apart those that may have IF EXISTS behind them
unfoldable pub grouped : Group → List Phrase → List (Group × List ℕ)
grouped group [] = []
grouped group (phrase words ∷ phrases) = (group, words) ∷ grouped group phrases
grouped group (phrase_if_exists words ∷ phrases) = (Dropped, words) ∷ grouped group phrases

unfoldable pub entries : List (Group × List ℕ)
entries =
    grouped TopLevel top_level_phrases
    ++ (grouped NewlineAfter newline_after_phrases
    ++ (grouped Newline newline_phrases
    ++ (grouped Join join_phrases ++ (grouped NoIndent no_indent_phrases ++ (grouped Plain plain_two_phrases ++ grouped Plain plain_one_phrases)))))

unfoldable pub if_exists : Taker
if_exists s = optional (bytes " IF EXISTS") end_of_word s

-- what stands behind an entry's words
abbrev pub ending : Group → Taker
ending TopLevel = end_of_word
ending Dropped = if_exists
ending NewlineAfter = end_of_word
ending Newline = end_of_word
ending Join = end_of_word
ending NoIndent = end_of_word
ending Plain = end_of_word

unfoldable pub entry_end : Group → List ℕ → Taker
entry_end group words s = walk words (ending group) s

-- the entry where it stands in the text, else another answer
abbrev pub chosen : Group → Option ℕ → Option (Group × ℕ) → Option (Group × ℕ)
chosen group (Some n) other = Some (group, n)
chosen group None other = other

-- the first entry that stands at the start of the text: its group and how many bytes it takes
unfoldable pub find_entry : List (Group × List ℕ) → List ℕ → Option (Group × ℕ)
find_entry [] s = None
find_entry (entry ∷ entries) s = chosen entry.0 (entry_end entry.0 entry.1 s) (find_entry entries s)

-- ---- the table

-- its entries, as they stand in `entries`
unfoldable pub listed : List Entry → List (Group × List ℕ)
listed [] = []
listed (entry ∷ entries) = (entry.0, entry.1.now) ∷ listed entries

-- those of a length, where they stand by their length
unfoldable pub listed_at : ℕ → List (Bor (List Entry)) → List (Group × List ℕ)
listed_at n [] = []
listed_at zero (entries ∷ lengths) = listed entries.now
listed_at (suc n) (entries ∷ lengths) = listed_at n lengths

-- the entries whose words begin with a letter
unfoldable pub entries_of : ℕ → List (Group × List ℕ) → List (Group × List ℕ)
entries_of letter [] = []
entries_of letter (entry ∷ entries) =
    cond (eqb (get_or entry.1 0 0) letter) (entry ∷ entries_of letter entries) (entries_of letter entries)

-- those whose first word has this length
unfoldable pub entries_long : ℕ → List (Group × List ℕ) → List (Group × List ℕ)
entries_long n [] = []
entries_long n (entry ∷ entries) = cond (eqb (count is_ascii_word entry.1) n) (entry ∷ entries_long n entries) (entries_long n entries)

-- ---- the token that an entry makes

abbrev pub entry_token : Bool → LastTopLevel → List ℕ → Group → Option ℕ → Option Piece
entry_token after_between last s TopLevel n = top_level_token last s n
entry_token after_between last s Dropped n = top_level_token last s n
entry_token after_between last s NewlineAfter n = token_of ReservedNewlineAfter n
entry_token after_between last s Newline n = newline_token after_between s n
entry_token after_between last s Join n = token_of JoinToken n
entry_token after_between last s NoIndent n = token_of ReservedTopLevelNoIndent n
entry_token after_between last s Plain n = token_of Reserved n

abbrev pub token_for : Bool → LastTopLevel → List ℕ → Option (Group × ℕ) → Option Piece
token_for after_between last s None = None
token_for after_between last s (Some found) = entry_token after_between last s found.0 (Some found.1)
