-- `get_reserved_word_token` and the six recognisers that it tries in turn.
use Rattle.std.specs.Prelude.{ℕ, Bool, true, false, cond, not, ◌&&◌, ◌||◌, List, length, take, get_or, Option, Some, None}
use Rattle.recognisers.specs.declared.Piece.{Piece}
use Rattle.recognisers.specs.declared.TokenKind.{TokenKind}
use Rattle.recognisers.specs.declared.TokenKind.TheVariants.{Reserved, ReservedTopLevel, ReservedTopLevelNoIndent, ReservedNewline, ReservedNewlineAfter, Join}
use Rattle.recognisers.specs.Text.{byte, bytes}
use Rattle.recognisers.specs.Same.{same}
use Rattle.recognisers.specs.Taking.{typed, is_spelled, capital, starts_with}
use Rattle.recognisers.specs.Pieces.{piece, token_of, alt}
use Rattle.characters.specs.Ranges.{within}
use Rattle.reserved.specs.declared.TopLevel.{TopLevel}
use Rattle.reserved.specs.declared.TopLevel.TheVariants.{Select, Update, MergeInto, DeleteFrom, Other}
use Rattle.reserved.specs.Phrases.{first_phrase}
use Rattle.reserved.specs.TopLevel.{top_level_phrases}
use Rattle.reserved.specs.NewlineAfter.{newline_after_phrases}
use Rattle.reserved.specs.Newline.{newline_phrases}
use Rattle.reserved.specs.Join.{join_phrases}
use Rattle.reserved.specs.NoIndent.{no_indent_phrases}
use Rattle.reserved.specs.Plain.{plain_two_phrases, plain_one_phrases}

abbrev pub is_select : TopLevel → Bool
is_select Select = true
is_select Update = false
is_select MergeInto = false
is_select DeleteFrom = false
is_select Other = false

abbrev pub is_update : TopLevel → Bool
is_update Select = false
is_update Update = true
is_update MergeInto = false
is_update DeleteFrom = false
is_update Other = false

abbrev pub takes_using : TopLevel → Bool
takes_using Select = false
takes_using Update = false
takes_using MergeInto = true
takes_using DeleteFrom = true
takes_using Other = false

-- EXCEPT, SET and USING go by the last top-level token
unfoldable pub top_level_kind : TopLevel → List ℕ → TokenKind
top_level_kind last value =
    cond (same value (bytes "EXCEPT") && is_select last) Reserved
    (cond (same value (bytes "SET") && is_update last) ReservedNewlineAfter
    (cond (same value (bytes "USING") && not (takes_using last)) Reserved ReservedTopLevel))

-- CREATE and SELECT stand for all phrases that begin so
unfoldable pub alias_length : List ℕ → ℕ
alias_length value = cond (is_spelled typed (bytes "CREATE") value || is_spelled typed (bytes "SELECT") value) 6 (length value)

abbrev pub top_level_token : TopLevel → List ℕ → Option ℕ → Option Piece
top_level_token last s (Some n) =
    Some (record { kind = top_level_kind last (take n s); len = n; alias = alias_length (take n s); key = None; escaped = 0 })
top_level_token last s None = None

unfoldable pub get_top_level_reserved_token : TopLevel → List ℕ → Option Piece
get_top_level_reserved_token last s = top_level_token last s (first_phrase top_level_phrases s)

unfoldable pub get_newline_after_reserved_token : List ℕ → Option Piece
get_newline_after_reserved_token s = token_of ReservedNewlineAfter (first_phrase newline_after_phrases s)

-- AND belongs to a BETWEEN that was the last reserved word
abbrev pub newline_token : Bool → List ℕ → Option ℕ → Option Piece
newline_token after_between s (Some n) =
    Some (piece (cond (same (take n s) (bytes "AND") && after_between) Reserved ReservedNewline) n None)
newline_token after_between s None = None

unfoldable pub get_newline_reserved_token : Bool → List ℕ → Option Piece
get_newline_reserved_token after_between s = newline_token after_between s (first_phrase newline_phrases s)

unfoldable pub get_join_token : List ℕ → Option Piece
get_join_token s = token_of Join (first_phrase join_phrases s)

unfoldable pub get_top_level_reserved_token_no_indent : List ℕ → Option Piece
get_top_level_reserved_token_no_indent s = token_of ReservedTopLevelNoIndent (first_phrase no_indent_phrases s)

unfoldable pub get_plain_reserved_token : List ℕ → Option Piece
get_plain_reserved_token s = alt (token_of Reserved (first_phrase plain_two_phrases s)) (token_of Reserved (first_phrase plain_one_phrases s))

-- a letter or `$`
unfoldable pub may_be_reserved : List ℕ → Bool
may_be_reserved s = within (byte "A") (byte "Z") (capital (get_or s 0 0)) || starts_with (byte "$") s

-- none is tried after a `.`
unfoldable pub get_reserved_word_token : Bool → Bool → TopLevel → List ℕ → Option Piece
get_reserved_word_token after_dot after_between last s =
    cond (after_dot || not (may_be_reserved s)) None
    (alt (get_top_level_reserved_token last s)
    (alt (get_newline_after_reserved_token s)
    (alt (get_newline_reserved_token after_between s)
    (alt (get_join_token s)
    (alt (get_top_level_reserved_token_no_indent s) (get_plain_reserved_token s))))))
