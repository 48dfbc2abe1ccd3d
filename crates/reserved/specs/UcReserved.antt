-- `get_reserved_word_token` with the phrases found in the Rust's own way: each recogniser asks `get_uc_words` for so many
-- words. It is the same function: proofs/UcReserved.antt.
use Rattle.std.specs.Prelude.{ℕ, Bool, cond, not, ◌||◌, List, Option, None}
use Rattle.recognisers.specs.declared.Piece.{Piece}
use Rattle.recognisers.specs.declared.TokenKind.TheVariants.{Reserved, ReservedTopLevelNoIndent, ReservedNewlineAfter, Join}
use Rattle.recognisers.specs.Pieces.{token_of, alt}
use Rattle.reserved.specs.declared.TopLevel.{TopLevel}
use Rattle.reserved.specs.NewlineAfter.{newline_after_phrases}
use Rattle.reserved.specs.Newline.{newline_phrases}
use Rattle.reserved.specs.Join.{join_phrases}
use Rattle.reserved.specs.NoIndent.{no_indent_phrases}
use Rattle.reserved.specs.Plain.{plain_two_phrases, plain_one_phrases}
use Rattle.reserved.specs.Reserved.{top_level_token, newline_token, may_be_reserved}
use Rattle.reserved.specs.UcWords.{first_by_uc_words, first_by_uc_word}
use Rattle.reserved.specs.UcChoices.{top_level_by_uc_words}

unfoldable pub get_reserved_word_token_by_uc_words : Bool → Bool → TopLevel → List ℕ → Option Piece
get_reserved_word_token_by_uc_words after_dot after_between last s =
    cond (after_dot || not (may_be_reserved s)) None
    (alt (top_level_token last s (top_level_by_uc_words s))
    (alt (token_of ReservedNewlineAfter (first_by_uc_words 3 newline_after_phrases s))
    (alt (newline_token after_between s (first_by_uc_words 3 newline_phrases s))
    (alt (token_of Join (first_by_uc_words 3 join_phrases s))
    (alt (token_of ReservedTopLevelNoIndent (first_by_uc_words 2 no_indent_phrases s))
    (alt (token_of Reserved (first_by_uc_words 2 plain_two_phrases s)) (token_of Reserved (first_by_uc_word plain_one_phrases s))))))))
