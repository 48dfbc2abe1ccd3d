-- `get_reserved_word_token` in the Rust's own way is `get_reserved_word_token`, on all bytes.
-- Assumes nothing.
use Prim.Native.Nat.{ℕ}
use mathlib.Core.Path.{◌≡◌, refl, sym, ap, ◌∙◌}
use mathlib.Core.List.{List, [], ◌∷◌}
use mathlib.Core.Bool.{Bool, true, false, ◌||◌, false≢true}
use lib.Dec.{eqb}
use borrow.Author.Tests.{eqb-true}
use native.Mathlib.Omega.{arith}
use Rattle.characters.specs.Ranges.{within}
use Rattle.characters.specs.Classes.{is_whitespace}
use Rattle.characters.specs.Character.{code_point}
use Rattle.recognisers.specs.Taking.{capital, starts_with}
use Rattle.reserved.specs.declared.TopLevel.{TopLevel}
use Rattle.reserved.specs.Reserved.{may_be_reserved, get_top_level_reserved_token, get_newline_after_reserved_token, get_newline_reserved_token, get_join_token, get_top_level_reserved_token_no_indent, get_plain_reserved_token, get_reserved_word_token}
use Rattle.reserved.specs.Phrases.{first_phrase}
use Rattle.reserved.specs.TopLevel.{top_level_phrases}
use Rattle.reserved.specs.UcWords.{get_uc_words, finalized, first_by_uc_words}
use Rattle.reserved.specs.UcChoices.{top_level_by_uc_words}
use Rattle.reserved.specs.UcReserved.{get_reserved_word_token_by_uc_words}
use Rattle.characters.proofs.Within.{within_low, within_high, within_is}
use Rattle.reserved.proofs.UcBytes.{is_visible, capital_visible, visible_first}
use Rattle.reserved.proofs.UcArms.{top_level_arms_lem}
use Rattle.reserved.proofs.UcGroups.{top_level_agrees, newline_after_agrees, newline_agrees, join_agrees, no_indent_agrees, plain_two_agrees, plain_one_agrees}

-- a letter or `$` is no whitespace
pub reserved_not_white : (s : List ℕ) → may_be_reserved s ≡ true → is_whitespace (code_point s) ≡ false
unfolding may_be_reserved starts_with capital within
reserved_not_white [] e = absurd (false≢true e)
reserved_not_white (b ∷ s) e = visible_first b s (go (within 65 90 (capital b)) refl (eqb b 36) refl e)
  where
    go : (t : Bool) → within 65 90 (capital b) ≡ t → (u : Bool) → eqb b 36 ≡ u → (t || u) ≡ true → is_visible b ≡ true
    go true q u r o =
        let l = within_low 65 90 (capital b) q in
        let h = within_high 65 90 (capital b) q in
        capital_visible b (within_is 0x21 0x7E (capital b) (omega arith) (omega arith))
    go false q true r o = rw (eqb-true b 36 r)
    go false q false r o = absurd (false≢true o)

top_level_is : (s : List ℕ) → is_whitespace (code_point s) ≡ false → first_phrase top_level_phrases s ≡ top_level_by_uc_words s
unfolding top_level_by_uc_words first_by_uc_words
top_level_is s w = top_level_agrees s w ∙ ap (finalized s (get_uc_words 4 s)) (sym (top_level_arms_lem (get_uc_words 4 s)))

pub reserved_by_uc_words : (after_dot after_between : Bool) (last : TopLevel) (s : List ℕ) → get_reserved_word_token after_dot after_between last s ≡ get_reserved_word_token_by_uc_words after_dot after_between last s
unfolding get_reserved_word_token get_reserved_word_token_by_uc_words get_top_level_reserved_token get_newline_after_reserved_token get_newline_reserved_token get_join_token get_top_level_reserved_token_no_indent get_plain_reserved_token
reserved_by_uc_words true after_between last s = refl
reserved_by_uc_words false after_between last s = go (may_be_reserved s) refl
  where
    go : (t : Bool) → may_be_reserved s ≡ t → get_reserved_word_token false after_between last s ≡ get_reserved_word_token_by_uc_words false after_between last s
    go true m =
        let w = reserved_not_white s m in
        rw (top_level_is s w, newline_after_agrees s w, newline_agrees s w, join_agrees s w, no_indent_agrees s w, plain_two_agrees s w, plain_one_agrees s w)
    go false m = rw m
