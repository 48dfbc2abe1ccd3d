-- For inner contracts alone: where a place nought may stand, by the statement's bytes, and what measuring tells.
use Rattle.std.specs.Prelude.{ℕ, Bool, true, false, ◌&&◌, ◌||◌, List, [], ◌∷◌, cond, ltb, eqb, length, Option, Result, Ok, Err}
use Rattle.recognisers.specs.Text.{byte}
use Rattle.recognisers.specs.Taking.{starts_with}
use Rattle.calls.specs.declared.Refusal.{Refusal}
use Rattle.calls.specs.declared.Refusal.TheVariants.{OutputFull}
use Rattle.tokenizer.specs.Tokens.{tokens}
use Rattle.params.specs.declared.QueryParams.{QueryParams}
use Rattle.params.specs.declared.QueryParams.TheVariants as Q
use Rattle.params.specs.declared.accepting.Filling.{Filling}
use Rattle.params.specs.Sheet.{params_of}
use Rattle.params.specs.Nought.{first_nought}
use Rattle.params.specs.Answers.{unless_nought}
use Rattle.params.specs.Inner.Fillings.{text_of}

abbrev pub is_indexed : QueryParams → Bool
is_indexed Q.Named = false
is_indexed Q.Indexed = true
is_indexed Q.None = false

-- a `$` directly before a `0`
unfoldable pub has_nought : List ℕ → Bool
has_nought [] = false
has_nought (b ∷ s) = (eqb b (byte "$") && starts_with (byte "0") s) || has_nought s

unfoldable pub may_hold_nought : List ℕ → List ℕ → Bool
may_hold_nought s sheet = is_indexed (params_of sheet) && has_nought s

-- of a call that a lookup would accept: the first place nought, and the filled text's length where there is none
abbrev pub nought_of : Filling → Option ℕ
nought_of f = first_nought (params_of f.sheet.headed.bytes.now) (tokens f.search.settings f.search.text.now)

abbrev pub measured : Filling → Result ℕ Refusal
measured f = unless_nought (length (text_of f)) (nought_of f)

-- nothing stands in the way of a text of this length, where so many bytes are lent
abbrev pub unless_full : ℕ → Result ℕ Refusal → Result (Unit {0}) Refusal
unless_full room (Ok n) = cond (ltb room n) (Err (OutputFull n)) (Ok tt)
unless_full room (Err refusal) = Err refusal
