-- A place nought: a placeholder for the value at place 0, where places count from 1. With an indexed sheet it stops the fill, and
-- never a lookup.
use Rattle.std.specs.Prelude.{ℕ, Bool, false, cond, ◌&&◌, List, [], ◌∷◌, eqb, Option, Some, None}
use Rattle.recognisers.specs.declared.Key.{Key}
use Rattle.recognisers.specs.declared.Key.TheVariants as K
use Rattle.tokenizer.specs.declared.Token.{Token}
use Rattle.params.specs.declared.QueryParams.{QueryParams}
use Rattle.params.specs.declared.QueryParams.TheVariants as Q
use Rattle.params.specs.Filled.{is_placeholder}

-- `$0`, `$00`
abbrev pub is_nought : Option Key → Bool
is_nought None = false
is_nought (Some (K.Named start len)) = false
is_nought (Some (K.Escaped start len)) = false
is_nought (Some (K.ZeroIndexed n)) = false
is_nought (Some (K.OneIndexed n)) = eqb n 0

-- a Placeholder with such a key, where the sheet is indexed
abbrev pub stops : QueryParams → Token → Bool
stops Q.Named t = false
stops Q.Indexed t = is_placeholder t && is_nought t.key
stops Q.None t = false

-- where the first such token starts
unfoldable pub first_nought : QueryParams → List Token → Option ℕ
first_nought params [] = None
first_nought params (t ∷ ts) = cond (stops params t) (Some t.start) (first_nought params ts)
