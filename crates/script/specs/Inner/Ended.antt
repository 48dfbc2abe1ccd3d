-- The parts one token after the other: whether one ends with a token, and where the next one starts.
use Rattle.std.specs.Prelude.{ℕ, Bool, ◌||◌, ◌+◌, cond, List, [], ◌∷◌, eqb, length}
use Rattle.tokenizer.specs.declared.Token.{Token}
use Rattle.script.specs.Cuts.{is_cut}
use Rattle.script.specs.declared.Part.{Part}
use Rattle.script.specs.Parts.{between}

-- with a token that cuts, and with the last one
unfoldable pub ends_part : List ℕ → Token → Bool
ends_part s t = is_cut s t || eqb (t.start + t.len) (length s)

-- the part that ends with a token, where one does
unfoldable pub ended_at : List ℕ → ℕ → Token → List Part
ended_at s from t = cond (ends_part s t) (between from (t.start + t.len) ∷ []) []

unfoldable pub start_past : List ℕ → ℕ → Token → ℕ
start_past s from t = cond (ends_part s t) (t.start + t.len) from
