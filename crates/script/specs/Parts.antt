-- The parts of a script.
use Rattle.std.specs.Prelude.{ℕ, ◌+◌, ◌-◌, cond, List, [], ◌∷◌, ◌++◌, ltb, length, take, drop}
use Rattle.tokenizer.specs.declared.Token.{Token}
use Rattle.script.specs.declared.Part.{Part}
use Rattle.tokenizer.specs.Tokens.{tokens}
use Rattle.script.specs.Settings.{cutter_settings}
use Rattle.script.specs.Cuts.{is_cut}

-- from one place up to another
abbrev pub between : ℕ → ℕ → Part
between from to = record { start = from; len = to - from }

abbrev pub part_text : List ℕ → Part → List ℕ
part_text s p = take p.len (drop p.start s)

-- the parts of a script from a place on, by the tokens that are still to come: one up to the end of each that cuts, and a last one
-- if bytes remain
unfoldable pub parts_from : List ℕ → ℕ → List Token → List Part
parts_from s from [] = cond (ltb from (length s)) (between from (length s) ∷ []) []
parts_from s from (t ∷ ts) =
    cond (is_cut s t) (between from (t.start + t.len) ∷ parts_from s (t.start + t.len) ts) (parts_from s from ts)

unfoldable pub parts : List ℕ → List Part
parts s = parts_from s 0 (tokens cutter_settings s)

-- the parts laid end to end
unfoldable pub laid : List ℕ → List Part → List ℕ
laid s [] = []
laid s (p ∷ ps) = part_text s p ++ laid s ps
