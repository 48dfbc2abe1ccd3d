-- What is printed of a script: of each part its place, and its tokens when it is read alone; or the refusal's line.
use Rattle.std.specs.Prelude.{ℕ, List, [], ◌∷◌, ◌++◌, codes, decimal}
use Rattle.calls.specs.Checks.{checked, accepted_or}
use Rattle.console.specs.Printed.{refusal_line}
use Rattle.script.specs.declared.Part.{Part}
use Rattle.script.specs.Parts.{part_text, parts}
use Rattle.script.specs.Settings.{cutter_settings}
use Rattle.token_lines.specs.Printed.{next_field, listed}
use Rattle.tokenizer.specs.Tokens.{tokens}

abbrev pub place_line : Part → List ℕ
place_line p = decimal p.start ++ next_field p.len ++ codes "\n"

-- the places of a part's tokens count from the part's start
unfoldable pub part_printed : List ℕ → Part → List ℕ
part_printed s p = place_line p ++ listed (tokens cutter_settings (part_text s p))

unfoldable pub parts_printed : List ℕ → List Part → List ℕ
parts_printed s [] = []
parts_printed s (p ∷ ps) = part_printed s p ++ parts_printed s ps

unfoldable pub cutting_printed : List ℕ → List ℕ
cutting_printed s = accepted_or (λ settings. parts_printed s (parts s)) refusal_line (checked 0 0 0 s)
