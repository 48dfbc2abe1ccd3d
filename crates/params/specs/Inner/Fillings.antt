-- For inner contracts alone: what is known of a call that a lookup would accept, and the filled text.
use Rattle.std.specs.Prelude.{ℕ, List, Result, Ok, Err}
use Rattle.calls.specs.declared.Refusal.{Refusal}
use Rattle.calls.specs.declared.Settings.{Settings}
use Rattle.params.specs.declared.accepting.Filling.{Filling}
use Rattle.params.specs.Filled.{filled}

-- its settings
abbrev pub settings_told : Result Filling Refusal → Result Settings Refusal
settings_told (Ok f) = Ok f.search.settings
settings_told (Err refusal) = Err refusal

-- its filled text
abbrev pub text_of : Filling → List ℕ
text_of f = filled f.search.settings f.search.text.now f.sheet.headed.bytes.now
