-- What printing an answer asks for, and what is printed.
use Rattle.std.specs.Prelude.{ℕ, ◌≤◌, cond, List, ◌++◌, ltb, length, take, codes, decimal, Result, Ok, Err}
use Rattle.calls.specs.Checks.{accepted_or}
use Rattle.calls.specs.Refusals.{refusal_number}
use Rattle.calls.specs.declared.Refusal.{Refusal}
use Rattle.calls.specs.declared.Refusal.TheVariants.{OutputFull}
use Rattle.calls.specs.declared.Settings.{Settings}

-- what an answer says was written lies inside an output of so many bytes
abbrev pub WrittenInside : Result ℕ Refusal → ℕ → Type 0
WrittenInside (Ok n) room = n ≤ room
WrittenInside (Err refusal) room = Unit {0}

abbrev pub refused_line : ℕ → List ℕ
refused_line number = codes "refused " ++ decimal number ++ codes "\n"

abbrev pub refusal_line : Refusal → List ℕ
refusal_line refusal = refused_line (refusal_number refusal)

-- what is printed of an answer and of the output that the call wrote
abbrev pub answer_text : Result ℕ Refusal → List ℕ → List ℕ
answer_text (Ok n) output = take n output
answer_text (Err refusal) output = refusal_line refusal

-- what is printed of a text, for an output of so many bytes
abbrev pub text_printed : List ℕ → ℕ → List ℕ
text_printed text room = cond (ltb room (length text)) (refusal_line (OutputFull (length text))) text

-- the same of a call whose text depends on the settings
unfoldable pub call_printed : (Settings → List ℕ) → ℕ → Result Settings Refusal → List ℕ
call_printed text room = accepted_or (λ settings. text_printed (text settings) room) refusal_line
