-- A call that writes a text into an output: what it answers, and the whole output afterwards.
use Rattle.std.specs.Prelude.{ℕ, cond, List, ◌++◌, ltb, length, drop, Result, Ok, Err}
use Rattle.calls.specs.declared.Refusal.TheVariants.{OutputFull}
use Rattle.calls.specs.declared.Settings.{Settings}
use Rattle.calls.specs.Checks.{accepted_or}
use Rattle.calls.specs.Refusals.{refusal_number, refusal_detail}
use Rattle.calls.specs.declared.Refusal.{Refusal}

-- a text for an output of so many bytes
unfoldable pub text_answer : List ℕ → ℕ → Result ℕ Refusal
text_answer text room = cond (ltb room (length text)) (Err (OutputFull (length text))) (Ok (length text))

-- an output once a text is written over its start
abbrev pub written_over : List ℕ → List ℕ → List ℕ
written_over text output = text ++ drop (length text) output

-- the same where it has the room, and the output as it was where it has not
unfoldable pub text_after : List ℕ → List ℕ → List ℕ
text_after text output = cond (ltb (length output) (length text)) output (written_over text output)

-- the same of a call whose text depends on the settings; a refusal writes nothing
unfoldable pub call_answer : (Settings → List ℕ) → ℕ → Result Settings Refusal → Result ℕ Refusal
call_answer text room = accepted_or (λ settings. text_answer (text settings) room) Err

unfoldable pub call_output : (Settings → List ℕ) → List ℕ → Result Settings Refusal → List ℕ
call_output text output = accepted_or (λ settings. text_after (text settings) output) (λ refusal. output)

-- the number, and the detail beside it
abbrev pub text_number : Result ℕ Refusal → ℕ
text_number (Ok n) = 0
text_number (Err refusal) = refusal_number refusal

abbrev pub text_detail : Result ℕ Refusal → ℕ
text_detail (Ok n) = n
text_detail (Err refusal) = refusal_detail refusal
