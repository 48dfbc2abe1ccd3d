-- The answer of a call that writes a text, as the caller has it: what was written lies inside the output, and what is printed.
use Rattle.std.proofs.Common.{◌≡◌, ℕ, List, Bool, true, false, refl, sym, ap₂, ◌∙◌, length, drop, Result, Ok, Err}
use Rattle.std.proofs.Math.Dec.{ltb}
use Rattle.std.proofs.Math.Seq.{take-append_seam}
use Rattle.calls.specs.declared.Settings.{Settings}
use Rattle.calls.specs.Texts.{text_answer, text_after, call_answer, call_output}
use Rattle.calls.proofs.TextCalls.{call_written}
use Rattle.console.specs.Printed.{WrittenInside, answer_text, text_printed, call_printed}
use Rattle.calls.specs.declared.Refusal.{Refusal}

pub answer_inside : (text : Settings → List ℕ) (output after : List ℕ) (c : Result Settings Refusal) (r : Result ℕ Refusal)
    → r ≡ call_answer text (length output) c → after ≡ call_output text output c → WrittenInside r (length after)
answer_inside text output after c (Ok n) e f = rw f (call_written text output c n (sym e))
answer_inside text output after c (Err refusal) e f = tt

text_printed_lem : (text output : List ℕ) → answer_text (text_answer text (length output)) (text_after text output) ≡ text_printed text (length output)
unfolding text_answer text_after
text_printed_lem text output = go (ltb (length output) (length text)) refl
  where
    go : (b : Bool) → ltb (length output) (length text) ≡ b → answer_text (text_answer text (length output)) (text_after text output) ≡ text_printed text (length output)
    go true e = rw e
    go false e = rw e (take-append_seam text (drop (length text) output))

call_printed_lem : (text : Settings → List ℕ) (output : List ℕ) (c : Result Settings Refusal) → answer_text (call_answer text (length output) c) (call_output text output c) ≡ call_printed text (length output) c
unfolding call_answer call_output call_printed
call_printed_lem text output (Ok settings) = text_printed_lem (text settings) output
call_printed_lem text output (Err refusal) = refl

pub answer_printed : (text : Settings → List ℕ) (output after : List ℕ) (c : Result Settings Refusal) (r : Result ℕ Refusal)
    → r ≡ call_answer text (length output) c → after ≡ call_output text output c → answer_text r after ≡ call_printed text (length output) c
answer_printed text output after c r e f = ap₂ answer_text e f ∙ call_printed_lem text output c
