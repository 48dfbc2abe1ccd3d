-- What cutting answers in one value: how many parts there are, or the refusal.
use Rattle.std.specs.Prelude.{ℕ, List, Result, Ok, Err, length}
use Rattle.calls.specs.declared.Refusal.{Refusal}
use Rattle.calls.specs.declared.Settings.{Settings}
use Rattle.calls.specs.Checks.{accepted_or}
use Rattle.script.specs.Parts.{parts}

abbrev pub parts_answer : List ℕ → Result Settings Refusal → Result ℕ Refusal
parts_answer s = accepted_or (λ settings. Ok (length (parts s))) Err
