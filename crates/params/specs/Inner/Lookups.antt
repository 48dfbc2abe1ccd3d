-- For inner contracts alone: what a lookup finds, or why it is refused.
use Rattle.std.specs.Prelude.{ℕ, List, Result, Ok, Err}
use Rattle.calls.specs.declared.Refusal.{Refusal}
use Rattle.calls.specs.Checks.{accepted_or}
use Rattle.params.specs.declared.Found.{Found}
use Rattle.params.specs.Filled.{part_length}
use Rattle.params.specs.Answers.{checked_with, found_at}

unfoldable pub looked_up : List ℕ → ℕ → ℕ → ℕ → List ℕ → ℕ → ℕ → Result Found Refusal
looked_up s dialect joins named sheet place counter =
    accepted_or (λ settings. Ok (found_at settings s sheet place counter)) Err (checked_with s dialect joins named sheet)

-- the length of the part that is found
abbrev pub length_of : Result Found Refusal → Result ℕ Refusal
length_of (Ok found) = Ok (part_length found.part)
length_of (Err refusal) = Err refusal
