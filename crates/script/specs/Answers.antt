-- What a caller of `cut` is told, and what becomes of the places lent.
use Rattle.std.specs.Prelude.{ℕ, ◌/◌, cond, List, ltb, length, Result, Ok, Err}
use Rattle.calls.specs.declared.Refusal.TheVariants.{PartsFull}
use Rattle.calls.specs.Checks.{checked, accepted_or, told_number, told_detail}
use Rattle.calls.specs.Texts.{written_over}
use Rattle.script.specs.Settings.{cutter_settings}
use Rattle.script.specs.Parts.{parts}
use Rattle.script.specs.Places.{place_bytes, places_of}
use Rattle.calls.specs.declared.Settings.{Settings}
use Rattle.calls.specs.declared.Refusal.{Refusal}

-- refused where fewer whole places are lent than there are parts, in so many bytes
unfoldable pub room_checked : List ℕ → ℕ → Result Settings Refusal
room_checked s room = cond (ltb (room / place_bytes) (length (parts s))) (Err (PartsFull (length (parts s)))) (Ok cutter_settings)

-- the same once the script is accepted
unfoldable pub cut_checked : List ℕ → ℕ → Result Settings Refusal
cut_checked s room = accepted_or (λ settings. room_checked s room) Err (checked 0 0 0 s)

-- the number, and the detail beside it, by either
abbrev pub cut_number : Result Settings Refusal → ℕ
cut_number = told_number

abbrev pub cut_detail : List ℕ → Result Settings Refusal → ℕ
cut_detail s = told_detail (length (parts s))

-- all places afterwards: a refusal writes none
abbrev pub cut_places : List ℕ → List ℕ → Result Settings Refusal → List ℕ
cut_places s places = accepted_or (λ settings. written_over (places_of (parts s)) places) (λ refusal. places)
