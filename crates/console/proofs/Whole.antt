-- A statement of which one byte more is kept than a call accepts is refused as the whole is.
use Rattle.std.proofs.Common.{◌≡◌, ℕ, ◌≤◌, ◌<◌, ◌⊎◌, inl, inr, List, Bool, true, false, Option, None, Some, IfSome, Result, Ok, Err, OnOk, refl, ap, ◌∙◌, subst, arith, length, take, take_all, length-take-le}
use Rattle.std.proofs.lemmas.Bool.{cases_lt, lt-ltb}
use Rattle.std.specs.Io.KnownBytes.{Appends}
use Rattle.calls.specs.Checks.{accepted_or, checked, checked_text}
use Rattle.calls.specs.Settings.{is_setting}
use Rattle.calls.specs.declared.Settings.{Settings}
use Rattle.console.specs.Printed.{call_printed, refusal_line, text_printed}

module _ (done : List ℕ → Settings → List ℕ) (dialect joins named : ℕ) where
  overlong : (s front : List ℕ) (accepted : Bool) → is_setting dialect joins named ≡ accepted → 65536 < length s → 65536 < length front
      → accepted_or (done front) refusal_line (checked dialect joins named front) ≡ accepted_or (done s) refusal_line (checked dialect joins named s)
  unfolding checked checked_text
  overlong s front true e long more = rw (e, lt-ltb _ _ long, lt-ltb _ _ more)
  overlong s front false e long more = rw e

  whole_by : (s : List ℕ) → (65536 < length s) ⊎ (length s ≤ 65536)
      → accepted_or (done (take 65537 s)) refusal_line (checked dialect joins named (take 65537 s)) ≡ accepted_or (done s) refusal_line (checked dialect joins named s)
  whole_by s (inl long) = overlong s (take 65537 s) (is_setting dialect joins named) refl long (omega (arith, length-take-le 65537 s (omega arith)))
  whole_by s (inr short) = ap (λ front. accepted_or (done front) refusal_line (checked dialect joins named front)) (take_all 65537 s (omega arith))

  pub accepted_whole : (s : List ℕ) → accepted_or (done (take 65537 s)) refusal_line (checked dialect joins named (take 65537 s)) ≡ accepted_or (done s) refusal_line (checked dialect joins named s)
  accepted_whole s = whole_by s (cases_lt 65536 (length s))

-- the same of a call that writes a text
pub call_whole : (text : List ℕ → Settings → List ℕ) (dialect joins named room : ℕ) (s : List ℕ)
    → call_printed (text (take 65537 s)) room (checked dialect joins named (take 65537 s)) ≡ call_printed (text s) room (checked dialect joins named s)
unfolding call_printed
call_whole text dialect joins named room s = accepted_whole (λ front settings. text_printed (text front settings) room) dialect joins named s

-- what is printed of the kept front of an input, and so of the whole, is printed of the input where its bytes are known
pub whole_input : {A E : Type 0} (a : Option (List ℕ)) (r : Result A E) (before after : Option (List ℕ)) (printed : List ℕ → List ℕ) (space : List ℕ) (n : ℕ)
    → 65537 ≡ length space → IfSome a (λ xs. take n space ≡ take (length space) xs) → ((xs : List ℕ) → printed (take 65537 xs) ≡ printed xs)
    → OnOk r (Appends before after (printed (take n space))) → OnOk r (IfSome a (λ xs. Appends before after (printed xs)))
whole_input a (Err e) before after printed space n full read whole shown = tt
whole_input None (Ok x) before after printed space n full read whole shown = tt
whole_input (Some xs) (Ok x) before after printed space n full read whole shown =
    let front : take n space ≡ take 65537 xs = rw full read in
    subst (Appends before after) (ap printed front ∙ whole xs) shown
