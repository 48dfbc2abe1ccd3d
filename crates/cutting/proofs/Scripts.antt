-- What is printed of a script is told by how it is cut, and by as much of it as is kept.
-- Assumes nothing.
use Rattle.std.specs.Prelude.{Result, Ok, Err}
use Prim.Native.Nat.{ℕ, ◌/◌, ◌≤◌}
use native.Mathlib.Omega.{arith}
use mathlib.Core.Path.{◌≡◌, refl, sym, ap, ◌∙◌}
use mathlib.Core.List.{List, ◌++◌}
use borrow.Author.Tests.{le-ltb}
use lib.ListN.{length, take, drop}
use lib.Seq.{take-append_seam}
use Rattle.calls.specs.declared.Refusal.{Refusal}
use Rattle.calls.specs.declared.Refusal.TheVariants.{Overlong, NotUtf8, Setting, TableFull, Sheet, OutputFull, PartsFull, PlaceNought}
use Rattle.calls.specs.declared.Settings.{Settings}
use Rattle.calls.specs.Checks.{checked, accepted_or, told_number}
use Rattle.calls.specs.Refusals.{refusal_number}
use Rattle.calls.specs.Settings.{dialect_of, settings_of}
use Rattle.calls.proofs.Checks.{accepts}
use Rattle.console.specs.Printed.{refused_line, refusal_line}
use Rattle.console.proofs.Whole.{accepted_whole}
use Rattle.script.specs.Answers.{room_checked, cut_checked, cut_number, cut_detail, cut_places}
use Rattle.script.specs.Parts.{parts}
use Rattle.script.specs.Places.{places_of}
use Rattle.script.specs.Settings.{cutter_settings}
use Rattle.script.proofs.PartWalk.{parts_short}
use Rattle.cutting.specs.Printed.{parts_printed, cutting_printed}

refusal_some : (refusal : Refusal) → 1 ≤ refusal_number refusal
refusal_some (Overlong n) = omega arith
refusal_some (NotUtf8 n) = omega arith
refusal_some Setting = omega arith
refusal_some (TableFull n) = omega arith
refusal_some Sheet = omega arith
refusal_some (OutputFull n) = omega arith
refusal_some (PartsFull n) = omega arith
refusal_some (PlaceNought n) = omega arith

cutter_is : settings_of 0 0 0 ≡ cutter_settings
unfolding settings_of dialect_of
cutter_is = refl

module _ (s places : List ℕ) (room : 524288 ≤ length places) where
  -- with a place for each byte of the longest script they are never full
  roomy : cut_checked s (length places) ≡ checked 0 0 0 s
  unfolding cut_checked room_checked
  roomy = go (checked 0 0 0 s) refl
    where
      go : (c : Result Settings Refusal) → checked 0 0 0 s ≡ c → accepted_or (λ (settings : Settings). room_checked s (length places)) Err c ≡ c
      go (Ok settings) e =
          let a = accepts 0 0 0 settings s e in
          rw (le-ltb (length places / 8) (length (parts s)) (omega (arith, a.short, parts_short s, room))) (ap Ok (sym cutter_is ∙ a.is))
      go (Err refusal) e = refl

  module _ (number : ℕ) (e : number ≡ cut_number (cut_checked s (length places))) where
    told : number ≡ told_number (checked 0 0 0 s)
    told = e ∙ ap told_number roomy

    pub refused_printed : (number ≡ 0 → ⊥) → refused_line number ≡ cutting_printed s
    unfolding cutting_printed
    refused_printed d = go (checked 0 0 0 s) told
      where
        go : (c : Result Settings Refusal) → number ≡ told_number c → refused_line number ≡ accepted_or (λ (settings : Settings). parts_printed s (parts s)) refusal_line c
        go (Ok settings) f = absurd (d f)
        go (Err refusal) f = ap refused_line f

    module _ (z : number ≡ 0) where
      record Taken : Type 0 where
        settings : Settings
        is : checked 0 0 0 s ≡ Ok settings

      taken : Taken
      taken = go (checked 0 0 0 s) refl told
        where
          go : (c : Result Settings Refusal) → checked 0 0 0 s ≡ c → number ≡ told_number c → Taken
          go (Ok settings) g f = record { settings = settings; is = g }
          go (Err refusal) g f = absurd (let k = refusal_some refusal in let w : ⊥ = omega (arith, z, f) in w)

      cut_is : cut_checked s (length places) ≡ Ok taken.settings
      cut_is = roomy ∙ taken.is

      pub script_short : length s ≤ 65536
      script_short = (accepts 0 0 0 taken.settings s taken.is).short

      pub places_held : (after : List ℕ) → after ≡ cut_places s places (cut_checked s (length places)) → take (length (places_of (parts s))) after ≡ places_of (parts s)
      places_held after f =
          let held : after ≡ places_of (parts s) ++ drop (length (places_of (parts s))) places = rw cut_is at f in
          rw held (take-append_seam (places_of (parts s)) (drop (length (places_of (parts s))) places))

      pub count_held : (detail : ℕ) → detail ≡ cut_detail s (cut_checked s (length places)) → detail ≡ length (parts s)
      count_held detail f = rw cut_is at f

      pub parts_printed_lem : parts_printed s (parts s) ≡ cutting_printed s
      unfolding cutting_printed
      parts_printed_lem = rw taken.is refl

pub script_whole : (s : List ℕ) → cutting_printed (take 65537 s) ≡ cutting_printed s
unfolding cutting_printed
script_whole s = accepted_whole (λ front settings. parts_printed front (parts front)) 0 0 0 s
