-- The tight text one token after the other: what each token adds to it, and what a gap becomes past it.
use Rattle.std.specs.Prelude.{ℕ, ◌+◌, cond, List, [], ◌++◌, length, Option, Some, None}
use Rattle.tokenizer.specs.declared.Token.{Token}
use Rattle.tokenizer.specs.Values.{value}
use Rattle.tight.specs.declared.Gap.{Gap}
use Rattle.tight.specs.declared.Spacing.{Spacing}
use Rattle.tight.specs.TightText.{is_gap, becomes, gap_bytes}

-- a gap adds nothing of its own
unfoldable pub added : List ℕ → Option Gap → Token → List ℕ
added s lead t = cond (is_gap t) [] (gap_bytes lead ++ value s t)

unfoldable pub added_length : Option Gap → Token → ℕ
added_length lead t = cond (is_gap t) 0 (length (gap_bytes lead) + t.len)

-- before the first token
abbrev pub outside : Spacing
outside = record { here = None; lead = None }

unfoldable pub spacing_past : List ℕ → Spacing → Token → Spacing
spacing_past s spacing t =
    cond (is_gap t)
    (record { here = spacing.here; lead = becomes spacing.here (value s t) })
    (record { here = Some t.kind; lead = None })
