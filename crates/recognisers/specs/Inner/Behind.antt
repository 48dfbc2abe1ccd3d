-- For inner contracts alone: what stands behind a front.
use Rattle.std.specs.Prelude.{ℕ, Bool, true, false, List, length, drop, Option, Some, None, ◌≡◌, ◌+◌}
use Rattle.std.proofs.Common.{Bor}

-- behind the n bytes at the start of s, if they pass
abbrev pub Behind : Bool → ℕ → List ℕ → Option (Bor (List ℕ)) → Type 0
Behind passes n s None = passes ≡ false
Behind passes n s (Some behind) = (passes ≡ true) × (behind.now ≡ drop n s) × (length behind.now + n ≡ length s)
