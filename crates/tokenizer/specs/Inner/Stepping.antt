-- For inner contracts alone: a step that moves its cursor on in place.
use Rattle.std.specs.Prelude.{ℕ, ◌≡◌, List, Option, Some, None}
use Rattle.calls.specs.declared.Settings.{Settings}
use Rattle.tokenizer.specs.declared.Cursor.{Cursor}
use Rattle.tokenizer.specs.declared.Token.{Token}
use Rattle.tokenizer.specs.Tokens.{step_at}

-- what `step_at` tells, where the cursor moves only with a token
abbrev pub Stepped : Settings → List ℕ → Cursor → Option Token → Cursor → Type 0
Stepped settings s before (Some t) after = step_at settings s before ≡ Some (t, after)
Stepped settings s before None after = (step_at settings s before ≡ None) × (after ≡ before)
