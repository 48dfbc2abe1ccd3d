-- One step of a walk takes the first token of those that are left.
-- Assumes nothing.
use Prim.Native.Nat.{ℕ, ◌+◌, ◌^◌, ◌<◌}
use native.Mathlib.Omega.{arith}
use mathlib.Core.Path.{◌≡◌, ap}
use mathlib.Core.List.{List}
use lib.ListN.{length}
use Rattle.std.specs.Prelude.{Option, Some, None}
use Rattle.std.specs.Iterator.{YieldsFirst, MakesProgress, item_count}
use Rattle.recognisers.specs.declared.hints.Hints.{Hints}
use Rattle.recognisers.specs.Inner.Known.{Truthful}
use Rattle.calls.specs.declared.Settings.{Settings}
use Rattle.tokenizer.specs.declared.Cursor.{Cursor}
use Rattle.tokenizer.specs.declared.Token.{Token}
use Rattle.tokenizer.specs.declared.walking.Tokens.{Tokens}
use Rattle.tokenizer.specs.Tokens.{tokens}
use Rattle.tokenizer.specs.Left.{tokens_left}
use Rattle.tokenizer.specs.Inner.Stepping.{Stepped}
use Rattle.tokenizer.proofs.EndToEnd.{tokens_short}
use Rattle.tokenizer.proofs.Steps.{step_moves, step_ends}

module _ (it : Tokens) (c : Cursor) (hints : Hints) (known : Truthful hints it.statement.now) where
  abbrev past : Tokens
  past = record { statement = it.statement; settings = it.settings; cursor = c; hints = hints; known = known }

  pub one_less : (r : Option Token) → Stepped it.settings it.statement.now it.cursor r c → YieldsFirst tokens_left it r past
  unfolding tokens_left
  one_less (Some t) e = (step_moves it.settings it.statement.now it.cursor t c e).list
  one_less None e =
      let none = step_ends it.settings it.statement.now it.cursor e.0 in
      (none, rw e.1 none)

  pub goes_on : (r : Option Token) → YieldsFirst tokens_left it r past → MakesProgress (λ _. Unit {0}) (item_count tokens_left) it r past
  goes_on (Some t) e = record { on = λ h. (tt, tt, rw e (omega arith)); keeps = tt; rests = λ h. tt }
  goes_on None e = record { on = λ h. tt; keeps = tt; rests = λ h. tt }

pub left_fits : (settings : Settings) (s : List ℕ) (it : Tokens) → tokens_left it ≡ tokens settings s → length s < 2 ^ 64 → 0 + length (tokens_left it) < 2 ^ 64
left_fits settings s it e h = let k = tokens_short settings s in omega (arith, ap length e)
