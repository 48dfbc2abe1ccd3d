-- What is printed of a statement: its tight text under the default settings, or the refusal's line.
use Rattle.std.specs.Prelude.{ℕ, List}
use Rattle.calls.specs.Checks.{checked}
use Rattle.console.specs.Printed.{call_printed}
use Rattle.tight.specs.TightText.{tight}

-- with an output of so many bytes
abbrev pub tight_printed : List ℕ → ℕ → List ℕ
tight_printed s room = call_printed (λ settings. tight settings s) room (checked 0 0 0 s)
