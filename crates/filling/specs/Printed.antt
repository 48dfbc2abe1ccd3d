-- What is printed of a statement and a sheet: the filled text under the default settings, or the refusal's line.
use Rattle.std.specs.Prelude.{ℕ, List}
use Rattle.console.specs.Printed.{call_printed}
use Rattle.params.specs.Answers.{fill_checked}
use Rattle.params.specs.Filled.{filled}

-- with an output of so many bytes
abbrev pub fill_printed : List ℕ → List ℕ → ℕ → List ℕ
fill_printed s sheet room = call_printed (λ settings. filled settings s sheet) room (fill_checked s 0 0 0 sheet)
