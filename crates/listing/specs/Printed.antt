-- What is printed of a statement: its tokens under the default settings, or the refusal's line.
use Rattle.std.specs.Prelude.{ℕ, List}
use Rattle.calls.specs.Checks.{checked, accepted_or}
use Rattle.console.specs.Printed.{refusal_line}
use Rattle.token_lines.specs.Printed.{listed}
use Rattle.tokenizer.specs.Tokens.{tokens}

unfoldable pub listing_printed : List ℕ → List ℕ
listing_printed s = accepted_or (λ settings. listed (tokens settings s)) refusal_line (checked 0 0 0 s)
