use Rattle.std.proofs.Common.{◌≡◌, ℕ, List, ◌++◌}
use Rattle.std.specs.Io.KnownBytes.{Appends}
use Rattle.tokenizer.specs.Tokens.{tokens}
use Rattle.tokenizer.specs.Left.{tokens_left}
use Rattle.tokenizer.proofs.LevelLaws.{Low}
use Rattle.token_lines.specs.Printed.{lines_from}
use Rattle.token_lines.proofs.print_tokens.Given as goal

abbrev pub invariant-loop-token : goal.invariant-loop-token
invariant-loop-token g l =
    Low l.statement l.level l.token-iterator × (passed : List ℕ) × Appends (g.W.Write.contents l.initial.output) (g.W.Write.contents l.output) passed
    × (passed ++ lines_from l.level (tokens_left l.token-iterator) ≡ lines_from 0 (tokens l.fn.settings l.statement))
