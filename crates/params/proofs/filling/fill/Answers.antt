use Rattle.std.proofs.Common.{rules}
use Rattle.params.proofs.FillAnswers.{written_output}
use Rattle.params.proofs.filling.fill.Goals as goal

pub returns-clause-output_after : goal.returns-clause-output_after
returns-clause-output_after c = written_output c.args.statement c.args.sheet c.args.dialect c.args.joins c.args.named c.in_ok-filling.filling (search rules) (search rules) (search rules) c.args.output.now c.check_text.result c.check_text.ensures _ c.write_filled.ensures.output_after (search rules)
