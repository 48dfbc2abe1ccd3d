use Rattle.recognisers.proofs.Unclosed.{truthful_part}
use Rattle.recognisers.proofs.rest.Rest.behind.Goals as goal

pub invariant_of-result : goal.invariant_of-result
invariant_of-result c = record { truthful = truthful_part _ _ _ c.args.self.truthful }
