use Rattle.std.proofs.Common.{rules}
use Rattle.recognisers.specs.TypeSpecifier.{get_type_specifier_token}
use Rattle.recognisers.proofs.FirstBytes.{no_specifier, colons, brackets}
use Rattle.recognisers.proofs.MatchedAnswers.{cond_no}
use Rattle.recognisers.proofs.type_specifier.get_type_specifier_token.Goals as goal

pub returns-in_err-first : goal.returns-in_err-first
returns-in_err-first c = search (rules, no_specifier)

pub returns-then-not-allowed : goal.returns-then-not-allowed
unfolding get_type_specifier_token
returns-then-not-allowed c = search (rules, cond_no)

pub returns-in-58 : goal.returns-in-58
returns-in-58 c = colons _ _ _ _ c.in_ok-first.ensures.1 _ c.if-not-allowed.false c.in-58.is c.exactly.ensures c.token_of.ensures

pub returns-in_default : goal.returns-in_default
returns-in_default c = search (brackets, c.in_ok-first.ensures)
