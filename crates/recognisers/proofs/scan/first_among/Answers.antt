use Rattle.std.proofs.Common.{rules}
use mathlib.Core.Path.{sym, ◌∙◌}
use Rattle.recognisers.proofs.LibraryWords.{first_among, first_lacks, first_here}
use Rattle.recognisers.proofs.scan.first_among.Goals as goal

pub returns-in_err-first : goal.returns-in_err-first
returns-in_err-first c = search (rules, first_lacks)

pub returns-then-is_among : goal.returns-then-is_among
returns-then-is_among c = (sym (first_among _ _ _ _ c.in_ok-first.ensures.value c.is_among.ensures) ∙ c.if-is_among.true, first_here _ _ c.in_ok-first.ensures.value)

pub returns : goal.returns
returns c = sym (first_among _ _ _ _ c.in_ok-first.ensures.value c.is_among.ensures) ∙ c.if-is_among.false
