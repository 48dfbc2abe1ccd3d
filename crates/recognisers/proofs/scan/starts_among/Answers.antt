use Rattle.recognisers.proofs.LibraryWords.{first_among, first_none}
use Rattle.std.proofs.Common.{rules}
use Rattle.recognisers.proofs.scan.starts_among.Goals as goal

pub returns-in-Some : goal.returns-in-Some
returns-in-Some c = first_among _ _ _ _ c.in-Some.ensures.value c.is_among.ensures

pub returns-in-None : goal.returns-in-None
returns-in-None c = search (rules, first_none)
