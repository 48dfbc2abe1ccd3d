use Rattle.std.proofs.Common.{rules}
use Rattle.recognisers.proofs.LibraryWords.{split_among, split_rest, split_none}
use Rattle.recognisers.proofs.scan.behind_mark.Goals as goal

pub returns-in_err-first : goal.returns-in_err-first
returns-in_err-first c = search (rules, split_none)

pub returns-then-is_among : goal.returns-then-is_among
returns-then-is_among c =
    let e = c.in_ok-first.ensures.cases in
    (split_among _ _ _ _ _ _ e.0 c.is_among.ensures c.if-is_among.true, split_rest _ _ _ e.0, e.1)

pub returns : goal.returns
returns c = split_among _ _ _ _ _ _ c.in_ok-first.ensures.cases.0 c.is_among.ensures c.if-is_among.false
