use Rattle.std.proofs.Common.{rules}
use Rattle.recognisers.proofs.FirstBytes.{no_string, first_is}
use Rattle.recognisers.proofs.StringOpeners.{single_is, double_is, tick_is, bracket_is, other_is, unquoted_is}
use Rattle.recognisers.proofs.Unclosed.{double_known, single_known}
use Rattle.recognisers.proofs.strings.string_taken.Goals as goal

pub returns-in_err-first : goal.returns-in_err-first
returns-in_err-first c = search (rules, no_string)

pub quoted_known-requires : goal.quoted_known-requires
quoted_known-requires c = single_known _ _ c.args.rest.truthful

pub returns-in-39 : goal.returns-in-39
returns-in-39 c = single_is _ _ _ _ c.in_ok-first.ensures.1 c.in-39.is c.quoted_known.ensures

pub quoted_known-requires-in-34 : goal.quoted_known-requires-in-34
quoted_known-requires-in-34 c = double_known _ _ c.args.rest.truthful

pub returns-in-34 : goal.returns-in-34
returns-in-34 c = double_is _ _ _ _ c.in_ok-first.ensures.1 c.in-34.is c.quoted_known-in-34.ensures

pub returns-in-96 : goal.returns-in-96
returns-in-96 c = tick_is _ _ _ _ c.in_ok-first.ensures.1 c.in-96.is c.quoted.ensures

pub bracketed-requires : goal.bracketed-requires
bracketed-requires c = first_is _ _ _ c.in_ok-first.ensures.1 c.in-91.is

pub returns-in-91 : goal.returns-in-91
returns-in-91 c = bracket_is _ _ _ _ c.in_ok-first.ensures.1 c.in-91.is c.bracketed.ensures

pub returns-in_default : goal.returns-in_default
returns-in_default c = search (other_is, c.in_ok-first.ensures)

pub returns-in_default-2 : goal.returns-in_default-2
returns-in_default-2 c = search (unquoted_is, c.in_ok-first.ensures)
