use Rattle.std.proofs.Common.{rules}
use Rattle.recognisers.proofs.FirstBytes.{no_named_string, first_is}
use Rattle.recognisers.proofs.StringOpeners.{named_single_is, named_double_is, named_tick_is, named_bracket_is, named_other_is}
use Rattle.recognisers.proofs.strings.placeholder_string_taken.Goals as goal

pub returns-in_err-first : goal.returns-in_err-first
returns-in_err-first c = search (rules, no_named_string)

pub returns-in-39 : goal.returns-in-39
returns-in-39 c = named_single_is _ _ _ _ c.in_ok-first.ensures.1 c.in-39.is c.quoted.ensures

pub returns-in-34 : goal.returns-in-34
returns-in-34 c = named_double_is _ _ _ _ c.in_ok-first.ensures.1 c.in-34.is c.quoted-in-34.ensures

pub returns-in-96 : goal.returns-in-96
returns-in-96 c = named_tick_is _ _ _ _ c.in_ok-first.ensures.1 c.in-96.is c.quoted-in-96.ensures

pub bracketed-requires : goal.bracketed-requires
bracketed-requires c = first_is _ _ _ c.in_ok-first.ensures.1 c.in-91.is

pub returns-in-91 : goal.returns-in-91
returns-in-91 c = named_bracket_is _ _ _ _ c.in_ok-first.ensures.1 c.in-91.is c.bracketed.ensures

pub returns-in_default : goal.returns-in_default
returns-in_default c = search (named_other_is, c.in_ok-first.ensures)
