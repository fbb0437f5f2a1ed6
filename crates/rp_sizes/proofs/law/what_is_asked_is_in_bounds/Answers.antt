use Rattle.rp_sizes.proofs.AskedLemmas.{asked_are_wants, asked_length, size_fits, want_is}
use Rattle.rp_sizes.proofs.law.what_is_asked_is_in_bounds.Goals as goal

pub returns-clause-wants : goal.returns-clause-wants
returns-clause-wants c matched defs facts wf none = asked_are_wants matched defs facts wf none

pub returns-clause-one_each : goal.returns-clause-one_each
returns-clause-one_each c matched defs facts = asked_length matched defs facts

pub returns-clause-own : goal.returns-clause-own
returns-clause-own c matched defs facts file def is = want_is matched defs facts file def is

pub returns-clause-fits : goal.returns-clause-fits
returns-clause-fits c matched defs facts wf none file def is new = size_fits matched defs facts wf none file def is new
