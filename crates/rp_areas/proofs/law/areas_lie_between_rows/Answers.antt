use Rattle.rp_areas.proofs.Laid.{areas_apart, areas_clear, areas_count, areas_within}
use Rattle.rp_areas.proofs.law.areas_lie_between_rows.Goals as goal

pub returns-clause-count : goal.returns-clause-count
returns-clause-count c table last matched wants areas is = areas_count table last matched wants areas is

pub returns-clause-apart : goal.returns-clause-apart
returns-clause-apart c table last matched wants areas is laid = areas_apart table last matched wants areas is laid

pub returns-clause-within : goal.returns-clause-within
returns-clause-within c table last matched wants areas is laid within = areas_within table last matched wants areas is laid within

pub returns-clause-clear : goal.returns-clause-clear
returns-clause-clear c table last matched wants areas is laid = areas_clear table last matched wants areas is laid
