use Rattle.rp_areas.proofs.Laid.{anchors_differ, areas_anchored, areas_used}
use Rattle.rp_areas.proofs.law.anchors_use_their_least.Goals as goal

pub returns-clause-anchored : goal.returns-clause-anchored
returns-clause-anchored c table last matched wants areas is = areas_anchored table last matched wants areas is

pub returns-clause-fits : goal.returns-clause-fits
returns-clause-fits c table last matched wants areas is = areas_used table last matched wants areas is

pub returns-clause-differ : goal.returns-clause-differ
returns-clause-differ c table last matched wants areas is laid = anchors_differ table last matched wants areas is laid
