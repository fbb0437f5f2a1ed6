use Rattle.rp_layout.proofs.Public.{all_differ, anchor_lies, dropped_lies, placed_lies}
use Rattle.rp_layout.proofs.law.placed_ones_lie_once.Goals as goal

pub returns-clause-placed : goal.returns-clause-placed
returns-clause-placed c table last matched wants areas news kept k area n ready at place = placed_lies table last matched wants areas news
    kept ready k n area at place

pub returns-clause-dropped : goal.returns-clause-dropped
returns-clause-dropped c table last matched wants areas news kept k n ready at place = dropped_lies table last matched wants areas news
    kept ready k n at place

pub returns-clause-anchors : goal.returns-clause-anchors
returns-clause-anchors c table last matched wants areas news kept i file area ready at is = anchor_lies table last matched wants areas
    news kept ready i area file at is

pub returns-clause-once : goal.returns-clause-once
returns-clause-once c table last matched wants areas news kept ready = all_differ table last matched wants areas news kept ready
