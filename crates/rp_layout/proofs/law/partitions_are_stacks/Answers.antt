use Rattle.rp_layout.proofs.Public.{piece_of_less, stacks_are}
use Rattle.rp_layout.proofs.law.partitions_are_stacks.Goals as goal

pub returns-clause-stacks : goal.returns-clause-stacks
returns-clause-stacks c table last matched wants areas news kept before others ready is = stacks_are table last matched wants areas news
    kept ready before others is

pub returns-clause-less : goal.returns-clause-less
returns-clause-less c own wants area ps less stack = piece_of_less own wants less area ps stack
