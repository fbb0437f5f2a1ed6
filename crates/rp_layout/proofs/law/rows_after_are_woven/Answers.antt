use Rattle.rp_layout.proofs.Public.{woven_after}
use Rattle.rp_layout.proofs.law.rows_after_are_woven.Goals as goal

pub returns : goal.returns
returns c table last matched wants areas news kept before others ready is =
    woven_after table last matched wants areas news kept ready before others is
