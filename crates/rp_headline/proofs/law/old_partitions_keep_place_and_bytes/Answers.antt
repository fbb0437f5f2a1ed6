use Rattle.rp_headline.proofs.Kept.{places_kept}
use Rattle.rp_headline.proofs.Left.{rows_kept}
use Rattle.rp_headline.proofs.law.old_partitions_keep_place_and_bytes.Goals as goal

pub returns-clause-place : goal.returns-clause-place
returns-clause-place c = places_kept

pub returns-clause-bytes : goal.returns-clause-bytes
returns-clause-bytes c sector old empty seen target defs facts seed plan body calls is are =
    rows_kept sector old empty seen target defs facts seed plan is body calls are
