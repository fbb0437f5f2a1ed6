use Rattle.rp_headline.proofs.Left.{rows_hold}
use Rattle.rp_headline.proofs.law.new_partitions_hold_their_contents.Goals as goal

pub returns : goal.returns
returns c sector old empty seen target defs facts seed plan sources is fit =
    rows_hold sector old empty seen target defs facts seed plan is sources fit
