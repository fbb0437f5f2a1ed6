use Rattle.rp_headline.proofs.Left.{is_final}
use Rattle.rp_headline.proofs.law.the_image_is_final.Goals as goal

pub returns : goal.returns
returns c sector old empty seen target defs facts seed plan sources is fit =
    is_final sector old empty seen target defs facts seed plan is sources fit
