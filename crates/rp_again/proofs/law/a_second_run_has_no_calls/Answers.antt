use Rattle.rp_idle.proofs.Public.{no_calls}
use Rattle.rp_headline.proofs.Public.{ends_any}
use Rattle.rp_again.proofs.law.a_second_run_has_no_calls.Goals as goal

pub returns : goal.returns
returns c sector bytes empty seen target defs facts seed plan body calls was now ends is are none image left =
    let idle = (ends_any sector bytes empty seen target defs facts seed plan was now is body calls ends are image left).again none in
    record {
      idle = idle;
      again = λ then next others second sources takes known planned.
          no_calls sector image defs seed then next others second sources idle takes known planned;
    }
