use Rattle.rp_layout.proofs.Public.{laid_out_again}
use Rattle.rp_layout.proofs.law.rows_after_are_laid_out.Goals as goal

pub returns : goal.returns
returns c table last matched wants areas news kept again ready first end same = laid_out_again table last matched wants areas news kept
    ready again first end same
