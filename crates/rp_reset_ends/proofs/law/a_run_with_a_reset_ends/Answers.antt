use Rattle.std.proofs.Common.{Ok}
use Rattle.rp_reset_ends.proofs.Carried.{all_of_both, broken_off, some_of_both}
use Rattle.rp_reset_ends.proofs.law.a_run_with_a_reset_ends.Goals as goal

pub returns-clause-broken_off : goal.returns-clause-broken_off
returns-clause-broken_off c request definitions disk opened read later sources asked drained seen reset plan refusal of_sector whole most
    formed fits synced plans carries =
    broken_off request definitions disk opened read sources asked seen reset plan of_sector whole most formed fits synced plans later
    drained refusal carries

pub returns-clause-some : goal.returns-clause-some
returns-clause-some c request definitions disk opened read between later sources asked left drained seen reset plan answer of_sector whole
    most formed fits synced plans resets carries =
    some_of_both request definitions disk opened read sources asked seen reset plan of_sector whole most formed fits synced plans later
    drained between left answer resets carries

pub returns-clause-all : goal.returns-clause-all
returns-clause-all c request definitions disk opened read between later sources asked left drained seen reset plan of_sector whole most
    formed fits synced plans resets carries =
    all_of_both request definitions disk opened read sources asked seen reset plan of_sector whole most formed fits synced plans later
    drained between left (Ok tt) resets carries (λ o behind second. second.ran.ok)
