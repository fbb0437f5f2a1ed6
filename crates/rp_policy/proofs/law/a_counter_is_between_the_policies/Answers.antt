use Rattle.rp_policy.specs.Reading.{designators}
use Rattle.rp_policy.proofs.Complete.{counter_between, no_counter}
use Rattle.rp_policy.proofs.law.a_counter_is_between_the_policies.Goals as goal

pub returns-clause-none : goal.returns-clause-none
returns-clause-none c a b d found is may allowed = no_counter a b d found is may allowed

pub returns-clause-some : goal.returns-clause-some
returns-clause-some c a b counter is = counter_between a b designators counter is
