use Rattle.rp_reset_headline.proofs.Given.{calls_of_reset, reset_for}
use Rattle.rp_reset_headline.proofs.law.resets_are_plans_for_their_images.Goals as goal

pub returns-clause-plan : goal.returns-clause-plan
returns-clause-plan c = reset_for

pub returns-clause-calls : goal.returns-clause-calls
returns-clause-calls c sector old empty seen defs reset sources is = calls_of_reset sector old empty seen defs reset is sources
