use Rattle.rp_areas.proofs.Owners.{owner_new, owner_old}
use Rattle.rp_areas.proofs.Rematched.{matched_new, matched_old}
use Rattle.rp_areas.proofs.law.added_rows_are_matched.Goals as goal

pub returns-clause-old : goal.returns-clause-old
returns-clause-old c old again kinds file place is had = matched_old old again kinds is file place had

pub returns-clause-new : goal.returns-clause-new
returns-clause-new c old again kinds file kind is definition none = matched_new old again kinds is file kind definition none

pub returns-clause-old_owner : goal.returns-clause-old_owner
returns-clause-old_owner c old again kinds place is below = owner_old old again kinds is place below

pub returns-clause-new_owner : goal.returns-clause-new_owner
returns-clause-new_owner c old again kinds file kind is definition none = owner_new old again kinds is file kind definition none
