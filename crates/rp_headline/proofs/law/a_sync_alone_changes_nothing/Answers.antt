use Rattle.rp_headline.proofs.Left.{is_untouched}
use Rattle.rp_headline.proofs.law.a_sync_alone_changes_nothing.Goals as goal

pub returns : goal.returns
returns c = is_untouched
