use Rattle.rp_gpt.proofs.Accepted.{accepted_seen}
use Rattle.rp_gpt.proofs.seen_law.accepted_is_seen.Goals as goal

pub returns : goal.returns
returns c = accepted_seen
