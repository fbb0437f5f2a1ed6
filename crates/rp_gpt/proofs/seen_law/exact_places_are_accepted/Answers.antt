use Rattle.rp_gpt.proofs.ExactPlaces.{exact-accepted}
use Rattle.rp_gpt.proofs.ReadsBack.{reads_back}
use Rattle.rp_gpt.proofs.seen_law.exact_places_are_accepted.Goals as goal

pub returns : goal.returns
returns c image table empty holds writable fits other = exact-accepted image table holds writable (reads_back table writable fits) empty other
