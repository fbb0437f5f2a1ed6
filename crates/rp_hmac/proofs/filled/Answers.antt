-- Behind the key stay the zeros that the block had.
use Rattle.std.proofs.Common.{refl}
use Rattle.std.proofs.lemmas.List.{drop-replicate}
use Rattle.rp_hmac.proofs.filled.Goals as goal

pub returns : goal.returns
returns c = rw (c.copy_from_slice.ensures.after, drop-replicate) refl
