-- What was read is the part up to one byte past the limit.
use Rattle.std.proofs.Common.{◌≡◌, ◌+◌, arith}
use Rattle.std.specs.Io.Take.{take_limit}
use Rattle.rp_io.proofs.LimitLemmas.{limited_read}
use Rattle.rp_io.proofs.host_folders.read_limited.Goals as goal

pub returns-clause-bytes : goal.returns-clause-bytes
returns-clause-bytes g c =
    λ fits.
    let most : take_limit c.take.result ≡ c.args.limit + 1 = omega (arith, c.take.ensures.limit, c.saturating_add.ensures, fits) in
    limited_read g.F.Read.remaining c.args.file c.take.result c.args.limit _ _ _ most c.take.ensures.inner c.new-bytes.ensures.items c.in_ok-read_to_end.ensures.bytes c.held.ensures.held
