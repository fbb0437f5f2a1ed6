-- So many settings are there, each none.
use Rattle.std.proofs.Common.{◌≡◌, replicate, None}
use Rattle.rp_defs.proofs.counting.no_settings.Given as goal

abbrev pub invariant-loop : goal.invariant-loop
invariant-loop l = l.counting ≡ replicate l.counter None
