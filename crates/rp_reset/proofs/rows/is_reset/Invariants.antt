use Rattle.std.proofs.Common.{◌≡◌, drop}
use Rattle.std.specs.List.{enumerate_from, list_any}
use Rattle.rp_reset.specs.Reset.{is_reset, resets}
use Rattle.rp_reset.proofs.rows.is_reset.Given as goal

abbrev pub invariant-loop-file : goal.invariant-loop-file
invariant-loop-file l = list_any (resets l.matched l.place) (enumerate_from l.file (drop l.file l.defs)) ≡ is_reset l.matched l.defs l.place
