-- What the sections of the names so far ignore.
use Rattle.std.proofs.Common.{◌≡◌, take}
use Rattle.std.specs.Prelude.{sum_by}
use Rattle.rp_defs.specs.Settings.{ignored_in}
use Rattle.rp_defs.proofs.IgnoredLemmas.{found}
use Rattle.rp_defs.proofs.ignored.ignored_in.Given as goal

abbrev pub invariant-loop-name : goal.invariant-loop-name
invariant-loop-name l = l.ignored ≡ sum_by (λ name. ignored_in (found l.file name)) (take l.name-index l.name-items)
