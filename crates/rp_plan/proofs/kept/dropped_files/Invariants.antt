use Rattle.std.proofs.Common.{◌≡◌, ◌++◌, drop}
use Rattle.std.specs.List.{enumerate_from, filter_map}
use Rattle.rp_plan.specs.Kept.{dropped_file, dropped_files}
use Rattle.rp_plan.proofs.kept.dropped_files.Given as goal

abbrev pub invariant-loop-file : goal.invariant-loop-file
invariant-loop-file l = l.files ++ filter_map (dropped_file l.matched l.fn.threshold) (enumerate_from l.file (drop l.file l.defs)) ≡ dropped_files l.matched l.fn.threshold l.defs
