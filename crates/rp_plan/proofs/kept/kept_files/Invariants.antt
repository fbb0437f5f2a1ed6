use Rattle.std.proofs.Common.{◌≡◌, ◌++◌, drop}
use Rattle.std.specs.List.{enumerate_from, filter_map}
use Rattle.rp_plan.specs.Kept.{kept_file, kept_files}
use Rattle.rp_plan.proofs.kept.kept_files.Given as goal

abbrev pub invariant-loop-file : goal.invariant-loop-file
invariant-loop-file l = l.files ++ filter_map (kept_file l.matched l.fn.threshold) (enumerate_from l.file (drop l.file l.defs)) ≡ kept_files l.matched l.fn.threshold l.defs
