use Rattle.std.proofs.Common.{◌≡◌, ◌++◌, drop}
use Rattle.std.specs.List.{enumerate_from, filter_map}
use Rattle.rp_plan.specs.Names.{naming_of, namings_of}
use Rattle.rp_plan.proofs.names.namings.Given as goal

abbrev pub invariant-loop-file : goal.invariant-loop-file
invariant-loop-file l = l.namings ++ filter_map (naming_of l.facts l.matched l.rows l.kept) (enumerate_from l.file (drop l.file l.defs)) ≡ namings_of l.facts l.matched l.rows l.kept l.defs
