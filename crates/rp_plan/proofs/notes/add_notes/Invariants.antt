use Rattle.std.proofs.Common.{◌≡◌, ◌≤◌, ◌+◌, ◌++◌, drop, map}
use Rattle.std.specs.List.{enumerate_from, filter}
use Rattle.rp_plan.specs.Kept.{is_kept, kept_of}
use Rattle.rp_plan.specs.Notes.{new_note}
use Rattle.rp_plan.proofs.notes.add_notes.Given as goal

abbrev pub invariant-loop-file : goal.invariant-loop-file
invariant-loop-file l = record {
  slot : l.slot ≤ l.free + l.file;
  rows : l.notes ++ map (new_note l.seed l.defs l.facts l.free l.kept) (enumerate_from l.slot (filter (is_kept l.matched l.fn.threshold) (enumerate_from l.file (drop l.file l.defs))))
      ≡ l.initial.notes ++ map (new_note l.seed l.defs l.facts l.free l.kept) (enumerate_from l.free (kept_of l.matched l.fn.threshold l.defs));
}
