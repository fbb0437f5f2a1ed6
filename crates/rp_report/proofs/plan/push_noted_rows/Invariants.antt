use Rattle.std.proofs.Common.{◌≡◌, ◌++◌, string_bytes, drop}
use Rattle.std.specs.Prelude.{zip}
use Rattle.std.specs.List.{flat_map}
use Rattle.rp_report.specs.Plans.{noted_line}
use Rattle.rp_report.proofs.plan.push_noted_rows.Given as goal

-- what is written and the lines of the rows that are left make the whole
abbrev pub invariant-loop-i : goal.invariant-loop-i
invariant-loop-i l =
    string_bytes l.text ++ flat_map (noted_line l.list) (drop l.i (zip l.rows l.notes))
    ≡ string_bytes l.initial.text ++ flat_map (noted_line l.list) (zip l.rows l.notes)
