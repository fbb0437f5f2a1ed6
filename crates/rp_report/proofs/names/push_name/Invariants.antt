use Rattle.std.proofs.Common.{◌≡◌, ◌++◌, string_bytes, drop}
use Rattle.rp_report.specs.Names.{name_text}
use Rattle.rp_report.proofs.names.push_name.Given as goal

-- what is written and the text of the units that are left make the whole
abbrev pub invariant-loop-unit : goal.invariant-loop-unit
invariant-loop-unit l = string_bytes l.text ++ name_text (drop l.unit-index l.name) ≡ string_bytes l.initial.text ++ name_text l.name
