-- What half of a verity pair has of its partner.
use Rattle.std.specs.Prelude.{ℤ, int_le, if◌then◌else◌}
use Rattle.rp_defs.specs.declared.definition.Definition.{Definition}
use Rattle.rp_defs.specs.declared.definition.Verity.{Verity}

-- the greater of two priorities
abbrev pub greater : ℤ → ℤ → ℤ
greater a b = if int_le a b then b else a

-- a definition with another verity and priority
abbrev pub with_partner : Definition → Verity → ℤ → Definition
with_partner d own priority = record {
  file = d.file;
  kind = d.kind;
  label = d.label;
  id = d.id;
  priority = priority;
  want = d.want;
  attrs = d.attrs;
  source = d.source;
  verity = own;
  factory_reset = d.factory_reset;
  split = d.split;
}
