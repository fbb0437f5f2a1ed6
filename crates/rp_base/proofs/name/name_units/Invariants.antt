use Rattle.std.proofs.Common.{◌≡◌, ◌++◌, take, IsUtf8}
use Rattle.std.specs.Str.Iter.{encode_utf16_rest}
use Rattle.rp_base.specs.Name.{units_of}
use Rattle.rp_base.proofs.Units.{HasFront, units_left}
use Rattle.rp_base.proofs.name.name_units.Given as goal

abbrev pub invariant-loop-unit : goal.invariant-loop-unit
invariant-loop-unit l = record {
  can : (goal.iterator-loop-unit).can_next l.unit-iterator;
  finite : (goal.iterator-loop-unit).is_finite l.unit-iterator;
  text : IsUtf8 (encode_utf16_rest l.unit-iterator);
  all : units_of l.text ≡ take l.len l.units ++ units_left l.unit-iterator;
  front : HasFront l.units (take l.len l.units) l.len;
}
