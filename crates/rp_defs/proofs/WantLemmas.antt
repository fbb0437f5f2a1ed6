-- What well formed definitions ask for is in bounds.
use Rattle.std.proofs.Common.{List, map, arith}
use Rattle.std.proofs.lemmas.List.{length-map}
use Rattle.std.proofs.lemmas.List.Elements.{All-map, All-weaker}
use Rattle.rp_base.specs.Wants.{IsWant, AreWants}
use Rattle.rp_defs.specs.declared.definition.Definition.{Definition}
use Rattle.rp_defs.specs.WellFormed.{IsSound, IsWellFormed}

pub are_wants : (list : List Definition) → IsWellFormed list → AreWants (map (λ (d : Definition). d.want) list)
are_wants list well = record {
  few = omega (arith, well.few, length-map list (λ (d : Definition). d.want));
  each = All-map IsWant (λ (d : Definition). d.want) list
      (All-weaker IsSound (λ (d : Definition). IsWant d.want) (λ d sound. sound.want) list well.each);
}
