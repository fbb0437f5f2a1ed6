-- The values so far are those of the keys so far, in their bounds.
use Rattle.std.proofs.Common.{◌≡◌, Option, Ok}
use Rattle.std.specs.Prelude.{All, IfSome}
use Rattle.std.specs.List.{range_with_len}
use Rattle.rp_defs.specs.declared.value.Value.{Value}
use Rattle.rp_defs.specs.Answers.{each}
use Rattle.rp_defs.specs.Value.{IsBounded}
use Rattle.rp_defs.specs.Values.{value_at}
use Rattle.rp_defs.proofs.values.values_of.Given as goal

abbrev pub invariant-loop-key : goal.invariant-loop-key
invariant-loop-key l = record {
  so_far : each (value_at l.arch l.file l.counting) (range_with_len 0 l.key) ≡ Ok l.values;
  bounded : All (λ (value : Option Value). IfSome value IsBounded) l.values;
}
