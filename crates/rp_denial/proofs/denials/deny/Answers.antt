use Rattle.std.proofs.Common.{refl}
use Rattle.rp_outcome.proofs.Printed.{prints_as}
use Rattle.rp_denial.proofs.Pieces.{denied-pieces}
use Rattle.rp_denial.proofs.denials.deny.Goals as goal

pub returns : goal.returns
returns g c = record {
  answers = refl;
  printed =
      prints_as _ _ _ _ c.print_pieces.result
      (denied-pieces c.args.designator c.args.rule c.name.result.now c.rule_name.result.now c.name.ensures c.rule_name.ensures)
      c.print_pieces.ensures.done c.print_pieces.ensures.failed;
}
