use Rattle.std.proofs.Common.{refl}
use Rattle.rp_outcome.proofs.Printed.{prints_as}
use Rattle.rp_denial.proofs.Pieces.{refused-pieces}
use Rattle.rp_denial.proofs.denials.refuse_policy.Goals as goal

pub returns : goal.returns
returns g c = record {
  answers = refl;
  printed =
      prints_as _ _ _ _ c.print_pieces.result
      (refused-pieces c.args.fault c.format-at.result.now c.kind_word.result.now (rw c.from.ensures at c.format-at.ensures.text)
      c.kind_word.ensures)
      c.print_pieces.ensures.done c.print_pieces.ensures.failed;
}
