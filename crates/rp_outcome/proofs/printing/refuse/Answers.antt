use Rattle.std.proofs.Common.{◌≡◌, ap, sym}
use Rattle.rp_outcome.specs.Refusals.{Refusal}
use Rattle.rp_outcome.proofs.Printed.{prints_line, prints_memory}
use Rattle.rp_outcome.proofs.printing.refuse.Goals as goal

pub returns-then-refusal-eq-MEMORY : goal.returns-then-refusal-eq-MEMORY
returns-then-refusal-eq-MEMORY g c =
    let e : c.args.refusal.now.status ≡ 10 = rw (sym c.refusal.view_is) c.if-refusal-eq-MEMORY.true in
    record { answers = sym e; printed = prints_memory _ c.args.refusal.now e }

pub returns : goal.returns
returns g c = record {
  answers = ap (λ (refusal : Refusal). refusal.status) c.refusal.view_is;
  printed =
      prints_line _ _ c.args.refusal.now c.refusal.inside.status c.refusal.inside.words c.print_line.result
      c.refusal.view_is c.if-refusal-eq-MEMORY.false c.print_line.ensures.done c.print_line.ensures.failed;
}
