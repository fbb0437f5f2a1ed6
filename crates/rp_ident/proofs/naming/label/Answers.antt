-- One naming after another.
use Rattle.std.proofs.Common.{◌+◌, ◌≤◌, length, drop, sym, ◌∙◌, ap, arith}
use Rattle.std.specs.Prelude.{fold}
use Rattle.std.proofs.lemmas.List.{at_drop_more, drop_all}
use Rattle.rp_ident.specs.Naming.{labeled}
use Rattle.rp_ident.proofs.naming.label.Goals as goal

pub loop-naming-preserved : goal.loop-naming-preserved
loop-naming-preserved c = (
  omega (arith, c.loop-naming.invariant.0),
  c.loop-naming.invariant.1
      ∙ at_drop_more (fold labeled c.loop-naming.rows) c.args.namings.now c.loop-naming.naming-index _ c.loop-naming-test.true
      ∙ ap (λ rows. fold labeled rows (drop (c.loop-naming.naming-index + 1) c.args.namings.now)) (sym c.label_one.ensures),
)

pub returns : goal.returns
returns c =
    let all : length c.args.namings.now ≤ c.loop-naming.naming-index = omega arith in
    sym (c.loop-naming.invariant.1 ∙ ap (fold labeled c.loop-naming.rows) (drop_all c.loop-naming.naming-index c.args.namings.now all))
