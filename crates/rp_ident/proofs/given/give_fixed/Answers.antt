-- One naming after another.
use Rattle.std.proofs.Common.{◌≤◌, ◌+◌, length, drop, sym, ◌∙◌, ap, rules, arith}
use Rattle.std.proofs.lemmas.List.{at_drop_more, drop_all}
use Rattle.rp_ident.specs.Naming.{fixed_one, in_turn}
use Rattle.rp_ident.proofs.NamingLemmas.{in_turn-fault, in_turn-next, in_turn-none}
use Rattle.rp_ident.proofs.given.give_fixed.Goals as goal

pub loop-naming-preserved : goal.loop-naming-preserved
loop-naming-preserved c = record {
  len = omega (arith, c.loop-naming.invariant.len);
  rest = c.loop-naming.invariant.rest
      ∙ at_drop_more (in_turn fixed_one c.loop-naming.rows) c.args.namings.now c.loop-naming.naming-index _ c.loop-naming-test.true
      ∙ in_turn-next fixed_one c.loop-naming.rows _ (drop (c.loop-naming.naming-index + 1) c.args.namings.now) c.fix_one.new.rows c.in_ok-fix_one.ensures.rows;
  kept = c.in_ok-fix_one.ensures.kept;
}

pub returns-in_err-fix_one-clause-rows : goal.returns-in_err-fix_one-clause-rows
returns-in_err-fix_one-clause-rows c =
    in_turn-fault fixed_one c.loop-naming.rows _ (drop (c.loop-naming.naming-index + 1) c.args.namings.now) _ c.from_residual.result c.fix_one.new.rows c.in_err-fix_one.ensures.rows (search rules)
    ∙ sym (at_drop_more (in_turn fixed_one c.loop-naming.rows) c.args.namings.now c.loop-naming.naming-index _ c.loop-naming-test.true)
    ∙ sym c.loop-naming.invariant.rest

pub returns-clause-rows : goal.returns-clause-rows
returns-clause-rows c =
    let all : length c.args.namings.now ≤ c.loop-naming.naming-index = omega arith in
    sym (c.loop-naming.invariant.rest
    ∙ ap (in_turn fixed_one c.loop-naming.rows) (drop_all c.loop-naming.naming-index c.args.namings.now all)
    ∙ in_turn-none fixed_one c.loop-naming.rows)
