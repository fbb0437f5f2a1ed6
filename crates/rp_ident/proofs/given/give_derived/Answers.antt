-- One naming after another.
use Rattle.std.proofs.Common.{◌≤◌, ◌+◌, length, drop, replicate, refl, sym, ◌∙◌, ap, rules, arith}
use Rattle.std.proofs.lemmas.List.{at_drop_more, drop_all}
use Rattle.rp_ident.specs.Naming.{derived_one, in_turn}
use Rattle.rp_ident.proofs.NamingLemmas.{in_turn-fault, in_turn-next, in_turn-none}
use Rattle.rp_ident.proofs.TriedLemmas.{none-tried}
use Rattle.rp_ident.proofs.given.give_derived.Goals as goal

pub loop-naming-init : goal.loop-naming-init
loop-naming-init c = record {
  len = refl;
  rest = refl;
  kept = c.requires.kept;
  tried = none-tried c.args.seed c.args.rows.now 64 (record { 0 = replicate 16 0 });
}

pub loop-naming-preserved : goal.loop-naming-preserved
loop-naming-preserved c = record {
  len = omega (arith, c.loop-naming.invariant.len);
  rest = c.loop-naming.invariant.rest
      ∙ at_drop_more (in_turn (derived_one c.args.seed) c.loop-naming.rows) c.args.namings.now c.loop-naming.naming-index _ c.loop-naming-test.true
      ∙ in_turn-next (derived_one c.args.seed) c.loop-naming.rows _ (drop (c.loop-naming.naming-index + 1) c.args.namings.now) c.derive_one.new.rows c.in_ok-derive_one.ensures.rows;
  kept = c.in_ok-derive_one.ensures.kept;
  tried = c.in_ok-derive_one.ensures.tried;
}

pub returns-in_err-derive_one : goal.returns-in_err-derive_one
returns-in_err-derive_one c =
    in_turn-fault (derived_one c.args.seed) c.loop-naming.rows _ (drop (c.loop-naming.naming-index + 1) c.args.namings.now) _ c.from_residual.result c.derive_one.new.rows c.in_err-derive_one.ensures.rows (search rules)
    ∙ sym (at_drop_more (in_turn (derived_one c.args.seed) c.loop-naming.rows) c.args.namings.now c.loop-naming.naming-index _ c.loop-naming-test.true)
    ∙ sym c.loop-naming.invariant.rest

pub returns : goal.returns
returns c =
    let all : length c.args.namings.now ≤ c.loop-naming.naming-index = omega arith in
    sym (c.loop-naming.invariant.rest
    ∙ ap (in_turn (derived_one c.args.seed) c.loop-naming.rows) (drop_all c.loop-naming.naming-index c.args.namings.now all)
    ∙ in_turn-none (derived_one c.args.seed) c.loop-naming.rows)
