use Rattle.std.proofs.Common.{List, subst}
use Rattle.std.specs.Prelude.{All}
use Rattle.rp_gpt.proofs.InPlace.{in_place-room}
use Rattle.rp_steps.specs.declared.step.Step.{Step}
use Rattle.rp_apply.specs.Ready.{NamesPath}
use Rattle.rp_apply.proofs.Can.{can_make}
use Rattle.rp_apply.proofs.carrying.make_all.Goals as goal

pub make_steps-requires-clause-can : goal.make_steps-requires-clause-can
make_steps-requires-clause-can g c =
    let r = c.requires in
    let ready = c.args.ready.now in
    rw (c.as_slice.ensures, r.steps)
    (can_make ready.paths ready.seen ready.plan r.well_formed (subst (λ (l : List Step). All (NamesPath ready.paths) l) r.steps r.paths))

pub make_steps-requires-clause-goal : goal.make_steps-requires-clause-goal
make_steps-requires-clause-goal g c =
    let r = c.requires in
    let ready = c.args.ready.now in
    let formed = r.well_formed in
    record {
      room = record { sector = formed.writable.sector; room = in_place-room ready.plan.target ready.plan.goal formed.writable.sector formed.in_place; most = formed.target.most };
      writable = formed.writable;
      fits = r.table_fits;
    }

pub make_steps-requires-clause-stocked : goal.make_steps-requires-clause-stocked
make_steps-requires-clause-stocked g c = record { leased = c.requires.leased; copies = c.requires.copies }

pub returns-clause-made : goal.returns-clause-made
returns-clause-made g c = rw c.as_slice.ensures at c.make_steps.ensures.made

pub returns-clause-source_strays : goal.returns-clause-source_strays
returns-clause-source_strays g c = rw c.as_slice.ensures at c.make_steps.ensures.source_strays
