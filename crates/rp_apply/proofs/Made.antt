-- What was prepared is ready.
use Rattle.std.proofs.Common.{◌≡◌, ℕ, ◌≤◌, List, All, refl, subst}
use Rattle.rp_base.specs.Plan.{IsWellFormed}
use Rattle.rp_base.specs.Table.{TableFits}
use Rattle.rp_base.specs.declared.plan.Plan.{Plan}
use Rattle.rp_base.specs.declared.seen.Seen.{Seen}
use Rattle.rp_defs.specs.declared.definition.Definition.{Definition}
use Rattle.rp_region.specs.Region.{HoldsCopies, IsLeased}
use Rattle.rp_region.specs.declared.blocks.Blocks.{Blocks}
use Rattle.rp_stops.specs.Order.{target_sectors}
use Rattle.rp_steps.specs.Contents.{NotesFit}
use Rattle.rp_steps.specs.Steps.{steps as steps_for}
use Rattle.rp_steps.specs.declared.step.Step.{Step}
use Rattle.rp_apply.specs.Ready.{IsReadyFor}
use Rattle.rp_apply.specs.Sourced.{NamesSource, paths_of}
use Rattle.rp_apply.proofs.Named.{paths_named}

pub ready_for : (plan kept : Plan) (seen copy : Seen) (defs : List Definition) (steps : List Step) (paths : List (List ℕ)) (blocks : Blocks) (n : ℕ)
    → IsWellFormed seen plan → All (NamesSource defs) plan.notes
    → TableFits plan.goal → NotesFit plan → steps ≡ steps_for plan seen → paths ≡ paths_of defs → kept ≡ plan → copy ≡ seen → IsLeased blocks → n ≡ target_sectors plan
    → HoldsCopies plan.goal n blocks.pool
    → IsReadyFor plan seen defs (record { plan = kept; seen = copy; steps = steps; paths = paths; blocks = blocks })
ready_for plan kept seen copy defs steps paths blocks n formed names table notes steps_are paths_are kept_is copy_is leased n_is copies =
    record {
      plan_is = kept_is;
      seen_is = copy_is;
      paths_are = paths_are;
      ready_is = rw (kept_is, copy_is, steps_are, paths_are) record {
        well_formed = formed;
        table_fits = table;
        notes_fit = notes;
        steps = refl;
        paths = paths_named defs seen plan names;
        leased = leased;
        copies = subst (λ (m : ℕ). HoldsCopies plan.goal m blocks.pool) n_is copies;
      };
    }
