use Rattle.std.proofs.Common.{◌∷◌}
use Rattle.rp_disk.specs.declared.call.Call.TheVariants.{Sync}
use Rattle.rp_disk_example.specs.Copies.{settled_row, row_of}
use Rattle.rp_disk.proofs.Runs.{run_any_moment_behind_sync, run_ends_settled}
use Rattle.rp_disk_example.proofs.copies.fill.Goals as goal

pub returns-clause-end : goal.returns-clause-end
returns-clause-end g c =
    run_ends_settled c.make_row.result _ _ (Sync ∷ row_of c.args.at c.args.count c.args.bytes.now) c.make_row.ensures.ran

pub returns-clause-any_moment : goal.returns-clause-any_moment
returns-clause-any_moment g c =
    run_any_moment_behind_sync c.make_row.result _ _ (settled_row c.args.at c.args.count c.args.bytes.now) c.make_row.ensures.ran
