use Rattle.std.proofs.Common.{[], ◌∷◌}
use Rattle.rp_disk.specs.declared.call.Call.TheVariants.{Write, Sync}
use Rattle.rp_disk_example.specs.Copies.{two_writes}
use Rattle.rp_disk.proofs.Runs.{run_any_moment, run_ends_settled}
use Rattle.rp_disk_example.proofs.copies.two_copies.Goals as goal

pub returns-clause-end : goal.returns-clause-end
returns-clause-end g c =
    run_ends_settled c.make_two.result _ _ (Write c.args.first c.args.bytes.now ∷ Sync ∷ Write c.args.second c.args.bytes.now ∷ []) c.make_two.ensures.ran

pub returns-clause-any_moment : goal.returns-clause-any_moment
returns-clause-any_moment g c =
    run_any_moment c.make_two.result _ _ (two_writes c.args.first c.args.second c.args.bytes.now) c.make_two.ensures.ran
