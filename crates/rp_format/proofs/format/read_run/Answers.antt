-- Data blocks were read, and each was hashed.
use Rattle.std.proofs.Common.{◌≡◌, length, arith}
use Rattle.rp_verity.proofs.Cutting.{digests_cut}
use Rattle.rp_format.specs.Written.{LieIn}
use Rattle.rp_format.specs.declared.tree.TreePlan.{TreePlan}
use Rattle.rp_format.proofs.Told.{stays_call, stays_says}
use Rattle.rp_format.proofs.format.read_run.Goals as goal

pub returns-in_err-read-clause-strays : goal.returns-in_err-read-clause-strays
returns-in_err-read-clause-strays g c = λ o can.
    let tree : TreePlan = c.args.tree.now in
    let below = c.requires.more in
    let size = c.requires.run in
    stays_says (LieIn tree) _ _ _ _
    (stays_call (LieIn tree) o (g.D.Disk.device c.args.disk.now) (g.D.Disk.device c.read.new.self) _ (λ m lies. let end = lies.0 in omega arith) c.read.ensures.inside)

pub returns-clause-strays : goal.returns-clause-strays
returns-clause-strays g c = λ o can.
    let tree : TreePlan = c.args.tree.now in
    let below = c.requires.more in
    let size = c.requires.run in
    stays_says (LieIn tree) _ _ _ _
    (stays_call (LieIn tree) o (g.D.Disk.device c.args.disk.now) (g.D.Disk.device c.read.new.self) _ (λ m lies. let end = lies.0 in omega arith) c.read.ensures.inside)

pub returns-clause-digests : goal.returns-clause-digests
returns-clause-digests g c =
    let kept : length c.digest_blocks.new.out ≡ length c.args.digests.now = c.digest_blocks.auto.out in
    digests_cut c.args.tree.now.salt c.read.new.buf (length c.args.digests.now) c.digest_blocks.new.out kept
    (λ i below. c.digest_blocks.ensures.digests i below)
