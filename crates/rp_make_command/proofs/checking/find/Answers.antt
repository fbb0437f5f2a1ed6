use Rattle.rp_types.specs.declared.arch.Arch.TheVariants.{X86_64}
use Rattle.rp_make_command.proofs.Found.{with_found, without_disk, without_memory}
use Rattle.rp_make_command.proofs.checking.find.Goals as goal

pub returns-in-Ok-difference_of : goal.returns-in-Ok-difference_of
returns-in-Ok-difference_of g c =
    let e = c.in-Ok-difference_of.ensures in
    with_found X86_64 c.args.planned.now (g.D.Disk.device c.args.disk.now)
    (g.D.Disk.device c.difference_of.new.disk)
    e.earlier e.calls e.inside c.requires.len c.in-Ok-difference_of.found e.answer e.table e.cause.kept

pub returns : goal.returns
returns g c =
    let e = c.in-Err.ensures in
    without_disk X86_64 c.args.planned.now (g.D.Disk.device c.args.disk.now)
    (g.D.Disk.device c.difference_of.new.disk)
    e.earlier e.calls e.inside c.requires.len e.cause.failed

pub returns-in_default : goal.returns-in_default
returns-in_default g c = without_memory X86_64 c.args.planned.now (g.D.Disk.device c.args.disk.now)
