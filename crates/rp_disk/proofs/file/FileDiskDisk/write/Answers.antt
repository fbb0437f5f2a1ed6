use Rattle.rp_disk.specs.declared.call.Call.TheVariants.{Write}
use Rattle.rp_disk.specs.FileDisk.{device_of}
use Rattle.rp_disk.proofs.Noting.{write_earlier, write_range, write_inside}
use Rattle.rp_disk.proofs.file.FileDiskDisk.write.Goals as goal

pub returns-clause-earlier : goal.returns-clause-earlier
returns-clause-earlier g c = write_earlier _ _ (Write c.args.at c.args.bytes.now) _ _ c.ask_write.ensures.calls c.ask_write.ensures.noted

pub returns-clause-range : goal.returns-clause-range
returns-clause-range g c = write_range (device_of c.args.self.now) (device_of c.ask_write.new.self) c.args.at c.args.bytes.now _ c.ask_write.ensures.calls

pub returns-clause-inside : goal.returns-clause-inside
returns-clause-inside g c = write_inside _ _ _ _ c.ask_write.ensures.noted
