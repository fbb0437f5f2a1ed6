use Rattle.rp_disk.specs.Made.{history_of}
use Rattle.rp_disk.proofs.Agreeing.{shown_left}
use Rattle.rp_disk.proofs.told.past_law.Goals as goal

pub returns : goal.returns
returns c = λ past device can. shown_left (history_of past device.calls) can.lawful
