-- A disk in memory can have its own past.
use Rattle.std.proofs.Common.{◌≡◌, ap, subst}
use Rattle.rp_disk.specs.Device.{CanHave, Known}
use Rattle.rp_disk.specs.History.{History}
use Rattle.rp_disk.specs.KeptLawful.{kept_lawful}
use Rattle.rp_disk.specs.Made.{Past, history_of}
use Rattle.rp_disk.specs.MemDisk.{own, history, device_of}
use Rattle.rp_disk.specs.Record.{recorded}
use Rattle.rp_disk.specs.declared.mem.MemDisk.{MemDisk}

pub own_can : (disk : MemDisk) → CanHave (own disk) (device_of disk)
own_can disk = record {
  lawful = kept_lawful disk.bytes.items disk.notes.first.items disk.notes.calls.items disk.notes.oks.items disk.fits;
  answers = disk.told;
}

pub own_known : (old new : MemDisk) (P : History → Type 0) → own new ≡ own old → Known (device_of old) (device_of new) P → P (history old)
own_known old new P same known =
    subst (λ (past : Past). P (history_of past (recorded old.notes))) same (known (own new) (own_can new))
