-- What a file as a disk is, from outside.
use Rattle.std.specs.Prelude.{◌≡◌, ◌↔◌, [], None, false}
use Rattle.rp_disk.specs.Device.{Device}
use Rattle.rp_disk.specs.declared.file.FileDisk.{FileDisk}

-- what it was asked and what it answered
abbrev pub device_of : {F : Type 0} → FileDisk F → Device
device_of disk = record { calls = disk.log.calls; answers = disk.log.answers; faults = disk.faults }

-- nothing was asked yet
abbrev pub fresh : Device
fresh = record { calls = []; answers = []; faults = 0 }

-- it couldn't be opened
abbrev pub IsMissing : {F : Type 0} → FileDisk F → Type 0
IsMissing disk = disk.file ≡ None

-- it was opened for reading alone
abbrev pub IsToRead : {F : Type 0} → FileDisk F → Type 0
IsToRead disk = disk.writable ≡ false

-- how it was opened stays
pub record SameOpening {F : Type 0} (old new : FileDisk F) : Type 0 where
  pub missing : IsMissing new ↔ IsMissing old
  pub writable : new.writable ≡ old.writable
