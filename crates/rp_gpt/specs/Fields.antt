-- The fields of a header and of an entry, by their offsets.
use Rattle.std.specs.Prelude.{ℕ, List}
use Rattle.rp_base.specs.declared.guid.Guid.{Guid}
use Rattle.rp_gpt.specs.Numbers.{u32_at, u64_at, guid_at, units_at}

-- the header (UEFI 2.10, 5.3.2, table 5-5)
abbrev pub signature : List ℕ → ℕ
signature header = u64_at header 0

abbrev pub revision : List ℕ → ℕ
revision header = u32_at header 8

abbrev pub header_size : List ℕ → ℕ
header_size header = u32_at header 12

abbrev pub header_crc : List ℕ → ℕ
header_crc header = u32_at header 16

abbrev pub my_lba : List ℕ → ℕ
my_lba header = u64_at header 24

abbrev pub first_usable_lba : List ℕ → ℕ
first_usable_lba header = u64_at header 40

abbrev pub last_usable_lba : List ℕ → ℕ
last_usable_lba header = u64_at header 48

abbrev pub disk_guid : List ℕ → Guid
disk_guid header = guid_at header 56

abbrev pub array_lba : List ℕ → ℕ
array_lba header = u64_at header 72

abbrev pub entry_count : List ℕ → ℕ
entry_count header = u32_at header 80

abbrev pub entry_size : List ℕ → ℕ
entry_size header = u32_at header 84

abbrev pub array_crc : List ℕ → ℕ
array_crc header = u32_at header 88

-- an entry (UEFI 2.10, 5.3.3, table 5-6)
abbrev pub type_guid : List ℕ → Guid
type_guid entry = guid_at entry 0

abbrev pub unique_guid : List ℕ → Guid
unique_guid entry = guid_at entry 16

abbrev pub first_lba : List ℕ → ℕ
first_lba entry = u64_at entry 32

abbrev pub last_lba : List ℕ → ℕ
last_lba entry = u64_at entry 40

abbrev pub attributes : List ℕ → ℕ
attributes entry = u64_at entry 48

abbrev pub name_units : List ℕ → List ℕ
name_units entry = units_at entry 56 36
