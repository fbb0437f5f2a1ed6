-- Worked values: a disk of 64 MiB with a table of 128 entries, and a plan that adds a verity pair behind its one partition.
use Rattle.std.specs.Prelude.{ℕ, ◌+◌, true, List, [], ◌∷◌, Option, Some, None, pos, replicate}
use Rattle.rp_base.specs.declared.guid.Guid.{Guid}
use Rattle.rp_base.specs.declared.plan.Change.{Change}
use Rattle.rp_base.specs.declared.plan.Change.TheVariants.{New, Same}
use Rattle.rp_base.specs.declared.plan.Note.{Note}
use Rattle.rp_base.specs.declared.plan.Plan.{Plan}
use Rattle.rp_base.specs.declared.plan.Role.{Role}
use Rattle.rp_base.specs.declared.plan.Role.TheVariants.{Data, Hash, Plain}
use Rattle.rp_base.specs.declared.seen.Mbr.TheVariants as mbrs
use Rattle.rp_base.specs.declared.seen.Origin.TheVariants as origins
use Rattle.rp_base.specs.declared.seen.Seen.{Seen}
use Rattle.rp_base.specs.declared.table.Row.{Row}
use Rattle.rp_base.specs.declared.table.Table.{Table}

-- a GUID of this byte
abbrev pub guid : ℕ → Guid
guid n = record { 0 = replicate 16 n }

-- a row with these numbers
abbrev pub entry : ℕ → ℕ → ℕ → ℕ → Row
entry slot kind start size = record {
  slot = slot;
  kind = guid kind;
  id = guid (100 + slot);
  start = start;
  size = size;
  attrs = 0;
  name = replicate 36 65;
}

-- a table with these rows
abbrev pub table_with : List Row → Table
table_with rows = record { sector = 512; entries = 128; disk = guid 9; first = 2048; last = 131038; rows = rows }

-- the partition that was there, and the halves of a pair: 128 blocks of data, and a tree of a superblock and one block
abbrev pub old : Row
old = entry 0 1 2048 80000

abbrev pub payload : Row
payload = entry 1 2 82048 1024

abbrev pub hash : Row
hash = entry 2 3 83072 16

-- the table with these three
abbrev pub table : Table
table = table_with (old ∷ payload ∷ hash ∷ [])

-- what is seen of the image before
abbrev pub seen : Seen
seen = record {
  sectors = 131072;
  shown = table_with (old ∷ []);
  origin = origins.Primary;
  primary_same = true;
  backup_same = true;
  mbr = mbrs.Same;
}

-- a note of a definition with the slot's number
abbrev pub note : ℕ → Change → Option ℕ → Role → Note
note slot change source role = record { slot = slot; file = Some slot; change = change; source = source; role = role }

-- the notes: the source of the data isn't a whole number of blocks
abbrev pub kept : Note
kept = note 0 Same None Plain

abbrev pub payload_note : Note
payload_note = note 1 New (Some 523000) (Data 2 (replicate 32 7))

abbrev pub hash_note : Note
hash_note = note 2 New None (Hash 1 128 (replicate 32 5) (guid 8) (replicate 32 7))

abbrev pub plan : Plan
plan = record { target = 131072; goal = table; notes = kept ∷ payload_note ∷ hash_note ∷ []; dropped = []; threshold = pos 0 }

-- the plan with other rows for the three, and with other notes
abbrev pub with_rows : List Row → Plan
with_rows rows = record plan { goal = table_with rows }

abbrev pub with_notes : List Note → Plan
with_notes notes = record plan { notes = notes }
