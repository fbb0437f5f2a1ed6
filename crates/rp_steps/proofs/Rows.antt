-- Worked plans: their steps come out of the definition.
use Rattle.std.proofs.Common.{◌≡◌, ℕ, ◌+◌, Bool, true, false, List, [], ◌∷◌, length, Option, Some, None, refl, replicate}
use Rattle.rp_base.specs.Trees.{hash_blocks, level_blocks, levels}
use Rattle.rp_base.specs.declared.guid.Guid.{Guid}
use Rattle.rp_base.specs.declared.plan.Change.{Change}
use Rattle.rp_base.specs.declared.plan.Change.TheVariants.{New, Changed, Same}
use Rattle.rp_base.specs.declared.plan.Note.{Note}
use Rattle.rp_base.specs.declared.plan.Plan.{Plan}
use Rattle.rp_base.specs.declared.plan.Role.{Role}
use Rattle.rp_base.specs.declared.plan.Role.TheVariants.{Plain, Data, Hash}
use Rattle.rp_base.specs.declared.seen.Mbr.{Mbr as MbrState}
use Rattle.rp_base.specs.declared.seen.Mbr.TheVariants as states
use Rattle.rp_base.specs.declared.seen.Origin.{Origin}
use Rattle.rp_base.specs.declared.seen.Origin.TheVariants as origins
use Rattle.rp_base.specs.declared.seen.Seen.{Seen}
use Rattle.rp_base.specs.declared.table.Row.{Row}
use Rattle.rp_base.specs.declared.table.Table.{Table}
use Rattle.std.specs.Prelude.{pos}
use Rattle.rp_steps.specs.Same.{same_row, same_table}
use Rattle.rp_steps.specs.Steps.{contents_steps, copy_steps, growth, mbr_phases, mebibyte, payload_steps, phases, rest_steps, steps, tree_steps, writes_both, writes_mbr, written_copies, zero_steps}
use Rattle.rp_steps.specs.Writes.{writes, writes_in}
use Rattle.rp_steps.specs.declared.step.Step.{Step}
use Rattle.rp_steps.specs.declared.step.Step.TheVariants.{Grow, Zero, Copy, Tree, ClosePrimary, ArrayPrimary, HeaderPrimary, CloseBackup, ArrayBackup, HeaderBackup, Mbr, Sync}

abbrev guid : ℕ → Guid
guid n = record { 0 = replicate 16 n }

abbrev partition : ℕ → ℕ → ℕ → Row
partition slot start size = record {
  slot = slot;
  kind = guid 1;
  id = guid (2 + slot);
  start = start;
  size = size;
  attrs = 0;
  name = replicate 36 97;
}

abbrev note : ℕ → Change → Option ℕ → Role → Note
note slot change source role = record { slot = slot; file = Some slot; change = change; source = source; role = role }

abbrev table : ℕ → ℕ → List Row → Table
table sector last rows = record { sector = sector; entries = 128; disk = guid 9; first = 2048; last = last; rows = rows }

abbrev plan_of : ℕ → Table → List Note → Plan
plan_of target goal notes = record { target = target; goal = goal; notes = notes; dropped = []; threshold = pos 0 }

abbrev seen_as : ℕ → Table → Origin → Bool → Bool → MbrState → Seen
seen_as sectors shown origin primary backup mbr = record {
  sectors = sectors;
  shown = shown;
  origin = origin;
  primary_same = primary;
  backup_same = backup;
  mbr = mbr;
}

-- copies, the backup first and the primary first
abbrev backup_then_primary : List Step → List Step
backup_then_primary more =
    CloseBackup ∷ Sync ∷ ArrayBackup ∷ Sync ∷ HeaderBackup ∷ Sync ∷ ClosePrimary ∷ Sync ∷ ArrayPrimary ∷ Sync ∷ HeaderPrimary ∷ Sync ∷ more

abbrev primary_then_backup : List Step → List Step
primary_then_backup more =
    ClosePrimary ∷ Sync ∷ ArrayPrimary ∷ Sync ∷ HeaderPrimary ∷ Sync ∷ CloseBackup ∷ Sync ∷ ArrayBackup ∷ Sync ∷ HeaderBackup ∷ Sync ∷ more

-- two new partitions on a blank image of 64 MiB
abbrev two_new : ℕ → ℕ → Plan
two_new sector last = plan_of 131072 (table sector last (partition 0 2048 42992 ∷ partition 1 45040 85992 ∷ [])) (note 0 New None Plain ∷ note 1 New None Plain ∷ [])

abbrev blank : ℕ → ℕ → Seen
blank sector last = seen_as 131072 (table sector last []) origins.Neither false false states.Differs

abbrev steps_of_two : List Step
steps_of_two =
    Zero 1048576 1048576 ∷ Zero 22011904 1048576 ∷ Zero 23060480 1048576 ∷ Zero 66039808 1048576 ∷ Sync ∷ backup_then_primary (Mbr ∷ Sync ∷ [])

two_new_partitions : steps (two_new 512 131038) (blank 512 131038) ≡ steps_of_two
unfolding steps phases growth contents_steps payload_steps copy_steps rest_steps mebibyte zero_steps tree_steps written_copies writes_both same_table same_row mbr_phases writes_mbr
two_new_partitions = refl

in_large_sectors : steps (two_new 4096 131031) (blank 4096 131031) ≡ steps_of_two
unfolding steps phases growth contents_steps payload_steps copy_steps rest_steps mebibyte zero_steps tree_steps written_copies writes_both same_table same_row mbr_phases writes_mbr
in_large_sectors = refl

nineteen_steps : length steps_of_two ≡ 19
nineteen_steps = refl

twenty_three_writes : writes steps_of_two ≡ 23
unfolding writes_in
twenty_three_writes = refl

-- one row that stays
abbrev one_row : Table
one_row = table 512 131038 (partition 0 2048 20480 ∷ [])

abbrev stays : Plan
stays = plan_of 131072 one_row (note 0 Same None Plain ∷ [])

nothing_to_do : steps stays (seen_as 131072 one_row origins.Primary true true states.Same) ≡ []
unfolding steps phases growth contents_steps payload_steps copy_steps rest_steps mebibyte zero_steps tree_steps written_copies writes_both same_table same_row mbr_phases writes_mbr
nothing_to_do = refl

another_tables_mbr : steps stays (seen_as 131072 one_row origins.Primary true true states.Foreign) ≡ []
unfolding steps phases growth contents_steps payload_steps copy_steps rest_steps mebibyte zero_steps tree_steps written_copies writes_both same_table same_row mbr_phases writes_mbr
another_tables_mbr = refl

-- a damaged primary is written alone
abbrev primary_alone : List Step
primary_alone = ClosePrimary ∷ Sync ∷ ArrayPrimary ∷ Sync ∷ HeaderPrimary ∷ Sync ∷ []

damaged_primary : steps stays (seen_as 131072 one_row origins.Backup false true states.Same) ≡ primary_alone
unfolding steps phases growth contents_steps payload_steps copy_steps rest_steps mebibyte zero_steps tree_steps written_copies writes_both same_table same_row mbr_phases writes_mbr
damaged_primary = refl

six_steps_three_writes : (length primary_alone ≡ 6) × (writes primary_alone ≡ 3)
unfolding writes_in
six_steps_three_writes = (refl, refl)

-- a damaged primary and an MBR that differs, as a stop behind the backup leaves them
damaged_primary_and_mbr : steps stays (seen_as 131072 one_row origins.Backup false true states.Differs)
    ≡ ClosePrimary ∷ Sync ∷ ArrayPrimary ∷ Sync ∷ HeaderPrimary ∷ Sync ∷ Mbr ∷ Sync ∷ []
unfolding steps phases growth contents_steps payload_steps copy_steps rest_steps mebibyte zero_steps tree_steps written_copies writes_both same_table same_row mbr_phases writes_mbr
damaged_primary_and_mbr = refl

damaged_backup : steps stays (seen_as 131072 one_row origins.Primary true false states.Same)
    ≡ CloseBackup ∷ Sync ∷ ArrayBackup ∷ Sync ∷ HeaderBackup ∷ Sync ∷ []
unfolding steps phases growth contents_steps payload_steps copy_steps rest_steps mebibyte zero_steps tree_steps written_copies writes_both same_table same_row mbr_phases writes_mbr
damaged_backup = refl

-- a row that grows: the copy that is shown is written last
abbrev grows : Plan
grows = plan_of 131072 (table 512 131038 (partition 0 2048 40960 ∷ [])) (note 0 Changed None Plain ∷ [])

primary_is_shown : steps grows (seen_as 131072 one_row origins.Primary true true states.Same) ≡ backup_then_primary []
unfolding steps phases growth contents_steps payload_steps copy_steps rest_steps mebibyte zero_steps tree_steps written_copies writes_both same_table same_row mbr_phases writes_mbr
primary_is_shown = refl

backup_is_shown : steps grows (seen_as 131072 one_row origins.Backup false true states.Same) ≡ primary_then_backup []
unfolding steps phases growth contents_steps payload_steps copy_steps rest_steps mebibyte zero_steps tree_steps written_copies writes_both same_table same_row mbr_phases writes_mbr
backup_is_shown = refl

-- an image of 64 MiB gets 128 MiB: the same rows, and the protective MBR of the new length
image_grows : steps (plan_of 262144 (table 512 262110 (partition 0 2048 20480 ∷ [])) (note 0 Same None Plain ∷ [])) (seen_as 131072 one_row origins.Primary true true states.Same)
    ≡ Grow 134217728 ∷ Sync ∷ backup_then_primary (Mbr ∷ Sync ∷ [])
unfolding steps phases growth contents_steps payload_steps copy_steps rest_steps mebibyte zero_steps tree_steps written_copies writes_both same_table same_row mbr_phases writes_mbr
image_grows = refl

-- the rest of a new row behind a source of 4,096 bytes: 2 MiB exactly, and one block more
two_mebibytes : contents_steps (plan_of 131072 (table 512 131038 (partition 0 2048 4104 ∷ [])) (note 0 New (Some 4096) Plain ∷ []))
    ≡ Copy 0 1048576 4096 ∷ Zero 1052672 2097152 ∷ []
unfolding contents_steps payload_steps copy_steps rest_steps mebibyte zero_steps tree_steps
two_mebibytes = refl

one_block_more : contents_steps (plan_of 131072 (table 512 131038 (partition 0 2048 4112 ∷ [])) (note 0 New (Some 4096) Plain ∷ []))
    ≡ Copy 0 1048576 4096 ∷ Zero 1052672 1048576 ∷ Zero 2105344 1048576 ∷ []
unfolding contents_steps payload_steps copy_steps rest_steps mebibyte zero_steps tree_steps
one_block_more = refl

-- 2 GiB: 512 MiB, data of 400 MiB, its tree of 809 blocks, and the rest
abbrev large : Plan
large = plan_of 4194304
    (table 512 4194270 (partition 0 2048 1048576 ∷ partition 1 1050624 819200 ∷ partition 2 1869824 6472 ∷ partition 3 1876296 2317968 ∷ []))
    (note 0 New None Plain ∷ note 1 New (Some 419430400) (Data 2 []) ∷ note 2 New None (Hash 1 102400 [] (guid 7) []) ∷ note 3 New None Plain ∷ [])

abbrev steps_of_large : List Step
steps_of_large =
    Zero 1048576 1048576 ∷ Zero 536870912 1048576 ∷ Copy 1 537919488 419430400 ∷ Zero 960663552 1048576 ∷ Zero 2146414592 1048576
    ∷ Tree 537919488 957349888 102400 [] (guid 7) [] ∷ Sync ∷ backup_then_primary (Mbr ∷ Sync ∷ [])

large_image : steps large (seen_as 4194304 (table 512 4194270 []) origins.Neither false false states.Differs) ≡ steps_of_large
unfolding steps phases growth contents_steps payload_steps copy_steps rest_steps mebibyte zero_steps tree_steps written_copies writes_both same_table same_row mbr_phases writes_mbr hash_blocks levels level_blocks
large_image = refl

twenty_one_steps : (length steps_of_large ≡ 21) × (writes steps_of_large ≡ 2432)
unfolding writes_in hash_blocks levels level_blocks
twenty_one_steps = (refl, refl)
