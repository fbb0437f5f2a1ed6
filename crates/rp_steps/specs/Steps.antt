-- What is done to an image, in which order: own rules. The steps come in phases, and each phase ends with a sync.
use Rattle.std.specs.Prelude.{ℕ, ◌+◌, ◌*◌, ◌-◌, Bool, true, false, not, ◌||◌, ◌==◌, nat_lt, nat_le, if◌then◌else◌, List, [], ◌∷◌, ◌++◌, filter, find, flat_map, unwrap_or}
use Rattle.std.specs.Option.{option_map_or}
use Rattle.rp_base.specs.Plan.{Noted, noted_of}
use Rattle.rp_base.specs.Trees.{hash_blocks}
use Rattle.rp_base.specs.declared.geometry.Which.{Which}
use Rattle.rp_base.specs.declared.geometry.Which.TheVariants.{Primary, Backup}
use Rattle.rp_base.specs.declared.plan.Change.{Change}
use Rattle.rp_base.specs.declared.plan.Change.TheVariants.{New}
use Rattle.rp_base.specs.declared.plan.Note.{Note}
use Rattle.rp_base.specs.declared.plan.Plan.{Plan}
use Rattle.rp_base.specs.declared.plan.Role.{Role}
use Rattle.rp_base.specs.declared.plan.Role.TheVariants.{Plain, Hash}
use Rattle.rp_base.specs.declared.seen.Mbr.{Mbr as MbrState}
use Rattle.rp_base.specs.declared.seen.Mbr.TheVariants as states
use Rattle.rp_base.specs.declared.seen.Origin.{Origin}
use Rattle.rp_base.specs.declared.seen.Origin.TheVariants as origins
use Rattle.rp_base.specs.declared.seen.Seen.{Seen}
use Rattle.rp_base.specs.declared.table.Row.{Row}
use Rattle.rp_steps.specs.Same.{same_table}
use Rattle.rp_steps.specs.declared.step.Step.{Step}
use Rattle.rp_steps.specs.declared.step.Step.TheVariants.{Grow, Zero, Copy, Tree, ClosePrimary, ArrayPrimary, HeaderPrimary, CloseBackup, ArrayBackup, HeaderBackup, Mbr, Sync}

-- the bytes that are wiped at each end of a long rest
unfoldable pub mebibyte : ℕ
mebibyte = 1048576

-- the first byte of a row, and its bytes
abbrev pub from_byte : Row → ℕ
from_byte row = 512 * row.start

abbrev pub byte_count : Row → ℕ
byte_count row = 512 * row.size

-- an image that grows gets its length
unfoldable pub growth : Plan → Seen → List (List Step)
growth plan seen = if nat_lt seen.sectors plan.target then (Grow (512 * plan.target) ∷ []) ∷ [] else []

-- how many bytes of a row come from its source
abbrev pub source_len : Note → ℕ
source_len note = unwrap_or note.source 0

-- its source is copied to the row's beginning, where it has bytes
unfoldable pub copy_steps : Noted → List Step
copy_steps noted =
    let len = source_len noted.1 in
    if len == 0 then [] else option_map_or (λ file. Copy file (from_byte noted.0) len ∷ []) noted.1.file []

-- zeros from a place on, where they are any
unfoldable pub zero_steps : ℕ → ℕ → List Step
zero_steps at len = if len == 0 then [] else Zero at len ∷ []

-- the rest of a row behind its source is wiped: whole, but of more than 2 MiB of a plain row the first and the last one alone
unfoldable pub rest_steps : Role → ℕ → ℕ → List Step
rest_steps Plain at len =
    if nat_le len (2 * mebibyte) then zero_steps at len else Zero at mebibyte ∷ Zero (at + (len - mebibyte)) mebibyte ∷ []
rest_steps other at len = zero_steps at len

abbrev pub is_new : Change → Bool
is_new New = true
is_new other = false

-- the contents of a row that holds no tree
unfoldable pub payload_steps : Noted → Role → List Step
payload_steps noted (Hash partner blocks salt uuid root) = []
payload_steps noted role =
    let len = source_len noted.1 in
    copy_steps noted ++ rest_steps role (from_byte noted.0 + len) (byte_count noted.0 - len)

-- the first byte of the row of a slot
abbrev pub byte_of_slot : List Row → ℕ → ℕ
byte_of_slot rows slot = option_map_or from_byte (find (λ row. row.slot == slot) rows) 0

-- the contents of a row that holds the tree over its partner's blocks: the tree, and zeros behind it
unfoldable pub tree_steps : List Row → Row → Role → List Step
tree_steps rows row (Hash partner blocks salt uuid root) =
    let len = 4096 * hash_blocks blocks in
    Tree (byte_of_slot rows partner) (from_byte row) blocks salt uuid root ∷ zero_steps (from_byte row + len) (byte_count row - len)
tree_steps rows row other = []

-- the new rows of a plan
abbrev pub new_rows : Plan → List Noted
new_rows plan = filter (λ noted. is_new noted.1.change) (noted_of plan)

-- the contents of the new rows in slot order, those of trees behind all others
unfoldable pub contents_steps : Plan → List Step
contents_steps plan =
    flat_map (λ noted. payload_steps noted noted.1.role) (new_rows plan)
    ++ flat_map (λ noted. tree_steps plan.goal.rows noted.0 noted.1.role) (new_rows plan)

-- a phase of these steps, if they are any
abbrev pub phase_of : List Step → List (List Step)
phase_of [] = []
phase_of steps = steps ∷ []

-- no copy is shown
abbrev pub is_neither : Origin → Bool
is_neither origins.Neither = true
is_neither other = false

-- both copies are written, where the table or the length is to change or there was no copy
unfoldable pub writes_both : Plan → Seen → Bool
writes_both plan seen = not (same_table plan.goal seen.shown) || not (plan.target == seen.sectors) || is_neither seen.origin

-- the place holds the exact copy of the shown table
abbrev pub is_same : Seen → Which → Bool
is_same seen Primary = seen.primary_same
is_same seen Backup = seen.backup_same

-- the copy that isn't shown is written first
abbrev pub copy_order : Origin → List Which
copy_order origins.Backup = Primary ∷ Backup ∷ []
copy_order other = Backup ∷ Primary ∷ []

-- the copies that are written, in their order: both, or each that isn't the same
unfoldable pub written_copies : Plan → Seen → List Which
written_copies plan seen = filter (λ which. writes_both plan seen || not (is_same seen which)) (copy_order seen.origin)

-- a copy is written in three phases: its header is closed, its array is written, its header is opened
abbrev pub copy_phases : Which → List (List Step)
copy_phases Primary = (ClosePrimary ∷ []) ∷ (ArrayPrimary ∷ []) ∷ (HeaderPrimary ∷ []) ∷ []
copy_phases Backup = (CloseBackup ∷ []) ∷ (ArrayBackup ∷ []) ∷ (HeaderBackup ∷ []) ∷ []

-- the protective MBR is to be written: it is of no other table, and differs or is of another length
unfoldable pub writes_mbr : Plan → Seen → MbrState → Bool
writes_mbr plan seen states.Foreign = false
writes_mbr plan seen states.Differs = true
writes_mbr plan seen states.Same = not (plan.target == seen.sectors)

unfoldable pub mbr_phases : Plan → Seen → List (List Step)
mbr_phases plan seen = if writes_mbr plan seen seen.mbr then (Mbr ∷ []) ∷ [] else []

-- all phases: growth, contents, copies, the protective MBR
unfoldable pub phases : Plan → Seen → List (List Step)
phases plan seen = growth plan seen ++ phase_of (contents_steps plan) ++ flat_map copy_phases (written_copies plan seen)
    ++ mbr_phases plan seen

-- phases, each with a sync behind it
abbrev pub synced : List (List Step) → List Step
synced phases = flat_map (λ phase. phase ++ Sync ∷ []) phases

-- the steps of a plan on an image of which this was seen
unfoldable pub steps : Plan → Seen → List Step
steps plan seen = synced (phases plan seen)
