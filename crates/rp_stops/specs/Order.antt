-- What a plan's calls are made of, and in which order: own rules. A copy is closed by zeros over its header, then its array
-- is written, and its header opens it last, so that no torn array can be taken for a table.
use Rattle.std.specs.Prelude.{ℕ, ◌≡◌, ◌≢◌, ◌⊎◌, ◌*◌, ◌/◌, List, [], ◌∷◌, ◌++◌, nat_lt, if◌then◌else◌, replicate, IsTrue}
use Rattle.rp_base.specs.Geometry.{array_place, header_place, sector_units}
use Rattle.rp_base.specs.declared.geometry.Which.{Which}
use Rattle.rp_base.specs.declared.geometry.Which.TheVariants.{Primary, Backup}
use Rattle.rp_base.specs.declared.plan.Plan.{Plan}
use Rattle.rp_base.specs.declared.seen.Mbr.TheVariants as mbrs
use Rattle.rp_base.specs.declared.seen.Origin.TheVariants as origins
use Rattle.rp_base.specs.declared.seen.Seen.{Seen}
use Rattle.rp_disk.specs.declared.call.Call.{Call}
use Rattle.rp_disk.specs.declared.call.Call.TheVariants.{Write, SetLen}
use Rattle.rp_disk.specs.Blocks.{flat}
use Rattle.rp_disk.specs.Stops.{Each}
use Rattle.rp_gpt.specs.Copy.{array_of, exact, header_of}
use Rattle.rp_gpt.specs.Mbr.{mbr_bytes}
use Rattle.rp_stops.specs.Rows.{IsInNewRow}

-- the first byte of a header, and of an array, on a disk of so many sectors
abbrev pub header_offset : ℕ → ℕ → Which → ℕ
header_offset sector sectors which = sector * header_place which sectors

abbrev pub array_offset : ℕ → ℕ → ℕ → Which → ℕ
array_offset sector entries sectors which = sector * array_place which sector entries sectors

-- the sectors of the target
abbrev pub target_sectors : Plan → ℕ
target_sectors plan = plan.target / sector_units plan.goal.sector

-- the exact copy of the goal, its header and its array
abbrev pub goal_header : Plan → Which → List ℕ
goal_header plan which = header_of plan.goal.sector (exact plan.goal which (target_sectors plan)) which

abbrev pub goal_array : Plan → Which → List ℕ
goal_array plan which = array_of plan.goal.sector (exact plan.goal which (target_sectors plan)) which

-- the three writes of a copy
abbrev pub close_call : Plan → Which → Call
close_call plan which = Write (header_offset plan.goal.sector (target_sectors plan) which) (replicate plan.goal.sector 0)

abbrev pub array_call : Plan → Which → Call
array_call plan which = Write (array_offset plan.goal.sector plan.goal.entries (target_sectors plan) which) (goal_array plan which)

abbrev pub header_call : Plan → Which → Call
header_call plan which = Write (header_offset plan.goal.sector (target_sectors plan) which) (goal_header plan which)

-- each of the three is a block of its own
abbrev pub copy_blocks : Plan → Which → List (List Call)
copy_blocks plan which = (close_call plan which ∷ []) ∷ (array_call plan which ∷ []) ∷ (header_call plan which ∷ []) ∷ []

-- the copies of these places, one after another
abbrev pub copies : Plan → List Which → List (List Call)
copies plan [] = []
copies plan (which ∷ order) = copy_blocks plan which ++ copies plan order

-- the growth of an image that is shorter than the target
abbrev pub growth : Seen → Plan → List (List Call)
growth seen plan = if nat_lt seen.sectors plan.target then (SetLen (512 * plan.target) ∷ []) ∷ [] else []

-- the contents of new rows, if there are any
abbrev pub contents_blocks : List Call → List (List Call)
contents_blocks [] = []
contents_blocks (call ∷ calls) = (call ∷ calls) ∷ []

-- the record of the protective MBR and its signature (UEFI 2.10, 5.2.3)
abbrev pub mbr_call : Plan → Call
mbr_call plan = Write 446 (mbr_bytes (target_sectors plan))

-- the goal is what is shown by a copy of an image of the target's length
pub record IsUnchanged (seen : Seen) (plan : Plan) : Type 0 where
  pub goal : plan.goal ≡ seen.shown
  pub target : plan.target ≡ seen.sectors
  pub origin : seen.origin ≢ origins.Neither

-- which copies are written, and in which order: the one that is shown last. Where nothing changes, a copy that is the same may stay
pub data IsOrder (seen : Seen) (plan : Plan) (order : List Which) : Type 0 where
  primary_last : seen.origin ≢ origins.Backup → order ≡ Backup ∷ Primary ∷ [] → IsOrder seen plan order
  backup_last : seen.origin ≡ origins.Backup → order ≡ Primary ∷ Backup ∷ [] → IsOrder seen plan order
  primary_alone : IsUnchanged seen plan → IsTrue seen.backup_same → order ≡ Primary ∷ [] → IsOrder seen plan order
  backup_alone : IsUnchanged seen plan → IsTrue seen.primary_same → order ≡ Backup ∷ [] → IsOrder seen plan order
  no_copy : IsUnchanged seen plan → IsTrue seen.primary_same → IsTrue seen.backup_same → order ≡ [] → IsOrder seen plan order

-- the MBR is written unless it is that of another table; one that is right for the target may stay
pub data IsMbrPart (seen : Seen) (plan : Plan) (blocks : List (List Call)) : Type 0 where
  written : seen.mbr ≢ mbrs.Foreign → blocks ≡ (mbr_call plan ∷ []) ∷ [] → IsMbrPart seen plan blocks
  left : (seen.mbr ≡ mbrs.Foreign) ⊎ ((seen.mbr ≡ mbrs.Same) × (plan.target ≡ seen.sectors)) → blocks ≡ [] → IsMbrPart seen plan blocks

-- the calls are the growth, these writes into new rows, copies and the MBR, a sync behind each block
pub record AreCallsOf (seen : Seen) (plan : Plan) (body calls : List Call) : Type 0 where
  pub order : List Which
  pub mbr : List (List Call)
  pub ordered : IsOrder seen plan order
  pub mbr_part : IsMbrPart seen plan mbr
  pub inside : Each (IsInNewRow plan) body
  pub are : calls ≡ flat (growth seen plan ++ (contents_blocks body ++ (copies plan order ++ mbr)))
