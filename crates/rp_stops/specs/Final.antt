-- What an image is once a plan was carried out: own rules.
use Rattle.std.specs.Prelude.{ℕ, ◌≡◌, ◌≢◌, ◌⊎◌, ◌+◌, ◌*◌, ◌<◌, ◌≤◌, List, All, get_or, length}
use Rattle.rp_base.specs.Geometry.{copy_bytes, copy_place}
use Rattle.rp_base.specs.Image.{bytes_at}
use Rattle.rp_base.specs.Plan.{noted_of}
use Rattle.rp_base.specs.declared.geometry.Which.{Which}
use Rattle.rp_base.specs.declared.plan.Change.TheVariants.{New}
use Rattle.rp_base.specs.declared.plan.Plan.{Plan}
use Rattle.rp_base.specs.declared.seen.Mbr.TheVariants.{Foreign}
use Rattle.rp_base.specs.declared.seen.Seen.{Seen}
use Rattle.rp_gpt.specs.Copy.{exact}
use Rattle.rp_gpt.specs.Mbr.{mbr_bytes}
use Rattle.rp_stops.specs.Order.{target_sectors}
use Rattle.rp_stops.specs.Rows.{Contents, HoldContents, IsByteOf, grown}
use Rattle.rp_stops.specs.Safe.{KeepsRows}

-- where the goal's copy begins on an image of the target's length
abbrev pub copy_offset : Plan → Which → ℕ
copy_offset plan which = plan.goal.sector * copy_place which plan.goal.sector plan.goal.entries (target_sectors plan)

abbrev pub copy_length : Plan → ℕ
copy_length plan = copy_bytes plan.goal.entries plan.goal.sector

-- the byte is in no place, in no new row, and not one of the MBR's, unless that is of another table
pub record IsElsewhere (seen : Seen) (plan : Plan) (k : ℕ) : Type 0 where
  pub places : (which : Which) → (k < copy_offset plan which) ⊎ (copy_offset plan which + copy_length plan ≤ k)
  pub rows : All (λ noted. noted.1.change ≡ New → IsByteOf noted.0 k → ⊥) (noted_of plan)
  pub mbr : (seen.mbr ≡ Foreign) ⊎ ((k < 446) ⊎ (512 ≤ k))

-- the image has the target's length, both places hold the exact goal and the new rows their contents; the MBR is that of the
-- target unless the old one is of another table; each other byte is that of the grown image
pub record IsFinal (old : List ℕ) (seen : Seen) (plan : Plan) (contents : Contents) (image : List ℕ) : Type 0 where
  pub len : length image ≡ 512 * plan.target
  pub places : (which : Which) → bytes_at image (copy_offset plan which) (copy_length plan) ≡ exact plan.goal which (target_sectors plan)
  pub rows : HoldContents plan contents image
  pub mbr : seen.mbr ≢ Foreign → bytes_at image 446 66 ≡ mbr_bytes (target_sectors plan)
  pub kept : (k : ℕ) → k < 512 * plan.target → IsElsewhere seen plan k → get_or image k 0 ≡ get_or (grown old plan) k 0

-- calls have changed nothing but the length, new rows, places and the MBR
pub record ChangesItsOwn (old : List ℕ) (seen : Seen) (plan : Plan) (image : List ℕ) : Type 0 where
  pub len : (length image ≡ length old) ⊎ (length image ≡ 512 * plan.target)
  pub rows : KeepsRows old seen image
  pub kept : (k : ℕ) → k < 512 * plan.target → IsElsewhere seen plan k → get_or image k 0 ≡ get_or (grown old plan) k 0
