-- What a plan must be to be carried out on an image of which this was seen: own rules.
use Rattle.std.specs.Prelude.{ℕ, ◌≡◌, ◌≢◌, ◌≤◌, ◌*◌, ◌/◌, ◌%◌, ◌^◌, ◌⊎◌, List, All, Any, map, zip, IfSome, IsSome, ⊤}
use Rattle.rp_base.specs.Table.{IsWhole, IsWritable, IsInPlace, AreApart}
use Rattle.rp_base.specs.Trees.{hash_blocks}
use Rattle.rp_base.specs.declared.guid.Guid.{Guid}
use Rattle.rp_base.specs.declared.table.Row.{Row}
use Rattle.rp_base.specs.declared.seen.Seen.{Seen}
use Rattle.rp_base.specs.declared.seen.Origin.TheVariants as origins
use Rattle.rp_base.specs.declared.plan.Change.TheVariants.{New}
use Rattle.rp_base.specs.declared.plan.Role.{Role}
use Rattle.rp_base.specs.declared.plan.Role.TheVariants.{Plain, Data, Hash}
use Rattle.rp_base.specs.declared.plan.Note.{Note}
use Rattle.rp_base.specs.declared.plan.Plan.{Plan}

-- a row of the goal with its note
abbrev pub Noted : Type 0
Noted = Row × Note

-- the rows of the goal with their notes
abbrev pub noted_of : Plan → List Noted
noted_of plan = zip plan.goal.rows plan.notes

-- a source belongs to a definition, and fits in its row
abbrev pub HoldsSource : Noted → Type 0
HoldsSource noted = IfSome noted.1.source (λ bytes. IsSome noted.1.file × (bytes ≤ 512 * noted.0.size))

-- the two new rows of a pair, which name each other: the data is whole blocks of 4,096 bytes, and the tree is over as many
-- and has room for its own (Linux, dm-verity)
pub record IsPair (payload hash : Noted) : Type 0 where
  pub new : (payload.1.change ≡ New) × (hash.1.change ≡ New)
  pub whole : payload.0.size % 8 ≡ 0
  pub room : 8 * hash_blocks (payload.0.size / 8) ≤ hash.0.size
  pub payload_role : (root : List ℕ) × (payload.1.role ≡ Data hash.1.slot root)
  pub hash_role : (salt : List ℕ) × (uuid : Guid) × (root : List ℕ)
      × (hash.1.role ≡ Hash payload.1.slot (payload.0.size / 8) salt uuid root)

-- a row in this role has its other half among the rows, if it is one of a pair
abbrev pub HasPartner : List Noted → Noted → Role → Type 0
HasPartner rows noted Plain = ⊤
HasPartner rows noted (Data partner root) = Any (λ other. IsPair noted other) rows
HasPartner rows noted (Hash partner blocks salt uuid root) = Any (λ other. IsPair other noted) rows

-- the target is a whole number of sectors, no less than the image has, and at most 2^44 bytes
pub record IsTarget (sector units target : ℕ) : Type 0 where
  pub whole : IsWhole sector target
  pub least : units ≤ target
  pub most : target ≤ 2 ^ 35

-- the goal can be written, is in place on a disk of the target's length, and has the sectors and entries of the shown table;
-- each of its rows has its note, its source fits, and pairs are whole
pub record IsWellFormed (seen : Seen) (plan : Plan) : Type 0 where
  pub target : IsTarget plan.goal.sector seen.sectors plan.target
  pub sector : plan.goal.sector ≡ seen.shown.sector
  pub entries : plan.goal.entries ≡ seen.shown.entries
  pub writable : IsWritable plan.goal
  pub in_place : IsInPlace plan.target plan.goal
  pub notes : map (λ note. note.slot) plan.notes ≡ map (λ row. row.slot) plan.goal.rows
  pub sources : All HoldsSource (noted_of plan)
  pub pairs : All (λ noted. HasPartner (noted_of plan) noted noted.1.role) (noted_of plan)

-- a row of the goal keeps the old row of its slot: its type, start and attributes, and at least its size
pub record KeepsRow (noted : Noted) (old : Row) : Type 0 where
  pub kind : noted.0.kind ≡ old.kind
  pub start : noted.0.start ≡ old.start
  pub attrs : noted.0.attrs ≡ old.attrs
  pub size : old.size ≤ noted.0.size
  pub change : noted.1.change ≢ New

-- a row of the goal in a slot that no old row has is noted New and shares no unit with an old row
pub record IsNewRow (old : List Row) (noted : Noted) : Type 0 where
  pub change : noted.1.change ≡ New
  pub apart : All (AreApart noted.0) old

-- each row of the goal keeps the old row of its slot, or is new; an old row may be missing
abbrev pub FitsRows : List Row → Noted → Type 0
FitsRows old noted =
    All (λ (row : Row). row.slot ≡ noted.0.slot → KeepsRow noted row) old
    × (All (λ (row : Row). row.slot ≢ noted.0.slot) old → IsNewRow old noted)

-- a plan fits what was seen: it is well formed, an image that grows shows its primary copy, and what the shown table has
-- stays or is left alone
pub record Fits (seen : Seen) (plan : Plan) : Type 0 where
  pub well_formed : IsWellFormed seen plan
  pub grows : (plan.target ≡ seen.sectors) ⊎ (seen.origin ≡ origins.Primary)
  pub rows : All (FitsRows seen.shown.rows) (noted_of plan)
