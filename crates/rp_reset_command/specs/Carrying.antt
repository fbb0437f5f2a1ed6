-- What it takes that both plans of a factory reset can be carried out: own rules.
use Rattle.std.specs.Prelude.{ℕ, ◌≡◌, ◌≤◌, ◌*◌, List, All, IfSome, Ok, length}
use Rattle.rp_apply.specs.Sourced.{NamesSource}
use Rattle.rp_apply_command.specs.Carrying.{HasToldRoots}
use Rattle.rp_base.specs.Plan.{IsWellFormed}
use Rattle.rp_defs.specs.declared.definition.Definition.{Definition}
use Rattle.rp_disk.specs.Device.{Known}
use Rattle.rp_disk.specs.History.{held}
use Rattle.rp_gpt.specs.declared.table_fault.Empty.{Empty}
use Rattle.rp_io.specs.declared.stored.Stored.{Stored}
use Rattle.rp_outcome.specs.Device.{Device}
use Rattle.rp_outcome.specs.Store.{Store}
use Rattle.rp_reset.specs.Reset.{reset as reset_of}
use Rattle.rp_reset_stops.specs.Through.{IsResetFor}
use Rattle.rp_reset_command.specs.Renewing.{seen_left}
use Rattle.rp_reset_command.specs.declared.renewal.Renewal.{Renewal}

-- the table that was seen has as many rows as a table may have, and both plans are well formed for what is seen before them
pub record IsFormed (renewal : Renewal) : Type 0 where
  pub rows : length renewal.seen.shown.rows ≤ 1024
  pub planned : IsWellFormed renewal.planned.seen renewal.planned.plan
  pub reset : IfSome renewal.reset (IsWellFormed renewal.seen)

-- a disk has an image for which the reset is planned, whatever past it can have
abbrev pub HasResetImage : List Definition → Renewal → Device → Type 0
HasResetImage list renewal disk = IfSome renewal.reset (λ reset. Known disk disk (λ h.
    (sector : ℕ) × (empty : Empty) × IsResetFor sector (held h) empty renewal.seen list reset))

-- both can be carried out on such a disk: they are well formed, the first is that of the reset, their sources are those of definitions, the
-- second is for what the first leaves, the disk has as many bytes as were seen, and where sources tell, each pair is planned
-- with the root hash of its source
pub record CanRenew (list : List Definition) (renewal : Renewal) (disk : Device) (sources : Store (List Stored)) : Type 0 where
  pub formed : IsFormed renewal
  pub made : reset_of renewal.seen list ≡ Ok renewal.reset
  pub named : All (NamesSource list) renewal.planned.plan.notes
  pub reset_named : IfSome renewal.reset (λ reset. All (NamesSource list) reset.notes)
  pub left : renewal.planned.seen ≡ seen_left renewal.seen renewal.reset
  pub len : Known disk disk (λ h. length (held h) ≡ 512 * renewal.seen.sectors)
  pub image : HasResetImage list renewal disk
  pub roots : HasToldRoots list renewal.planned disk sources
