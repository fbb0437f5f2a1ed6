-- What it takes that a plan can be carried out: own rules.
use Rattle.std.specs.Prelude.{◌≡◌, ◌*◌, List, All, IfSome, length}
use Rattle.rp_apply.specs.Commits.{HavePlannedRoots}
use Rattle.rp_apply.specs.Sourced.{NamesSource, paths_of}
use Rattle.rp_base.specs.Plan.{IsWellFormed}
use Rattle.rp_defs.specs.declared.definition.Definition.{Definition}
use Rattle.rp_disk.specs.Device.{Known}
use Rattle.rp_disk.specs.History.{held}
use Rattle.rp_io.specs.declared.stored.Stored.{Stored}
use Rattle.rp_outcome.specs.Device.{Device}
use Rattle.rp_outcome.specs.Store.{Store}
use Rattle.rp_planned.specs.declared.planned.Planned.{Planned}
use Rattle.rp_step.specs.Sourced.{sources_in}

-- a plan can be prepared: it is well formed, and its sources are those of definitions
pub record CanPrepare (list : List Definition) (planned : Planned) : Type 0 where
  pub formed : IsWellFormed planned.seen planned.plan
  pub named : All (NamesSource list) planned.plan.notes

-- a disk has as many bytes as were seen, whatever past it can have
abbrev pub HasSeenLength : Planned → Device → Type 0
HasSeenLength planned disk = Known disk disk (λ h. length (held h) ≡ 512 * planned.seen.sectors)

-- where sources tell, each pair is planned with the root hash of its source
abbrev pub HasToldRoots : List Definition → Planned → Device → Store (List Stored) → Type 0
HasToldRoots list planned disk sources =
    Known disk disk (λ h. IfSome sources.told (λ files. HavePlannedRoots planned.plan (sources_in files (paths_of list))))
