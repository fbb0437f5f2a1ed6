-- What a run of `apply` with a factory reset made of an image, by its exit status.
use Rattle.std.specs.Prelude.{ℕ, ◌≡◌, ◌⊎◌, List, Bool, true, Option, Some, None, Ok}
use Rattle.rp_apply_command.specs.Applies.{IsCommitRefusal}
use Rattle.rp_apply_command.specs.Ends.{AreRead, IsBefore, IsBegun, IsBehind, IsBetween, IsCarriedOut, LeavesAll}
use Rattle.rp_base.specs.declared.plan.Plan.{Plan}
use Rattle.rp_defs.specs.declared.definition.Definition.{Definition}
use Rattle.rp_defs.specs.declared.definition.Definitions.{Definitions}
use Rattle.rp_io.specs.Files.{Tree}
use Rattle.rp_io.specs.declared.stored.Stored.{Stored}
use Rattle.rp_outcome.specs.Device.{Device}
use Rattle.rp_outcome.specs.Output.{Output, Finishes, Refuses}
use Rattle.rp_outcome.specs.Refusals.{Refusal}
use Rattle.rp_outcome.specs.Store.{Store}
use Rattle.rp_planned.specs.declared.request.Request.{Request}
use Rattle.rp_reset.specs.Reset.{reset as reset_of}
use Rattle.rp_reset_command.specs.Renewing.{with_reset}
use Rattle.rp_reset_command.specs.Reports.{renewal_report}
use Rattle.rp_reset_command.specs.declared.renewal.Renewal.{Renewal}
use Rattle.rp_reset_ends.specs.Ends.{AreBegun, AreCarriedOut}

-- the old table has no row that a reset takes out
abbrev pub ResetsNothing : List Definition → Renewal → Type 0
ResetsNothing list renewal = reset_of renewal.planned.seen list ≡ Ok None

-- what is planned was carried out, or the first of its calls behind a sync: those of both plans, or, where no row is taken out, those of
-- one
abbrev pub CarriesSomeBy : Request → List Definition → Device → Device → Store (List Stored) → Renewal → Option Plan → Type 0
CarriesSomeBy request list disk later sources renewal None =
    ResetsNothing list renewal × IsBegun request list disk later sources renewal.planned
CarriesSomeBy request list disk later sources renewal (Some reset) =
    AreBegun request list disk later sources renewal.seen reset renewal.planned.plan

abbrev pub CarriesSomeRenewed : Request → List Definition → Device → Device → Store (List Stored) → Renewal → Type 0
CarriesSomeRenewed request list disk later sources renewal = CarriesSomeBy request list disk later sources renewal renewal.reset

-- all of it was carried out
abbrev pub CarriesAllBy : Request → List Definition → Device → Device → Store (List Stored) → Renewal → Option Plan → Type 0
CarriesAllBy request list disk later sources renewal None =
    ResetsNothing list renewal × IsCarriedOut request list disk later sources renewal.planned
CarriesAllBy request list disk later sources renewal (Some reset) =
    AreCarriedOut request list disk later sources renewal.seen reset renewal.planned.plan

abbrev pub CarriesAllRenewed : Request → List Definition → Device → Device → Store (List Stored) → Renewal → Type 0
CarriesAllRenewed request list disk later sources renewal = CarriesAllBy request list disk later sources renewal renewal.reset

-- a refusal while one of both plans is carried out
abbrev pub IsRenewalRefusal : Renewal → Refusal → Type 0
IsRenewalRefusal renewal refusal = IsCommitRefusal renewal.planned refusal
    ⊎ ((reset : Plan) × (renewal.reset ≡ Some reset) × IsCommitRefusal (with_reset renewal reset) refusal)

-- how a run of `apply` with a factory reset ends: refused before anything was carried out; with all carried out and told, as far as the
-- sink took it; or broken off, before anything was carried out or on the way
pub data ResetEnds (request : Request) (json : Bool) (dirs : List (List ℕ)) (folders : Store Tree) (disk later : Device)
    (sources : Store (List Stored)) (out after : Output) (status : ℕ) : Type 0 where
  before : IsBefore status → LeavesAll disk later → ResetEnds request json dirs folders disk later sources out after status
  behind : IsBehind status → (definitions : Definitions) (renewal : Renewal) → AreRead request dirs folders definitions
      → CarriesAllRenewed request definitions.list disk later sources renewal
      → Finishes out after (renewal_report json definitions renewal true) status
      → ResetEnds request json dirs folders disk later sources out after status
  broken : IsBetween status → LeavesAll disk later → ResetEnds request json dirs folders disk later sources out after status
  between : IsBetween status → (definitions : Definitions) (renewal : Renewal) → AreRead request dirs folders definitions
      → CarriesSomeRenewed request definitions.list disk later sources renewal → (refusal : Refusal) → IsRenewalRefusal renewal refusal
      → Refuses out after refusal status → ResetEnds request json dirs folders disk later sources out after status
