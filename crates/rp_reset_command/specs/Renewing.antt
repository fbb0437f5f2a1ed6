-- What is to become of an image with a factory reset: the rows of definitions that say so are taken out by a plan of its own, and then it
-- is planned over what is left (systemd-repart(8), --factory-reset=).
use Rattle.std.specs.Prelude.{ℕ, ◌≡◌, ◌⊎◌, List, Bool, true, false, Option, Some, None, Result, Ok, Err}
use Rattle.rp_base.specs.declared.plan.Plan.{Plan}
use Rattle.rp_base.specs.declared.seen.Seen.{Seen}
use Rattle.rp_defs.specs.declared.definition.Definition.{Definition}
use Rattle.rp_io.specs.declared.stored.Stored.{Stored}
use Rattle.rp_outcome.specs.Demands.{demand_refusal}
use Rattle.rp_outcome.specs.Device.{Device}
use Rattle.rp_outcome.specs.Refusals.{Refusal, memory_refusal, repair_refusal}
use Rattle.rp_outcome.specs.Store.{Store}
use Rattle.rp_planned.specs.Planning.{PlansUnless, ReadsImage, must_repair, planned_unless, seen_of}
use Rattle.rp_planned.specs.declared.planned.Planned.{Planned}
use Rattle.rp_planned.specs.declared.request.Request.{Request}
use Rattle.rp_reading.specs.Stages.{and_then, refused}
use Rattle.rp_reset.specs.Reset.{reset as reset_of}
use Rattle.rp_stops.specs.After.{seen_after}
use Rattle.rp_reset_command.specs.declared.renewal.Renewal.{Renewal}

-- what is seen of an image behind a reset: what its plan leaves, or, where no row is taken out, what was seen
abbrev pub seen_left : Seen → Option Plan → Seen
seen_left seen None = seen
seen_left seen (Some reset) = seen_after seen reset

-- what was seen first, the plan of the reset, and what is planned over what is left
abbrev pub renewed : Seen → Option Plan → Planned → Renewal
renewed seen reset planned = record { seen = seen; reset = reset; planned = planned }

-- the plan of the reset with what was seen first
abbrev pub with_reset : Renewal → Plan → Planned
with_reset renewal reset = record { seen = renewal.seen; plan = reset }

-- what is planned with a reset
abbrev pub renewed_by : Seen → Option Plan → Result Planned Refusal → Result Renewal Refusal
renewed_by seen reset planned = and_then planned (λ planned. Ok (renewed seen reset planned))

-- the same by what the sources hold, unless the image has to be repaired first: which is judged as it is read
abbrev pub renewal_unless : Bool → Request → List Definition → List Stored → Seen → Result Renewal Refusal
renewal_unless true request list files seen = Err repair_refusal
renewal_unless false request list files seen = and_then (refused (demand_refusal list) (reset_of seen list)) (λ reset.
    renewed_by seen reset (planned_unless false request list files (seen_left seen reset)))

-- what is planned for an image and these sources with a reset, or the first refusal
abbrev pub renewal_of : Request → List Definition → List ℕ → List Stored → Result Renewal Refusal
renewal_of request list image files =
    and_then (seen_of request.sector request.empty image) (λ seen. renewal_unless (must_repair request.size seen) request list files seen)

-- the reset of what was seen, but for want of memory
abbrev pub ResetsSeen : List Definition → Seen → Result (Option Plan) Refusal → Type 0
ResetsSeen list seen answer = (answer ≡ refused (demand_refusal list) (reset_of seen list)) ⊎ (answer ≡ Err memory_refusal)

-- the sources are asked and the goal is planned over what is left, or there is no memory for that
abbrev pub RenewsLeft : Request → List Definition → Seen → Option Plan → Store (List Stored) → Store (List Stored)
    → Result Renewal Refusal → Type 0
RenewsLeft request list seen reset before now answer =
    ((answer ≡ Err memory_refusal) × (now ≡ before))
    ⊎ ((planned : Result Planned Refusal) × PlansUnless false request list (seen_left seen reset) before now planned
    × (answer ≡ renewed_by seen reset planned))

-- the sources aren't asked where the reset is refused
abbrev pub RenewsBehind : Request → List Definition → Seen → Result (Option Plan) Refusal → Store (List Stored) → Store (List Stored)
    → Result Renewal Refusal → Type 0
RenewsBehind request list seen (Err refusal) before now answer = (answer ≡ Err refusal) × (now ≡ before)
RenewsBehind request list seen (Ok reset) before now answer = RenewsLeft request list seen reset before now answer

-- an image that has to be repaired first is refused
abbrev pub RenewsUnless : Bool → Request → List Definition → Seen → Store (List Stored) → Store (List Stored)
    → Result Renewal Refusal → Type 0
RenewsUnless true request list seen before now answer = (answer ≡ Err repair_refusal) × (now ≡ before)
RenewsUnless false request list seen before now answer =
    (reset : Result (Option Plan) Refusal) × ResetsSeen list seen reset × RenewsBehind request list seen reset before now answer

abbrev pub RenewsSeen : Request → List Definition → Result Seen Refusal → Store (List Stored) → Store (List Stored)
    → Result Renewal Refusal → Type 0
RenewsSeen request list (Err refusal) before now answer = (answer ≡ Err refusal) × (now ≡ before)
RenewsSeen request list (Ok seen) before now answer = RenewsUnless (must_repair request.size seen) request list seen before now answer

-- the image was read, the reset was planned, then the sources were asked, and what is planned by all is the answer
abbrev pub RenewsImage : Request → List Definition → Device → Device → Store (List Stored) → Store (List Stored)
    → Result Renewal Refusal → Type 0
RenewsImage request list disk later sources drained answer =
    (seen : Result Seen Refusal) × ReadsImage request.sector request.empty disk later seen
    × RenewsSeen request list seen sources drained answer
