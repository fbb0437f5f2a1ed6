-- What carrying out a plan makes of a disk: own rules.
use Rattle.std.specs.Prelude.{ℕ, ◌≡◌, ◌≢◌, ◌*◌, List, All, Any, length, Option, IfSome, Result, IfErr, IsOk, OnOk, ⊤}
use Rattle.rp_base.specs.Faults.{Rose}
use Rattle.rp_base.specs.Plan.{noted_of}
use Rattle.rp_base.specs.declared.plan.Plan.{Plan}
use Rattle.rp_base.specs.declared.plan.Role.{Role}
use Rattle.rp_base.specs.declared.plan.Role.TheVariants.{Hash}
use Rattle.rp_disk.specs.History.{IsSettled, LeftSince, moment, held}
use Rattle.rp_disk.specs.Made.{Past, Made, history_of, history_told}
use Rattle.rp_disk.specs.Runs.{Runs}
use Rattle.rp_disk.specs.declared.call.Call.{Call}
use Rattle.rp_gpt.specs.declared.table_fault.Empty.{Empty}
use Rattle.rp_io.specs.declared.stored.Stored.{Stored}
use Rattle.rp_stops.specs.Final.{IsFinal}
use Rattle.rp_stops.specs.Honest.{IsTornHonest}
use Rattle.rp_stops.specs.Plans.{IsPlanFor, StopsAlone}
use Rattle.rp_stops.specs.Rows.{IsInNewRow, grown}
use Rattle.rp_disk.specs.Stops.{Each}
use Rattle.rp_steps.specs.Calls.{calls, contents_calls}
use Rattle.rp_steps.specs.Contents.{Sources, contents, payload_at}
use Rattle.rp_steps.specs.Steps.{byte_of_slot}
use Rattle.rp_verity.specs.Filled.{cut}
use Rattle.rp_verity.specs.Tree.{root_hash}
use Rattle.rp_step.specs.Made.{IfChanged}
use Rattle.rp_step.specs.Run.{shown_root}
use Rattle.rp_step.specs.Sourced.{sources_in}
use Rattle.rp_step.specs.declared.fault.ApplyFault.{ApplyFault}
use Rattle.rp_apply.specs.declared.ready.Ready.{Ready}

-- the sources of a plan that can be carried out, where the files are told
abbrev pub sources_of : Ready → List Stored → Sources
sources_of ready files = sources_in files ready.paths

-- the calls are those of the plan: at Ok all, else some first ones
abbrev pub MakesPlanned : {T : Type 0} → Ready → List Stored → Option Past → List Made → List Made → Result T ApplyFault → Type 0
MakesPlanned ready files first old new result = IfSome (history_told first old) (λ h.
    length (held h) ≡ 512 * ready.seen.sectors → Runs old (calls ready.plan ready.seen (sources_of ready files)) new result)

-- the root hash of a tree over the row at a place, which is to hold its source
abbrev pub root_over : Plan → Sources → ℕ → ℕ → List ℕ → List ℕ
root_over plan sources at blocks salt = root_hash salt (cut blocks (payload_at plan sources at))

-- a new row that holds a tree is planned with the root hash of its partner's contents
abbrev pub HasPlannedRoot : Plan → Sources → Role → Type 0
HasPlannedRoot plan sources (Hash partner blocks salt uuid root) =
    root_over plan sources (byte_of_slot plan.goal.rows partner) blocks salt ≡ root
HasPlannedRoot plan sources other = ⊤

abbrev pub HavePlannedRoots : Plan → Sources → Type 0
HavePlannedRoots plan sources = All (λ noted. HasPlannedRoot plan sources noted.1.role) (noted_of plan)

-- a row holds a tree that is planned with this root hash, and its partner's contents have this other
abbrev pub HasOther : Plan → Sources → List ℕ → List ℕ → Role → Type 0
HasOther plan sources planned copied (Hash partner blocks salt uuid root) =
    (planned ≡ root) × (copied ≡ root_over plan sources (byte_of_slot plan.goal.rows partner) blocks salt) × (copied ≢ planned)
HasOther plan sources planned copied other = ⊥

-- at Ok each tree has the planned root hash; where a source has changed, some tree hasn't, and both hashes are told
pub record ChangesAt {T : Type 0} (plan : Plan) (sources : Sources) (result : Result T ApplyFault) : Type 0 where
  pub planned : OnOk result (HavePlannedRoots plan sources)
  pub changed : IfErr result (λ fault. IfChanged fault (λ planned copied.
      Any (λ noted. HasOther plan sources planned copied noted.1.role) (noted_of plan)))

abbrev pub ChangesAtRoots : {T : Type 0} → Ready → List Stored → Option Past → List Made → Result T ApplyFault → Type 0
ChangesAtRoots ready files first old result = IfSome (history_told first old) (λ h.
    length (held h) ≡ 512 * ready.seen.sectors → ChangesAt ready.plan (sources_of ready files) result)

-- a row holds a tree that is planned with this root hash, and the bytes that an image shows of its partner's blocks have this other
abbrev pub ShowsOther : Plan → List ℕ → List ℕ → List ℕ → Role → Type 0
ShowsOther plan image planned copied (Hash partner blocks salt uuid root) =
    (planned ≡ root) × (copied ≡ shown_root image (byte_of_slot plan.goal.rows partner) blocks salt) × (copied ≢ planned)
ShowsOther plan image planned copied other = ⊥

-- where a source has changed, both hashes are told: the planned one, and that of the bytes that are shown
abbrev pub TellsShown : {T : Type 0} → Ready → Option Past → List Made → List Made → Result T ApplyFault → Type 0
TellsShown ready first old new result = IfSome first (λ bytes.
    length (held (history_of bytes old)) ≡ 512 * ready.seen.sectors → IfErr result (λ fault. IfChanged fault (λ planned copied.
    Any (λ noted. ShowsOther ready.plan (held (history_of bytes new)) planned copied noted.1.role) (noted_of ready.plan))))

-- where each tree is planned with its root hash and no count rises, the answer is Ok
abbrev pub IsComplete : {T : Type 0} → Ready → List Stored → Option Past → List Made → ℕ → ℕ → ℕ → ℕ → Result T ApplyFault → Type 0
IsComplete ready files first old disk_before disk_now sources_before sources_now result = IfSome (history_told first old) (λ h.
    length (held h) ≡ 512 * ready.seen.sectors → HavePlannedRoots ready.plan (sources_of ready files)
    → ¬ Rose disk_before disk_now → ¬ Rose sources_before sources_now → IsOk result)

-- where the plan fits the image, and nothing was pending: the bytes shown are the final image, and nothing is pending
abbrev pub EndsFinal : Ready → List Stored → Option Past → List Made → List Made → Type 0
EndsFinal ready files first old new = IfSome first (λ bytes.
    (sector : ℕ) (empty : Empty) → IsPlanFor sector (held (history_of bytes old)) empty ready.seen ready.plan
    → IsSettled (history_of bytes old)
    → IsFinal (held (history_of bytes old)) ready.seen ready.plan
    (contents ready.plan (sources_of ready files) (grown (held (history_of bytes old)) ready.plan)) (held (history_of bytes new))
    × IsSettled (history_of bytes new))

-- where the plan fits the image, and nothing was pending: an image that a stop at any moment since might have left, and that
-- has no torn header which passes its checksum by chance, shows the old table or the goal, and each old row holds its old bytes; where
-- the sources tell, the new rows hold their contents where the goal is shown (the image is safe)
abbrev pub AnyMomentIsSafe : Ready → Option (List Stored) → Option Past → List Made → List Made → Type 0
AnyMomentIsSafe ready told first old new = IfSome first (λ bytes.
    (sector : ℕ) (empty : Empty) → IsPlanFor sector (held (history_of bytes old)) empty ready.seen ready.plan
    → IsSettled (history_of bytes old)
    → (body : List Call) × Each (IsInNewRow ready.plan) body
    × IfSome told (λ files. body ≡ contents_calls ready.plan (sources_of ready files)) × ((made : List Call) (image : List ℕ)
    → LeftSince (history_of bytes new) (moment (history_of bytes old)) made image
    → IsTornHonest sector (held (history_of bytes old)) made image
    → StopsAlone sector (held (history_of bytes old)) ready.seen ready.plan body image))
