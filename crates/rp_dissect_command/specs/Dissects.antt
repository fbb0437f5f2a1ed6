-- What `dissect` does.
use Rattle.std.specs.Prelude.{ℕ, ◌≡◌, ◌⊎◌, List, Bool, Result, Ok, Err, IfOk, IfErr}
use Rattle.rp_base.specs.Answers.{Gives}
use Rattle.rp_base.specs.Faults.{Rose}
use Rattle.rp_denial.specs.Denials.{Denies, policy_refusal}
use Rattle.rp_disk.specs.History.{held}
use Rattle.rp_dissect.specs.Dissected.{verdicts}
use Rattle.rp_outcome.specs.Device.{Device, IsOnlyRead, Known}
use Rattle.rp_outcome.specs.Output.{Output, Finishes, Refuses}
use Rattle.rp_outcome.specs.Refusals.{disk_refusal, memory_refusal, table_refusal}
use Rattle.rp_policy.specs.Reading.{policy_of}
use Rattle.rp_policy.specs.declared.policy.Policy.{Policy}
use Rattle.rp_policy.specs.declared.policy.PolicyFault.{PolicyFault}
use Rattle.rp_types.specs.declared.arch.Arch.{Arch}
use Rattle.rp_verdict.specs.Verdicts.{AreVerdicts, IsOwn}
use Rattle.rp_verdict.specs.declared.verdict.DissectFault.{DissectFault}
use Rattle.rp_verdict.specs.declared.verdict.DissectFault.TheVariants as faults
use Rattle.rp_verdict.specs.declared.verdict.Verdicts.{Verdicts}
use Rattle.rp_verdict_text.specs.Reports.{verdict_report}

-- a disk was read alone, with this answer: the verdicts on the image of each past that the disk can have, but for a failure of
-- the disk, which it counted, and want of memory; a verdict for each designator, none of which denies, or a fault
pub record Reads (policy : Policy) (arch : Arch) (sector : ℕ) (before now : Device) (answer : Result Verdicts DissectFault) : Type 0 where
  pub only_read : IsOnlyRead before now
  pub verdicts_are : Known before now (λ h. (answer ≡ Err faults.Disk)
      ⊎ Gives faults.Memory (verdicts sector (held h) arch policy) answer)
  pub failed : answer ≡ Err faults.Disk → Rose before.faults now.faults
  pub kept : (answer ≡ Err faults.Disk) ⊎ (now.faults ≡ before.faults)
  pub verdicts : IfOk answer AreVerdicts
  pub own : IfErr answer IsOwn

-- a fault is told
abbrev pub TellsFault : Output → Output → ℕ → DissectFault → Type 0
TellsFault out after status faults.Disk = Refuses out after disk_refusal status
TellsFault out after status (faults.Table fault) = Refuses out after (table_refusal fault) status
TellsFault out after status (faults.Denied d rule) = Denies out after d rule status
TellsFault out after status faults.Memory = Refuses out after memory_refusal status

-- the answer is told: the verdicts, unless there was no memory for their text, or the fault
abbrev pub Tells : Bool → Output → Output → ℕ → Result Verdicts DissectFault → Type 0
Tells json out after status (Ok v) = Finishes out after (verdict_report json v) status ⊎ Refuses out after memory_refusal status
Tells json out after status (Err fault) = TellsFault out after status fault

-- the image is read, and what was read is told
abbrev pub DissectsBy : Policy → Arch → ℕ → Bool → Device → Device → Output → Output → ℕ → Type 0
DissectsBy policy arch sector json disk later out after status =
    (answer : Result Verdicts DissectFault) × Reads policy arch sector disk later answer × Tells json out after status answer

-- by what the policy's text is: where it is none the disk isn't asked
abbrev pub DissectsRead : Arch → ℕ → Bool → Device → Device → Output → Output → ℕ → Result Policy PolicyFault → Type 0
DissectsRead arch sector json disk later out after status (Ok policy) = DissectsBy policy arch sector json disk later out after status
DissectsRead arch sector json disk later out after status (Err fault) = (later ≡ disk) × Refuses out after (policy_refusal fault) status

abbrev pub Dissects : List ℕ → Arch → ℕ → Bool → Device → Device → Output → Output → ℕ → Type 0
Dissects text arch sector json disk later out after status = DissectsRead arch sector json disk later out after status (policy_of text)
