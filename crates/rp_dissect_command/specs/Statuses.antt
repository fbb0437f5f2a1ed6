-- What is known of `dissect` at each exit status.
use Rattle.std.specs.Prelude.{ℕ, ◌≡◌, ◌⊎◌, [], Bool, Result, Ok, Err, IsErr, IsOkAnd, IsErrAnd}
use Rattle.rp_denial.specs.Denials.{denied_line, policy, policy_refusal}
use Rattle.rp_disk.specs.History.{held}
use Rattle.rp_dissect.specs.Dissected.{verdicts}
use Rattle.rp_gpt.specs.declared.table_fault.TableFault.{TableFault}
use Rattle.rp_outcome.specs.Causes.{HasCauses}
use Rattle.rp_outcome.specs.Device.{Device, IsOnlyRead, Known}
use Rattle.rp_outcome.specs.Output.{Output, Prints, PrintsAll, PrintsPart}
use Rattle.rp_outcome.specs.Refusals.{disk_refusal, line_of, table_refusal}
use Rattle.rp_outcome.specs.Statuses as exit
use Rattle.rp_policy.specs.declared.judging.Rule.{Rule}
use Rattle.rp_policy.specs.declared.policy.Policy.{Policy}
use Rattle.rp_policy.specs.declared.policy.PolicyFault.{PolicyFault}
use Rattle.rp_types.specs.declared.arch.Arch.{Arch}
use Rattle.rp_types.specs.declared.arch.Designator.{Designator}
use Rattle.rp_verdict.specs.Verdicts.{AreVerdicts}
use Rattle.rp_verdict.specs.declared.verdict.DissectFault.{DissectFault}
use Rattle.rp_verdict.specs.declared.verdict.DissectFault.TheVariants as faults
use Rattle.rp_verdict.specs.declared.verdict.Verdicts.{Verdicts}
use Rattle.rp_verdict_text.specs.Reports.{verdict_report}

-- of the image this is what a policy says, whatever past the disk can have
abbrev pub Says : Policy → Arch → ℕ → Device → Device → Result Verdicts DissectFault → Type 0
Says policy arch sector disk later answer = Known disk later (λ h. verdicts sector (held h) arch policy ≡ answer)

-- the line of the reason why an image isn't accepted was printed
abbrev pub TellsTable : Policy → Arch → ℕ → Device → Device → Output → Output → Type 0
TellsTable policy arch sector disk later out after = (fault : TableFault) × ((table_refusal fault).status ≡ exit.image)
    × Says policy arch sector disk later (Err (faults.Table fault)) × Prints out after (line_of (table_refusal fault))

-- the line of a denial was printed
abbrev pub TellsDenial : Policy → Arch → ℕ → Device → Device → Output → Output → Type 0
TellsDenial policy arch sector disk later out after = (d : Designator) × ((rule : Rule)
    × Says policy arch sector disk later (Err (faults.Denied d rule)) × Prints out after (denied_line d rule))

-- by what the policy's text is, and of the image of each past that the disk can have: 0, the verdicts were printed, one for each designator,
-- none of which denies; 9, a part, for the sink failed; 4, why the image isn't accepted; 6, the text is no policy, and the disk
-- is as before, or the first denial; 7, the disk failed, as a line tells; 10, want of memory, and nothing was printed
pub record DissectByStatus (read : Result Policy PolicyFault) (arch : Arch) (sector : ℕ) (json : Bool) (disk later : Device)
    (out after : Output) (status : ℕ) : Type 0 where
  pub only_read : IsOnlyRead disk later
  pub causes : HasCauses disk later out after status
  pub one_of : (status ≡ exit.done) ⊎ (status ≡ exit.image) ⊎ (status ≡ policy) ⊎ (status ≡ exit.disk) ⊎ (status ≡ exit.sink)
      ⊎ (status ≡ exit.memory)
  pub done : status ≡ exit.done → IsOkAnd read (λ p.
      (v : Verdicts) × AreVerdicts v × Says p arch sector disk later (Ok v) × PrintsAll out after (verdict_report json v))
  pub cut : status ≡ exit.sink → IsOkAnd read (λ p.
      (v : Verdicts) × AreVerdicts v × Says p arch sector disk later (Ok v) × PrintsPart out after (verdict_report json v))
  pub refused : status ≡ exit.image → IsOkAnd read (λ p. TellsTable p arch sector disk later out after)
  pub denied : status ≡ policy → IsErrAnd read (λ fault. Prints out after (line_of (policy_refusal fault)))
      ⊎ IsOkAnd read (λ p. TellsDenial p arch sector disk later out after)
  pub disk_line : status ≡ exit.disk → Prints out after (line_of disk_refusal)
  pub nothing : status ≡ exit.memory → Prints out after []
  pub is_refused : IsErr read → status ≡ policy
  pub untouched : IsErr read → later ≡ disk
