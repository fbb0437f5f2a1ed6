-- What a policy says of partitions (systemd.image-policy(7)).
use Rattle.std.specs.Prelude.{◌≡◌, ◌≢◌, List, [], ◌∷◌, map, Option, Some, None, option_map, Result, Ok, Err}
use Rattle.std.specs.Option.{option_map_or, option_or}
use Rattle.rp_base.specs.declared.table.Row.{Row}
use Rattle.rp_gpt.specs.declared.table_fault.TableFault.TheVariants as table
use Rattle.rp_policy.specs.Judging.{flags_of, judged}
use Rattle.rp_policy.specs.Reading.{designators}
use Rattle.rp_policy.specs.declared.judging.Found.{Found}
use Rattle.rp_policy.specs.declared.judging.Judged.{Judged}
use Rattle.rp_policy.specs.declared.judging.Judged.TheVariants.{Absent, Ignored, Use, Denied}
use Rattle.rp_policy.specs.declared.policy.Policy.{Policy}
use Rattle.rp_types.specs.declared.arch.Arch.{Arch}
use Rattle.rp_types.specs.declared.arch.Designator.{Designator}
use Rattle.rp_verdict.specs.Rows.{extra, row_of}
use Rattle.rp_verdict.specs.declared.verdict.DissectFault.{DissectFault}
use Rattle.rp_verdict.specs.declared.verdict.DissectFault.TheVariants as faults
use Rattle.rp_verdict.specs.declared.verdict.Verdict.{Verdict}
use Rattle.rp_verdict.specs.declared.verdict.Verdicts.{Verdicts}

-- the verdict on a designator of which this was found
abbrev pub verdict_on : Policy → Arch → List Row → Designator → Option Found → Verdict
verdict_on policy arch rows d found = record {
  designator = d;
  slot = option_map (λ row. row.slot) (row_of arch rows d);
  judged = judged (flags_of policy d).0 found;
}

-- that a verdict denies
abbrev pub denial_as : Designator → Judged → Option DissectFault
denial_as d (Denied rule) = Some (faults.Denied d rule)
denial_as d Absent = None
denial_as d Ignored = None
denial_as d (Use kind) = None

abbrev pub denial_of : Verdict → Option DissectFault
denial_of verdict = denial_as verdict.designator verdict.judged

-- the first denial
abbrev pub first_denial : List Verdict → Option DissectFault
first_denial [] = None
first_denial (verdict ∷ verdicts) = option_or (denial_of verdict) (first_denial verdicts)

-- the verdicts on all designators, in order, of which this was found
unfoldable pub listed : Policy → Arch → List Row → (Designator → Option Found) → List Verdict
listed policy arch rows found = map (λ d. verdict_on policy arch rows d (found d)) designators

-- verdicts with the rows that are left over, unless one denies
unfoldable pub whole : Arch → List Row → List Verdict → Result Verdicts DissectFault
whole arch rows list = option_map_or Err (first_denial list) (Ok (record { list = list; extra = extra arch rows }))

-- a verdict for each designator in order, none of which denies
pub record AreVerdicts (verdicts : Verdicts) : Type 0 where
  pub order : map (λ verdict. verdict.designator) verdicts.list ≡ designators
  pub allowed : first_denial verdicts.list ≡ None

-- a fault that stands for itself isn't said to be the table's
pub record IsOwn (fault : DissectFault) : Type 0 where
  pub disk : fault ≢ faults.Table table.Disk
  pub memory : fault ≢ faults.Table table.Memory
