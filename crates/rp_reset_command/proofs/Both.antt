-- Both plans of a reset, one behind the other.
use Rattle.std.proofs.Common.{◌≡◌, ◌∙◌, List, Some, Result, Ok, Err, refl, ap}
use Rattle.rp_apply.specs.Ready.{IsReadyFor}
use Rattle.rp_apply.specs.declared.ready.Ready.{Ready}
use Rattle.rp_base.specs.declared.plan.Plan.{Plan}
use Rattle.rp_defs.specs.declared.definition.Definitions.{Definitions}
use Rattle.rp_io.specs.declared.stored.Stored.{Stored}
use Rattle.rp_outcome.specs.Device.{Device}
use Rattle.rp_outcome.specs.Refusals.{Refusal}
use Rattle.rp_outcome.specs.Store.{Store}
use Rattle.rp_planned.specs.declared.planned.Planned.{Planned}
use Rattle.rp_step.specs.declared.fault.ApplyFault.{ApplyFault}
use Rattle.rp_step.specs.declared.fault.ApplyFault.TheVariants.{DiskFault, SourceFault, SourceChanged}
use Rattle.rp_apply_command.proofs.Carried as carried
use Rattle.rp_apply_command.specs.Applies.{CarriesOut, Outcome}
use Rattle.rp_apply_command.specs.Carrying.{HasSeenLength, HasToldRoots}
use Rattle.rp_reset_command.proofs.Between.{first_length, first_roots, length_between, roots_between}
use Rattle.rp_reset_command.specs.Applies.{CarriesBoth, fault_refusal, outcome_of}
use Rattle.rp_reset_command.specs.Carrying.{CanRenew}
use Rattle.rp_reset_command.specs.Renewing.{with_reset}
use Rattle.rp_reset_command.specs.declared.renewal.Renewal.{Renewal}

-- the refusal of a fault
same_refusal : (fault : ApplyFault) → carried.refusal_of fault ≡ fault_refusal fault
same_refusal DiskFault = refl
same_refusal SourceFault = refl
same_refusal (SourceChanged planned copied) = refl

-- what is told of an answer
pub done_is : {T : Type 0} (result : Result T ApplyFault) (value : T) → result ≡ Ok value → carried.outcome_of result ≡ outcome_of (Ok tt)
done_is result value is = ap carried.outcome_of is

pub fault_is : {T : Type 0} (result : Result T ApplyFault) (fault : ApplyFault) → result ≡ Err fault
    → carried.outcome_of result ≡ outcome_of (Err fault)
fault_is result fault is = ap carried.outcome_of is ∙ ap (λ (r : Refusal). Err r) (same_refusal fault)

-- one plan is carried out, whatever is planned and told
abbrev pub CarriesAny : Ready → Device → Device → Store (List Stored) → Store (List Stored) → Outcome → Type 0
CarriesAny ready disk later sources drained answer =
    (definitions : Definitions) (planned : Planned) → IsReadyFor planned.plan planned.seen definitions.list ready → HasSeenLength planned disk
    → HasToldRoots definitions.list planned disk sources → CarriesOut definitions planned disk later sources drained answer

module _ (first second : Ready) (disk middle : Device) (sources between : Store (List Stored)) (definitions : Definitions) (renewal : Renewal)
    (reset : Plan) (is_first : IsReadyFor reset renewal.seen definitions.list first)
    (is_second : IsReadyFor renewal.planned.plan renewal.planned.seen definitions.list second) (is : renewal.reset ≡ Some reset)
    (can : CanRenew definitions.list renewal disk sources) where
  resets : (answer : Outcome) → CarriesAny first disk middle sources between answer
      → CarriesOut definitions (with_reset renewal reset) disk middle sources between answer
  resets answer carries = carries definitions (with_reset renewal reset) is_first (first_length definitions.list renewal reset disk sources can)
      (first_roots definitions.list renewal reset disk sources is can.made)

  -- the reset was carried out, and then the plan behind it as far as it went
  pub both_carried : (later : Device) (drained : Store (List Stored)) (answer : Outcome) → CarriesAny first disk middle sources between (Ok tt)
      → CarriesAny second middle later between drained answer
      → CarriesBoth definitions renewal reset disk later sources drained answer
  both_carried later drained answer carries goes_on =
      let f = resets (Ok tt) carries in record {
        middle = middle;
        between = between;
        outcome = Ok tt;
        resets = f;
        goes_on = goes_on definitions renewal.planned is_second
            (length_between definitions.list renewal reset disk middle sources between is can definitions f)
            (roots_between definitions.list renewal reset disk middle sources between is can f.earlier f.told);
      }

  -- the reset was broken off
  pub first_broken : (refusal : Refusal) → CarriesAny first disk middle sources between (Err refusal)
      → CarriesBoth definitions renewal reset disk middle sources between (Err refusal)
  first_broken refusal carries = record {
    middle = middle;
    between = between;
    outcome = Err refusal;
    resets = resets (Err refusal) carries;
    goes_on = (refl, refl, refl);
  }
