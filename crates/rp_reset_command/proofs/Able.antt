-- What is planned behind a reset can be carried out.
use Rattle.std.proofs.Common.{◌≡◌, ℕ, ◌*◌, ◌≤◌, ◌%◌, ◌^◌, List, length, Option, Some, None, Ok, sym, subst, inl, inr, All}
use Rattle.std.specs.Prelude.{IfSome}
use Rattle.std.proofs.lemmas.List.Elements.{All-map}
use Rattle.rp_apply.specs.Commits.{HavePlannedRoots}
use Rattle.rp_apply.specs.Sourced.{NamesSource, paths_of}
use Rattle.rp_base.specs.Geometry.{IsSector}
use Rattle.rp_base.specs.declared.plan.Plan.{Plan}
use Rattle.rp_base.specs.declared.seen.Seen.{Seen}
use Rattle.rp_defs.specs.WellFormed.{IsWellFormed}
use Rattle.rp_defs.specs.declared.definition.Definition.{Definition}
use Rattle.rp_disk.specs.Device.{Known}
use Rattle.rp_disk.specs.History.{held}
use Rattle.rp_disk.specs.Made.{Made, history_of}
use Rattle.rp_gpt.specs.Accepted.{IsSeen}
use Rattle.rp_gpt.specs.Shown.{accepted}
use Rattle.rp_gpt.specs.declared.table_fault.Empty.{Empty}
use Rattle.rp_io.specs.declared.stored.Stored.{Stored}
use Rattle.rp_outcome.specs.Device.{Device}
use Rattle.rp_outcome.specs.Refusals.{disk_refusal, source_refusal}
use Rattle.rp_outcome.specs.Store.{Store}
use Rattle.rp_plan.specs.Goal.{goal}
use Rattle.rp_planned.proofs.Target.{is_plannable, target_of_seen}
use Rattle.rp_planned.specs.Planning.{seen_of, target_of}
use Rattle.rp_planned.specs.declared.planned.Planned.{Planned}
use Rattle.rp_planned.specs.declared.request.Request.{Request}
use Rattle.rp_reading.specs.Stages.{Settles}
use Rattle.rp_reset.proofs.Public.{reset_fits, reset_is, reset_writes}
use Rattle.rp_reset.specs.Reset.{left_note, reset as reset_of, reset_table}
use Rattle.rp_reset_stops.specs.Through.{IsResetFor}
use Rattle.rp_roots.proofs.Public.{goal_has_roots}
use Rattle.rp_sizes.specs.Facts.{facts}
use Rattle.rp_sizes.specs.declared.need.Fact.{Fact}
use Rattle.rp_step.specs.Sourced.{sources_in}
use Rattle.rp_stops.proofs.Accepting.{accepted-sized}
use Rattle.rp_apply_command.proofs.Allowed.{can_prepare}
use Rattle.rp_apply_command.proofs.Goals.{accepted_of, settled_ok}
use Rattle.rp_reset_command.proofs.Known.{Aimed, aimed, known, plans_blind}
use Rattle.rp_reset_command.proofs.Left.{left_seen, no_repair}
use Rattle.rp_reset_command.specs.Carrying.{CanRenew, IsFormed}
use Rattle.rp_reset_command.specs.Renewing.{RenewsImage, seen_left}
use Rattle.rp_reset_command.specs.declared.renewal.Renewal.{Renewal}

-- the notes of a reset have no source
reset_named : (seen : Seen) (list : List Definition) (reset : Option Plan) → reset_of seen list ≡ Ok reset
    → IfSome reset (λ plan. All (NamesSource list) plan.notes)
reset_named seen list None made = tt
reset_named seen list (Some plan) made =
    subst (λ (p : Plan). All (NamesSource list) p.notes) (sym (reset_is seen list plan made))
    (All-map (NamesSource list) left_note (reset_table seen.shown list).rows (λ k d below. tt))

-- the image of a disk is the one that was seen
image_is : (request : Request) (seen : Seen) (image : List ℕ) → Settles disk_refusal (seen_of request.sector request.empty image) (Ok seen)
    → accepted request.sector image request.empty ≡ Ok seen
image_is request seen image settles = accepted_of (accepted request.sector image request.empty) seen
    (settled_ok disk_refusal (seen_of request.sector request.empty image) seen settles)

module _ (request : Request) (list : List Definition) (seen : Seen) (of_sector : IsSector request.sector) (is : IsSeen request.sector seen) where
  abbrev Shows : Device → Type 0
  Shows disk = Known disk disk (λ h. accepted request.sector (held h) request.empty ≡ Ok seen)

  len_is : (disk : Device) → Shows disk → Known disk disk (λ h. length (held h) ≡ 512 * seen.sectors)
  len_is disk at = λ past can. (accepted-sized request.sector (held (history_of past disk.calls)) request.empty seen of_sector (at past can)).1.len

  reset_at : (disk : Device) (reset : Option Plan) → reset_of seen list ≡ Ok reset → Shows disk → IfSome reset (λ plan.
      Known disk disk (λ h. (sector : ℕ) × (empty : Empty) × IsResetFor sector (held h) empty seen list plan))
  reset_at disk None made at = tt
  reset_at disk (Some plan) made at = λ past can. (
    request.sector,
    request.empty,
    record {
      plan = record {
        of_sector = of_sector;
        seen_of = at past can;
        fits = reset_fits seen list plan made (is_plannable request.sector seen is);
        table_fits = reset_writes seen list plan made is.fits;
      };
      reset_is = made;
    },
  )

-- what the sources told is what is known
same_facts : (known others : List Fact) → Settles source_refusal (Ok others) (Ok known) → others ≡ known
same_facts known others (inl same) = cc
same_facts known others (inr (inl e)) = absurd (cc)
same_facts known others (inr (inr e)) = absurd (cc)

-- where sources tell, each pair is planned with the root hash of its source
roots_by : (request : Request) (list : List Definition) (left : Seen) (sources drained : Store (List Stored)) (planned : Planned)
    → IsSector request.sector → request.size % 4096 ≡ 0 → request.size ≤ 2 ^ 44 → IsWellFormed list → IsSeen request.sector left
    → Aimed request list left sources drained planned
    → IfSome drained.told (λ files. HavePlannedRoots planned.plan (sources_in files (paths_of list)))
roots_by request list left sources drained planned of_sector whole most formed is aim =
    subst (λ (t : Option (List Stored)). IfSome t (λ files. HavePlannedRoots planned.plan (sources_in files (paths_of list))))
    (sym aim.asks.told) (by sources.told aim.asks.settled) where
      by : (t : Option (List Stored)) → IfSome t (λ files. Settles source_refusal (Ok (facts request.seed files left.shown list)) (Ok aim.facts))
          → IfSome t (λ files. HavePlannedRoots planned.plan (sources_in files (paths_of list)))
      by None settles = tt
      by (Some files) settles =
          goal_has_roots left (target_of request.size left) list files request.seed planned.plan (is_plannable request.sector left is)
          (target_of_seen request.sector request.size left is of_sector whole most) formed
          (subst (λ (fs : List Fact). goal left (target_of request.size left) list fs request.seed ≡ Ok planned.plan)
          (sym (same_facts aim.facts (facts request.seed files left.shown list) settles)) aim.is)

pub can_renew : (request : Request) (list : List Definition) (disk later : Device) (sources drained : Store (List Stored)) (renewal : Renewal)
    → IsSector request.sector → request.size % 4096 ≡ 0 → request.size ≤ 2 ^ 44 → IsWellFormed list
    → RenewsImage request list disk later sources drained (Ok renewal) → IsFormed renewal → CanRenew list renewal later drained
can_renew request list disk later sources drained renewal of_sector whole most formed renews both =
    let k = known request list disk later sources drained renewal renews in
    let left = seen_left renewal.seen renewal.reset in
    let is : IsSeen request.sector left = left_seen request.sector renewal.seen list renewal.reset k.reads.seen k.made in
    let repaired = no_repair request.size renewal.seen renewal.reset k.repaired in
    let aim = aimed request list left sources drained renewal.planned k.plans in
    let at : Known later later (λ h. accepted request.sector (held h) request.empty ≡ Ok renewal.seen) = λ past can.
    subst (λ (l : List Made). accepted request.sector (held (history_of past l)) request.empty ≡ Ok renewal.seen) (sym k.reads.only_read.calls)
    (image_is request renewal.seen (held (history_of past disk.calls)) (k.reads.settled past can)) in
    record {
      formed = both;
      made = k.made;
      named =
          (can_prepare request list _ _ sources drained renewal.planned of_sector
          (plans_blind request list left sources drained (Ok renewal.planned) is repaired k.plans) both.planned).named;
      reset_named = reset_named renewal.seen list renewal.reset k.made;
      left = aim.same;
      len = len_is request list renewal.seen of_sector k.reads.seen later at;
      image = reset_at request list renewal.seen of_sector k.reads.seen later renewal.reset k.made at;
      roots = λ past can. roots_by request list left sources drained renewal.planned of_sector whole most formed is aim;
    }
