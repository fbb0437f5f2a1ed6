-- What carrying out a plan leaves of a disk that tells, over sources that tell.
use Rattle.std.proofs.Common.{◌≡◌, ℕ, ◌*◌, List, [], ◌∷◌, ◌++◌, length, Option, Some, None, Result, refl, sym, ap, ◌∙◌, subst, append_assoc}
use Rattle.std.specs.Prelude.{IfSome}
use Rattle.rp_base.specs.Plan.{IsWellFormed}
use Rattle.rp_base.specs.declared.plan.Plan.{Plan}
use Rattle.rp_base.specs.declared.seen.Seen.{Seen}
use Rattle.rp_disk.specs.Blocks.{flat}
use Rattle.rp_disk.specs.History.{History, IsSettled, LeftSince, all_did, moment, held}
use Rattle.rp_disk.specs.Made.{Past, Made, dones, history_of}
use Rattle.rp_disk.specs.Runs.{Runs}
use Rattle.rp_disk.specs.Stops.{Each}
use Rattle.rp_disk.specs.declared.call.Call.{Call}
use Rattle.rp_disk.specs.declared.call.Call.TheVariants.{Sync}
use Rattle.rp_disk.proofs.Runs.{all_did-append, history_of-dones, run_any_moment, settled-all_did, held-all_did}
use Rattle.rp_gpt.specs.declared.table_fault.Empty.{Empty}
use Rattle.rp_io.specs.declared.stored.Stored.{Stored}
use Rattle.rp_steps.specs.Calls.{calls, contents_calls}
use Rattle.rp_steps.specs.Contents.{NotesFit, Sources, contents}
use Rattle.rp_steps.specs.Steps.{steps}
use Rattle.rp_steps.proofs.Composed.{are_calls, fills}
use Rattle.rp_stops.specs.Final.{IsFinal}
use Rattle.rp_stops.specs.Honest.{IsTornHonest}
use Rattle.rp_stops.specs.Order.{AreCallsOf, contents_blocks, copies, growth}
use Rattle.rp_stops.specs.Plans.{IsPlanFor, StopsAlone}
use Rattle.rp_stops.specs.Rows.{IsInNewRow, grown}
use Rattle.rp_stops.proofs.Carried.{plan-given}
use Rattle.rp_stops.proofs.Final.{final}
use Rattle.rp_stops.proofs.Moments.{any_moment}
use Rattle.rp_step.specs.Found.{Found, all_calls, outside_of}
use Rattle.rp_step.specs.Run.{MakesSteps}
use Rattle.rp_step.specs.Sourced.{sources_in}
use Rattle.rp_step.specs.declared.fault.ApplyFault.{ApplyFault}
use Rattle.rp_step.proofs.Tied.{all_tied}
use Rattle.rp_apply.proofs.Anyhow.{are_calls_with}
use Rattle.rp_apply.proofs.Laid.{laid}

-- blocks that end with a sync each leave nothing pending where nothing was
settled_flat : (start : History) (blocks : List (List Call)) → IsSettled start → IsSettled (all_did start (flat blocks))
settled_flat start [] settled = settled
settled_flat start (block ∷ blocks) settled =
    subst IsSettled (sym (ap (all_did start) (sym (append_assoc block (Sync ∷ []) (flat blocks))) ∙ all_did-append start (block ++ Sync ∷ []) (flat blocks)))
    (settled_flat (all_did start (block ++ Sync ∷ [])) blocks (settled-all_did start block))

module _ (seen : Seen) (plan : Plan) (formed : IsWellFormed seen plan) (fit : NotesFit plan) where
  -- where both tell, the calls are those of the plan
  pub planned_runs : {T : Type 0} (paths : List (List ℕ)) (files : List Stored) (first : Past) (founds : List Found) (old new : List Made) (result : Result T ApplyFault)
      → MakesSteps plan (outside_of (Some files) paths (Some first)) (steps plan seen) founds old new result
      → length (held (history_of first old)) ≡ 512 * seen.sectors → Runs old (calls plan seen (sources_in files paths)) new result
  planned_runs paths files first founds old new result makes long =
      let outside = outside_of (Some files) paths (Some first) in
      let same : all_calls plan founds (steps plan seen) ≡ calls plan seen (sources_in files paths) =
      all_tied plan outside files first refl refl old founds (steps plan seen) makes.found_are
      (laid plan (sources_in files paths) seen formed fit (held (history_of first old)) long) in
      subst (λ (l : List Call). Runs old l new result) same makes.ran

  -- the bytes shown are the final image, and nothing is pending
  pub ends_final : (sources : Sources) (first : Past) (old new : List Made) (sector : ℕ) (empty : Empty) → new ≡ old ++ dones (calls plan seen sources)
      → IsPlanFor sector (held (history_of first old)) empty seen plan → IsSettled (history_of first old)
      → IsFinal (held (history_of first old)) seen plan (contents plan sources (grown (held (history_of first old)) plan)) (held (history_of first new))
      × IsSettled (history_of first new)
  ends_final sources first old new sector empty done is settled =
      let h = history_of first old in
      let all = calls plan seen sources in
      let given = plan-given sector (held h) empty seen plan is in
      let are = are_calls seen plan sources formed fit in
      let now : history_of first new ≡ all_did h all = ap (history_of first) done ∙ history_of-dones first old all in
      let there = final (held h) seen plan given (contents_calls plan sources) all are (contents plan sources (grown (held h) plan))
      (fills seen plan sources (held h) formed fit given.seen_of.len) in (
        subst (λ (image : List ℕ). IsFinal (held h) seen plan (contents plan sources (grown (held h) plan)) image)
            (sym (ap held now ∙ held-all_did h all)) there,
        subst IsSettled (sym (now ∙ ap (all_did h) are.are))
            (settled_flat h (growth seen plan ++ (contents_blocks (contents_calls plan sources) ++ (copies plan are.order ++ are.mbr))) settled),
      )

  -- at any moment, whatever the sources do
  pub any_moment_with : {T : Type 0} (told : Option (List Stored)) (paths : List (List ℕ)) (first : Past) (founds : List Found) (old new : List Made)
      (result : Result T ApplyFault) (sector : ℕ) (empty : Empty) → MakesSteps plan (outside_of told paths (Some first)) (steps plan seen) founds old new result
      → IsPlanFor sector (held (history_of first old)) empty seen plan → IsSettled (history_of first old)
      → (body : List Call) × AreCallsOf seen plan body (all_calls plan founds (steps plan seen)) × ((made : List Call) (image : List ℕ)
      → LeftSince (history_of first new) (moment (history_of first old)) made image → IsTornHonest sector (held (history_of first old)) made image
      → StopsAlone sector (held (history_of first old)) seen plan body image)
  any_moment_with told paths first founds old new result sector empty makes is settled =
      let all = all_calls plan founds (steps plan seen) in
      let are = are_calls_with plan (outside_of told paths (Some first)) seen formed fit old founds makes.found_are in
      (are.0, are.1, any_moment sector first empty seen plan are.0 all old new (run_any_moment result old new all makes.ran) settled is are.1)

  -- with the plan's own calls where the sources tell
  pub any_safe : {T : Type 0} (told : Option (List Stored)) (paths : List (List ℕ)) (first : Past) (founds : List Found) (old new : List Made)
      (result : Result T ApplyFault) (sector : ℕ) (empty : Empty) → MakesSteps plan (outside_of told paths (Some first)) (steps plan seen) founds old new result
      → IsPlanFor sector (held (history_of first old)) empty seen plan → IsSettled (history_of first old)
      → (body : List Call) × Each (IsInNewRow plan) body × IfSome told (λ files. body ≡ contents_calls plan (sources_in files paths))
      × ((made : List Call) (image : List ℕ) → LeftSince (history_of first new) (moment (history_of first old)) made image
      → IsTornHonest sector (held (history_of first old)) made image → StopsAlone sector (held (history_of first old)) seen plan body image)
  any_safe None paths first founds old new result sector empty makes is settled =
      let a = any_moment_with None paths first founds old new result sector empty makes is settled in
      (a.0, a.1.inside, tt, a.2)
  any_safe (Some files) paths first founds old new result sector empty makes is settled =
      let sources = sources_in files paths in
      let body = contents_calls plan sources in
      let all = calls plan seen sources in
      let are = are_calls seen plan sources formed fit in
      let long = (plan-given sector (held (history_of first old)) empty seen plan is).seen_of.len in
      let runs = planned_runs paths files first founds old new result makes long in
      (body, are.inside, refl, any_moment sector first empty seen plan body all old new (run_any_moment result old new all runs) settled is are)
