-- The law of every stop.
use Rattle.std.proofs.Common.{◌≡◌, ℕ, ◌+◌, ◌*◌, ◌<◌, ◌≤◌, ◌⊎◌, Bool, true, false, cond, List, [], ◌∷◌, ◌++◌, length, get_or, refl, sym, ap, ◌∙◌, subst, inl, inr, arith}
use Rattle.std.proofs.lemmas.List.{get_or_default}
use Rattle.rp_base.specs.Geometry.{IsSector}
use Rattle.rp_base.specs.Plan.{noted_of}
use Rattle.rp_base.specs.declared.plan.Plan.{Plan}
use Rattle.rp_base.specs.declared.seen.Seen.{Seen}
use Rattle.rp_disk.specs.declared.call.Call.{Call}
use Rattle.rp_disk.specs.Blocks.{flat}
use Rattle.rp_disk.specs.Calls.{all_done, has_sync, pending, settled}
use Rattle.rp_disk.specs.Ranges.{Inside, Misses}
use Rattle.rp_disk.specs.Stops.{Each, IsFrontOf, Leaves}
use Rattle.rp_disk.proofs.Agreeing.{Each-left}
use Rattle.rp_disk.proofs.Blocks.{Each-imp}
use Rattle.rp_disk.proofs.Ranges.{same_bytes}
use Rattle.rp_gpt.specs.Accepted.{IsSeenOf}
use Rattle.rp_gpt.specs.declared.table_fault.Empty.{Empty}
use Rattle.rp_stops.proofs.Accepting.{accepted-sized}
use Rattle.rp_stops.specs.Honest.{IsTornHonest}
use Rattle.rp_stops.specs.Order.{AreCallsOf, contents_blocks, copies, growth}
use Rattle.rp_stops.specs.Plans.{IsPlanFor, StopsAlone, StopsWell}
use Rattle.rp_stops.specs.Rows.{Contents, Fills, HoldContents, IsInOldRow, grown}
use Rattle.rp_stops.specs.Safe.{KeepsRows}
use Rattle.rp_stops.specs.Writers.{Event, mine, theirs, Interleaves, Survive, before, behind, calls_of, ours, others}
use Rattle.rp_stops.proofs.Cells.{SameNews}
use Rattle.rp_stops.proofs.Cuts.{others-append, ours-append}
use Rattle.rp_stops.proofs.Given.{IsSized, Given, grows, layout}
use Rattle.rp_stops.proofs.Missing.{calls_grow, calls_miss}
use Rattle.rp_stops.proofs.Outcomes.{Shows, blocks_unsynced, stage_shows}
use Rattle.rp_stops.proofs.Stages.{Stop, stages}
use Rattle.rp_stops.proofs.Surviving.{Grows, grows-events, grows-left, others_kept}
use Rattle.rp_stops.proofs.Writes.{IsKeptRow, old_rows, others_inside}

-- a plan's sectors are those of the image
pub plan-sector : (sector : ℕ) (old : List ℕ) (empty : Empty) (seen : Seen) (plan : Plan) → IsPlanFor sector old empty seen plan
    → plan.goal.sector ≡ sector
plan-sector sector old empty seen plan is =
    let both = accepted-sized sector old empty seen is.of_sector is.seen_of in
    is.fits.well_formed.sector ∙ both.0.of_sector

pub plan-given : (sector : ℕ) (old : List ℕ) (empty : Empty) (seen : Seen) (plan : Plan) → IsPlanFor sector old empty seen plan
    → Given old seen plan
plan-given sector old empty seen plan is =
    let both = accepted-sized sector old empty seen is.of_sector is.seen_of in
    let e = sym (plan-sector sector old empty seen plan is) in
    record {
      is_sector = subst IsSector e is.of_sector;
      seen_is = subst (λ z. IsSized z seen) e both.0;
      seen_of = subst (λ z. IsSeenOf z old seen) e both.1;
      fits = is.fits;
      table_fits = is.table_fits;
    }

module _ (old : List ℕ) (seen : Seen) (plan : Plan) (g : Given old seen plan) (body calls : List Call)
    (are : AreCallsOf seen plan body calls) where
  abbrev blocks : List (List Call)
  blocks = growth seen plan ++ (contents_blocks body ++ (copies plan are.order ++ are.mbr))

  -- new rows as the contents left them hold the contents
  pub held : (contents : Contents) → Fills old plan contents body → (new : List ℕ)
      → SameNews (layout old seen plan g) (all_done (grown old plan) body) new → HoldContents plan contents new
  held contents fills new news k d lt is_new =
      let noted = get_or (noted_of plan) k d in
      news (512 * noted.0.start) (512 * noted.0.size) (
        k,
        get_or (noted_of plan) k d,
        lt,
        get_or_default (noted_of plan) k
            (get_or (noted_of plan) k d) d lt,
        (is_new, refl, refl),
      )
      ∙ fills k d lt is_new

  module _ (events front rest : List Event) (live : Interleaves seen calls events) (is : front ++ rest ≡ events) where
    ours_are : ours front ++ ours rest ≡ flat (growth seen plan ++ (contents_blocks body ++ (copies plan are.order ++ are.mbr)))
    ours_are = sym (ours-append front rest) ∙ ap ours is ∙ live.keeps ∙ are.are

    others_front : Each (IsInOldRow seen) (others front)
    others_front = Each-left (IsInOldRow seen) (others front) (others rest)
        (subst (Each (IsInOldRow seen)) (ap others (sym is) ∙ others-append front rest) live.inside)

    stop_shows : (image : List ℕ) → Leaves old (calls_of front) image → IsTornHonest plan.goal.sector old (calls_of front) image
        → Shows old seen plan g body image
    stop_shows image left honest =
        let stop : Stop plan.goal.sector (settled old (calls_of front)) (pending (calls_of front)) image =
        record { agrees = left; honest = honest } in
        stage_shows old seen plan g body are.order are.mbr are.inside are.ordered are.mbr_part image
        (stages plan.goal.sector (λ c. IsInOldRow seen c) (growth seen plan ++
        (contents_blocks body ++ (copies plan are.order ++ are.mbr))) events front rest old image
        (blocks_unsynced seen plan body are.order are.mbr are.inside are.mbr_part) (live.keeps ∙ are.are) live.inside is stop)

    survives : (image : List ℕ) → (length image ≡ length old) ⊎ (length image ≡ 512 * plan.target) → Leaves old (calls_of front) image
        → Survive old seen front image
    survives image len left k (i, row, lt, same, byte) later =
        let kept : IsKeptRow old seen plan g row = subst (λ r. IsKeptRow old seen plan g r) same (old_rows old seen plan g i row lt) in
        let inside = kept.inside in
        let to = byte.1 in
        let here : k < length old = omega arith in
        let there : k < length image = elim len [ inl e ↦ omega arith | inr e ↦ omega (arith, grows old seen plan g) ] in
        let inside_old : Each (Inside (length old)) (others front) =
        Each-imp (IsInOldRow seen) (Inside (length old)) (λ c o. others_inside old seen plan g c o) (others front) others_front in
        let ours_grow : Grows (length old) (ours front) =
        grows-left (length old) (ours front) (ours rest) (subst (Grows (length old)) (sym ours_are)
        (calls_grow old seen plan g body are.order are.mbr are.inside are.mbr_part)) in
        let ours_miss : Each (Misses k) (ours front) =
        Each-left (Misses k) (ours front) (ours rest) (subst (Each (Misses k)) (sym ours_are)
        (calls_miss old seen plan g body are.order are.mbr are.inside are.mbr_part k row i lt same byte)) in
        others_kept old front image k here there (grows-events (length old) (length old) front
        (omega arith) ours_grow inside_old) inside_old ours_miss later left

    pub stops_well : (image : List ℕ) → Leaves old (calls_of front) image → IsTornHonest plan.goal.sector old (calls_of front) image
        → StopsWell plan.goal.sector old seen plan body front image
    stops_well image left honest =
        let shows_it = stop_shows image left honest in record {
          shows = shows_it.either;
          survive = survives image shows_it.either.len left;
          holds = λ contents fills goal other. held contents fills image (shows_it.news goal other);
        }

-- whoever else writes inside old rows, a stop leaves the old table or the goal
pub stops : (sector : ℕ) (old : List ℕ) (empty : Empty) (seen : Seen) (plan : Plan) (body calls : List Call)
    (events front rest : List Event) (image : List ℕ)
    → IsPlanFor sector old empty seen plan → AreCallsOf seen plan body calls → Interleaves seen calls events → front ++ rest ≡ events
    → Leaves old (calls_of front) image → IsTornHonest sector old (calls_of front) image → StopsWell sector old seen plan body front image
stops sector old empty seen plan body calls events front rest image is are live cut left honest =
    let e = plan-sector sector old empty seen plan is in
    subst (λ z. StopsWell z old seen plan body front image) e
    (stops_well old seen plan (plan-given sector old empty seen plan is) body calls are events front rest live cut image left
    (subst (λ z. IsTornHonest z old (calls_of front) image) (sym e) honest))

-- without others

abbrev mines : List Call → List Event
mines [] = []
mines (call ∷ calls) = mine call ∷ mines calls

calls-mines : (calls : List Call) → calls_of (mines calls) ≡ calls
calls-mines [] = refl
calls-mines (call ∷ calls) = ap (λ l. call ∷ l) (calls-mines calls)

ours-mines : (calls : List Call) → ours (mines calls) ≡ calls
ours-mines [] = refl
ours-mines (call ∷ calls) = ap (λ l. call ∷ l) (ours-mines calls)

others-mines : (calls : List Call) → others (mines calls) ≡ []
others-mines [] = refl
others-mines (call ∷ calls) = others-mines calls

mines-append : (xs ys : List Call) → mines (xs ++ ys) ≡ mines xs ++ mines ys
mines-append [] ys = refl
mines-append (x ∷ xs) ys = ap (λ l. mine x ∷ l) (mines-append xs ys)

none-before : (events : List Event) → others events ≡ [] → (others (before events) ≡ []) × (others (behind events) ≡ [])
none-before [] none = (refl, refl)
none-before (mine call ∷ events) none = by_sync (has_sync (call ∷ calls_of events)) (none-before events none) where
  by_sync : (b : Bool) → (others (before events) ≡ []) × (others (behind events) ≡ [])
      → (others (cond b (mine call ∷ before events) []) ≡ []) × (others (cond b (behind events) (mine call ∷ events)) ≡ [])
  by_sync true rest = rest
  by_sync false rest = (refl, none)
none-before (theirs at bytes ∷ events) none = absurd (cc)

module _ (sector : ℕ) (old : List ℕ) (empty : Empty) (seen : Seen) (plan : Plan) (body calls made : List Call) (image : List ℕ)
    (is : IsPlanFor sector old empty seen plan) (are : AreCallsOf seen plan body calls) (front : IsFrontOf made calls)
    (left : Leaves old made image) (honest : IsTornHonest sector old made image) where
  rest : List Call
  rest = front.0

  live : Interleaves seen calls (mines calls)
  live = record { keeps = ours-mines calls; inside = subst (Each (IsInOldRow seen)) (sym (others-mines calls)) tt }

  well : StopsWell sector old seen plan body (mines made) image
  well =
      stops sector old empty seen plan body calls (mines calls) (mines made) (mines front.0) image is are live
      (sym (mines-append made front.0) ∙ ap mines front.1)
      (subst (λ l. Leaves old l image) (sym (calls-mines made)) left)
      (subst (λ l. IsTornHonest sector old l image) (sym (calls-mines made)) honest)

  g : Given old seen plan
  g = plan-given sector old empty seen plan is

  rows_kept : KeepsRows old seen image
  rows_kept i d lt =
      let row = get_or seen.shown.rows i d in
      let kept = old_rows old seen plan g i d lt in
      let inside = kept.inside in
      let none = none-before (mines made) (others-mines made) in
      let len = well.shows.len in
      let from_units : 512 * row.start + 512 * row.size ≡ 512 * (row.start + row.size) = omega arith in
      let enough : 512 * row.start + 512 * row.size ≤ length image =
      elim len [ inl e ↦ omega arith | inr e ↦ omega (arith, grows old seen plan g) ] in
      same_bytes (512 * row.start) (512 * row.size) image old enough (omega arith)
      (λ k low high.
      well.survive k (
        i,
        get_or seen.shown.rows i d,
        lt,
        get_or_default seen.shown.rows i (get_or seen.shown.rows i d) d lt,
        (low, omega arith),
      ) (subst (Each (Misses k)) (sym none.1) tt)
      ∙ ap (λ l. get_or (all_done old l) k 0) none.0)

  -- the image is safe
  pub alone : StopsAlone sector old seen plan body image
  alone = record {
    shows = well.shows;
    rows = rows_kept;
    holds = λ contents fills. record { shows = well.shows; rows = rows_kept; holds = well.holds contents fills };
  }
