-- A stop in the calls of a reset and those of the plan behind it.
use Rattle.std.proofs.Common.{◌≡◌, ◌≢◌, ◌∙◌, ℕ, ◌⊎◌, ◌*◌, List, [], ◌∷◌, ◌++◌, get_or, All, Ok, refl, ap, sym, subst, inl, inr}
use Rattle.std.specs.Prelude.{Contains}
use Rattle.std.proofs.lemmas.List.Elements.{All-contains, All-contains_itself}
use Rattle.rp_base.specs.Plan.{KeepsRow, Noted, noted_of}
use Rattle.rp_base.specs.declared.plan.Change.TheVariants.{New}
use Rattle.rp_base.specs.declared.plan.Plan.{Plan}
use Rattle.rp_base.specs.declared.seen.Seen.{Seen}
use Rattle.rp_base.specs.declared.table.Row.{Row}
use Rattle.rp_base.specs.declared.table.Table.{Table}
use Rattle.rp_defs.specs.declared.definition.Definition.{Definition}
use Rattle.rp_disk.specs.Calls.{all_done}
use Rattle.rp_disk.specs.History as history
use Rattle.rp_disk.specs.History.{LeftSince, MayLeave, moment}
use Rattle.rp_disk.specs.Made.{Made, Past, history_of}
use Rattle.rp_disk.specs.Runs.{AtAnyMomentBehindSync}
use Rattle.rp_disk.specs.Stops.{IsFrontOf, Leaves}
use Rattle.rp_disk.specs.declared.call.Call.{Call}
use Rattle.rp_disk.specs.declared.call.Call.TheVariants.{Sync}
use Rattle.rp_gpt.specs.Shown.{accepted, shown, shows}
use Rattle.rp_gpt.specs.declared.table_fault.Empty.{Empty}
use Rattle.rp_gpt.specs.declared.table_fault.Empty.TheVariants.{Refuse, Require}
use Rattle.rp_stops.specs.After.{seen_after}
use Rattle.rp_stops.specs.Final.{IsFinal}
use Rattle.rp_stops.specs.Order.{AreCallsOf}
use Rattle.rp_stops.specs.Plans.{StopsAlone}
use Rattle.rp_stops.specs.Rows.{Contents, Fills}
use Rattle.rp_stops.proofs.Carried.{plan-given}
use Rattle.rp_stops.proofs.Final.{final}
use Rattle.rp_stops.proofs.Given.{All-rows}
use Rattle.rp_stops.proofs.Moments.{two_plans}
use Rattle.rp_stops.proofs.Whole.{whole_sectors-honest}
use Rattle.rp_reset_stops.specs.Through.{HoldWhatFills, IsPlanBehind, IsResetFor, IsSafeIfHonest, IsSafeIfWhole, IsSafeThrough, KeepsOthers}
use Rattle.rp_reset_stops.proofs.Given.{accepted_then, done_both, middle_length, middle_rows, middle_shown, old_length, others_kept, own_length, plan_behind, rows_then}

same_shown : (a b : Table) → shows a ≡ shows b → a ≡ b
same_shown a b e = cc

module _ (sector : ℕ) (old : List ℕ) (empty : Empty) (seen : Seen) (defs : List Definition) (reset plan : Plan)
    (is : IsResetFor sector old empty seen defs reset) (before : List Call) (are : AreCallsOf seen reset [] before)
    (fits : IsPlanBehind seen reset plan) where
  -- where the goal is the reset table, no row is new
  none_new : reset.goal ≡ plan.goal → All (λ (noted : Noted). noted.1.change ≢ New) (noted_of plan)
  none_new same k d below =
      let noted = get_or (noted_of plan) k d in
      let has = All-rows (Contains plan.goal.rows) plan.goal.rows plan.notes (All-contains_itself plan.goal.rows) k d below in
      let keeps = (fits.fits.rows k d below).0 in
      (All-contains (λ (row : Row). row.slot ≡ noted.0.slot → KeepsRow noted row) plan.goal.rows noted.0
      (subst (λ (t : Table). All (λ (row : Row). row.slot ≡ noted.0.slot → KeepsRow noted row) t.rows) same keeps) has refl).change

  module _ (body behind : List Call) (are_behind : AreCallsOf (seen_after seen reset) plan body behind) where
    module _ (image : List ℕ) where
      abbrev IsSafe : Type 0
      IsSafe = IsSafeThrough sector old seen reset plan (HoldWhatFills (all_done old before) plan body) image

      -- a stop in the calls of the reset
      in_reset : StopsAlone sector old seen reset [] image → IsSafe
      in_reset stops = record {
        len = inl (elim stops.shows.len [
          | inl same ↦ same
          | inr reached ↦ reached ∙ ap (λ n. 512 * n) (own_length sector old empty seen defs reset is)
              ∙ sym (old_length sector old empty seen defs reset is)
        ]);
        accepted = stops.shows.accepted;
        shows = elim stops.shows.table [
          | inl as_old ↦ inl (record { table = as_old; rows = stops.rows })
          | inr as_reset ↦ inr (inl (record { table = as_reset; rows = others_kept sector old empty seen defs reset is image stops.rows }))
        ];
      }

      -- and one in those behind it
      rows_behind : StopsAlone sector (all_done old before) (seen_after seen reset) plan body image → KeepsOthers old seen reset image
      rows_behind stops = λ k d below. stops.rows k d below ∙ middle_rows sector old empty seen defs reset is before are k d below

      hold : StopsAlone sector (all_done old before) (seen_after seen reset) plan body image → shown sector image ≡ shows plan.goal
          → HoldWhatFills (all_done old before) plan body image
      hold stops as_goal = λ contents fills k d below new.
          (stops.holds contents fills).holds as_goal
          (λ as_middle. none_new (same_shown reset.goal plan.goal
          (sym (middle_shown sector old empty seen defs reset is before are) ∙ as_middle)) k d below new)
          k d below new

      in_second : StopsAlone sector (all_done old before) (seen_after seen reset) plan body image → IsSafe
      in_second stops = record {
        len = elim stops.shows.len [
          | inl same ↦ inl (same ∙ middle_length sector old empty seen defs reset is before are)
          | inr reached ↦ inr reached
        ];
        accepted = stops.shows.accepted;
        shows = elim stops.shows.table [
          | inl as_middle ↦
              inr (inl (record {
                table = as_middle ∙ middle_shown sector old empty seen defs reset is before are;
                rows = rows_behind stops;
              }))
          | inr as_goal ↦ inr (inr (record { table = as_goal; rows = rows_behind stops; holds = hold stops as_goal }))
        ];
      }

      pub stops_honest : (made : List Call) → IsFrontOf made (before ++ behind) → Leaves old made image
          → IsSafeIfHonest sector old seen reset plan (HoldWhatFills (all_done old before) plan body) made image
      stops_honest made front left = λ honest.
          elim (two_plans sector old empty Refuse seen (seen_after seen reset) reset plan [] before body behind made image
          is.plan are (plan_behind sector old empty seen defs reset is before are plan fits) are_behind front left honest) [
            | inl first ↦ in_reset first
            | inr second ↦ in_second second
          ]

      pub stops_whole : (made : List Call) → IsFrontOf made (before ++ behind) → Leaves old made image
          → IsSafeIfWhole sector old seen reset plan (HoldWhatFills (all_done old before) plan body) made image
      stops_whole made front left = λ whole. stops_honest made front left (whole_sectors-honest sector old made image left whole)

    -- all calls of both
    pub seen_last : (then : Empty) → then ≢ Require
        → accepted sector (all_done old (before ++ behind)) then ≡ Ok (seen_after (seen_after seen reset) plan)
    seen_last then other = ap (λ image. accepted sector image then) (done_both old before behind)
        ∙ accepted_then sector (all_done old before) Refuse (seen_after seen reset) plan
        (plan_behind sector old empty seen defs reset is before are plan fits) body behind are_behind then other

    pub rows_last : KeepsOthers old seen reset (all_done old (before ++ behind))
    rows_last = subst (KeepsOthers old seen reset) (sym (done_both old before behind))
        (λ k d below. rows_then sector (all_done old before) Refuse (seen_after seen reset) plan
        (plan_behind sector old empty seen defs reset is before are plan fits) body behind are_behind k d below
        ∙ middle_rows sector old empty seen defs reset is before are k d below)

    pub final_last : (contents : Contents) → Fills (all_done old before) plan contents body
        → IsFinal (all_done old before) (seen_after seen reset) plan contents (all_done old (before ++ behind))
    final_last contents fills =
        subst (IsFinal (all_done old before) (seen_after seen reset) plan contents) (sym (done_both old before behind))
        (final (all_done old before) (seen_after seen reset) plan
        (plan-given sector (all_done old before) Refuse (seen_after seen reset) plan
        (plan_behind sector old empty seen defs reset is before are plan fits)) body behind are_behind contents fills)

module _ (sector : ℕ) (bytes : Past) (empty : Empty) (seen : Seen) (defs : List Definition) (reset plan : Plan)
    (before body behind : List Call) (old now : List Made) (any : AtAnyMomentBehindSync old (before ++ behind) now)
    (is : IsResetFor sector (history.held (history_of bytes old)) empty seen defs reset) (are : AreCallsOf seen reset [] before)
    (fits : IsPlanBehind seen reset plan) (are_behind : AreCallsOf (seen_after seen reset) plan body behind) where
  abbrev start : List ℕ
  start = history.held (history_of bytes old)

  abbrev Hold : List ℕ → Type 0
  Hold = HoldWhatFills (all_done (history.held (history_of bytes old)) before) plan body

  pub moment_honest : (made : List Call) (image : List ℕ) → LeftSince (history_of bytes now) (moment (history_of bytes old)) made image
      → MayLeave (history_of bytes old) image ⊎ ((more : List Call) × (made ≡ Sync ∷ more)
      × IsSafeIfHonest sector start seen reset plan Hold more image)
  moment_honest made image since = elim (any bytes made image since) [
    | inl at_start ↦ inl at_start
    | inr later ↦
        inr (
          later.0,
          later.1,
          stops_honest sector start empty seen defs reset plan is before are fits body behind are_behind image later.0 later.2 later.3,
        )
  ]

  pub moment_whole : (made : List Call) (image : List ℕ) → LeftSince (history_of bytes now) (moment (history_of bytes old)) made image
      → MayLeave (history_of bytes old) image ⊎ ((more : List Call) × (made ≡ Sync ∷ more)
      × IsSafeIfWhole sector start seen reset plan Hold more image)
  moment_whole made image since = elim (any bytes made image since) [
    | inl at_start ↦ inl at_start
    | inr later ↦
        inr (
          later.0,
          later.1,
          stops_whole sector start empty seen defs reset plan is before are fits body behind are_behind image later.0 later.2 later.3,
        )
  ]
