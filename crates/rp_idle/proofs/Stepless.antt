-- On an idle image nothing is to be done.
use Rattle.std.proofs.Common.{◌≡◌, ◌∙◌, ℕ, Bool, true, false, cond, List, [], ◌∷◌, length, get_or, map, Option, Some, None, Result, Ok, Err, All, arith, refl, ap, sym, subst}
use Rattle.std.specs.Prelude.{◌%◌, ◌^◌, ◌==◌, ◌||◌, IsSome, flat_map, is_none, nat_lt, not, option_map, take}
use Rattle.std.proofs.lemmas.List.{length-map}
use Rattle.std.proofs.lemmas.Option.{slice_get_within}
use Rattle.rp_areas.proofs.Public.{matched_len}
use Rattle.rp_base.specs.Geometry.{least_sectors}
use Rattle.rp_base.specs.Image.{sectors_of}
use Rattle.rp_base.specs.declared.guid.Guid.{Guid}
use Rattle.rp_base.specs.declared.plan.Plan.{Plan}
use Rattle.rp_base.specs.declared.seen.Seen.{Seen}
use Rattle.rp_base.specs.declared.table.Table.{Table}
use Rattle.rp_defs.specs.declared.definition.Definition.{Definition}
use Rattle.rp_demand.specs.declared.demand.Demand.{Demand}
use Rattle.rp_gpt.specs.Mbr.{foreign_type}
use Rattle.rp_gpt.specs.Shown.{Told, accepted, accepted_as, accepted_blank, accepted_table, nothing, refuses, shown, shows, unless}
use Rattle.rp_gpt.specs.declared.table_fault.Empty.{Empty}
use Rattle.rp_gpt.specs.declared.table_fault.Empty.TheVariants.{Refuse, Allow, Require}
use Rattle.rp_gpt.specs.declared.table_fault.TableFault.{TableFault}
use Rattle.rp_gpt.specs.declared.table_fault.TableFault.TheVariants as faults
use Rattle.rp_plan.specs.Goal.{goal, notes_of}
use Rattle.rp_plan.proofs.Parts.{made_of}
use Rattle.rp_sizes.specs.declared.need.Fact.{Fact}
use Rattle.rp_sizes.specs.declared.need.Need.{Need}
use Rattle.rp_sizes.specs.Needs.{AreFactsOn, kinds_of, matched_of, wanted_of}
use Rattle.rp_steps.specs.Calls.{calls, calls_of}
use Rattle.rp_steps.specs.Contents.{Sources}
use Rattle.rp_steps.specs.Steps.{steps}
use Rattle.rp_steps.specs.declared.step.Step.{Step}
use Rattle.rp_idle.specs.Idle.{IsIdle}
use Rattle.rp_idle.proofs.Noted.{IsSame, notes_same}
use Rattle.rp_idle.proofs.Unchanged.{table_stays}
use Rattle.rp_idle.proofs.Wanted.{AllHave, no_needs}

-- an image that is accepted where one without a table is refused is accepted as the same by other options, if at all
never : (o : Option TableFault) (fault : TableFault) (seen : Seen) → unless o (Err fault) ≡ Ok seen → ⊥
never None fault seen is = cc
never (Some other) fault seen is = cc

same_as : (sector : ℕ) (image : List ℕ) (empty : Empty) (told : Told) (a b : Seen) → accepted_as sector image Refuse told ≡ Ok a
    → accepted_as sector image empty told ≡ Ok b → b ≡ a
unfolding accepted_as accepted_table accepted_blank
same_as sector image Refuse told a b is other = let e : Ok b ≡ Ok a = sym other ∙ is in cc
same_as sector image Allow (shows table) a b is other = let e : Ok b ≡ Ok a = sym other ∙ is in cc
same_as sector image Require (shows table) a b is other = absurd (cc)
same_as sector image Allow (refuses fault) a b is other = absurd (cc)
same_as sector image Require (refuses fault) a b is other = absurd (cc)
same_as sector image Allow nothing a b is other =
    absurd (never (option_map (λ kind. faults.OtherTable kind) (foreign_type (take 512 image))) faults.NoTable a is)
same_as sector image Require nothing a b is other =
    absurd (never (option_map (λ kind. faults.OtherTable kind) (foreign_type (take 512 image))) faults.NoTable a is)

past_tests : (p q : Bool) (f g : TableFault) (x y : Result Seen TableFault) (a b : Seen) → (x ≡ Ok a → y ≡ Ok b → b ≡ a)
    → cond p (Err f) (cond q (Err g) x) ≡ Ok a → cond p (Err f) (cond q (Err g) y) ≡ Ok b → b ≡ a
past_tests true q f g x y a b same is other = absurd (cc)
past_tests false true f g x y a b same is other = absurd (cc)
past_tests false false f g x y a b same is other = same is other

same_seen : (sector : ℕ) (image : List ℕ) (empty : Empty) (a b : Seen) → accepted sector image Refuse ≡ Ok a
    → accepted sector image empty ≡ Ok b
    → b ≡ a
unfolding accepted
same_seen sector image empty a b is other = past_tests (nat_lt (2 ^ 44) (length image))
    (not (length image % sector == 0) || nat_lt (sectors_of sector image) (least_sectors sector 128))
    (faults.TooLong (length image)) (faults.TooShort (length image)) (accepted_as sector image Refuse (shown sector image))
    (accepted_as sector image empty (shown sector image)) a b (same_as sector image empty (shown sector image) a b) is other

has_one : (o : Option ℕ) → IsSome o → is_none o ≡ false
has_one None is = absurd (cc)
has_one (Some n) is = refl

all_have : (table : Table) (defs : List Definition) → All IsSome (matched_of table defs) → AllHave (matched_of table defs) defs
all_have table defs all file def at =
    let long = matched_len table.rows (kinds_of defs) ∙ length-map defs (λ (d : Definition). d.kind) in
    has_one (get_or (matched_of table defs) file None) (all file None (omega (arith, slice_get_within defs file def at, long)))

none_left : (facts : List Fact) (needs : List Need) → needs ≡ [] → AreFactsOn needs facts → facts ≡ []
none_left [] needs none are = refl
none_left (fact ∷ facts) needs none are =
    let e : fact.file ∷ map (λ (f : Fact). f.file) facts ≡ [] = are.files ∙ ap (map (λ (n : Need). n.file)) none in absurd (cc)

same_plan : (r : Result Plan Demand) (a b : Plan) → r ≡ Ok a → r ≡ Ok b → b ≡ a
same_plan r a b is other = let e : Ok b ≡ Ok a = sym other ∙ is in cc

module _ (sector : ℕ) (image : List ℕ) (defs : List Definition) (seed : Guid) (empty : Empty) (seen : Seen) (facts : List Fact) (plan : Plan)
    (idle : IsIdle sector image defs seed) (shown_as : accepted sector image empty ≡ Ok seen) (known : AreFactsOn (wanted_of seen.shown defs) facts)
    (is : goal seen seen.sectors defs facts seed ≡ Ok plan) where
  -- the plan for an idle image at its own length has no steps, and each row is noted as the same
  pub nothing_left : (steps plan seen ≡ []) × All IsSame plan.notes
  nothing_left =
      let same = same_seen sector image empty idle.seen seen idle.shows shown_as in
      let are = subst (λ (s : Seen). AreFactsOn (wanted_of s.shown defs) facts) same known in
      let have = all_have idle.seen.shown defs idle.matched in
      let none = none_left facts (wanted_of idle.seen.shown defs) (no_needs (matched_of idle.seen.shown defs) defs have) are in
      let here : goal idle.seen idle.seen.sectors defs [] seed ≡ Ok plan =
      ap (λ (fs : List Fact). goal idle.seen idle.seen.sectors defs fs seed) (sym none)
      ∙ ap (λ (s : Seen). goal s s.sectors defs facts seed) (sym same) ∙ is in
      let plans = same_plan (goal idle.seen idle.seen.sectors defs [] seed) idle.plan plan idle.goal_is here in
      let made = made_of idle.seen idle.seen.sectors defs [] seed idle.plan idle.goal_is in
      let t = made.1.threshold in
      let notes : idle.plan.notes ≡ notes_of idle.seen defs [] seed t idle.plan.goal.rows = ap (λ (p : Plan). p.notes) made.2.same in
      let rows : idle.plan.goal.rows ≡ idle.seen.shown.rows = ap (λ (g : Table). g.rows) (table_stays idle.plan idle.seen idle.steps_are) in (
        ap (λ (p : Plan). steps p seen) plans ∙ ap (steps idle.plan) same ∙ idle.steps_are,
        subst (λ (p : Plan). All IsSame p.notes) (sym plans)
            (subst (All IsSame) (sym (notes ∙ ap (notes_of idle.seen defs [] seed t) rows)) (notes_same idle.seen defs [] seed t have)),
      )

-- nor has it calls
pub no_calls : (sector : ℕ) (image : List ℕ) (defs : List Definition) (seed : Guid) (empty : Empty) (seen : Seen) (facts : List Fact)
    (plan : Plan)
    (sources : Sources) → IsIdle sector image defs seed → accepted sector image empty ≡ Ok seen → AreFactsOn (wanted_of seen.shown defs)
    facts
    → goal seen seen.sectors defs facts seed ≡ Ok plan → calls plan seen sources ≡ []
no_calls sector image defs seed empty seen facts plan sources idle shown_as known is =
    ap (λ (ss : List Step). flat_map (calls_of plan sources) ss)
    (nothing_left sector image defs seed empty seen facts plan idle shown_as known is).0
