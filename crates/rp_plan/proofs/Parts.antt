-- What a goal that is a plan was made of.
use Rattle.std.proofs.Common.{◌≡◌, ◌∙◌, ℕ, List, Option, Some, None, Result, Ok, Err, ap, sym, refl}
use Rattle.rp_base.specs.declared.guid.Guid.{Guid}
use Rattle.rp_base.specs.declared.plan.Plan.{Plan}
use Rattle.rp_base.specs.declared.seen.Seen.{Seen}
use Rattle.rp_areas.specs.declared.gaps.Area.{Area}
use Rattle.rp_areas.specs.Areas.{areas_of}
use Rattle.rp_place.specs.declared.threshold.Placed.{Placed}
use Rattle.rp_place.specs.Placing.{settled}
use Rattle.rp_demand.specs.declared.demand.Demand.{Demand}
use Rattle.rp_defs.specs.declared.definition.Definition.{Definition}
use Rattle.rp_sizes.specs.declared.need.Fact.{Fact}
use Rattle.rp_sizes.specs.Needs.{matched_of}
use Rattle.rp_sizes.specs.News.{news_of}
use Rattle.rp_sizes.specs.Sizes.{asked, first_demand}
use Rattle.rp_plan.specs.Goal.{after, area_demand, goal, goal_table, ident_demand, place_demand, plan_among, plan_asked, plan_placed, plan_with, unless}
use Rattle.rp_plan.specs.Kept.{free_slots}
use Rattle.rp_plan.specs.Rows.{last_of}

after_ok : {A B F : Type 0} (demand : F → Demand) (r : Result A F) (next : A → Result B Demand) (b : B) → after demand r next ≡ Ok b
    → (a : A) × (r ≡ Ok a) × (next a ≡ Ok b)
after_ok demand (Ok a) next b is = (a, refl, is)
after_ok demand (Err f) next b is = absurd (cc)

unless_ok : {A : Type 0} (o : Option Demand) (r : Result A Demand) (a : A) → unless o r ≡ Ok a → (o ≡ None) × (r ≡ Ok a)
unless_ok None r a is = (refl, is)
unless_ok (Some d) r a is = absurd (cc)

-- a plan was made of areas, a placement and a table
pub record IsMadeOf (seen : Seen) (target : ℕ) (defs : List Definition) (facts : List Fact) (seed : Guid) (areas : List Area) (placed : Placed)
    (plan : Plan) : Type 0 where
  pub none : first_demand (matched_of seen.shown defs) defs facts ≡ None
  pub are : areas_of seen.shown (last_of seen target) (matched_of seen.shown defs) (asked (matched_of seen.shown defs) defs facts) ≡ Ok areas
  pub settles : settled areas (news_of (matched_of seen.shown defs) (asked (matched_of seen.shown defs) defs facts) defs) (free_slots seen.shown) ≡ Ok placed
  pub table : goal_table seen target defs facts seed (asked (matched_of seen.shown defs) defs facts) areas placed ≡ Ok plan.goal
  pub same : plan ≡ plan_with seen target defs facts seed placed.threshold plan.goal

pub made_of : (seen : Seen) (target : ℕ) (defs : List Definition) (facts : List Fact) (seed : Guid) (plan : Plan)
    → goal seen target defs facts seed ≡ Ok plan
    → (areas : List Area) × (placed : Placed) × IsMadeOf seen target defs facts seed areas placed plan
unfolding goal plan_asked plan_among plan_placed
made_of seen target defs facts seed plan is =
    let matched = matched_of seen.shown defs in
    let wants = asked matched defs facts in
    let a = unless_ok (first_demand matched defs facts) (plan_asked seen target defs facts seed wants) plan is in
    let b = after_ok area_demand (areas_of seen.shown (last_of seen target) matched wants) (λ areas. plan_among seen target defs facts seed wants areas) plan a.1 in
    let c = after_ok place_demand (settled b.0 (news_of matched wants defs) (free_slots seen.shown))
    (λ placed. plan_placed seen target defs facts seed wants b.0 placed) plan b.2 in
    let d = after_ok ident_demand (goal_table seen target defs facts seed wants b.0 c.0)
    (λ table. Ok (plan_with seen target defs facts seed c.0.threshold table)) plan c.2 in
    let made : plan_with seen target defs facts seed c.0.threshold d.0 ≡ plan = cc in
    let goal_is : d.0 ≡ plan.goal = ap (λ (p : Plan). p.goal) made in (
      b.0,
      c.0,
      record {
        none = a.0;
        are = b.1;
        settles = c.1;
        table = d.1 ∙ ap (λ t. Ok t) goal_is;
        same = sym made ∙ ap (λ t. plan_with seen target defs facts seed c.0.threshold t) goal_is;
      },
    )
