-- A plan that changes nothing has no steps.
use Rattle.std.proofs.Common.{◌≡◌, ◌≢◌, ◌<◌, false, not, ◌||◌, List, [], ◌∷◌, length, get_or, filter, refl, sym, ap, ◌∙◌, arith, All, eq-eqb, le-ltb}
use Rattle.std.proofs.lemmas.List.Elements.{All-head, All-tail}
use Rattle.std.proofs.lemmas.Slice.Zip.{get_or-zip}
use Rattle.rp_base.specs.Plan.{Fits, Noted, noted_of}
use Rattle.rp_base.specs.declared.plan.Change.{Change}
use Rattle.rp_base.specs.declared.plan.Change.TheVariants.{New, Changed, Same}
use Rattle.rp_base.specs.declared.plan.Plan.{Plan}
use Rattle.rp_base.specs.declared.seen.Mbr.{Mbr as MbrState}
use Rattle.rp_base.specs.declared.seen.Mbr.TheVariants as states
use Rattle.rp_base.specs.declared.seen.Origin.{Origin}
use Rattle.rp_base.specs.declared.seen.Origin.TheVariants as origins
use Rattle.rp_base.specs.declared.seen.Seen.{Seen}
use Rattle.rp_base.specs.declared.table.Row.{Row}
use Rattle.rp_steps.specs.Done.{IsDone}
use Rattle.rp_steps.specs.Steps.{contents_steps, copy_order, growth, is_neither, is_new, is_same, mbr_phases, phases, steps, writes_both, writes_mbr, written_copies}
use Rattle.rp_steps.proofs.News.{is_new_row}
use Rattle.rp_steps.proofs.Planned.{length-noted_of, one_note}
use Rattle.rp_steps.proofs.SameLemmas.{same_table-Decides}

isn't_new : (change : Change) → change ≢ New → is_new change ≡ false
isn't_new New other = absurd (other refl)
isn't_new Changed other = refl
isn't_new Same other = refl

no_news : (rows : List Noted) → All (λ noted. noted.1.change ≢ New) rows → filter is_new_row rows ≡ []
no_news [] others = refl
no_news (row ∷ rows) others =
    rw (isn't_new row.1.change (All-head (λ (noted : Noted). noted.1.change ≢ New) row rows others))
    (no_news rows (All-tail (λ (noted : Noted). noted.1.change ≢ New) row rows others))

-- a row of a goal that is what is shown isn't new
rows_stay : (seen : Seen) (plan : Plan) → Fits seen plan → plan.goal ≡ seen.shown → All (λ noted. noted.1.change ≢ New) (noted_of plan)
rows_stay seen plan fits same k d below =
    let here : k < length plan.goal.rows = omega (arith, length-noted_of seen plan fits.well_formed) in
    let there : k < length plan.notes = omega (arith, one_note seen plan fits.well_formed) in
    let rows : plan.goal.rows ≡ seen.shown.rows = ap (λ t. t.rows) same in
    let shown : k < length seen.shown.rows = omega (arith, ap length rows) in
    let is : get_or seen.shown.rows k d.0 ≡ (get_or (noted_of plan) k d).0 =
    ap (λ (l : List Row). get_or l k d.0) (sym rows) ∙ sym (ap (λ (n : Noted). n.0) (get_or-zip plan.goal.rows plan.notes k d here there)) in
    ((fits.rows k d below).0 k d.0 shown (ap (λ r. r.slot) is)).change

shown_by : (origin : Origin) → origin ≢ origins.Neither → is_neither origin ≡ false
shown_by origins.Primary other = refl
shown_by origins.Backup other = refl
shown_by origins.Neither other = absurd (other refl)

module _ (seen : Seen) (plan : Plan) (done : IsDone seen plan) where
  one_is_enough : writes_both plan seen ≡ false
  unfolding writes_both
  one_is_enough = rw ((same_table-Decides plan.goal seen.shown).1 done.goal, eq-eqb plan.target seen.sectors done.target, shown_by seen.origin done.origin) refl

  none_chosen : (origin : Origin) → filter (λ which. writes_both plan seen || not (is_same seen which)) (copy_order origin) ≡ []
  none_chosen origins.Primary = rw (one_is_enough, done.backup, done.primary) refl
  none_chosen origins.Backup = rw (one_is_enough, done.primary, done.backup) refl
  none_chosen origins.Neither = rw (one_is_enough, done.backup, done.primary) refl

  no_copies : written_copies plan seen ≡ []
  unfolding written_copies
  no_copies = none_chosen seen.origin

  mbr_stays : (state : MbrState) → state ≢ states.Differs → writes_mbr plan seen state ≡ false
  unfolding writes_mbr
  mbr_stays states.Foreign other = refl
  mbr_stays states.Differs other = absurd (other refl)
  mbr_stays states.Same other = ap not (eq-eqb plan.target seen.sectors done.target)

  no_mbr : mbr_phases plan seen ≡ []
  unfolding mbr_phases
  no_mbr = rw (mbr_stays seen.mbr done.mbr) refl

  no_growth : growth plan seen ≡ []
  unfolding growth
  no_growth = rw (le-ltb seen.sectors plan.target (let e = done.target in omega arith)) refl

  no_contents : Fits seen plan → contents_steps plan ≡ []
  unfolding contents_steps
  no_contents fits = rw (no_news (noted_of plan) (rows_stay seen plan fits done.goal)) refl

  pub no_steps : Fits seen plan → steps plan seen ≡ []
  unfolding steps phases
  no_steps fits = rw (no_growth, no_contents fits, no_copies, no_mbr) refl
