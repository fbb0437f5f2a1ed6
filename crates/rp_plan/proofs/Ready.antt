-- What the parts of planning need holds of what is asked.
use Rattle.std.proofs.Common.{◌≡◌, ◌≢◌, ◌∙◌, ℕ, ◌+◌, ◌^◌, ◌<◌, ◌≤◌, min, true, cond, List, length, get_or, Option, Some, None, Ok, All, AllPairs, IfSome, arith, inl, inr, refl, ap, sym, subst, slice_get}
use Rattle.std.specs.Prelude.{is_none, unwrap_or}
use Rattle.std.proofs.lemmas.Bool.{cases_lt}
use Rattle.std.proofs.lemmas.Option.{slice_get-get_or, slice_get_within}
use Rattle.rp_base.specs.Trees.{hash_blocks}
use Rattle.rp_base.specs.Wants.{AreWants}
use Rattle.rp_base.specs.declared.seen.Seen.{Seen}
use Rattle.rp_base.specs.declared.want.Want.{Want}
use Rattle.rp_areas.specs.declared.gaps.Area.{Area}
use Rattle.rp_areas.specs.Areas.{areas_of, want_at}
use Rattle.rp_areas.proofs.Public.{areas_count, areas_within, matched_distinct}
use Rattle.rp_place.specs.declared.fit.New.{New}
use Rattle.rp_place.specs.declared.threshold.Placed.{Placed}
use Rattle.rp_place.specs.Placing.{settled}
use Rattle.rp_place.proofs.Public.{placed_settled}
use Rattle.rp_defs.specs.declared.definition.Definition.{Definition}
use Rattle.rp_defs.specs.declared.definition.Verity.{Verity}
use Rattle.rp_defs.specs.declared.definition.Verity.TheVariants.{Off, Data, Hash}
use Rattle.rp_defs.specs.WellFormed.{IsSized}
use Rattle.rp_layout.specs.Facts.{AreNews, IsReady}
use Rattle.rp_sizes.specs.declared.need.Fact.{Fact}
use Rattle.rp_sizes.specs.Needs.{is_new, kinds_of}
use Rattle.rp_sizes.specs.News.{news_of}
use Rattle.rp_sizes.specs.Sizes.{asked_of, blocks_at, least_by, least_of, most_of, sized}
use Rattle.rp_sizes.proofs.AskedLemmas.{asked_are_wants, asked_length, size_fits, sound_at, want_is}
use Rattle.rp_sizes.proofs.NewsLemmas.{All-news, news_rise}
use Rattle.rp_plan.specs.Kept.{free_slots}
use Rattle.rp_plan.specs.Plannable.{IsAsked}
use Rattle.rp_plan.specs.Rows.{last_of}
use Rattle.rp_plan.proofs.Given.{last_bounds, matched_length, places_within, rows_few}

hash_some : (blocks : ℕ) → 1 ≤ hash_blocks blocks
unfolding hash_blocks
hash_some blocks = omega arith

-- a new partition has a grain at least
least_some : (defs : List Definition) (facts : List Fact) (k : ℕ) (def : Definition) (v : Verity) → IsSized v def
    → 1 ≤ least_by defs facts (k, def) v
least_some defs facts k def Off is = omega (arith, is)
least_some defs facts k def (Data p) is = omega arith
least_some defs facts k def (Hash p) is = omega (arith, hash_some (min (blocks_at defs facts p) (2 ^ 32)))

sized_min : (v : Verity) (least : ℕ) (want : Want) → (sized v least want).min ≡ least
sized_min Off least want = refl
sized_min (Data p) least want = refl
sized_min (Hash p) least want = refl

sized_pad : (v : Verity) (least : ℕ) (want : Want) → (sized v least want).pad_min ≡ want.pad_min
sized_pad Off least want = refl
sized_pad (Data p) least want = refl
sized_pad (Hash p) least want = refl

none_is : (o : Option ℕ) → is_none o ≡ true → o ≡ None
none_is None is = refl
none_is (Some n) is = cc

-- a new definition of the list has no row
pub no_row_of : (matched : List (Option ℕ)) (k : ℕ) → k < length matched → is_new matched k ≡ true → slice_get matched k ≡ Some None
no_row_of matched k below new = slice_get-get_or matched k None below ∙ ap (λ o. Some o) (none_is (get_or matched k None) new)

module _ (seen : Seen) (target : ℕ) (defs : List Definition) (facts : List Fact) (matched : List (Option ℕ)) (wants : List Want)
    (is : IsAsked seen target defs facts matched wants) where
  pub wants_length : length matched ≡ length wants
  wants_length = matched_length seen target defs matched is.given
      ∙ sym (ap length is.wanted ∙ asked_length matched defs facts)

  pub are_wants : AreWants wants
  are_wants = subst AreWants (sym is.wanted) (asked_are_wants matched defs facts is.given.well_formed is.none)

  -- what is asked for a new definition
  pub new_want : (k : ℕ) (def : Definition) → slice_get defs k ≡ Some def → is_new matched k ≡ true
      → want_at wants k ≡ sized def.verity (least_of defs facts (k, def)) def.want
  new_want k def at new =
      let own : slice_get wants k ≡ Some (asked_of matched defs facts (k, def)) = ap (λ ws. slice_get ws k) is.wanted ∙ want_is matched defs facts k def at in
      ap (λ o. unwrap_or o (record { min = 0; max = 0; weight = 0; pad_min = 0; pad_max = 0; pad_weight = 0 })) own
      ∙ ap (λ b. cond b (sized def.verity (least_of defs facts (k, def)) def.want) def.want) new

  -- its minima
  pub new_minima : (k : ℕ) (def : Definition) → slice_get defs k ≡ Some def → is_new matched k ≡ true
      → ((want_at wants k).min ≡ least_of defs facts (k, def)) × ((want_at wants k).pad_min ≡ def.want.pad_min)
  new_minima k def at new =
      let w = new_want k def at new in (
        ap (λ (want : Want). want.min) w ∙ sized_min def.verity (least_of defs facts (k, def)) def.want,
        ap (λ (want : Want). want.pad_min) w ∙ sized_pad def.verity (least_of defs facts (k, def)) def.want,
      )

  pub are_news : AreNews matched wants (news_of matched wants defs)
  are_news = record {
    rising = news_rise matched wants defs;
    unmatched = All-news matched wants (λ n. slice_get matched n.file ≡ Some None) defs (λ k def at new.
        no_row_of matched k (omega (arith, slice_get_within defs k def at, matched_length seen target defs matched is.given)) new);
    sized = All-news matched wants (λ n. 1 ≤ (want_at wants n.file).min) defs (λ k def at new.
        omega (arith, (new_minima k def at new).0, least_some defs facts k def def.verity (sound_at defs k def is.given.well_formed at).sized));
    needs = All-news matched wants (λ n. n.need ≡ (want_at wants n.file).min + (want_at wants n.file).pad_min) defs (λ k def at new. refl);
  }

  pub needs_small : All (λ (n : New). n.need < 2 ^ 52) (news_of matched wants defs)
  needs_small = All-news matched wants (λ n. n.need < 2 ^ 52) defs (λ k def at new.
      let m = new_minima k def at new in
      let fits : least_of defs facts (k, def) ≤ most_of def = size_fits matched defs facts is.given.well_formed is.none k def at new in
      let pad = (sound_at defs k def is.given.well_formed at).want.padding_min in
      omega (arith, m.0, m.1, fits, pad))

  pub spans_small : (areas : List Area) → areas_of seen.shown (last_of seen target) matched wants ≡ Ok areas
      → All (λ (a : Area). a.span < 2 ^ 52) areas
  spans_small areas are k d below =
      let bounds = last_bounds seen target defs matched is.given in
      let within = (areas_within seen.shown (last_of seen target) matched wants areas are is.given.plannable.in_place.rows bounds.0 k d below).1 in
      elim (cases_lt 0 (get_or areas k d).span) [
        | inl some ↦ omega (arith, within some, bounds.1)
        | inr none ↦ omega (arith, none)
      ]

  pub areas_few : (areas : List Area) → areas_of seen.shown (last_of seen target) matched wants ≡ Ok areas → length areas ≤ 65535
  areas_few areas are = omega (arith, areas_count seen.shown (last_of seen target) matched wants areas are, rows_few seen is.given.plannable)

  pub is_ready : (areas : List Area) (placed : Placed) → areas_of seen.shown (last_of seen target) matched wants ≡ Ok areas
      → settled areas (news_of matched wants defs) (free_slots seen.shown) ≡ Ok placed
      → IsReady seen.shown (last_of seen target) matched wants areas (news_of matched wants defs) placed
  is_ready areas placed are settles = record {
    laid_out = is.given.plannable.in_place.rows;
    bounds = (last_bounds seen target defs matched is.given).0;
    small = (last_bounds seen target defs matched is.given).1;
    limits = are_wants;
    one_each = wants_length;
    places = places_within seen target defs matched is.given;
    distinct = subst (AllPairs (λ a b. IfSome a (λ place. b ≢ Some place))) (sym is.given.own)
        (matched_distinct seen.shown.rows (kinds_of defs));
    are_areas = are;
    are_news = are_news;
    are_placed = placed_settled areas (news_of matched wants defs) (free_slots seen.shown) placed settles;
  }
