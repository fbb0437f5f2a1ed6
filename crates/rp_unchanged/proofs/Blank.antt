-- An image that is required to show no table shows no rows, and definitions of the least priorities are never dropped.
use Rattle.std.proofs.Common.{◌≡◌, ◌∙◌, ℕ, zero, suc, ◌+◌, ℤ, pos, negsuc, Bool, true, false, cond, List, [], ◌∷◌, Option, Some, None, Result, Ok, Err, arith, refl, ap, sym, subst, slice_get, take}
use Rattle.std.specs.Prelude.{◌&&◌, fold, filter, int_le, nat_lt, not, option_map, ◌||◌, ◌==◌, length, ◌%◌, ◌^◌}
use Rattle.std.specs.Int.{int_max}
use Rattle.std.specs.List.{enumerate_from, filter_map}
use Rattle.std.proofs.lemmas.Bool.{le-leb, leb-true}
use Rattle.std.proofs.lemmas.Option.{get_or_from_slice_get, slice_get_within}
use Rattle.rp_areas.specs.declared.gaps.Area.{Area}
use Rattle.rp_base.specs.Geometry.{least_sectors}
use Rattle.rp_base.specs.Image.{sectors_of}
use Rattle.rp_base.specs.declared.guid.Guid.{Guid}
use Rattle.rp_base.specs.declared.plan.Plan.{Plan}
use Rattle.rp_base.specs.declared.seen.Origin.TheVariants as origins
use Rattle.rp_base.specs.declared.seen.Seen.{Seen}
use Rattle.rp_defs.specs.declared.definition.Definition.{Definition}
use Rattle.rp_gpt.specs.Mbr.{foreign_type}
use Rattle.rp_gpt.specs.Shown.{Told, accepted, accepted_as, accepted_blank, accepted_table, blank, nothing, refuses, seen_of, shown, shows, unless, wider_copy}
use Rattle.rp_gpt.specs.declared.table_fault.Empty.TheVariants.{Require}
use Rattle.rp_gpt.specs.declared.table_fault.TableFault.{TableFault}
use Rattle.rp_gpt.specs.declared.table_fault.TableFault.TheVariants as faults
use Rattle.rp_place.specs.Placing.{kept_threshold, succeeds_at, thresholds, tried, with_threshold}
use Rattle.rp_place.specs.declared.fit.New.{New}
use Rattle.rp_place.specs.declared.fit.PlaceFault.{PlaceFault}
use Rattle.rp_place.specs.declared.threshold.Placed.{Placed}
use Rattle.rp_plan.specs.Goal.{goal}
use Rattle.rp_plan.specs.Kept.{dropped_file, free_slots}
use Rattle.rp_plan.proofs.Parts.{made_of}
use Rattle.rp_sizes.specs.Needs.{is_new, matched_of}
use Rattle.rp_sizes.specs.News.{news_of}
use Rattle.rp_sizes.specs.Sizes.{asked}
use Rattle.rp_sizes.specs.declared.need.Fact.{Fact}
use Rattle.rp_unchanged.specs.Defined.{AreNeverDropped}

-- a test that doesn't refuse what is accepted
past : (b : Bool) (fault : TableFault) (rest : Result Seen TableFault) (seen : Seen) → cond b (Err fault) rest ≡ Ok seen → rest ≡ Ok seen
past true fault rest seen e = absurd (cc)
past false fault rest seen e = e

none_before : (o : Option TableFault) (rest : Result Seen TableFault) (seen : Seen) → unless o rest ≡ Ok seen → rest ≡ Ok seen
none_before None rest seen e = e
none_before (Some fault) rest seen e = absurd (cc)

same_seen : (a b : Seen) → ◌≡◌ {A = Result Seen TableFault} (Ok b) (Ok a) → a ≡ b
same_seen a b e = sym (cc)

module _ (sector : ℕ) (image : List ℕ) (seen : Seen) where
  by_blank : accepted_blank sector image Require ≡ Ok seen → seen.shown.rows ≡ []
  unfolding accepted_blank seen_of blank
  by_blank e =
      let a = none_before (option_map (λ kind. faults.OtherTable kind) (foreign_type (take 512 image))) _ seen e in
      let b = past (nat_lt (blank sector (sectors_of sector image)).last 2048) _ _ seen a in
      let c = none_before (option_map (λ entries. faults.EntryCount entries 128)
      (wider_copy sector image origins.Neither (blank sector (sectors_of sector image)))) _ seen b in
      ap (λ (s : Seen). s.shown.rows) (same_seen seen _ c)

  by_told : (told : Told) → accepted_as sector image Require told ≡ Ok seen → seen.shown.rows ≡ []
  unfolding accepted_as accepted_table
  by_told (shows table) e = absurd (cc)
  by_told (refuses fault) e = absurd (cc)
  by_told nothing e = by_blank e

  pub no_rows : accepted sector image Require ≡ Ok seen → seen.shown.rows ≡ []
  unfolding accepted
  no_rows e =
      let short = not (length image % sector == 0) || nat_lt (sectors_of sector image) (least_sectors sector 128) in
      let long = past (nat_lt (2 ^ 44) (length image)) (faults.TooLong (length image))
      (cond short (Err (faults.TooShort (length image))) (accepted_as sector image Require (shown sector image))) seen e in
      by_told (shown sector image)
      (past short (faults.TooShort (length image)) (accepted_as sector image Require (shown sector image)) seen long)

-- the threshold isn't negative
either_is : (b : Bool) (n k : ℕ) → (m : ℕ) × (cond b (pos n) (pos k) ≡ pos m)
either_is true n k = (n, refl)
either_is false n k = (k, refl)

greater_is : (n : ℕ) (z : ℤ) → (m : ℕ) × (int_max (pos n) z ≡ pos m)
greater_is n (pos k) = either_is _ n k
greater_is n (negsuc m) = (n, refl)

greatest_is : (zs : List ℤ) (n : ℕ) → (m : ℕ) × (fold int_max (pos n) zs ≡ pos m)
greatest_is [] n = (n, refl)
greatest_is (z ∷ zs) n =
    let one = greater_is n z in
    let rest = greatest_is zs one.0 in
    (rest.0, ap (λ a. fold int_max a zs) one.1 ∙ rest.1)

at_most : (p : ℤ) (m : ℕ) → int_le p (pos 0) ≡ true → int_le p (pos m) ≡ true
at_most (pos zero) m is = le-leb 0 m (omega arith)
at_most (pos (suc n)) m is = absurd (let few = leb-true (suc n) 0 is in omega (arith, few))
at_most (negsuc n) m is = refl

threshold_of : (t : ℤ) (r : Result (List (Option ℕ)) PlaceFault) (placed : Placed) → with_threshold t r ≡ Ok placed → placed.threshold ≡ t
threshold_of t (Ok places) placed is = cc
threshold_of t (Err fault) placed is = absurd (cc)

no_answer : {X Y : Type 0} (f : ℕ × X → Option Y) (n : ℕ) (xs : List X)
    → ((k : ℕ) (x : X) (m : ℕ) → slice_get xs k ≡ Some x → f (m, x) ≡ None)
    → filter_map f (enumerate_from n xs) ≡ []
no_answer f n [] lacks = refl
no_answer f n (x ∷ xs) lacks = rw (lacks 0 x n refl) (no_answer f (n + 1) xs (λ k y m at. lacks (suc k) y m at))

kept_by : (new below : Bool) (file : ℕ) → below ≡ true → cond (new && not below) (Some file) None ≡ None
kept_by true below file is = rw is refl
kept_by false below file is = refl

threshold_is : (areas : List Area) (news : List New) (free : ℕ) → (m : ℕ) × (kept_threshold areas news free ≡ pos m)
threshold_is areas news free = greatest_is (filter (succeeds_at areas news free) (thresholds news)) 0

-- definitions of priority 0 or lower are kept
pub none_dropped : (seen : Seen) (target : ℕ) (defs : List Definition) (facts : List Fact) (seed : Guid) (plan : Plan)
    → AreNeverDropped defs → goal seen target defs facts seed ≡ Ok plan → plan.dropped ≡ []
none_dropped seen target defs facts seed plan never is =
    let made = made_of seen target defs facts seed plan is in
    let own = matched_of seen.shown defs in
    let news = news_of own (asked own defs facts) defs in
    let placed : Placed = made.1 in
    let t = threshold_of (kept_threshold made.0 news (free_slots seen.shown)) (tried made.0 news (free_slots seen.shown)
    (kept_threshold made.0 news (free_slots seen.shown))) placed made.2.settles in
    let number = threshold_is made.0 news (free_slots seen.shown) in
    ap (λ (p : Plan). p.dropped) made.2.same
    ∙ no_answer (dropped_file own placed.threshold) 0 defs (λ k def m at.
    let priority : int_le def.priority (pos 0) ≡ true =
    subst (λ (d : Definition). int_le d.priority (pos 0) ≡ true) (get_or_from_slice_get defs k def def at)
    (never k def (slice_get_within defs k def at)) in
    kept_by (is_new own m) (int_le def.priority placed.threshold) m
    (ap (int_le def.priority) (t ∙ number.1) ∙ at_most def.priority number.0 priority))
