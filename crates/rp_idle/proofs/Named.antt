-- The rows of the goal that belong to definitions have names and identifiers, so naming leaves them as they are.
use Rattle.std.proofs.Common.{◌≡◌, ◌≢◌, ◌∙◌, ℕ, zero, suc, ◌+◌, ◌≤◌, false, List, [], ◌∷◌, length, Option, Some, None, All, arith, refl, ap, sym, subst, slice_get, zero-add, Ok}
use Rattle.std.specs.Prelude.{IfSome, slice_index, unwrap_or}
use Rattle.std.specs.List.{cons_option, enumerate_from, filter_map}
use Rattle.std.specs.Option.{option_map, option_or}
use Rattle.std.proofs.lemmas.List.Elements.{All-head, All-tail}
use Rattle.std.proofs.lemmas.Option.{get_or_from_slice_get}
use Rattle.rp_base.specs.declared.guid.Guid.{Guid}
use Rattle.rp_base.specs.declared.plan.Plan.{Plan}
use Rattle.rp_base.specs.declared.seen.Seen.{Seen}
use Rattle.rp_areas.specs.declared.gaps.Area.{Area}
use Rattle.rp_place.specs.declared.threshold.Placed.{Placed}
use Rattle.rp_types.specs.Guids.{guid_text}
use Rattle.rp_types.specs.Types.{by_guid, label_of}
use Rattle.rp_types.proofs.TypeLemmas.{by_guid-begins, guid_text-begins, padded-begins}
use Rattle.rp_defs.specs.declared.definition.Definition.{Definition}
use Rattle.rp_ident.specs.Facts.{IsDone, IsNamed}
use Rattle.rp_ident.specs.Naming.{disk_id, is_zero, named}
use Rattle.rp_ident.specs.declared.naming.Naming.{Naming}
use Rattle.rp_ident.proofs.ApartLemmas.{disk-some, named-done, named-same}
use Rattle.rp_ident.proofs.LawLemmas.{named-rows}
use Rattle.rp_sizes.specs.declared.need.Fact.{Fact}
use Rattle.rp_sizes.specs.Needs.{matched_of}
use Rattle.rp_sizes.proofs.AskedLemmas.{sound_at}
use Rattle.rp_sizes.proofs.NewsLemmas.{All-answers}
use Rattle.rp_plan.specs.Goal.{goal_table, spots_of}
use Rattle.rp_plan.specs.Kept.{kept_files, place_in, rank_in}
use Rattle.rp_plan.specs.Names.{half_id, naming_of, namings_of}
use Rattle.rp_plan.specs.Plannable.{IsGiven}
use Rattle.rp_plan.specs.Rows.{table_laid}
use Rattle.rp_plan.proofs.Formed.{rows}
use Rattle.rp_plan.proofs.Parts.{IsMadeOf}
use Rattle.rp_idle.proofs.Matched.{row_at}

-- a type's label isn't empty
text_begins : (kind : Guid) (o : Option (List ℕ)) → o ≡ by_guid kind → 1 ≤ slice_index (unwrap_or o (guid_text kind)) 0
text_begins kind None is = guid_text-begins kind
text_begins kind (Some name) is = by_guid-begins kind name is

label_begins : (kind : Guid) → slice_index (label_of kind) 0 ≢ 0
unfolding label_of
label_begins kind = padded-begins 36 (unwrap_or (by_guid kind) (guid_text kind)) (text_begins kind (by_guid kind) refl)

own_label : (kind : Guid) (o : Option (List ℕ)) → IfSome o (λ units. slice_index units 0 ≢ 0)
    → slice_index (unwrap_or o (label_of kind)) 0 ≢ 0
own_label kind None is = label_begins kind
own_label kind (Some label) is = is

-- what holds of all answers holds of an item's
first_answer : {Y : Type 0} (P : Y → Type 0) (o : Option Y) (ys : List Y) (y : Y) → All P (cons_option o ys) → o ≡ Some y → P y
first_answer P None ys y all is = absurd (cc)
first_answer P (Some z) ys y all is = let same : z ≡ y = cc in subst P same (All-head P z ys all)

other_answers : {Y : Type 0} (P : Y → Type 0) (o : Option Y) (ys : List Y) → All P (cons_option o ys) → All P ys
other_answers P None ys all = all
other_answers P (Some z) ys all = All-tail P z ys all

answer_holds : {X Y : Type 0} (P : Y → Type 0) (f : ℕ × X → Option Y) (n : ℕ) (xs : List X) → All P (filter_map f (enumerate_from n xs))
    → (k m : ℕ) (x : X) (y : Y) → m ≡ n + k → slice_get xs k ≡ Some x → f (m, x) ≡ Some y → P y
answer_holds P f n [] all k m x y e at is = absurd (cc)
answer_holds P f n (z ∷ xs) all zero m x y e at is =
    let same : z ≡ x = cc in
    let place : m ≡ n = omega (arith, e) in
    first_answer P (f (n, z)) (filter_map f (enumerate_from (n + 1) xs)) y all (ap (λ w. f (n, w)) same ∙ ap (λ p. f (p, x)) (sym place)
    ∙ is)
answer_holds P f n (z ∷ xs) all (suc k) m x y e at is =
    answer_holds P f (n + 1) xs (other_answers P (f (n, z)) (filter_map f (enumerate_from (n + 1) xs)) all) k m x y (omega (arith, e)) at is

module _ (seen : Seen) (target : ℕ) (defs : List Definition) (facts : List Fact) (seed : Guid) (areas : List Area) (placed : Placed)
    (plan : Plan)
    (given : IsGiven seen target defs (matched_of seen.shown defs)) (made : IsMadeOf seen target defs facts seed areas placed plan)
    (whole : plan.dropped ≡ []) where
  abbrev own : List (Option ℕ)
  own = matched_of seen.shown defs

  abbrev again : List (Option ℕ)
  again = matched_of plan.goal defs

  abbrev files : List ℕ
  files = kept_files (matched_of seen.shown defs) placed.threshold defs

  abbrev namings : List Naming
  namings = namings_of facts (matched_of seen.shown defs) (length seen.shown.rows)
      (kept_files (matched_of seen.shown defs) placed.threshold defs) defs

  was_named : named (table_laid seen target (rows seen target defs facts seed areas placed plan given made)) namings seed ≡ Ok plan.goal
  unfolding goal_table spots_of
  was_named = made.table

  labels : All (λ (n : Naming). slice_index n.label 0 ≢ 0) namings
  labels = All-answers (λ (n : Naming). slice_index n.label 0 ≢ 0) (naming_of facts own (length seen.shown.rows) files) 0 defs
      (λ k m def e at.
      labeled_by m def (own_label def.kind def.label (sound_at defs k def given.well_formed at).label)
      (place_in own (length seen.shown.rows) files m))
    where
      labeled_by : (m : ℕ) (def : Definition) → slice_index (unwrap_or def.label (label_of def.kind)) 0 ≢ 0 → (o : Option ℕ)
          → IfSome (option_map (λ row. record {
            row = row;
            file = m;
            label = unwrap_or def.label (label_of def.kind);
            fixed = option_or
                def.id (half_id facts m def.verity);
          }) o)
          (λ (n : Naming). slice_index n.label 0 ≢ 0)
      labeled_by m def is None = tt
      labeled_by m def is (Some row) = is

  done : All (IsDone plan.goal.rows) namings
  done = named-done (rows seen target defs facts seed areas placed plan given made) namings seed plan.goal.rows labels
      (named-rows (table_laid seen target (rows seen target defs facts seed areas placed plan given made)) plan.goal namings seed
      was_named).0

  pub disk_is : is_zero plan.goal.disk ≡ false
  disk_is =
      let laid = table_laid seen target (rows seen target defs facts seed areas placed plan given made) in
      let disk : plan.goal.disk ≡ disk_id seed seen.shown.disk = ap (λ t. t.disk) (named-rows laid plan.goal namings seed was_named).1 in
      rw disk (disk-some seed seen.shown.disk)

  -- the row of a definition is done
  row_done : (file : ℕ) (def : Definition) (p : ℕ) → slice_get defs file ≡ Some def
      → place_in own (length seen.shown.rows) files file ≡ Some p
      → IfSome (slice_get plan.goal.rows p) IsNamed
  row_done file def p at place =
      answer_holds (IsDone plan.goal.rows) (naming_of facts own (length seen.shown.rows) files) 0 defs done file file def
      (record {
        row = p;
        file = file;
        label = unwrap_or def.label (label_of def.kind);
        fixed = option_or def.id
            (half_id facts file def.verity);
      })
      (sym (zero-add file)) at
      (ap (option_map (λ row. record {
        row = row;
        file = file;
        label = unwrap_or def.label (label_of def.kind);
        fixed = option_or def.id
            (half_id facts file def.verity);
      })) place)

  done_by : (others : List Fact) (m : ℕ) (def : Definition) (o : Option ℕ) (p : ℕ) → o ≡ Some p
      → IfSome (slice_get plan.goal.rows p) IsNamed
      → IfSome (option_map (λ row. record {
        row = row;
        file = m;
        label = unwrap_or def.label (label_of def.kind);
        fixed = option_or def.id
            (half_id others m def.verity);
      }) o)
      (IsDone plan.goal.rows)
  done_by others m def None p is row = absurd (cc)
  done_by others m def (Some q) p is row = let same : q ≡ p = cc in subst (λ n. IfSome (slice_get plan.goal.rows n) IsNamed) (sym same) row

  -- so all are, as they are named again
  done_again : (others : List Fact) (n : ℕ) (kept : List ℕ) → All (IsDone plan.goal.rows) (namings_of others again n kept defs)
  done_again others n kept = All-answers (IsDone plan.goal.rows) (naming_of others again n kept) 0 defs (λ k m def e at.
      let here : m ≡ k = omega (arith, e) in
      let there : slice_get defs m ≡ Some def = ap (slice_get defs) here ∙ at in
      let row = row_at seen target defs facts seed areas placed plan given made whole m def there in
      done_by others m def (place_in again n kept m) row.0
      (ap (λ o. option_or o (option_map (λ rank. n + rank) (rank_in kept m))) (get_or_from_slice_get again m (Some row.0) None row.1.0))
      (row_done m def row.0 there row.1.1))

  pub named_again : (others : List Fact) (n : ℕ) (kept : List ℕ) (other : Guid)
      → named plan.goal (namings_of others again n kept defs) other ≡ Ok plan.goal
  named_again others n kept other = named-same plan.goal (namings_of others again n kept defs) other disk_is (done_again others n kept)
