-- The identifiers of each new pair of a goal are the halves of its root hash.
use Rattle.std.proofs.Common.{◌≡◌, ◌≢◌, ◌∙◌, ℕ, zero, suc, ◌+◌, ◌<◌, ◌==◌, Bool, true, false, cond, List, [], ◌∷◌, ◌++◌, length, get_or, take, drop, map, Option, Some, None, IfSome, IsSome, Ok, All, arith, inl, inr, refl, ap, sym, subst, slice_get, zero-add}
use Rattle.std.specs.Prelude.{◌&&◌, int_le, is_none, is_some, option_map, unwrap_or, replicate}
use Rattle.std.specs.List.{cons_option, enumerate_from, filter_map}
use Rattle.std.specs.Option.{option_or}
use Rattle.std.proofs.lemmas.Bool.{cases_lt, eqb-true}
use Rattle.std.proofs.lemmas.Bool.Decides.{eqb_tells}
use Rattle.std.proofs.lemmas.List.{get_or_past, take-append-drop}
use Rattle.std.proofs.lemmas.List.Elements.{All-head, All-tail}
use Rattle.std.proofs.lemmas.List.Quantifiers.{position-Some}
use Rattle.std.proofs.lemmas.Option.{get_or_from_slice_get, slice_get-get_or, slice_get_within}
use Rattle.std.proofs.lemmas.Slice.Eq.{bytes_eq-Decides}
use Rattle.rp_areas.specs.declared.gaps.Area.{Area}
use Rattle.rp_base.specs.Plan.{IsPair, IsTarget, Noted, noted_of}
use Rattle.rp_base.specs.declared.guid.Guid.{Guid}
use Rattle.rp_base.specs.declared.plan.Change.TheVariants as changes
use Rattle.rp_base.specs.declared.plan.Note.{Note}
use Rattle.rp_base.specs.declared.plan.Plan.{Plan}
use Rattle.rp_base.specs.declared.plan.Role.TheVariants as roles
use Rattle.rp_base.specs.declared.seen.Seen.{Seen}
use Rattle.rp_base.specs.declared.table.Row.{Row}
use Rattle.rp_defs.specs.WellFormed.{HasPartner, IsWellFormed as AreWellFormed}
use Rattle.rp_defs.specs.declared.definition.Definition.{Definition}
use Rattle.rp_defs.specs.declared.definition.Verity.{Verity}
use Rattle.rp_defs.specs.declared.definition.Verity.TheVariants.{Off, Data, Hash}
use Rattle.rp_ident.specs.Naming.{rows_named}
use Rattle.rp_ident.specs.declared.naming.Naming.{Naming}
use Rattle.rp_ident.proofs.LawLemmas.{named-rows}
use Rattle.rp_place.specs.declared.threshold.Placed.{Placed}
use Rattle.rp_plan.specs.Goal.{goal, goal_table, spots_of}
use Rattle.rp_plan.specs.Kept.{first_free, is_kept, kept_files, kept_of, place_in, rank_in, slot_in}
use Rattle.rp_plan.specs.Names.{half_id, naming_of, namings_of, root_at}
use Rattle.rp_plan.specs.Notes.{role_of, root_planned}
use Rattle.rp_plan.specs.Plannable.{IsGiven, IsPlannable}
use Rattle.rp_plan.specs.Rows.{no_id, row_for, table_laid}
use Rattle.rp_plan.proofs.Formed.{rows}
use Rattle.rp_plan.proofs.Given.{places_within}
use Rattle.rp_plan.proofs.KeptLemmas.{and_both}
use Rattle.rp_plan.proofs.Paired.{kept_index, note_on, rank_is, slot_is}
use Rattle.rp_plan.proofs.Parts.{IsMadeOf, made_of}
use Rattle.rp_plan.proofs.Whole.{is_taken, new_at, old_at, which, zip_at}
use Rattle.rp_plan.proofs.Written.{spots}
use Rattle.rp_sizes.specs.Needs.{AreFactsOn, is_new, is_new_data, matched_of, need_of, needs_of, wanted_of}
use Rattle.rp_sizes.specs.declared.need.Fact.{Fact}
use Rattle.rp_sizes.specs.declared.need.Need.{Need}
use Rattle.rp_sizes.proofs.AskedLemmas.{hash_partner}
use Rattle.rp_sizes.proofs.NewsLemmas.{All-answers, if_passes}
use Rattle.rp_types.specs.Types.{label_of}
use Rattle.rp_unchanged.specs.Defined.{TakeHalves, TakesHalf}
use Rattle.rp_unchanged.specs.Pairs.{HasRoot, HaveRootIds}
use Rattle.rp_unchanged.proofs.Laid.{laid_row}
use Rattle.rp_unchanged.proofs.Identified.{Has, Says, Somewhere, named_gets}

-- the identifier of the row at a place
has_at : (rows : List Row) (place : ℕ) (id : Guid) (d : Row) → Has rows place id → (get_or rows place d).id ≡ id
has_at [] place id d has = absurd (cc)
has_at (row ∷ rows) zero id d has = cc
has_at (row ∷ rows) (suc place) id d has = has_at rows place id d has

-- an answer stands among the answers
first_somewhere : {Y : Type 0} (P : Y → Type 0) (o : Option Y) (ys : List Y) (y : Y) → o ≡ Some y → P y → Somewhere P (cons_option o ys)
first_somewhere P None ys y is holds = absurd (cc)
first_somewhere P (Some z) ys y is holds = let same : z ≡ y = cc in inl (subst P (sym same) holds)

more_somewhere : {Y : Type 0} (P : Y → Type 0) (o : Option Y) (ys : List Y) → Somewhere P ys → Somewhere P (cons_option o ys)
more_somewhere P None ys there = there
more_somewhere P (Some z) ys there = inr there

answer_somewhere : {X Y : Type 0} (P : Y → Type 0) (f : ℕ × X → Option Y) (n : ℕ) (xs : List X) (k m : ℕ) (x : X) (y : Y) → m ≡ n + k
    → slice_get xs k ≡ Some x → f (m, x) ≡ Some y → P y → Somewhere P (filter_map f (enumerate_from n xs))
answer_somewhere P f n [] k m x y e at is holds = absurd (cc)
answer_somewhere P f n (z ∷ xs) zero m x y e at is holds =
    let same : z ≡ x = cc in
    let place : m ≡ n = omega (arith, e) in
    first_somewhere P (f (n, z)) (filter_map f (enumerate_from (n + 1) xs)) y
    (ap (λ w. f (n, w)) same ∙ ap (λ p. f (p, x)) (sym place) ∙ is) holds
answer_somewhere P f n (z ∷ xs) (suc k) m x y e at is holds =
    more_somewhere P (f (n, z)) (filter_map f (enumerate_from (n + 1) xs))
    (answer_somewhere P f (n + 1) xs k m x y (omega (arith, e)) at is holds)

-- a root hash is known where each need of a definition is that of a pair, and there is one
abbrev OfPair : ℕ → Need → Type 0
OfPair k need = need.file ≡ k → need.pair ≡ true

some_root : (o : Option (List ℕ)) → is_some o ≡ true → IsSome o
some_root None is = absurd (cc)
some_root (Some root) is = refl

root_found : (k : ℕ) (needs : List Need) (facts : List Fact) → map (λ (f : Fact). f.file) facts ≡ map (λ (n : Need). n.file) needs
    → map (λ (f : Fact). is_some f.root) facts ≡ map (λ (n : Need). n.pair) needs → Somewhere (λ (n : Need). n.file ≡ k) needs
    → All (OfPair k) needs → IsSome (root_at facts k)
root_found k [] facts files roots there of = absurd there
root_found k (need ∷ needs) [] files roots there of = absurd (cc)
root_found k (need ∷ needs) (fact ∷ facts) files roots there of =
    let file : fact.file ≡ need.file = cc in
    let root : is_some fact.root ≡ need.pair = cc in
    elim (eqb_tells fact.file k) [
      | inl w ↦
          rw w.0 (some_root fact.root (root ∙ All-head (OfPair k) need needs of (sym file ∙ w.1)))
      | inr w ↦
          rw w.0 (root_found k needs facts (cc) (cc) (behind there (λ e. w.1 (file ∙ e))) (All-tail (OfPair k) need needs of))
    ]
  where
    behind : Somewhere (λ (n : Need). n.file ≡ k) (need ∷ needs) → need.file ≢ k → Somewhere (λ (n : Need). n.file ≡ k) needs
    behind (inl here) other = absurd (other here)
    behind (inr later) other = later

none_there : (o : Option ℕ) → is_none o ≡ true → o ≡ None
none_there None is = refl
none_there (Some n) is = absurd (cc)

-- halves by their roles
module _ (seed : Guid) (defs : List Definition) (facts : List Fact) (free : ℕ) (files : List ℕ) (file : ℕ) where
  hash_by : (v : Verity) (partner blocks : ℕ) (salt : List ℕ) (uuid : Guid) (root : List ℕ)
      → role_of seed defs facts free files file v ≡ roles.Hash partner blocks salt uuid root
      → (q : ℕ) × (v ≡ Hash q) × (slot_in free files q ≡ partner) × (root_planned facts q ≡ root)
  hash_by Off partner blocks salt uuid root is = absurd (let e : roles.Plain ≡ roles.Hash partner blocks salt uuid root = is in cc)
  hash_by (Data q) partner blocks salt uuid root is =
      absurd (let e : roles.Data (slot_in free files q) (root_planned facts file) ≡ roles.Hash partner blocks salt uuid root = is in cc)
  hash_by (Hash q) partner blocks salt uuid root is =
      let e : roles.Hash (slot_in free files q) _ _ _ (root_planned facts q) ≡ roles.Hash partner blocks salt uuid root =
      is in (q, refl, cc, cc)

old_never : (b : Bool) → cond b changes.Same changes.Changed ≡ changes.New → ⊥
old_never true is = absurd (let e : changes.Same ≡ changes.New = is in cc)
old_never false is = absurd (let e : changes.Changed ≡ changes.New = is in cc)

module _ (seen : Seen) (target : ℕ) (defs : List Definition) (facts : List Fact) (seed : Guid) (areas : List Area) (placed : Placed)
    (plan : Plan)
    (given : IsGiven seen target defs (matched_of seen.shown defs)) (made : IsMadeOf seen target defs facts seed areas placed plan)
    (are : AreFactsOn (wanted_of seen.shown defs) facts) (takes : TakeHalves defs) where
  abbrev own : List (Option ℕ)
  own = matched_of seen.shown defs

  abbrev taken : List (ℕ × Definition)
  taken = kept_of (matched_of seen.shown defs) placed.threshold defs

  abbrev free : ℕ
  free = first_free seen.shown.rows

  abbrev files : List ℕ
  files = kept_files (matched_of seen.shown defs) placed.threshold defs

  abbrev count : ℕ
  count = length seen.shown.rows

  abbrev laid : List Row
  laid = rows seen target defs facts seed areas placed plan given made

  abbrev namings : List Naming
  namings = namings_of facts (matched_of seen.shown defs) (length seen.shown.rows)
      (kept_files (matched_of seen.shown defs) placed.threshold defs) defs

  named_so : rows_named laid namings seed ≡ Ok plan.goal.rows
  unfolding goal_table spots_of
  named_so = (named-rows (table_laid seen target laid) plan.goal namings seed made.table).0

  -- the identifier that is fixed for a definition, given with its place
  abbrev fixed_of : ℕ × Definition → Option Guid
  fixed_of e = option_or e.1.id (half_id facts e.0 e.1.verity)

  taken_at : (j : ℕ) (e : ℕ × Definition) → slice_get taken j ≡ Some e
      → (slice_get defs e.0 ≡ Some e.1) × (is_kept own placed.threshold e ≡ true)
  taken_at j e at = is_taken seen target defs facts seed areas placed plan given made are j e at

  -- a kept definition has no row, and is named in its new one
  placed_at : (j : ℕ) (e : ℕ × Definition) → slice_get taken j ≡ Some e → place_in own count files e.0 ≡ Some (count + j)
  placed_at j e at =
      let new = (and_both (is_new own e.0) (int_le e.1.priority placed.threshold) (taken_at j e at).1).0 in
      ap (λ o. option_or o (option_map (λ rank. count + rank) (rank_in files e.0))) (none_there (get_or own e.0 None) new)
      ∙ ap (option_map (λ rank. count + rank)) (rank_is own placed.threshold defs j e at)

  -- no other definition is named there
  placed_alone : (j : ℕ) (e : ℕ × Definition) (m : ℕ) → slice_get taken j ≡ Some e → (o r : Option ℕ) → IfSome o (λ p. p < count)
      → rank_in files m ≡ r
      → option_or o (option_map (λ rank. count + rank) r) ≡ Some (count + j) → m ≡ e.0
  placed_alone j e m at (Some p) r within rank is = absurd (let same : p ≡ count + j = cc in omega (arith, within, same))
  placed_alone j e m at None None within rank is = absurd (cc)
  placed_alone j e m at None (Some r) within rank is =
      let sum : count + r ≡ count + j = cc in
      let same : r ≡ j = omega (arith, sum) in
      let mine : get_or files r 0 ≡ m = eqb-true (get_or files r 0) m (position-Some (λ k. k == m) files r 0 rank).1 in
      let its : get_or files j 0 ≡ e.0 =
      eqb-true (get_or files j 0) e.0 (position-Some (λ k. k == e.0) files j 0 (rank_is own placed.threshold defs j e at)).1 in
      sym mine ∙ ap (λ k. get_or files k 0) same ∙ its

  own_within : (m : ℕ) → IfSome (get_or own m None) (λ p. p < count)
  own_within m = elim (cases_lt m (length own)) [
    | inl below ↦ places_within seen target defs own given m None below
    | inr past ↦ rw (get_or_past own m None past) tt
  ]

  says : (j : ℕ) (e : ℕ × Definition) (id : Guid) → slice_get taken j ≡ Some e → fixed_of e ≡ Some id → All (Says (count + j) id) namings
  says j e id at fixed = All-answers (Says (count + j) id) (naming_of facts own count files) 0 defs (λ k m def place there.
      by_place m def (place_in own count files m) (λ is.
      let here : m ≡ k = omega (arith, place) in
      let same : m ≡ e.0 = placed_alone j e m at (get_or own m None) (rank_in files m) (own_within m) refl is in
      let both : ◌≡◌ {A = Option Definition} (Some def) (Some e.1) =
      sym there ∙ ap (slice_get defs) (sym here ∙ same) ∙ (taken_at j e at).0 in
      let def_same : def ≡ e.1 = cc in
      ap (λ n. fixed_of (n, def)) same ∙ ap (λ d. fixed_of (e.0, d)) def_same ∙ fixed))
    where
      by_place : (m : ℕ) (def : Definition) (o : Option ℕ) → (o ≡ Some (count + j) → fixed_of (m, def) ≡ Some id)
          → IfSome (option_map (λ row. record {
            row = row;
            file = m;
            label = unwrap_or def.label (label_of def.kind);
            fixed = option_or
                def.id (half_id facts m def.verity);
          }) o)
          (Says (count + j) id)
      by_place m def None is = tt
      by_place m def (Some row) is = λ same. is (ap (λ (n : ℕ). Some n) same)

  named_there : (j : ℕ) (e : ℕ × Definition) → slice_get taken j ≡ Some e → Somewhere (λ (n : Naming). n.row ≡ count + j) namings
  named_there j e at =
      answer_somewhere (λ (n : Naming). n.row ≡ count + j) (naming_of facts own count files) 0 defs e.0 e.0 e.1
      (record {
        row = count + j;
        file = e.0;
        label = unwrap_or e.1.label (label_of e.1.kind);
        fixed = option_or
            e.1.id (half_id facts e.0 e.1.verity);
      })
      (sym (zero-add e.0)) (taken_at j e at).0
      (ap (option_map (λ row. record {
        row = row;
        file = e.0;
        label = unwrap_or e.1.label (label_of e.1.kind);
        fixed = option_or
            e.1.id (half_id facts e.0 e.1.verity);
      })) (placed_at j e at))
      refl

  -- its row has no identifier before it is named
  laid_has : (j : ℕ) (e : ℕ × Definition) → slice_get taken j ≡ Some e → Has laid (count + j) no_id
  laid_has j e at =
      let d : Row = row_for (spots seen target defs facts seed areas placed plan given made) (free + j, e) in
      let there = laid_row seen target defs facts seed areas placed plan given made are j e d at in
      ap (option_map (λ (r : Row). r.id)) (slice_get-get_or laid (count + j) d there.0 ∙ ap (λ (r : Row). Some r) there.1)

  -- it is given the one that is fixed
  kept_has : (j : ℕ) (e : ℕ × Definition) (id : Guid) → slice_get taken j ≡ Some e → fixed_of e ≡ Some id
      → Has plan.goal.rows (count + j) id
  kept_has j e id at fixed =
      named_gets (count + j) id no_id laid namings seed plan.goal.rows ((bytes_eq-Decides (replicate 16 0) (replicate 16 0)).1 refl)
      (says j e id at fixed) (named_there j e at) (laid_has j e at) named_so

  -- a new row of the goal is that of a kept definition
  record IsKept (i : ℕ) (d : Noted) : Type 0 where
    j : ℕ
    e : ℕ × Definition
    at : slice_get taken j ≡ Some e
    note : (get_or (noted_of plan) i d).1 ≡ note_on seen target defs facts seed areas placed plan given made j e.0 e.1
    row : (get_or (noted_of plan) i d).0 ≡ get_or plan.goal.rows (count + j) d.0

  is_kept_row : (i : ℕ) (d : Noted) → i < length (noted_of plan) → (get_or (noted_of plan) i d).1.change ≡ changes.New → IsKept i d
  is_kept_row i d below new =
      let z = zip_at seen target defs facts seed areas placed plan given made are i d below in
      let is : (get_or (noted_of plan) i d).1 ≡ get_or plan.notes i d.1 = ap (λ (n : Noted). n.1) z.1 in
      elim (which seen target defs facts seed areas placed plan given made are i z.0) [
        | inl old ↦
            let n = old_at seen target defs facts seed areas placed plan given made are i d.1 old in
            absurd (old_never _ (sym (ap (λ (n : Note). n.change) (is ∙ n.1)) ∙ new))
        | inr (j, e, at, place) ↦
            record {
              j = j;
              e = e;
              at = at;
              note = is ∙ ap (λ (p : ℕ). get_or plan.notes p d.1) place
                  ∙ new_at seen target defs facts seed areas placed plan given made are j e d.1 at;
              row = ap (λ (n : Noted). n.0) z.1 ∙ ap (λ (p : ℕ). get_or plan.goal.rows p d.0) place;
            }
      ]

  -- its identifier
  kept_id : (i : ℕ) (d : Noted) (is : IsKept i d) (id : Guid) → fixed_of is.e ≡ Some id → (get_or (noted_of plan) i d).0.id ≡ id
  kept_id i d is id fixed =
      ap (λ (r : Row). r.id) is.row ∙ has_at plan.goal.rows (count + is.j) id d.0 (kept_has is.j is.e id is.at fixed)

  -- a half has none of its own
  half_takes : (k : ℕ) (def : Definition) (v : Verity) → slice_get defs k ≡ Some def → def.verity ≡ v → TakesHalf v def
  half_takes k def v at half =
      subst (λ v. TakesHalf v def) half
      (subst (λ (d : Definition). TakesHalf d.verity d) (get_or_from_slice_get defs k def def at)
      (takes k def (slice_get_within defs k def at)))

  data_fixed : (q h : ℕ) (def : Definition) (root : List ℕ) → slice_get defs q ≡ Some def → def.verity ≡ Data h
      → root_at facts q ≡ Some root
      → fixed_of (q, def) ≡ Some (record { 0 = take 16 root })
  data_fixed q h def root at half known =
      ap (λ o. option_or o (half_id facts q def.verity)) (half_takes q def (Data h) at half) ∙ ap (half_id facts q) half
      ∙ ap (option_map (λ root. record { 0 = take 16 root })) known

  hash_fixed : (k q : ℕ) (def : Definition) (root : List ℕ) → slice_get defs k ≡ Some def → def.verity ≡ Hash q
      → root_at facts q ≡ Some root
      → fixed_of (k, def) ≡ Some (record { 0 = drop 16 root })
  hash_fixed k q def root at half known =
      ap (λ o. option_or o (half_id facts k def.verity)) (half_takes k def (Hash q) at half) ∙ ap (half_id facts k) half
      ∙ ap (option_map (λ root. record { 0 = drop 16 root })) known

  -- the root hash of a new pair is known
  root_known : (q h : ℕ) (def : Definition) → slice_get defs q ≡ Some def → is_new own q ≡ true → is_some def.source ≡ true
      → def.verity ≡ Data h
      → is_new own h ≡ true → IsSome (root_at facts q)
  root_known q h def at new source half other_new =
      let pair : is_new_data own def.verity ≡ true = ap (is_new_data own) half ∙ other_new in
      let need : Need = record { file = q; pair = is_new_data own def.verity } in
      let wanted : (is_new own q && is_some def.source) ≡ true = rw (new, source) refl in
      root_found q (needs_of own defs) facts are.files are.roots
      (answer_somewhere (λ (n : Need). n.file ≡ q) (need_of own) 0 defs q q def need (sym (zero-add q)) at
      (ap (λ b. cond b (Some need) None) wanted) refl)
      (All-answers (OfPair q) (need_of own) 0 defs (λ k m other place there.
      if_passes (OfPair q) (is_new own m && is_some other.source) (record { file = m; pair = is_new_data own other.verity }) (λ passes same.
      let here : m ≡ k = omega (arith, place) in
      let both : ◌≡◌ {A = Option Definition} (Some other) (Some def) = sym there ∙ ap (slice_get defs) (sym here ∙ same) ∙ at in
      let def_same : other ≡ def = cc in
      ap (λ (d : Definition). is_new_data own d.verity) def_same ∙ pair)))

  source_some : (def : Definition) → IsSome def.source → is_some def.source ≡ true
  source_some def has = by def.source has where
    by : (o : Option (List ℕ)) → IsSome o → is_some o ≡ true
    by None has = absurd (cc)
    by (Some s) has = refl

  abbrev IsPaired : Noted → Noted → Type 0
  IsPaired payload hash = IsPair payload hash → HasRoot (payload.0.id.0 ++ hash.0.id.0) hash.1.role

  pair_has : (i j : ℕ) (d f : Noted) → i < length (noted_of plan) → j < length (noted_of plan)
      → IsPaired (get_or (noted_of plan) i d) (get_or (noted_of plan) j f)
  pair_has i j d f near far pair =
      let u = is_kept_row i d near pair.new.0 in
      let o = is_kept_row j f far pair.new.1 in
      let role = pair.hash_role.3 in
      let root = pair.hash_role.2 in
      let own_role = sym (ap (λ (n : Note). n.role) o.note) ∙ role in
      let v = hash_by seed defs facts free files o.e.0 o.e.1.verity _ _ _ _ root own_role in
      let q : ℕ = v.0 in
      let half : o.e.1.verity ≡ Hash q = v.1 in
      let hash_is = taken_at o.j o.e o.at in
      let flags = and_both (is_new own o.e.0) (int_le o.e.1.priority placed.threshold) hash_is.1 in
      let partner = subst (λ v. HasPartner defs o.e.0 o.e.1 v) half (given.well_formed.partners o.e.0 o.e.1 hash_is.0) in
      let def : Definition = partner.0 in
      let data_new = (hash_partner own defs facts given.well_formed made.none o.e.0 q o.e.1 hash_is.0 flags.0 half).0 in
      let kept : is_kept own placed.threshold (q, def) ≡ true = ap (λ b. b && int_le def.priority placed.threshold) data_new
      ∙ ap (λ p. int_le p placed.threshold) partner.2.priority ∙ flags.1 in
      let r = kept_index own placed.threshold defs q def partner.1 kept in
      let slot : free + r.0 ≡ free + u.j = sym (slot_is own placed.threshold defs free r.0 (q, def) r.1) ∙ v.2
      ∙ ap (λ (n : Note). n.slot) u.note in
      let same : u.j ≡ r.0 = omega (arith, slot) in
      let both : ◌≡◌ {A = Option (ℕ × Definition)} (Some u.e) (Some (q, def)) = sym u.at ∙ ap (slice_get taken) same ∙ r.1 in
      let entry : u.e ≡ (q, def) = cc in
      let known = root_known q o.e.0 def partner.1 data_new (source_some def partner.2.source) partner.2.data_names flags.0 in
      by_root q def i j d f u o half partner.1 partner.2.data_names entry (root_at facts q) refl known root v.3 _ role
    where
      by_root : (q : ℕ) (def : Definition) (i j : ℕ) (d f : Noted) (u : IsKept i d) (o : IsKept j f) → o.e.1.verity ≡ Hash q
          → slice_get defs q ≡ Some def → def.verity ≡ Data o.e.0 → u.e ≡ (q, def) → (known : Option (List ℕ)) → root_at facts q ≡ known
          → IsSome known
          → (root : List ℕ) → root_planned facts q ≡ root → (partner : ℕ × ℕ × List ℕ × Guid)
          → (get_or (noted_of plan) j f).1.role ≡ roles.Hash partner.0 partner.1 partner.2 partner.3 root
          → HasRoot ((get_or (noted_of plan) i d).0.id.0 ++ (get_or (noted_of plan) j f).0.id.0) (get_or (noted_of plan) j f).1.role
      by_root q def i j d f u o half at data_half entry None is has root planned partner role = absurd (cc)
      by_root q def i j d f u o half at data_half entry (Some bytes) is has root planned partner role =
          let first = kept_id i d u (record { 0 = take 16 bytes }) (ap fixed_of entry ∙ data_fixed q o.e.0 def bytes at data_half is) in
          let last = kept_id j f o (record { 0 = drop 16 bytes })
          (hash_fixed o.e.0 q o.e.1 bytes (taken_at o.j o.e o.at).0 half is) in
          let whole : root ≡ bytes = sym planned ∙ ap (λ o. unwrap_or o (replicate 32 0)) is in
          subst (HasRoot ((get_or (noted_of plan) i d).0.id.0 ++ (get_or (noted_of plan) j f).0.id.0)) (sym role)
          (ap (λ (g : Guid). g.0 ++ (get_or (noted_of plan) j f).0.id.0) first ∙ ap (λ (g : Guid). take 16 bytes ++ g.0) last
          ∙ take-append-drop 16 bytes ∙ sym whole)

  have_root_ids : HaveRootIds plan
  have_root_ids i d near j f far = pair_has i j d f near far

-- a goal gives each new pair its root hash as identifiers
pub goal_has_root_ids : (seen : Seen) (target : ℕ) (defs : List Definition) (facts : List Fact) (seed : Guid) (plan : Plan)
    → IsPlannable seen
    → IsTarget seen.shown.sector seen.sectors target → AreWellFormed defs → AreFactsOn (wanted_of seen.shown defs) facts → TakeHalves defs
    → goal seen target defs facts seed ≡ Ok plan → HaveRootIds plan
goal_has_root_ids seen target defs facts seed plan plannable aim wf are takes is =
    let made = made_of seen target defs facts seed plan is in
    have_root_ids seen target defs facts seed made.0 made.1 plan
    (record { plannable = plannable; aim = aim; well_formed = wf; own = refl }) made.2 are takes
