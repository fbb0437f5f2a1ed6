-- A goal by what sources tell plans each pair with the root hash of its source.
use Rattle.std.proofs.Common.{◌≡◌, ◌∙◌, ℕ, ◌+◌, ◌*◌, ◌^◌, ◌<◌, ◌≤◌, inl, inr, Bool, true, List, length, get_or, replicate, Option, Some, None, IfSome, IsSome, All, Ok, arith, refl, sym, ap, subst, slice_get}
use Rattle.std.specs.Prelude.{◌&&◌, int_le, is_some, option_and_then, option_map, unwrap_or}
use Rattle.std.specs.Option.{option_map_or}
use Rattle.rp_apply.specs.Commits.{HasPlannedRoot, HavePlannedRoots}
use Rattle.rp_apply.specs.Sourced.{paths_of}
use Rattle.rp_apply.proofs.Partners.{partner_of, payload_of_row}
use Rattle.rp_areas.specs.declared.gaps.Area.{Area}
use Rattle.rp_areas.specs.Areas.{file_of}
use Rattle.rp_base.specs.Plan.{IsTarget, IsWellFormed, Noted, noted_of}
use Rattle.rp_base.specs.declared.guid.Guid.{Guid}
use Rattle.rp_base.specs.declared.plan.Note.{Note}
use Rattle.rp_base.specs.declared.plan.Plan.{Plan}
use Rattle.rp_base.specs.declared.plan.Role.{Role}
use Rattle.rp_base.specs.declared.plan.Role.TheVariants as roles
use Rattle.rp_base.specs.declared.seen.Seen.{Seen}
use Rattle.rp_base.specs.declared.table.Row.{Row}
use Rattle.rp_defs.specs.WellFormed.{HasPartner, IsWellFormed as AreWellFormed}
use Rattle.rp_defs.specs.declared.definition.Definition.{Definition}
use Rattle.rp_defs.specs.declared.definition.Verity.{Verity}
use Rattle.rp_defs.specs.declared.definition.Verity.TheVariants.{Off, Data, Hash}
use Rattle.rp_disk.specs.Calls.{resized}
use Rattle.rp_io.specs.declared.stored.Stored.{Stored}
use Rattle.rp_place.specs.declared.threshold.Placed.{Placed}
use Rattle.rp_plan.specs.Goal.{goal}
use Rattle.rp_plan.specs.Kept.{first_free, is_kept, kept_files, kept_of, slot_in}
use Rattle.rp_plan.specs.Notes.{kind_at, old_note, role_of, root_planned}
use Rattle.rp_plan.specs.Plannable.{IsGiven, IsPlannable}
use Rattle.rp_plan.proofs.KeptLemmas.{and_both}
use Rattle.rp_plan.proofs.Paired.{kept_index, note_on, slot_is}
use Rattle.rp_plan.proofs.Parts.{IsMadeOf, made_of}
use Rattle.rp_plan.proofs.Sourced.{fact_has}
use Rattle.rp_plan.proofs.Whole.{is_taken, new_at, old_at, plan_well_formed, which, zip_at}
use Rattle.rp_sizes.specs.Facts.{fact_from, facts, root_of, source_of}
use Rattle.rp_sizes.specs.Needs.{AreFactsOn, fact_of, is_new, is_new_data, matched_of, wanted_of}
use Rattle.rp_sizes.specs.Pairs.{pair_blocks, salt_of, super_id}
use Rattle.rp_sizes.specs.Sizes.{blocks_at}
use Rattle.rp_sizes.specs.declared.need.Fact.{Fact}
use Rattle.rp_sizes.proofs.AskedLemmas.{blocks_are, hash_partner}
use Rattle.rp_step.specs.Sourced.{sources_in}
use Rattle.rp_steps.specs.Contents.{payload, payload_at, source_bytes}
use Rattle.rp_steps.specs.Steps.{byte_count, from_byte, source_len}
use Rattle.rp_verity.specs.Filled.{cut, filled}
use Rattle.rp_verity.specs.Tree.{root_hash}
use Rattle.rp_roots.specs.Whole.{HasWholeSource}
use Rattle.rp_roots.proofs.Known.{fact_told, facts_are_on}
use Rattle.rp_roots.proofs.Over.{blocks_fit, filled_up, own_length, root_is, source_is}

some_is : {X : Type 0} (o : Option X) → IsSome o → is_some o ≡ true
some_is None has = absurd (cc)
some_is (Some x) has = refl

module _ (seen : Seen) (target : ℕ) (defs : List Definition) (files : List Stored) (seed : Guid) (areas : List Area) (placed : Placed) (plan : Plan)
    (given : IsGiven seen target defs (matched_of seen.shown defs))
    (made : IsMadeOf seen target defs (facts seed files seen.shown defs) seed areas placed plan) where
  abbrev known : List Fact
  known = facts seed files seen.shown defs

  abbrev own : List (Option ℕ)
  own = matched_of seen.shown defs

  abbrev taken : List (ℕ × Definition)
  taken = kept_of (matched_of seen.shown defs) placed.threshold defs

  abbrev free : ℕ
  free = first_free seen.shown.rows

  abbrev note : ℕ → ℕ → Definition → Note
  note j k def = note_on seen target defs (facts seed files seen.shown defs) seed areas placed plan given made j k def

  are : AreFactsOn (wanted_of seen.shown defs) known
  are = facts_are_on seen defs files seed

  formed : IsWellFormed seen plan
  formed = plan_well_formed seen target defs known seed areas placed plan given made are

  -- a kept half of a pair whose source is told
  module _ (k : ℕ) (def : Definition) (at : slice_get defs k ≡ Some def) (new : is_new (matched_of seen.shown defs) k ≡ true)
      (has : IsSome def.source) (h : ℕ) (half : def.verity ≡ Data h) (other_new : is_new (matched_of seen.shown defs) h ≡ true) where
    abbrev bytes : List ℕ
    bytes = source_of files def

    fact : fact_of known k ≡ Some (record { file = k; len = length bytes; root = Some (root_of seed def bytes) })
    fact = fact_told seed files seen.shown defs k def at new (some_is def.source has)
        ∙ ap (λ (b : Bool). Some (fact_from seed files (record { file = k; pair = b }) def)) (ap (is_new_data own) half ∙ other_new)

    root_known : root_planned known k ≡ root_of seed def bytes
    root_known = ap (λ (o : Option Fact). unwrap_or (option_and_then (λ (f : Fact). f.root) o) (replicate 32 0)) fact

    blocks_known : blocks_at defs known k ≡ pair_blocks def (length bytes)
    blocks_known = blocks_are defs known k def at
        ∙ ap (λ (o : Option Fact). pair_blocks def (option_map_or (λ (f : Fact). f.len) o 0)) fact

    len_known : (j : ℕ) → (note j k def).source ≡ Some (length bytes)
    len_known j = ap (λ (o : Option Fact). option_map (λ (f : Fact). f.len) o) fact

    -- what its row is to hold
    held_by : (j : ℕ) (row : Row) (blocks : ℕ) → blocks ≡ pair_blocks def (length bytes) → 4096 * blocks ≡ byte_count row
        → payload (sources_in files (paths_of defs)) (row, note j k def) ≡ filled blocks bytes
    unfolding source_bytes
    held_by j row blocks count whole =
        let source = source_is files defs k def at has in
        let len : source_len (note j k def) ≡ length bytes = ap (λ (o : Option ℕ). unwrap_or o 0) (len_known j) in
        let cut_so : source_bytes (sources_in files (paths_of defs)) (row, note j k def) ≡ bytes =
        ap (λ (n : ℕ). resized (sources_in files (paths_of defs) k) n) len ∙ ap (λ (l : List ℕ). resized l (length bytes)) source ∙ own_length bytes in
        ap (λ (l : List ℕ). resized l (byte_count row)) cut_so ∙ ap (resized bytes) (sym whole)
        ∙ filled_up blocks bytes (subst (λ (n : ℕ). length bytes ≤ 4096 * n) (sym count) (blocks_fit def (length bytes)))

    -- the root hash over it is the planned one
    root_over_it : (blocks : ℕ) → blocks ≡ pair_blocks def (length bytes) → pair_blocks def (length bytes) ≤ 2 ^ 32
        → root_hash (salt_of seed (kind_at defs k)) (cut blocks (filled blocks bytes)) ≡ root_planned known k
    root_over_it blocks count few =
        ap (λ (o : Option Definition). root_hash (salt_of seed (option_map_or (λ (d : Definition). d.kind) o (record { 0 = replicate 16 0 })))
        (cut blocks (filled blocks bytes))) at
        ∙ ap (λ (n : ℕ). root_hash (salt_of seed def.kind) (cut n (filled n bytes))) count
        ∙ sym (root_is seed def bytes few) ∙ sym root_known

  -- the note on the data row under a tree is that of its definition
  under_note : (i r : ℕ) (def : Definition) (k : ℕ) (d : Noted) → i < length (noted_of plan) → slice_get taken r ≡ Some (k, def)
      → (get_or (noted_of plan) i d).1.slot ≡ free + r → (root : List ℕ) (hash : ℕ) → (get_or (noted_of plan) i d).1.role ≡ roles.Data hash root
      → (get_or (noted_of plan) i d).1 ≡ note r k def
  under_note i r def k d below in_r slot root hash role =
      let z = zip_at seen target defs known seed areas placed plan given made are i d below in
      let is : (get_or (noted_of plan) i d).1 ≡ get_or plan.notes i d.1 = ap (λ (n : Noted). n.1) z.1 in
      elim (which seen target defs known seed areas placed plan given made are i z.0) [
        | inl old ↦
            let n = old_at seen target defs known seed areas placed plan given made are i d.1 old in
            let plain : roles.Plain ≡ roles.Data hash root = sym (ap (λ (n : Note). n.role) (is ∙ n.1)) ∙ role in absurd (cc)
        | inr (j, e, at, place) ↦
            let there : get_or plan.notes i d.1 ≡ note j e.0 e.1 =
            ap (λ (p : ℕ). get_or plan.notes p d.1) place ∙ new_at seen target defs known seed areas placed plan given made are j e d.1 at in
            let own_slot : free + j ≡ free + r = sym (ap (λ (n : Note). n.slot) (is ∙ there)) ∙ slot in
            let same : j ≡ r = omega (arith, own_slot) in
            let both : ◌≡◌ {A = Option (ℕ × Definition)} (Some e) (Some (k, def)) = sym at ∙ ap (slice_get taken) same ∙ in_r in
            let entry : e ≡ (k, def) = cc in
            is ∙ there ∙ ap (λ (m : ℕ). note m e.0 e.1) same ∙ ap (λ (x : ℕ × Definition). note r x.0 x.1) entry
      ]

  abbrev IsPlannedAt : Noted → Role → Type 0
  IsPlannedAt noted role = noted.1.role ≡ role → HasPlannedRoot plan (sources_in files (paths_of defs)) role

  -- a new hash row
  over_half : (j : ℕ) (d : Noted) (i : ℕ) (e : ℕ × Definition) → j < length (noted_of plan) → slice_get taken i ≡ Some e
      → (get_or (noted_of plan) j d).1 ≡ note i e.0 e.1 → (k : ℕ) → e.1.verity ≡ Hash k → HasPartner defs e.0 e.1 (Hash k)
      → (partner blocks : ℕ) (salt : List ℕ) (uuid : Guid) (root : List ℕ)
      → (get_or (noted_of plan) j d).1.role ≡ roles.Hash partner blocks salt uuid root
      → HasPlannedRoot plan (sources_in files (paths_of defs)) (roles.Hash partner blocks salt uuid root)
  over_half j d i e below in_i is k half (def, at, pair) partner blocks salt uuid root role =
      let a = is_taken seen target defs known seed areas placed plan given made are i e in_i in
      let flags = and_both (is_new own e.0) (int_le e.1.priority placed.threshold) a.1 in
      let data_of = hash_partner own defs known given.well_formed made.none e.0 k e.1 a.0 flags.0 half in
      let kept : is_kept own placed.threshold (k, def) ≡ true = ap (λ b. b && int_le def.priority placed.threshold) data_of.0
      ∙ ap (λ q. int_le q placed.threshold) pair.priority ∙ flags.1 in
      let r = kept_index own placed.threshold defs k def at kept in
      let own_role : roles.Hash (slot_in free (kept_files own placed.threshold defs) k) (blocks_at defs known k) (salt_of seed (kind_at defs k))
      (super_id seed (kind_at defs k)) (root_planned known k) ≡ roles.Hash partner blocks salt uuid root =
      sym (ap (λ (n : Note). n.role) is ∙ ap (role_of seed defs known free (kept_files own placed.threshold defs) e.0) half) ∙ role in
      let slot : slot_in free (kept_files own placed.threshold defs) k ≡ partner = cc in
      let count : blocks_at defs known k ≡ blocks = cc in
      let salted : salt_of seed (kind_at defs k) ≡ salt = cc in
      let rooted : root_planned known k ≡ root = cc in
      let p = partner_of seen plan formed j d partner blocks salt uuid root below role in
      let q = p.pair in
      let hash_slot : roles.Hash p.under.1.slot _ _ _ _ ≡ roles.Hash partner blocks salt uuid root = sym q.hash_role.3 ∙ role in
      let under_slot : p.under.1.slot ≡ partner = cc in
      let place : slot_in free (kept_files own placed.threshold defs) k ≡ free + r.0 = slot_is own placed.threshold defs free r.0 (k, def) r.1 in
      let noted : get_or (noted_of plan) p.place p.under ≡ p.under = p.is in
      let under : p.under.1 ≡ note r.0 k def = sym (ap (λ (n : Noted). n.1) noted)
      ∙ under_note p.place r.0 def k p.under p.below r.1
      (ap (λ (n : Noted). n.1.slot) noted ∙ under_slot ∙ sym slot ∙ place) q.payload_role.0 _
      (ap (λ (n : Noted). n.1.role) noted ∙ q.payload_role.1) in
      let sources = sources_in files (paths_of defs) in
      let blocks_so = sym count ∙ blocks_known k def at data_of.0 pair.source e.0 pair.data_names flags.0 in
      let few = subst (λ (n : ℕ). n ≤ 2 ^ 32) (blocks_known k def at data_of.0 pair.source e.0 pair.data_names flags.0) data_of.1 in
      ap (λ (b : ℕ). root_hash salt (cut blocks (payload_at plan sources b))) (p.at ∙ ap (λ (n : Noted). from_byte n.0) (sym noted))
      ∙ ap (λ (l : List ℕ). root_hash salt (cut blocks l)) (payload_of_row seen plan formed sources p.place p.under p.below
      ∙ ap (payload sources) noted ∙ ap (λ (n : Note). payload sources (p.under.0, n)) under
      ∙ held_by k def at data_of.0 pair.source e.0 pair.data_names flags.0 r.0 p.under.0 blocks blocks_so p.whole)
      ∙ ap (λ (s : List ℕ). root_hash s (cut blocks (filled blocks (source_of files def)))) (sym salted)
      ∙ root_over_it k def at data_of.0 pair.source e.0 pair.data_names flags.0 blocks blocks_so few ∙ rooted

  -- by the verity of its definition
  by_verity : (j : ℕ) (d : Noted) (i : ℕ) (e : ℕ × Definition) → j < length (noted_of plan) → slice_get taken i ≡ Some e
      → (get_or (noted_of plan) j d).1 ≡ note i e.0 e.1 → (v : Verity) → e.1.verity ≡ v → HasPartner defs e.0 e.1 v
      → (role : Role) → IsPlannedAt (get_or (noted_of plan) j d) role
  by_verity j d i e below in_i is v half partner roles.Plain = λ role. tt
  by_verity j d i e below in_i is v half partner (roles.Data other root) = λ role. tt
  by_verity j d i e below in_i is Off half partner (roles.Hash other blocks salt uuid root) = λ role.
      let plain : roles.Plain ≡ roles.Hash other blocks salt uuid root =
      sym (ap (λ (n : Note). n.role) is ∙ ap (role_of seed defs known free (kept_files own placed.threshold defs) e.0) half) ∙ role in absurd (cc)
  by_verity j d i e below in_i is (Data k) half partner (roles.Hash other blocks salt uuid root) = λ role.
      let under : roles.Data (slot_in free (kept_files own placed.threshold defs) k) (root_planned known e.0) ≡ roles.Hash other blocks salt uuid root =
      sym (ap (λ (n : Note). n.role) is ∙ ap (role_of seed defs known free (kept_files own placed.threshold defs) e.0) half) ∙ role in absurd (cc)
  by_verity j d i e below in_i is (Hash k) half partner (roles.Hash other blocks salt uuid root) =
      over_half j d i e below in_i is k half partner other blocks salt uuid root

  old_planned : (noted : Noted) (k : ℕ) (row : Row) → noted.1 ≡ old_note own plan.goal.rows (k, row) → (role : Role) → IsPlannedAt noted role
  old_planned noted k row is roles.Plain = λ role. tt
  old_planned noted k row is (roles.Data other root) = λ role. tt
  old_planned noted k row is (roles.Hash other blocks salt uuid root) = λ role.
      let plain : roles.Plain ≡ roles.Hash other blocks salt uuid root = sym (ap (λ (n : Note). n.role) is) ∙ role in absurd (cc)

  has_roots : HavePlannedRoots plan (sources_in files (paths_of defs))
  has_roots j d below =
      let z = zip_at seen target defs known seed areas placed plan given made are j d below in
      let is : (get_or (noted_of plan) j d).1 ≡ get_or plan.notes j d.1 = ap (λ (n : Noted). n.1) z.1 in
      elim (which seen target defs known seed areas placed plan given made are j z.0) [
        | inl old ↦
            let n = old_at seen target defs known seed areas placed plan given made are j d.1 old in
            old_planned (get_or (noted_of plan) j d) j n.0 (is ∙ n.1) (get_or (noted_of plan) j d).1.role refl
        | inr (i, e, at, place) ↦
            let there : get_or plan.notes j d.1 ≡ note i e.0 e.1 =
            ap (λ (p : ℕ). get_or plan.notes p d.1) place ∙ new_at seen target defs known seed areas placed plan given made are i e d.1 at in
            by_verity j d i e below at (is ∙ there) e.1.verity refl
            (given.well_formed.partners e.0 e.1 (is_taken seen target defs known seed areas placed plan given made are i e at).0)
            (get_or (noted_of plan) j d).1.role refl
      ]

  -- the source of a new row is planned whole
  whole_by : (i : ℕ) (e : ℕ × Definition) → slice_get taken i ≡ Some e → (o : Option Fact) → fact_of known e.0 ≡ o
      → IfSome (option_map (λ (f : Fact). f.len) o) (λ len. len ≡ length (sources_in files (paths_of defs) e.0))
  whole_by i e in_i None is = tt
  whole_by i e in_i (Some fact) is =
      let a = is_taken seen target defs known seed areas placed plan given made are i e in_i in
      let flags = and_both (is_new own e.0) (int_le e.1.priority placed.threshold) a.1 in
      let has : IsSome e.1.source = fact_has seen.shown defs known are e.0 fact is e.1 a.0 in
      let told = sym is ∙ fact_told seed files seen.shown defs e.0 e.1 a.0 flags.0 has in
      let len : fact.len ≡ length (source_of files e.1) = ap (λ (o : Option Fact). option_map_or (λ (f : Fact). f.len) o 0) told in
      len ∙ sym (ap length (source_is files defs e.0 e.1 a.0 has))

  are_whole : All (HasWholeSource (sources_in files (paths_of defs))) (noted_of plan)
  are_whole j d below =
      let z = zip_at seen target defs known seed areas placed plan given made are j d below in
      let is : (get_or (noted_of plan) j d).1 ≡ get_or plan.notes j d.1 = ap (λ (n : Noted). n.1) z.1 in
      let P : Note → Type 0 = λ n. HasWholeSource (sources_in files (paths_of defs)) ((get_or (noted_of plan) j d).0, n) in
      elim (which seen target defs known seed areas placed plan given made are j z.0) [
        | inl old ↦
            let n = old_at seen target defs known seed areas placed plan given made are j d.1 old in
            subst P (sym (is ∙ n.1)) (by_file (file_of own j))
        | inr (i, e, at, place) ↦
            let there : get_or plan.notes j d.1 ≡ note i e.0 e.1 =
            ap (λ (p : ℕ). get_or plan.notes p d.1) place ∙ new_at seen target defs known seed areas placed plan given made are i e d.1 at in
            subst P (sym (is ∙ there)) (whole_by i e at (fact_of known e.0) refl)
      ]
    where
      by_file : (o : Option ℕ) → IfSome o (λ file. Unit {0})
      by_file None = tt
      by_file (Some file) = tt

-- a goal by what sources tell plans each row with all of its source
pub goal_is_whole : (seen : Seen) (target : ℕ) (defs : List Definition) (files : List Stored) (seed : Guid) (plan : Plan) → IsPlannable seen
    → IsTarget seen.shown.sector seen.sectors target → AreWellFormed defs
    → goal seen target defs (facts seed files seen.shown defs) seed ≡ Ok plan
    → All (HasWholeSource (sources_in files (paths_of defs))) (noted_of plan)
goal_is_whole seen target defs files seed plan plannable aim wf is =
    let made = made_of seen target defs (facts seed files seen.shown defs) seed plan is in
    are_whole seen target defs files seed made.0 made.1 plan
    (record { plannable = plannable; aim = aim; well_formed = wf; own = refl }) made.2

-- a goal by what sources tell plans each pair with its root hash
pub goal_has_roots : (seen : Seen) (target : ℕ) (defs : List Definition) (files : List Stored) (seed : Guid) (plan : Plan) → IsPlannable seen
    → IsTarget seen.shown.sector seen.sectors target → AreWellFormed defs
    → goal seen target defs (facts seed files seen.shown defs) seed ≡ Ok plan → HavePlannedRoots plan (sources_in files (paths_of defs))
goal_has_roots seen target defs files seed plan plannable aim wf is =
    let made = made_of seen target defs (facts seed files seen.shown defs) seed plan is in
    has_roots seen target defs files seed made.0 made.1 plan
    (record { plannable = plannable; aim = aim; well_formed = wf; own = refl }) made.2
