-- Each new half of a pair has its other half among the rows.
use Rattle.std.proofs.Common.{◌≡◌, ◌∙◌, ℕ, ℤ, zero, suc, ◌+◌, ◌*◌, ◌/◌, ◌^◌, ◌<◌, ◌≤◌, Bool, true, false, cond, List, [], ◌∷◌, length, get_or, min, Option, Some, AllPairs, arith, eq-eqb, refl, ap, sym, subst, slice_get}
use Rattle.std.specs.Prelude.{◌==◌, int_le}
use Rattle.std.specs.List.{enumerate_from, filter}
use Rattle.std.specs.Option.{option_map_or}
use Rattle.std.proofs.lemmas.Bool.{ne_eqb}
use Rattle.std.proofs.lemmas.List.{get_or-map}
use Rattle.std.proofs.lemmas.List.Kept.{AllPairs-filter}
use Rattle.std.proofs.lemmas.List.FromFn.{get_or-enumerate_from, length-enumerate_from}
use Rattle.std.proofs.lemmas.Option.{get_or_from_slice_get, slice_get-get_or, slice_get_within}
use Rattle.rp_base.specs.Plan.{IsPair}
use Rattle.rp_base.specs.Trees.{hash_blocks}
use Rattle.rp_base.specs.declared.guid.Guid.{Guid}
use Rattle.rp_base.specs.declared.plan.Note.{Note}
use Rattle.rp_base.specs.declared.plan.Plan.{Plan}
use Rattle.rp_base.specs.declared.plan.Role.TheVariants as roles
use Rattle.rp_base.specs.declared.seen.Seen.{Seen}
use Rattle.rp_base.specs.declared.table.Row.{Row}
use Rattle.rp_base.specs.declared.want.Want.{Want}
use Rattle.rp_areas.specs.declared.gaps.Area.{Area}
use Rattle.rp_place.specs.declared.threshold.Placed.{Placed}
use Rattle.rp_layout.specs.declared.spot.Spot.{Spot}
use Rattle.rp_layout.specs.Layout.{spot_at}
use Rattle.rp_defs.specs.declared.definition.Definition.{Definition}
use Rattle.rp_defs.specs.declared.definition.Verity.TheVariants.{Data, Hash}
use Rattle.rp_sizes.specs.declared.need.Fact.{Fact}
use Rattle.rp_sizes.specs.Needs.{is_new, matched_of}
use Rattle.rp_sizes.specs.Pairs.{salt_of, super_id}
use Rattle.rp_sizes.specs.Sizes.{asked, blocks_at, least_by, sized}
use Rattle.rp_sizes.proofs.AskedLemmas.{blocks_are, hash_partner, placed_at}
use Rattle.rp_plan.specs.Kept.{first_free, is_kept, kept_files, kept_of, rank_in, slot_in}
use Rattle.rp_plan.specs.Notes.{kind_at, new_note, role_of, root_planned}
use Rattle.rp_plan.specs.Plannable.{IsGiven}
use Rattle.rp_plan.proofs.Counted.{files_are, files_length}
use Rattle.rp_plan.proofs.KeptLemmas.{and_both}
use Rattle.rp_plan.proofs.Parts.{IsMadeOf}
use Rattle.rp_plan.proofs.Ready.{new_want}
use Rattle.rp_plan.proofs.Searching.{position_here}
use Rattle.rp_plan.proofs.Written.{is_asked, kept_spot, spots}

entries_rise : {X : Type 0} (xs : List X) → AllPairs (λ (a b : ℕ × X). a.0 < b.0) (enumerate_from 0 xs)
entries_rise xs i j d before below =
    let l : j < length xs = omega (arith, below, length-enumerate_from 0 xs) in
    let a = ap (λ e. e.0) (get_or-enumerate_from 0 xs i d (omega (arith, before, l))) in
    let b = ap (λ e. e.0) (get_or-enumerate_from 0 xs j d l) in
    omega (arith, a, b, before)

kept_rise : (matched : List (Option ℕ)) (t : ℤ) (defs : List Definition) → AllPairs (λ (a b : ℕ × Definition). a.0 < b.0) (kept_of matched t defs)
kept_rise matched t defs = AllPairs-filter (λ (a b : ℕ × Definition). a.0 < b.0) (is_kept matched t) (enumerate_from 0 defs) (entries_rise defs)

here_index : {X : Type 0} (p : X → Bool) (b : Bool) (x : X) (xs : List X) → p x ≡ b → p x ≡ true → (r : ℕ) × (slice_get (cond b (x ∷ xs) xs) r ≡ Some x)
here_index p true x xs test is = (0, refl)
here_index p false x xs test is = absurd (cc)

past_index : {X : Type 0} (b : Bool) (x y : X) (xs : List X) (r : ℕ) → slice_get xs r ≡ Some y → (i : ℕ) × (slice_get (cond b (x ∷ xs) xs) i ≡ Some y)
past_index true x y xs r at = (suc r, at)
past_index false x y xs r at = (r, at)

-- what passes stands among those that pass
filter_index : {X : Type 0} (p : X → Bool) (xs : List X) (i : ℕ) (x : X) → slice_get xs i ≡ Some x → p x ≡ true
    → (r : ℕ) × (slice_get (filter p xs) r ≡ Some x)
filter_index p [] i x at is = let below : i < 0 = slice_get_within [] i x at in absurd (omega (arith, below))
filter_index p (y ∷ ys) zero x at is =
    let same : y ≡ x = cc in
    subst (λ z. (r : ℕ) × (slice_get (filter p (y ∷ ys)) r ≡ Some z)) same (here_index p (p y) y (filter p ys) refl (ap p same ∙ is))
filter_index p (y ∷ ys) (suc i) x at is =
    let found = filter_index p ys i x at is in past_index (p y) y x (filter p ys) found.0 found.1

-- the entry of an item
entry_here : {X : Type 0} (xs : List X) (k : ℕ) (x : X) → slice_get xs k ≡ Some x → slice_get (enumerate_from 0 xs) k ≡ Some (k, x)
entry_here xs k x at =
    let below : k < length xs = slice_get_within xs k x at in
    slice_get-get_or (enumerate_from 0 xs) k (0, x) (omega (arith, below, length-enumerate_from 0 xs)) ∙ ap (λ e. Some e) (placed_at xs k x at)

-- where a kept definition stands among those that are kept
pub kept_index : (matched : List (Option ℕ)) (t : ℤ) (defs : List Definition) (k : ℕ) (def : Definition) → slice_get defs k ≡ Some def
    → is_kept matched t (k, def) ≡ true → (r : ℕ) × (slice_get (kept_of matched t defs) r ≡ Some (k, def))
kept_index matched t defs k def at is = filter_index (is_kept matched t) (enumerate_from 0 defs) k (k, def) (entry_here defs k def at) is

module _ (matched : List (Option ℕ)) (t : ℤ) (defs : List Definition) where
  file_at : (k x : ℕ) (e : ℕ × Definition) → k < length (kept_of matched t defs)
      → get_or (kept_files matched t defs) k x ≡ (get_or (kept_of matched t defs) k e).0
  file_at k x e below = ap (λ fs. get_or fs k x) (files_are matched t defs)
      ∙ get_or-map (λ (e : ℕ × Definition). e.0) (kept_of matched t defs) k e x below

  -- as many kept ones stand before it as its place says
  pub rank_is : (j : ℕ) (e : ℕ × Definition) → slice_get (kept_of matched t defs) j ≡ Some e → rank_in (kept_files matched t defs) e.0 ≡ Some j
  rank_is j e at =
      let below : j < length (kept_of matched t defs) = slice_get_within (kept_of matched t defs) j e at in
      let own : (get_or (kept_of matched t defs) j e).0 ≡ e.0 = ap (λ (x : ℕ × Definition). x.0) (get_or_from_slice_get (kept_of matched t defs) j e e at) in
      sym (position_here (λ k. k == e.0) (kept_files matched t defs) j 0 (omega (arith, below, files_length matched t defs))
      (λ k x less. ne_eqb (get_or (kept_files matched t defs) k x) e.0 (λ same.
      omega (arith, same, own, file_at k x e (omega (arith, less, below)), kept_rise matched t defs k j e less below)))
      (eq-eqb (get_or (kept_files matched t defs) j 0) e.0 (file_at j 0 e below ∙ own)))

  pub slot_is : (free j : ℕ) (e : ℕ × Definition) → slice_get (kept_of matched t defs) j ≡ Some e → slot_in free (kept_files matched t defs) e.0 ≡ free + j
  slot_is free j e at = ap (λ o. option_map_or (λ r. free + r) o free) (rank_is j e at)

module _ (seen : Seen) (target : ℕ) (defs : List Definition) (facts : List Fact) (seed : Guid) (areas : List Area) (placed : Placed) (plan : Plan)
    (given : IsGiven seen target defs (matched_of seen.shown defs)) (made : IsMadeOf seen target defs facts seed areas placed plan) where
  abbrev own : List (Option ℕ)
  own = matched_of seen.shown defs

  abbrev pub note_on : ℕ → ℕ → Definition → Note
  note_on j k def = new_note seed defs facts (first_free seen.shown.rows) (kept_files (matched_of seen.shown defs) placed.threshold defs)
      (first_free seen.shown.rows + j, (k, def))

  data_size : (k h : ℕ) (def : Definition) (s : Spot) → slice_get defs k ≡ Some def → is_kept own placed.threshold (k, def) ≡ true → def.verity ≡ Data h
      → spot_at (spots seen target defs facts seed areas placed plan given made) k ≡ Some s
      → (s.size ≡ 8 * blocks_at defs facts k)
  data_size k h def s at kept half found =
      let new = (and_both (is_new own k) (int_le def.priority placed.threshold) kept).0 in
      let lain = kept_spot seen target defs facts seed areas placed plan given made k def at kept in
      let same : lain.0 ≡ s = cc in
      let is = lain.2 in
      let want = new_want seen target defs facts own (asked own defs facts) (is_asked seen target defs facts seed areas placed plan given made) k def at new
      ∙ ap (λ v. sized v (least_by defs facts (k, def) v) def.want) half in
      let least = ap (λ (w : Want). w.min) want in
      let most = ap (λ (w : Want). w.max) want in
      let blocks = blocks_are defs facts k def at in
      let size : lain.0.size ≡ 8 * blocks_at defs facts k = omega (arith, is.min, is.kind.whole, is.kind.most, least, most, blocks) in
      subst (λ (s : Spot). s.size ≡ 8 * blocks_at defs facts k) same size

  hash_size : (k h : ℕ) (def : Definition) (s : Spot) → slice_get defs h ≡ Some def → is_kept own placed.threshold (h, def) ≡ true → def.verity ≡ Hash k
      → spot_at (spots seen target defs facts seed areas placed plan given made) h ≡ Some s
      → 8 * hash_blocks (blocks_at defs facts k) ≤ s.size
  hash_size k h def s at kept half found =
      let new = (and_both (is_new own h) (int_le def.priority placed.threshold) kept).0 in
      let lain = kept_spot seen target defs facts seed areas placed plan given made h def at kept in
      let same : lain.0 ≡ s = cc in
      let is = lain.2 in
      let want = new_want seen target defs facts own (asked own defs facts) (is_asked seen target defs facts seed areas placed plan given made) h def at new
      ∙ ap (λ v. sized v (least_by defs facts (h, def) v) def.want) half in
      let least = ap (λ (w : Want). w.min) want in
      let few = (hash_partner own defs facts given.well_formed made.none h k def at new half).1 in
      let all : min (blocks_at defs facts k) (2 ^ 32) ≡ blocks_at defs facts k = omega (arith, few) in
      let tree = ap hash_blocks all in
      let size : 8 * hash_blocks (blocks_at defs facts k) ≤ lain.0.size = omega (arith, is.min, is.kind.whole, least, tree) in
      subst (λ (s : Spot). 8 * hash_blocks (blocks_at defs facts k) ≤ s.size) same size

  -- the rows of two halves that are kept, with their notes, are a pair
  pub is_pair : (j r k h : ℕ) (def other : Definition) (a b : Row) (s u : Spot)
      → slice_get (kept_of own placed.threshold defs) j ≡ Some (k, def) → slice_get (kept_of own placed.threshold defs) r ≡ Some (h, other)
      → slice_get defs k ≡ Some def → slice_get defs h ≡ Some other
      → is_kept own placed.threshold (k, def) ≡ true → is_kept own placed.threshold (h, other) ≡ true
      → def.verity ≡ Data h → other.verity ≡ Hash k
      → spot_at (spots seen target defs facts seed areas placed plan given made) k ≡ Some s
      → spot_at (spots seen target defs facts seed areas placed plan given made) h ≡ Some u → a.size ≡ s.size → b.size ≡ u.size
      → IsPair (a, note_on j k def) (b, note_on r h other)
  is_pair j r k h def other a b s u in_j in_r at_k at_h kept_k kept_h half_k half_h found_k found_h size_a size_b =
      let free = first_free seen.shown.rows in
      let files = kept_files own placed.threshold defs in
      let blocks = size_a ∙ data_size k h def s at_k kept_k half_k found_k in
      let tree = hash_size k h other u at_h kept_h half_h found_h in
      let count : a.size / 8 ≡ blocks_at defs facts k = omega (arith, blocks) in
      record {
        new = (refl, refl);
        whole = omega (arith, blocks);
        room = rw (count, size_b) tree;
        payload_role = (
          root_planned facts k,
          ap (role_of seed defs facts free files k) half_k
              ∙ ap (λ n. roles.Data n (root_planned facts k)) (slot_is own placed.threshold defs free r (h, other) in_r),
        );
        hash_role = (
          salt_of seed (kind_at defs k),
          super_id seed (kind_at defs k),
          root_planned facts k,
          ap (role_of seed defs facts free files h) half_h
              ∙ ap (λ n. roles.Hash n (blocks_at defs facts k) (salt_of seed (kind_at defs k)) (super_id seed (kind_at defs k)) (root_planned facts k))
              (slot_is own placed.threshold defs free j (k, def) in_j)
              ∙ ap (λ n. roles.Hash (free + j) n (salt_of seed (kind_at defs k)) (super_id seed (kind_at defs k)) (root_planned facts k)) (sym count),
        );
      }
