-- The pairs of drafts are those of what is stated.
use Rattle.std.proofs.Common.{◌≡◌, ℕ, ◌+◌, List, [], ◌∷◌, Bool, false, ◌&&◌, ◌==◌, cond, not, Option, Some, None, Ok, map, refl}
use Rattle.std.proofs.Common.{ap, sym, ◌∙◌}
use Rattle.std.specs.Prelude.{count_by, find, option_map, slice_get}
use Rattle.std.specs.List.{position_or_len}
use Rattle.std.specs.Option.{option_map_or, is_some, is_none}
use Rattle.std.specs.Str.{bytes_eq}
use Rattle.std.proofs.lemmas.List.Sums.{sum_by-cons}
use Rattle.std.proofs.lemmas.Option.{slice_get-map}
use Rattle.rp_types.proofs.Finding.{find-map}
use Rattle.rp_defs.specs.declared.definition.Definition.{Definition}
use Rattle.rp_defs.specs.declared.definition.Verity.TheVariants as verity
use Rattle.rp_defs.specs.declared.draft.Draft.{Draft}
use Rattle.rp_defs.specs.Halves.{same_half, is_half, is_pair, is_joined, place_of, shared_priority, joined, unless_alone, paired}
use Rattle.rp_defs.specs.Pairs as kept
use Rattle.rp_defs.specs.Partner.{greater, with_partner}
use Rattle.rp_defs.specs.Said.{Half, Off, Data, Hash}
use Rattle.rp_defs.specs.Stated.{Stated}
use Rattle.rp_defs.specs.Values.{half_kept}
use Rattle.rp_defs.proofs.PairLemmas.{is_unjoined, paired_all, paired_fault}
use Rattle.rp_defs.proofs.TiedDraft.{draft_kept}

half_same : (a b : Half) → kept.same_half (half_kept a) (half_kept b) ≡ same_half a b
half_same Off Off = refl
half_same Off Data = refl
half_same Off Hash = refl
half_same Data Off = refl
half_same Data Data = refl
half_same Data Hash = refl
half_same Hash Off = refl
half_same Hash Data = refl
half_same Hash Hash = refl

half_is : (half : Half) (key : List ℕ) (one : Stated) → kept.is_half (half_kept half) key (draft_kept one) ≡ is_half half key one
half_is half key one = ap (λ b. b && option_map_or (bytes_eq key) one.match_key false) (half_same half one.half)

count_same : {A B : Type 0} (f : A → B) (p : B → Bool) (q : A → Bool) → ((x : A) → p (f x) ≡ q x) → (xs : List A)
    → count_by p (map f xs) ≡ count_by q xs
count_same f p q same [] = refl
count_same {A} {B} f p q same (x ∷ xs) =
    sum_by-cons (λ (y : B). cond (p y) 1 0) (f x) (map f xs)
    ∙ ap (λ b. cond b 1 0 + count_by p (map f xs)) (same x) ∙ ap (λ n. cond (q x) 1 0 + n) (count_same f p q same xs)
    ∙ sym (sum_by-cons (λ (y : A). cond (q y) 1 0) x xs)

place_same : {A B : Type 0} (f : A → B) (p : B → Bool) (q : A → Bool) → ((x : A) → p (f x) ≡ q x) → (xs : List A)
    → position_or_len p (map f xs) ≡ position_or_len q xs
place_same f p q same [] = refl
place_same f p q same (x ∷ xs) =
    ap (λ b. cond (not b) (1 + position_or_len p (map f xs)) 0) (same x) ∙ ap (λ n. cond (not (q x)) (1 + n) 0) (place_same f p q same xs)

find_same : {A : Type 0} (p q : A → Bool) → ((x : A) → p x ≡ q x) → (xs : List A) → find p xs ≡ find q xs
find_same p q same [] = refl
find_same p q same (x ∷ xs) =
    ap (λ b. cond b (Some x) (find p xs)) (same x) ∙ ap (λ o. cond (q x) (Some x) o) (find_same p q same xs)

module _ (all : List Stated) where
  abbrev drafts : List Draft
  drafts = map draft_kept all

  count_is : (half : Half) (key : List ℕ) → count_by (kept.is_half (half_kept half) key) drafts ≡ count_by (is_half half key) all
  count_is half key = count_same draft_kept (kept.is_half (half_kept half) key) (is_half half key) (half_is half key) all

  place_in : (half : Half) (key : List ℕ)
      → position_or_len (kept.is_half (half_kept half) key) drafts ≡ position_or_len (is_half half key) all
  place_in half key = place_same draft_kept (kept.is_half (half_kept half) key) (is_half half key) (half_is half key) all

  pair_is : (key : List ℕ) → kept.is_pair drafts key ≡ is_pair all key
  pair_is key = ap (λ n. (n == 1) && (count_by (kept.is_half (half_kept Hash) key) drafts == 1)) (count_is Data key)
      ∙ ap (λ n. (count_by (is_half Data key) all == 1) && (n == 1)) (count_is Hash key)

  by_key : (key : Option (List ℕ)) → option_map_or (kept.is_pair drafts) key false ≡ option_map_or (is_pair all) key false
  by_key None = refl
  by_key (Some key) = pair_is key

  place_by : (half : Half) (key : Option (List ℕ)) → option_map_or (λ key. position_or_len (kept.is_half (half_kept half) key) drafts) key 0
      ≡ option_map_or (λ key. position_or_len (is_half half key) all) key 0
  place_by half None = refl
  place_by half (Some key) = place_in half key

  shared_by : (one : Stated) (found : Option Stated)
      → option_map_or (λ (other : Draft). greater one.definition.priority other.definition.priority)
      (option_map draft_kept found) one.definition.priority
      ≡ option_map_or (λ (other : Stated). greater one.definition.priority other.definition.priority) found one.definition.priority
  shared_by one None = refl
  shared_by one (Some other) = refl

  shared_is : (place : ℕ) (one : Stated) → kept.shared_priority drafts place (draft_kept one) ≡ shared_priority all place one
  shared_is place one =
      ap (λ (found : Option Draft). option_map_or
      (λ (other : Draft). greater one.definition.priority other.definition.priority) found one.definition.priority)
      (slice_get-map draft_kept all place) ∙ shared_by one (slice_get all place)

  joined_parts : (definition : Definition) (half : Half) (key : Option (List ℕ))
      → (λ (one : Stated). kept.is_joined drafts (draft_kept one) ≡ is_joined all one.half one)
      (record { definition = definition; half = half; match_key = key })
  unfolding kept.is_joined
  joined_parts definition Off key = refl
  joined_parts definition Data key = ap (λ b. b && is_some definition.source) (by_key key)
  joined_parts definition Hash key = ap (λ b. b && is_none definition.source) (by_key key)

  joined_is : (one : Stated) → kept.is_joined drafts (draft_kept one) ≡ is_joined all one.half one
  joined_is one = joined_parts one.definition one.half one.match_key

  definition_parts : (definition : Definition) (half : Half) (key : Option (List ℕ))
      → (λ (one : Stated). kept.definition_of drafts (draft_kept one) ≡ joined all one.half one)
      (record { definition = definition; half = half; match_key = key })
  definition_parts definition Off key = refl
  definition_parts definition Data key =
      let one : Stated = record { definition = definition; half = Data; match_key = key } in
      ap (λ place. with_partner definition (verity.Data place) (kept.shared_priority drafts place (draft_kept one))) (place_by Hash key)
      ∙ ap (with_partner definition (verity.Data (place_of all Hash one))) (shared_is (place_of all Hash one) one)
  definition_parts definition Hash key =
      let one : Stated = record { definition = definition; half = Hash; match_key = key } in
      ap (λ place. with_partner definition (verity.Hash place) (kept.shared_priority drafts place (draft_kept one))) (place_by Data key)
      ∙ ap (with_partner definition (verity.Hash (place_of all Data one))) (shared_is (place_of all Data one) one)

  definition_is : (one : Stated) → kept.definition_of drafts (draft_kept one) ≡ joined all one.half one
  definition_is one = definition_parts one.definition one.half one.match_key

  definitions : (some : List Stated)
      → map (kept.definition_of drafts) (map draft_kept some) ≡ map (λ (one : Stated). joined all one.half one) some
  definitions [] = refl
  definitions (one ∷ some) = ap (λ d. d ∷ map (kept.definition_of drafts) (map draft_kept some)) (definition_is one)
      ∙ ap (λ ds. joined all one.half one ∷ ds) (definitions some)

  found_kept : find (is_unjoined drafts) drafts ≡ option_map draft_kept (find (λ (one : Stated). not (is_joined all one.half one)) all)
  found_kept = find-map draft_kept (is_unjoined drafts) all
      ∙ ap (option_map draft_kept) (find_same _ _ (λ one. ap not (joined_is one)) all)

  by_found : (found : Option Stated) → find (λ (one : Stated). not (is_joined all one.half one)) all ≡ found
      → kept.paired drafts ≡ unless_alone all found
  by_found None is = paired_all drafts (found_kept ∙ ap (option_map draft_kept) is) ∙ ap Ok (definitions all)
  by_found (Some one) is = paired_fault drafts (draft_kept one) (found_kept ∙ ap (option_map draft_kept) is)

  -- the pairs of drafts
  pub paired_is : kept.paired drafts ≡ paired all
  paired_is = by_found (find (λ (one : Stated). not (is_joined all one.half one)) all) refl
