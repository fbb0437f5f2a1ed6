-- A paired list is well formed: partners are there, and name each other.
use Rattle.std.proofs.Common.{◌≡◌, ℕ, ◌≤◌, Bool, true, false, ◌&&◌, List, length, get_or, map, count_by, ℤ, Result, Ok, Err, Option, Some}
use Rattle.std.proofs.Common.{None, refl, ap, sym, subst, ◌∙◌, arith, inl, inr, eqb}
use Rattle.std.specs.Prelude.{find, not, slice_get, All, IfOk, IsSome, IsNone, is_some}
use Rattle.std.specs.List.{position_or_len}
use Rattle.std.specs.Option.{option_map, option_map_or}
use Rattle.std.specs.Str.{bytes_eq}
use Rattle.std.specs.Cmp.Lexicographic.{same_text}
use Rattle.std.proofs.lemmas.Bool.{eqb-true}
use Rattle.std.proofs.lemmas.Int.{ints}
use Rattle.std.proofs.lemmas.List.{length-map}
use Rattle.std.proofs.lemmas.List.Elements.{All-map, All-weaker}
use Rattle.std.proofs.lemmas.List.Sums.{passes_at_first}
use Rattle.std.proofs.lemmas.Option.{slice_get-map, slice_get_within, slice_get-get_or, get_or_from_slice_get}
use Rattle.rp_ini.proofs.LineLemmas.{same_bytes}
use Rattle.rp_base.specs.Answers.{Gives}
use Rattle.rp_defs.specs.declared.definition.Definition.{Definition}
use Rattle.rp_defs.specs.declared.definition.Verity.TheVariants as verity
use Rattle.rp_defs.specs.declared.draft.Draft.{Draft}
use Rattle.rp_defs.specs.declared.draft.Half.{Half}
use Rattle.rp_defs.specs.declared.draft.Half.TheVariants.{Off, Data, Hash}
use Rattle.rp_defs.specs.declared.fault.DefFault.{DefFault}
use Rattle.rp_defs.specs.Faults.{no_memory}
use Rattle.rp_defs.specs.Pairs.{paired, definition_of, is_half, is_joined, is_pair, same_half, shared_priority}
use Rattle.rp_defs.specs.Partner.{greater}
use Rattle.rp_defs.specs.SoundDraft.{IsSoundDraft}
use Rattle.rp_defs.specs.WellFormed.{IsSized, IsSound, IsPair, HasPartner, IsWellFormed}
use Rattle.rp_defs.proofs.Counted.{only_place, place_there, each_passes}
use Rattle.rp_defs.proofs.PairLemmas.{is_unjoined, paired_ok}

-- a draft with a key
abbrev keyed : Definition → Half → List ℕ → Draft
keyed definition half key = record { definition = definition; half = half; match_key = Some key }

and_true : (a b : Bool) → (a && b) ≡ true → (a ≡ true) × (b ≡ true)
and_true true b h = (refl, h)
and_true false b h = absurd (cc)

same_half_true : (a b : Half) → same_half a b ≡ true → a ≡ b
same_half_true Off Off h = refl
same_half_true Off Data h = absurd (cc)
same_half_true Off Hash h = absurd (cc)
same_half_true Data Off h = absurd (cc)
same_half_true Data Data h = refl
same_half_true Data Hash h = absurd (cc)
same_half_true Hash Off h = absurd (cc)
same_half_true Hash Data h = absurd (cc)
same_half_true Hash Hash h = refl

key_true : (key : List ℕ) (own : Option (List ℕ)) → option_map_or (bytes_eq key) own false ≡ true → own ≡ Some key
key_true key None h = absurd (cc)
key_true key (Some own) h = ap Some (sym (same_text key own (sym h)))

-- a draft that is a half of the pair of a key
pub half_true : (half : Half) (key : List ℕ) (draft : Draft) → is_half half key draft ≡ true → draft ≡ keyed draft.definition half key
half_true half key draft h =
    let parts = and_true (same_half half draft.half) (option_map_or (bytes_eq key) draft.match_key false) h in
    let with_half : Half → Draft = λ half. record { definition = draft.definition; half = half; match_key = draft.match_key } in
    let with_key : Option (List ℕ) → Draft = λ key. record { definition = draft.definition; half = half; match_key = key } in
    ap with_half (sym (same_half_true half draft.half parts.0)) ∙ ap with_key (key_true key draft.match_key parts.1)

data_is_half : (definition : Definition) (key : List ℕ) → is_half Data key (keyed definition Data key) ≡ true
data_is_half definition key = same_bytes key

hash_is_half : (definition : Definition) (key : List ℕ) → is_half Hash key (keyed definition Hash key) ≡ true
hash_is_half definition key = same_bytes key

greater_same : (a b : ℤ) → greater a b ≡ greater b a
greater_same a b = grind (arith, ints)

-- exactly one data definition and one hash definition have the key
pub record HasPair (drafts : List Draft) (key : List ℕ) : Type 0 where
  pub data_one : count_by (is_half Data key) drafts ≡ 1
  pub hash_one : count_by (is_half Hash key) drafts ≡ 1

pair_is : (drafts : List Draft) (key : List ℕ) → is_pair drafts key ≡ true → HasPair drafts key
pair_is drafts key h =
    let parts = and_true (eqb (count_by (is_half Data key) drafts) 1) (eqb (count_by (is_half Hash key) drafts) 1) h in
    record { data_one = eqb-true _ 1 parts.0; hash_one = eqb-true _ 1 parts.1 }

-- what is joined as data or as hash has a key with a pair
pub record IsJoinedBy (drafts : List Draft) (own : Option (List ℕ)) (key : List ℕ) : Type 0 where
  pub named : own ≡ Some key
  pub pair : HasPair drafts key

keyed_pair : (drafts : List Draft) (own : Option (List ℕ)) → option_map_or (is_pair drafts) own false ≡ true → (key : List ℕ)
    × IsJoinedBy drafts own key
keyed_pair drafts None h = absurd (cc)
keyed_pair drafts (Some key) h = (key, record { named = refl; pair = pair_is drafts key h })

joined_data : (drafts : List Draft) (definition : Definition) (own : Option (List ℕ))
    → is_joined drafts (record { definition = definition; half = Data; match_key = own }) ≡ true
    → ((key : List ℕ) × IsJoinedBy drafts own key) × IsSome definition.source
unfolding is_joined
joined_data drafts definition own h =
    let parts = and_true (option_map_or (is_pair drafts) own false) (is_some definition.source) h in
    (keyed_pair drafts own parts.0, parts.1)

not_true : (b : Bool) → not b ≡ true → b ≡ false
not_true true h = absurd (cc)
not_true false h = refl

joined_hash : (drafts : List Draft) (definition : Definition) (own : Option (List ℕ))
    → is_joined drafts (record { definition = definition; half = Hash; match_key = own }) ≡ true
    → ((key : List ℕ) × IsJoinedBy drafts own key) × IsNone definition.source
unfolding is_joined
joined_hash drafts definition own h =
    let parts = and_true (option_map_or (is_pair drafts) own false) (not (is_some definition.source)) h in
    (keyed_pair drafts own parts.0, not_true (is_some definition.source) parts.1)

-- the halves of a pair at their places name each other
pair_at : (drafts : List Draft) (key : List ℕ) (i j : ℕ) (a b : Definition) → slice_get drafts i ≡ Some (keyed a Data key)
    → slice_get drafts j ≡ Some (keyed b Hash key)
    → position_or_len (is_half Data key) drafts ≡ i → position_or_len (is_half Hash key) drafts ≡ j → IsSome a.source → IsNone b.source
    → IsPair i j (definition_of drafts (keyed a Data key)) (definition_of drafts (keyed b Hash key))
pair_at drafts key i j a b at_i at_j by_data by_hash source no_source =
    let shared : Definition → Option Draft
    → ℤ = λ own other. option_map_or (λ (d : Draft). greater own.priority d.definition.priority) other own.priority in
    let of_data : shared_priority drafts (position_or_len (is_half Hash key) drafts) (keyed a Data key) ≡ greater a.priority b.priority =
    ap (λ n. shared a (slice_get drafts n)) by_hash ∙ ap (shared a) at_j in
    let of_hash : shared_priority drafts (position_or_len (is_half Data key) drafts) (keyed b Hash key) ≡ greater b.priority a.priority =
    ap (λ n. shared b (slice_get drafts n)) by_data ∙ ap (shared b) at_i in
    record {
      data_names = ap verity.Data by_hash;
      hash_names = ap verity.Hash by_data;
      priority = of_data ∙ greater_same a.priority b.priority ∙ sym of_hash;
      source = source;
      no_source = no_source;
    }

-- the draft at the place of a half
half_at : (drafts : List Draft) (half : Half) (key : List ℕ) (d : Draft) → count_by (is_half half key) drafts ≡ 1
    → (definition : Definition) × (slice_get drafts (position_or_len (is_half half key) drafts) ≡ Some (keyed definition half key))
half_at drafts half key d one =
    let there = place_there (is_half half key) drafts one in
    let draft : Draft = get_or drafts (position_or_len (is_half half key) drafts) d in
    let is : draft ≡ keyed draft.definition half key = half_true half key draft (passes_at_first (is_half half key) drafts d there) in
    (draft.definition, slice_get-get_or drafts (position_or_len (is_half half key) drafts) d there ∙ ap Some is)

-- each draft is joined
abbrev AreJoined : List Draft → Type 0
AreJoined drafts = (i : ℕ) (draft : Draft) → slice_get drafts i ≡ Some draft → is_joined drafts draft ≡ true

joined_at : (drafts : List Draft) → find (is_unjoined drafts) drafts ≡ None → AreJoined drafts
joined_at drafts none i draft at =
    subst (λ d. is_joined drafts d ≡ true) (get_or_from_slice_get drafts i draft draft at)
    (each_passes (is_joined drafts) drafts i draft none (slice_get_within drafts i draft at))

place_is : (drafts : List Draft) (half : Half) (key : List ℕ) (i : ℕ) (draft : Draft) → slice_get drafts i ≡ Some draft
    → count_by (is_half half key) drafts ≡ 1
    → is_half half key draft ≡ true → position_or_len (is_half half key) drafts ≡ i
place_is drafts half key i draft at one passes =
    only_place (is_half half key) drafts i draft one (slice_get_within drafts i draft at)
    (ap (is_half half key) (get_or_from_slice_get drafts i draft draft at) ∙ passes)

at_map : (drafts : List Draft) (i : ℕ) (draft : Draft) → slice_get drafts i ≡ Some draft
    → slice_get (map (definition_of drafts) drafts) i ≡ Some (definition_of drafts draft)
at_map drafts i draft at = slice_get-map (definition_of drafts) drafts i ∙ ap (option_map (definition_of drafts)) at

data_partner : (drafts : List Draft) (i : ℕ) (a : Definition) (own : Option (List ℕ)) → AreJoined drafts
    → slice_get drafts i ≡ Some (record { definition = a; half = Data; match_key = own })
    → (λ (x : Draft). HasPartner (map (definition_of drafts) drafts) i (definition_of drafts x) (definition_of drafts x).verity)
    (record { definition = a; half = Data; match_key = own })
data_partner drafts i a own joined at =
    let by_key = joined_data drafts a own (joined i _ at) in
    let key : List ℕ = by_key.0.0 in
    let pair : HasPair drafts key = by_key.0.1.pair in
    let as_keyed : Option (List ℕ) → Draft = λ k. record { definition = a; half = Data; match_key = k } in
    let here : slice_get drafts i ≡ Some (keyed a Data key) = at ∙ ap (λ k. Some (as_keyed k)) by_key.0.1.named in
    let other = half_at drafts Hash key (keyed a Data key) pair.hash_one in
    let j : ℕ = position_or_len (is_half Hash key) drafts in
    let alone = (joined_hash drafts other.0 (Some key) (joined j _ other.1)).1 in
    let found : HasPartner (map (definition_of drafts) drafts) i (definition_of drafts (keyed a Data key))
    (definition_of drafts (keyed a Data key)).verity = (
      definition_of drafts (keyed other.0 Hash key),
      at_map drafts j (keyed other.0 Hash key) other.1,
      pair_at drafts key i j a other.0 here other.1
          (place_is drafts Data key i (keyed a Data key) here pair.data_one (data_is_half a key)) refl by_key.1 alone,
    ) in
    subst (λ k. (λ (x : Draft). HasPartner (map (definition_of drafts) drafts) i (definition_of drafts x) (definition_of drafts x).verity)
    (as_keyed k)) (sym by_key.0.1.named) found

hash_partner : (drafts : List Draft) (j : ℕ) (b : Definition) (own : Option (List ℕ)) → AreJoined drafts
    → slice_get drafts j ≡ Some (record { definition = b; half = Hash; match_key = own })
    → (λ (x : Draft). HasPartner (map (definition_of drafts) drafts) j (definition_of drafts x) (definition_of drafts x).verity)
    (record { definition = b; half = Hash; match_key = own })
hash_partner drafts j b own joined at =
    let by_key = joined_hash drafts b own (joined j _ at) in
    let key : List ℕ = by_key.0.0 in
    let pair : HasPair drafts key = by_key.0.1.pair in
    let as_keyed : Option (List ℕ) → Draft = λ k. record { definition = b; half = Hash; match_key = k } in
    let here : slice_get drafts j ≡ Some (keyed b Hash key) = at ∙ ap (λ k. Some (as_keyed k)) by_key.0.1.named in
    let other = half_at drafts Data key (keyed b Hash key) pair.data_one in
    let i : ℕ = position_or_len (is_half Data key) drafts in
    let source = (joined_data drafts other.0 (Some key) (joined i _ other.1)).1 in
    let found : HasPartner (map (definition_of drafts) drafts) j (definition_of drafts (keyed b Hash key))
    (definition_of drafts (keyed b Hash key)).verity = (
      definition_of drafts (keyed other.0 Data key),
      at_map drafts i (keyed other.0 Data key) other.1,
      pair_at drafts key i j other.0 b other.1 here refl
          (place_is drafts Hash key j (keyed b Hash key) here pair.hash_one (hash_is_half b key)) source by_key.1,
    ) in
    subst (λ k. (λ (x : Draft). HasPartner (map (definition_of drafts) drafts) j (definition_of drafts x) (definition_of drafts x).verity)
    (as_keyed k)) (sym by_key.0.1.named) found

-- what holds of each element holds of the one at a place
pub holds_at : {X : Type 0} (P : X → Type 0) (xs : List X) (i : ℕ) (x : X) → All P xs → slice_get xs i ≡ Some x → P x
holds_at P xs i x all at = subst P (get_or_from_slice_get xs i x x at) (all i x (slice_get_within xs i x at))

partner_parts : (drafts : List Draft) (i : ℕ) (a : Definition) (half : Half) (own : Option (List ℕ)) → AreJoined drafts
    → slice_get drafts i ≡ Some (record { definition = a; half = half; match_key = own })
    → a.verity ≡ verity.Off
    → (λ (x : Draft). HasPartner (map (definition_of drafts) drafts) i (definition_of drafts x) (definition_of drafts x).verity)
    (record { definition = a; half = half; match_key = own })
partner_parts drafts i a Off own joined at alone = subst (HasPartner (map (definition_of drafts) drafts) i a) (sym alone) tt
partner_parts drafts i a Data own joined at alone = data_partner drafts i a own joined at
partner_parts drafts i a Hash own joined at alone = hash_partner drafts i a own joined at

partners_of : (drafts : List Draft) (i : ℕ) (definition : Definition) (o : Option Draft) → AreJoined drafts → All IsSoundDraft drafts
    → slice_get drafts i ≡ o
    → option_map (definition_of drafts) o ≡ Some definition → HasPartner (map (definition_of drafts) drafts) i definition definition.verity
partners_of drafts i definition None joined sound at is = absurd (cc)
partners_of drafts i definition (Some draft) joined sound at is =
    let same : definition_of drafts draft ≡ definition = cc in
    let alone = (holds_at IsSoundDraft drafts i draft sound at).alone in
    subst (λ d. HasPartner (map (definition_of drafts) drafts) i d d.verity) same
    (partner_parts drafts i draft.definition draft.half draft.match_key joined at alone)

sound_parts : (drafts : List Draft) (a : Definition) (half : Half) (own : Option (List ℕ))
    → IsSoundDraft (record { definition = a; half = half; match_key = own })
    → (λ (x : Draft). IsSound (definition_of drafts x)) (record { definition = a; half = half; match_key = own })
sound_parts drafts a Off own s = record {
  used = s.used;
  want = s.want;
  label = s.label;
  sized = subst (λ v. IsSized v a) (sym s.alone) s.sized;
}
sound_parts drafts a Data own s = record { used = s.used; want = s.want; label = s.label; sized = s.sized }
sound_parts drafts a Hash own s = record { used = s.used; want = s.want; label = s.label; sized = s.sized }

sound_definition : (drafts : List Draft) (draft : Draft) → IsSoundDraft draft → IsSound (definition_of drafts draft)
sound_definition drafts draft s = sound_parts drafts draft.definition draft.half draft.match_key s

well_formed_all : (drafts : List Draft) → length drafts ≤ 256 → All IsSoundDraft drafts → find (is_unjoined drafts) drafts ≡ None
    → IsWellFormed (map (definition_of drafts) drafts)
well_formed_all drafts few sound none = record {
  few = omega (arith, few, length-map drafts (definition_of drafts));
  each = All-map IsSound (definition_of drafts) drafts
      (All-weaker IsSoundDraft (λ d. IsSound (definition_of drafts d)) (sound_definition drafts) drafts sound);
  partners = λ i definition at. partners_of drafts i definition (slice_get drafts i) (joined_at drafts none) sound refl
      (sym (slice_get-map (definition_of drafts) drafts i) ∙ at);
}

-- definitions of sound drafts that are paired are well formed
pub well_formed : (drafts : List Draft) (list : List Definition) → length drafts ≤ 256 → All IsSoundDraft drafts → paired drafts ≡ Ok list
    → IsWellFormed list
well_formed drafts list few sound ok =
    let all = paired_ok drafts list ok in
    subst IsWellFormed (sym all.1) (well_formed_all drafts few sound all.0)

-- so is what gives them
pub gives_well_formed : (drafts : List Draft) (result : Result (List Definition) DefFault) → length drafts ≤ 256 → All IsSoundDraft drafts
    → Gives no_memory (paired drafts) result
    → IfOk result IsWellFormed
gives_well_formed drafts (Err fault) few sound gives = tt
gives_well_formed drafts (Ok list) few sound gives = elim gives [
  | inl is ↦ well_formed drafts list few sound (sym is)
  | inr is ↦ absurd (cc)
]

-- the definitions that are left where all drafts are joined
pub gives_paired : (drafts : List Draft) (all : List Definition) (result : Result (List Definition) DefFault) → paired drafts ≡ Ok all
    → Gives no_memory (Ok all) result → Gives no_memory (paired drafts) result
gives_paired drafts all result is gives = elim gives [
  | inl same ↦ inl (same ∙ sym is)
  | inr none ↦ inr none
]
