-- Drafts with their joints are definitions, and what a search for one without a pair says.
use Rattle.std.proofs.Common.{◌≡◌, ℕ, ◌+◌, ◌<◌, min, Bool, false, List, [], ◌∷◌, ◌++◌, length, get_or, take, map, Result, Ok, Err, ℤ}
use Rattle.std.proofs.Common.{Option, Some, None, refl, ap, sym, ◌∙◌, inl, inr, arith}
use Rattle.std.specs.Prelude.{find, not, is_err, OnOk}
use Rattle.std.specs.List.{zip}
use Rattle.std.proofs.lemmas.List.{map_more, get_or-map}
use Rattle.std.proofs.lemmas.Slice.Zip.{get_or-zip, length-zip}
use Rattle.rp_defs.specs.declared.definition.Definition.{Definition}
use Rattle.rp_defs.specs.declared.definition.Verity.{Verity}
use Rattle.rp_defs.specs.declared.definition.Verity.TheVariants as verity
use Rattle.rp_defs.specs.declared.draft.Draft.{Draft}
use Rattle.rp_defs.specs.declared.draft.Half.{Half}
use Rattle.rp_defs.specs.declared.draft.Half.TheVariants.{Off, Data, Hash}
use Rattle.rp_defs.specs.declared.fault.DefFault.{DefFault}
use Rattle.rp_defs.specs.declared.pairs.Joint.{Joint}
use Rattle.rp_base.specs.Answers.{Gives}
use Rattle.rp_defs.specs.Faults.{no_memory, IsFault}
use Rattle.rp_defs.specs.Joints.{joint_of, pair_fault}
use Rattle.rp_defs.specs.Pairs.{paired, definition_of, is_joined, place_of, shared_priority}
use Rattle.rp_defs.specs.Partner.{with_partner}

abbrev pub joint : Verity → ℤ → Joint
joint half priority = record { verity = half; priority = priority }

-- a draft with its joint
abbrev pub joined : Draft → Joint → Definition
joined draft own = with_partner draft.definition own.verity own.priority

joined_parts : (drafts : List Draft) (definition : Definition) (half : Half) (key : Option (List ℕ)) →
    (λ (draft : Draft). joined draft (joint_of drafts draft) ≡ definition_of drafts draft)
    (record { definition = definition; half = half; match_key = key })
joined_parts drafts definition Off key = refl
joined_parts drafts definition Data key = refl
joined_parts drafts definition Hash key = refl

pub joined_is : (drafts : List Draft) (draft : Draft) → joined draft (joint_of drafts draft) ≡ definition_of drafts draft
joined_is drafts draft = joined_parts drafts draft.definition draft.half draft.match_key

-- the joints by half
pub joint_off : (drafts : List Draft) (draft : Draft) (priority : ℤ) → draft.half ≡ Off → priority ≡ draft.definition.priority
    → joint (draft.definition.verity) priority ≡ joint_of drafts draft
joint_off drafts draft priority half same = rw half (ap (joint draft.definition.verity) same)

pub joint_data : (drafts : List Draft) (draft : Draft) (place : ℕ) (priority : ℤ) → draft.half ≡ Data → place ≡ place_of drafts Hash draft
    → priority ≡ shared_priority drafts place draft
    → joint (verity.Data place) priority ≡ joint_of drafts draft
joint_data drafts draft place priority half there same =
    rw half (ap (λ n. joint (verity.Data n) priority) there
    ∙ ap (joint (verity.Data (place_of drafts Hash draft))) (same ∙ ap (λ n. shared_priority drafts n draft) there))

pub joint_hash : (drafts : List Draft) (draft : Draft) (place : ℕ) (priority : ℤ) → draft.half ≡ Hash → place ≡ place_of drafts Data draft
    → priority ≡ shared_priority drafts place draft
    → joint (verity.Hash place) priority ≡ joint_of drafts draft
joint_hash drafts draft place priority half there same =
    rw half (ap (λ n. joint (verity.Hash n) priority) there
    ∙ ap (joint (verity.Hash (place_of drafts Data draft))) (same ∙ ap (λ n. shared_priority drafts n draft) there))

-- one more definition
pub definitions_more : (drafts : List Draft) (joints : List Joint) (n : ℕ) (draft : Draft) (own : Joint) (list after : List Definition)
    → joints ≡ map (joint_of drafts) drafts
    → n < length drafts → draft ≡ get_or drafts n draft → own ≡ get_or joints n own → list ≡ map (definition_of drafts) (take n drafts)
    → after ≡ list ++ joined draft own ∷ [] → after ≡ map (definition_of drafts) (take (n + 1) drafts)
definitions_more drafts joints n draft own list after joints_are within drawn taken so_far pushed =
    let same_joint : own ≡ joint_of drafts draft =
    taken ∙ ap (λ js. get_or js n own) joints_are ∙ get_or-map (joint_of drafts) drafts n draft own within
    ∙ ap (joint_of drafts) (sym drawn) in
    pushed ∙ ap (λ ds. ds ++ joined draft own ∷ []) so_far
    ∙ ap (λ d. map (definition_of drafts) (take n drafts) ++ d ∷ [])
    (ap (joined draft) same_joint ∙ joined_is drafts draft ∙ ap (definition_of drafts) drawn)
    ∙ sym (map_more (definition_of drafts) drafts n draft within)

-- one more definition, of a draft that comes with its joint
pub definitions_turn : (drafts : List Draft) (joints : List Joint) (n : ℕ) (draft : Draft) (own : Joint) (list after : List Definition)
    → joints ≡ map (joint_of drafts) drafts
    → n < length (zip drafts joints) → (draft, own) ≡ get_or (zip drafts joints) n (draft, own)
    → list ≡ map (definition_of drafts) (take n drafts)
    → after ≡ list ++ joined draft own ∷ [] → after ≡ map (definition_of drafts) (take (n + 1) drafts)
definitions_turn drafts joints n draft own list after joints_are within turn so_far pushed =
    let size : length (zip drafts joints) ≡ min (length drafts) (length joints) = length-zip drafts joints in
    let below : n < length drafts = omega (arith, size) in
    let both : (draft, own) ≡ (get_or drafts n draft, get_or joints n own) = turn
    ∙ get_or-zip drafts joints n (draft, own) below (omega (arith, size)) in
    definitions_more drafts joints n draft own list after joints_are below (ap (λ (p : Draft × Joint). p.0) both)
    (ap (λ (p : Draft × Joint). p.1) both) so_far pushed

-- one more joint
pub joints_more : (drafts : List Draft) (joints after : List Joint) (n : ℕ) (draft : Draft) (own : Joint) → n < length drafts
    → draft ≡ get_or drafts n draft
    → joints ≡ map (joint_of drafts) (take n drafts) → own ≡ joint_of drafts draft → after ≡ joints ++ own ∷ []
    → after ≡ map (joint_of drafts) (take (n + 1) drafts)
joints_more drafts joints after n draft own within drawn so_far is pushed =
    pushed ∙ ap (λ js. js ++ own ∷ []) so_far ∙ ap (λ j. map (joint_of drafts) (take n drafts) ++ j ∷ []) (is ∙ ap (joint_of drafts) drawn)
    ∙ sym (map_more (joint_of drafts) drafts n draft within)

-- what a push that succeeded left
pub pushed_ok : {T E : Type 0} (r : Result T E) (P : Type 0) → is_err r ≡ false → OnOk r P → P
pushed_ok (Ok x) P h p = p
pushed_ok (Err e) P h p = absurd (cc)

-- a draft that isn't joined
abbrev pub is_unjoined : List Draft → Draft → Bool
is_unjoined drafts draft = not (is_joined drafts draft)

pub paired_all : (drafts : List Draft) → find (is_unjoined drafts) drafts ≡ None → paired drafts ≡ Ok (map (definition_of drafts) drafts)
unfolding paired
paired_all drafts none = rw none refl

pub paired_fault : (drafts : List Draft) (draft : Draft) → find (is_unjoined drafts) drafts ≡ Some draft
    → paired drafts ≡ Err (pair_fault draft)
unfolding paired
paired_fault drafts draft found = rw found refl

-- the fault of the first half that has no pair
pub fault_gives : (drafts : List Draft) (draft : Draft) (fault : DefFault) → find (is_unjoined drafts) drafts ≡ Some draft
    → IsFault (pair_fault draft) fault
    → Gives no_memory (paired drafts) (Err fault)
fault_gives drafts draft fault found is = elim is [
  | inl same ↦ inl (ap Err same ∙ sym (paired_fault drafts draft found))
  | inr none ↦ inr (ap Err none)
]

paired_found : (drafts : List Draft) (list : List Definition) (found : Option Draft) → find (is_unjoined drafts) drafts ≡ found
    → paired drafts ≡ Ok list
    → (find (is_unjoined drafts) drafts ≡ None) × (list ≡ map (definition_of drafts) drafts)
paired_found drafts list None is ok = let all = paired_all drafts is in (is, cc)
paired_found drafts list (Some draft) is ok = let fault = paired_fault drafts draft is in absurd (cc)

-- definitions that are paired: each draft is joined
pub paired_ok : (drafts : List Draft) (list : List Definition) → paired drafts ≡ Ok list → (find (is_unjoined drafts) drafts ≡ None)
    × (list ≡ map (definition_of drafts) drafts)
paired_ok drafts list ok = paired_found drafts list (find (is_unjoined drafts) drafts) refl ok
