-- What is read is in full.
use Rattle.std.proofs.Common.{inl, inr, subst, ◌≡◌, ◌≢◌, ℕ, zero, suc, ◌+◌, ◌<◌, ◌≤◌, Bool, true, not, ◌&&◌, cond, List, [], ◌∷◌, ◌++◌, length, take, get_or, set, Option, Some, None, Result, Ok, Err, arith, refl, ap, sym, ◌∙◌, get_or-set_other, get_or-set_same, lit<}
use Rattle.std.specs.Prelude.{bit_and, bit_or, codes, find, nat_lt, option_map, replicate, unwrap_or, ◌==◌, IfSome, is_some}
use Rattle.std.specs.List.{list_all, range_with_len, slice_split}
use Rattle.std.specs.Option.{option_map_or}
use Rattle.std.specs.Str.{bytes_eq}
use Rattle.std.proofs.lemmas.Bool.{and_parts, cases_Bool, cases_eq, cases_lt, eq-eqb, ltb-true}
use Rattle.std.proofs.lemmas.Nat.{or_lt}
use Rattle.std.proofs.lemmas.List.{get_or_past, get_or-replicate, get_or-take, length-set, length-take}
use Rattle.std.proofs.lemmas.List.Elements.{All-from_get_or}
use Rattle.rp_policy.specs.declared.policy.Flags.{Flags}
use Rattle.rp_policy.specs.declared.policy.Policy.{Policy}
use Rattle.rp_policy.specs.declared.policy.PolicyFault.{PolicyFault}
use Rattle.rp_policy.specs.declared.policy.PolicyKind.TheVariants.{Repeated, UnknownFlag}
use Rattle.rp_policy.specs.Flags.{AreExpanded, IsExpanded, expanded, ignore_bits, open_bits, state_names, use_names}
use Rattle.rp_policy.specs.Reading.{Entries, bits_named, cut, fault, flags_in, place_of, policy_with, then_set, with_entries, with_entry, with_flags, with_named, with_named_entry, with_parts}

-- whether flags are in full
abbrev pub is_full : ℕ → Bool
is_full flags = (not (bit_and flags 63 == 0) && not (bit_and flags 192 == 192)) && (not (bit_and flags 768 == 768) && nat_lt flags 1024)

no_eqb : (a b : ℕ) → not (a == b) ≡ true → a ≢ b
no_eqb a b is same = let no : not true ≡ true = ap not (sym (eq-eqb a b same)) ∙ is in cc

pub full_of_test : (flags : ℕ) → is_full flags ≡ true → IsExpanded flags
full_of_test flags is =
    let parts = and_parts _ _ is in
    let first = and_parts _ _ parts.0 in
    let second = and_parts _ _ parts.1 in
    record {
      some = no_eqb _ _ first.0;
      read_only = no_eqb _ _ first.1;
      growfs = no_eqb _ _ second.0;
      known = ltb-true _ _ second.1;
    }

-- a test that all numbers of a range pass
pub passes_in : (t : ℕ → Bool) (a n x : ℕ) → list_all t (range_with_len a n) ≡ true → a ≤ x → x < a + n → t x ≡ true
passes_in t a zero x is low high = absurd (omega arith)
passes_in t a (suc n) x is low high =
    let parts = and_parts (t a) (list_all t (range_with_len (a + 1) n)) is in
    elim (cases_lt a x) [
      | inl past ↦ passes_in t (a + 1) n x parts.1 (omega arith) (omega arith)
      | inr here ↦ let same : a ≡ x = omega arith in subst (λ y. t y ≡ true) same parts.0
    ]

full_0 : list_all (λ f. is_full (expanded f)) (range_with_len 0 256) ≡ true
full_0 = refl

full_1 : list_all (λ f. is_full (expanded f)) (range_with_len 256 256) ≡ true
full_1 = refl

full_2 : list_all (λ f. is_full (expanded f)) (range_with_len 512 256) ≡ true
full_2 = refl

full_3 : list_all (λ f. is_full (expanded f)) (range_with_len 768 256) ≡ true
full_3 = refl

-- flags in full are in full
pub expanded_full : (flags : ℕ) → flags < 1024 → IsExpanded (expanded flags)
expanded_full flags below = full_of_test (expanded flags) (elim (cases_lt flags 512) [
  | inl low ↦ elim (cases_lt flags 256) [
    | inl first ↦ passes_in (λ f. is_full (expanded f)) 0 256 flags full_0 (omega arith) (omega arith)
    | inr second ↦ passes_in (λ f. is_full (expanded f)) 256 256 flags full_1 (omega arith) (omega arith)
  ]
  | inr high ↦ elim (cases_lt flags 768) [
    | inl third ↦ passes_in (λ f. is_full (expanded f)) 512 256 flags full_2 (omega arith) (omega arith)
    | inr fourth ↦ passes_in (λ f. is_full (expanded f)) 768 256 flags full_3 (omega arith) (omega arith)
  ]
])

-- the bits of a flag
bits_in : (name : List ℕ) (names : List (List ℕ × ℕ)) (bits : ℕ) → list_all (λ (e : List ℕ × ℕ). nat_lt e.1 1024) names ≡ true
    → option_map (λ (e : List ℕ × ℕ). e.1) (find (λ e. bytes_eq e.0 name) names) ≡ Some bits → bits < 1024
bits_in name [] bits small is = cc
bits_in name (e ∷ es) bits small is =
    let parts = and_parts (nat_lt e.1 1024) (list_all (λ (x : List ℕ × ℕ). nat_lt x.1 1024) es) small in
    elim (cases_Bool (bytes_eq e.0 name)) [
      | inl t ↦
          let here : Some e.1 ≡ Some bits =
          sym (ap (λ b. option_map (λ (x : List ℕ × ℕ). x.1) (cond b (Some e) (find (λ x. bytes_eq x.0 name) es))) t) ∙ is in
          let same : e.1 ≡ bits = cc in
          subst (λ n. n < 1024) same (ltb-true e.1 1024 parts.0)
      | inr t ↦ bits_in name es bits parts.1
          (sym (ap (λ b. option_map (λ (x : List ℕ × ℕ). x.1) (cond b (Some e) (find (λ x. bytes_eq x.0 name) es))) t) ∙ is)
    ]

bits_below : (name : List ℕ) (bits : ℕ) → bits_named name ≡ Some bits → bits < 1024
bits_below name bits is = bits_in name (use_names ++
    (state_names ++ (codes "open", open_bits) ∷ (codes "ignore", ignore_bits) ∷ [])) bits refl is

named_below : (flags at : ℕ) (names : List (List ℕ)) (result : ℕ) → flags < 1024 → with_named flags at names ≡ Ok result → result < 1024
named_below flags at [] result below is = let same : flags ≡ result = cc in subst (λ n. n < 1024) same below
named_below flags at (name ∷ names) result below is =
    by_found (bits_named name) refl (λ bits small rest. named_below (bit_or flags bits) (at + length name + 1) names result small rest)
  where
    by_found : (found : Option ℕ) → bits_named name ≡ found
        → ((bits : ℕ) → bit_or flags bits < 1024 → with_named (bit_or flags bits) (at + length name + 1) names ≡ Ok result
        → result < 1024)
        → result < 1024
    by_found None same later =
        let lost : ◌≡◌ {A = Result ℕ PolicyFault} (fault at UnknownFlag) (Ok result) =
        sym (ap (λ o. option_map_or (λ bits. with_named (bit_or flags bits) (at + length name + 1) names) o (fault at UnknownFlag)) same)
        ∙ is in
        cc
    by_found (Some bits) same later = later bits
        (or_lt 10 flags bits below (bits_below name bits same))
        (sym (ap (λ o. option_map_or (λ b. with_named (bit_or flags b) (at + length name + 1) names) o (fault at UnknownFlag)) same) ∙ is)

-- what is set is in full
abbrev pub IsFull : Option Flags → Type 0
IsFull o = IfSome o (λ f. IsExpanded f.0)

abbrev pub AreFull : Entries → Type 0
AreFull entries = (i : ℕ) → IsFull (get_or entries i None)

-- an entry that is set is in full
set_full : (entries : Entries) (k flags : ℕ) → flags < 1024 → AreFull entries
    → AreFull (set entries k (Some (record { 0 = expanded flags })))
set_full entries k flags below full i = elim (cases_eq i k) [
  | inr other ↦ let ne : i ≢ k = other in subst IsFull (sym (get_or-set_other entries k i (Some (record { 0 = expanded flags })) None ne))
      (full i)
  | inl same ↦ elim (cases_lt k (length entries)) [
    | inl within ↦
        let here : get_or (set entries k (Some (record { 0 = expanded flags }))) i None ≡ Some (record { 0 = expanded flags }) =
        ap (λ j. get_or (set entries k (Some (record { 0 = expanded flags }))) j None) same
        ∙ get_or-set_same entries k (Some (record { 0 = expanded flags })) None within in
        subst IsFull (sym here) (expanded_full flags below)
    | inr past ↦
        let size : length (set entries k (Some (record { 0 = expanded flags }))) ≡ length entries =
        length-set entries k (Some (record { 0 = expanded flags })) in
        subst IsFull (sym (get_or_past (set entries k (Some (record { 0 = expanded flags }))) i None (omega arith))) tt
  ]
]

flags_full : (k : ℕ) (entries more : Entries) (r : Result ℕ PolicyFault) → ((flags : ℕ) → r ≡ Ok flags → flags < 1024)
    → with_flags k entries r ≡ Ok more → AreFull entries → AreFull more
flags_full k entries more (Err f) small is full = cc
flags_full k entries more (Ok flags) small is full =
    let same : set entries k (Some (record { 0 = expanded flags })) ≡ more = cc in
    subst AreFull same (set_full entries k flags (small flags refl) full)

-- the flags of a text are few
text_below : (at : ℕ) (text : List ℕ) (flags : ℕ) → flags_in at text ≡ Ok flags → flags < 1024
text_below at text flags is = elim (cases_Bool (length text == 0)) [
  | inl t ↦
      let none : ◌≡◌ {A = Result ℕ PolicyFault} (Ok 0) (Ok flags) =
      sym (ap (λ b. cond b (Ok 0) (with_named 0 at (slice_split (λ byte. byte == 43) text))) t) ∙ is in
      let zero : 0 ≡ flags = cc in
      subst (λ n. n < 1024) zero (lit< tt)
  | inr t ↦ named_below 0 at (slice_split (λ byte. byte == 43) text) flags (lit< tt)
      (sym (ap (λ b. cond b (Ok 0) (with_named 0 at (slice_split (λ byte. byte == 43) text))) t) ∙ is)
]

named_full : (at behind : ℕ) (place : Option ℕ) (text : List ℕ) (entries more : Entries)
    → with_named_entry at behind place text entries ≡ Ok more
    → AreFull entries → AreFull more
named_full at behind None text entries more is full = cc
named_full at behind (Some k) text entries more is full = elim (cases_Bool (is_some (get_or entries k None))) [
  | inl t ↦
      let lost : ◌≡◌ {A = Result Entries PolicyFault} (fault at Repeated) (Ok more) =
      sym (ap (λ b. cond b (fault at Repeated) (with_flags k entries (flags_in behind text))) t) ∙ is in
      cc
  | inr t ↦ flags_full k entries more (flags_in behind text) (text_below behind text)
      (sym (ap (λ b. cond b (fault at Repeated) (with_flags k entries (flags_in behind text))) t) ∙ is) full
]

parts_full : (at : ℕ) (parts : Option (List ℕ × List ℕ)) (entries more : Entries) → with_parts at parts entries ≡ Ok more
    → AreFull entries → AreFull more
parts_full at None entries more is full = cc
parts_full at (Some p) entries more is full = named_full at (at + length p.0 + 1) (place_of p.0) p.1 entries more is full

-- what texts set is in full
texts_full : (at : ℕ) (texts : List (List ℕ)) (entries more : Entries) → with_entries at texts entries ≡ Ok more → AreFull entries
    → AreFull more
texts_full at [] entries more is full = let same : entries ≡ more = cc in subst AreFull same full
texts_full at (text ∷ texts) entries more is full =
    by_entry (with_entry at text entries) refl (λ next rest next_full. texts_full (at + length text + 1) texts next more rest next_full)
  where
    by_entry : (r : Result Entries PolicyFault) → with_entry at text entries ≡ r
        → ((next : Entries) → with_entries (at + length text + 1) texts next ≡ Ok more → AreFull next → AreFull more) → AreFull more
    by_entry (Err f) same later =
        let lost : ◌≡◌ {A = Result Entries PolicyFault} (Err f) (Ok more) =
        sym (ap (λ e. then_set e (λ m. with_entries (at + length text + 1) texts m)) same) ∙ is in
        cc
    by_entry (Ok next) same later = later next
        (sym (ap (λ e. then_set e (λ m. with_entries (at + length text + 1) texts m)) same) ∙ is)
        (parts_full at (cut 61 text) entries next same full)

none_full : AreFull (replicate 14 None)
none_full i = elim (cases_lt i 14) [
  | inl below ↦ subst IsFull (sym (get_or-replicate 14 i None None below)) tt
  | inr past ↦ subst IsFull (sym (get_or_past (replicate 14 None) i None past)) tt
]

default_full : (o : Option Flags) → IsFull o → IsExpanded (unwrap_or o (record { 0 = ignore_bits })).0
default_full None full = full_of_test 48 refl
default_full (Some f) full = full

-- a policy that is read is in full
pub read_full : (text : List ℕ) (entries : Entries) (policy : Policy)
    → Ok entries ≡ with_entries 0 (slice_split (λ byte. byte == 58) text) (replicate 14 None) → Ok policy ≡ policy_with (Ok entries)
    → AreExpanded policy
read_full text entries policy is same =
    let full : AreFull entries = texts_full 0 (slice_split (λ byte. byte == 58) text) (replicate 14 None) entries (sym is) none_full in
    let made : record { default = unwrap_or (get_or entries 13 None) (record { 0 = ignore_bits }); listed = take 13 entries } ≡ policy =
    cc in
    subst AreExpanded made (record {
      default = default_full (get_or entries 13 None) (full 13);
      listed = All-from_get_or IsFull (take 13 entries) None (λ i below.
          elim (cases_lt i 13) [
            | inl within ↦ subst IsFull (sym (get_or-take 13 entries i None within)) (full i)
            | inr past ↦
                let short = length-take 13 entries in
                absurd (omega arith)
          ]);
    })
