-- What was tried of each number, as facts.
use Rattle.std.proofs.Common.{◌≡◌, ◌∙◌, ℕ, zero, suc, ◌+◌, ◌<◌, ◌≤◌, ℤ, pos, negsuc, Bool, true, false, Result, Ok, Err, List, [], ◌∷◌, All, refl, sym, ap, length, Option, Some, None, eqb, leb, arith, slice_get, zero-add, inl, inr, ◌⊎◌}
use Rattle.std.specs.Prelude.{codes, int_le, is_none, IfSome, ◌&&◌, ◌||◌, ◌==◌}
use Rattle.std.specs.List.{enumerate_from, list_all}
use Rattle.std.specs.Str.{bytes_eq}
use Rattle.std.proofs.lemmas.Bool.{eqb-false, eqb-true, leb-false, leb-true}
use Rattle.std.proofs.lemmas.Slice.Eq.{bytes_eq-Decides}
use Rattle.std.proofs.lemmas.List.Elements.{All-cons, All-nil, All-weaker}
use Rattle.rp_base.specs.declared.guid.Guid.{Guid}
use Rattle.rp_defs.specs.declared.definition.Definition.{Definition}
use Rattle.rp_defs.specs.declared.definition.Verity.{Verity}
use Rattle.rp_defs.specs.declared.definition.Verity.TheVariants.{Off, Data, Hash}
use Rattle.rp_defs.specs.declared.definition.Definitions.{Definitions}
use Rattle.rp_io.specs.Files.{Tree}
use Rattle.rp_make_input.specs.MakeInput.{folders_of}
use Rattle.rp_outcome.specs.Refusals.{Refusal}
use Rattle.rp_reading.specs.Reading.{definitions_in}
use Rattle.rp_types.specs.declared.arch.Arch.TheVariants.{X86_64}
use Rattle.rp_types.specs.Guids.{guid_of}
use Rattle.rp_types.specs.Table.{types}
use Rattle.rp_types.specs.Types.{designator_of, entry_of}
use Rattle.rp_types.specs.declared.arch.Designator.{Designator}
use Rattle.rp_types.specs.declared.arch.Designator.TheVariants.{Root, Usr, RootVerity}
use Rattle.uuid.specs.Text.{by_index}
use Rattle.rp_unchanged.specs.Defined.{AreNeverDropped, AreSealed, AreSteady, TakeHalves, TakesHalf, is_of}
use Rattle.rp_make_definitions.specs.Made.{HasDefinitions, HasPair, IsMade, first_data, root_kind}
use Rattle.rp_make_definitions.proofs.Spelled.{tree, tree_is}
use Rattle.rp_make_definitions.proofs.Tried.{generic, has_pair_at, is_data, is_made, is_paired, is_payload_at, is_place, is_raw, is_there, is_right, is_zero, right, right_behind, root, root_tree, tried_none, tried_0, tried_10, tried_20, tried_30, tried_40, tried_50, tried_60, tried_70, tried_80, tried_90}

both : (a b : Bool) → (a && b) ≡ true → (a ≡ true) × (b ≡ true)
both true b is = (refl, is)
both false b is = absurd (cc)

one_of : (first count number : ℕ) → right (first + suc count) ≡ true → (number ≤ first + count → right number ≡ true)
    → number ≤ first + suc count → (b : Bool) → eqb number (first + suc count) ≡ b → right number ≡ true
one_of first count number here rest high true e = ap right (eqb-true number (first + suc count) e) ∙ here
one_of first count number here rest high false e = let other = eqb-false number (first + suc count) e in rest (omega (arith, other))

behind : (first count number : ℕ) → right_behind first count ≡ true → first < number → number ≤ first + count → right number ≡ true
behind first zero number is low high = absurd (omega arith)
behind first (suc count) number is low high =
    let parts = both (right (first + suc count)) (right_behind first count) is in
    one_of first count number parts.0 (behind first count number parts.1 low) high (eqb number (first + suc count)) refl

-- in steps of ten
abbrev Right : ℕ → Type 0
Right number = right number ≡ true

ten : (first number : ℕ) → right_behind first 10 ≡ true → first < number → (first + 10 < number → Right number) → Right number
ten first number is low rest = by (leb number (first + 10)) refl where
  by : (b : Bool) → leb number (first + 10) ≡ b → Right number
  by true e = behind first 10 number is low (leb-true number (first + 10) e)
  by false e = let above = leb-false number (first + 10) e in rest (omega (arith, above))

is_right_all : (number : ℕ) → number ≤ 100 → Right number
is_right_all zero high = tried_none
is_right_all (suc n) high = from_one (suc n) (omega arith) high where
  from_one : (number : ℕ) → 1 ≤ number → number ≤ 100 → Right number
  from_one number low high =
      ten 0 number tried_0 low (λ a. ten 10 number tried_10 a (λ b. ten 20 number tried_20 b (λ c. ten 30 number tried_30 c (λ d.
      ten 40 number tried_40 d (λ e. ten 50 number tried_50 e (λ f. ten 60 number tried_60 f (λ g. ten 70 number tried_70 g (λ h.
      ten 80 number tried_80 h (λ i. ten 90 number tried_90 i (λ j. absurd (omega (arith, high, j))))))))))))

zero_is : (z : ℤ) → is_zero z ≡ true → z ≡ pos 0
zero_is (pos zero) is = refl
zero_is (pos (suc n)) is = absurd (cc)
zero_is (negsuc n) is = absurd (cc)

raw_is : (o : Option (List ℕ)) → is_raw o ≡ true → IfSome o (λ path. path ≡ codes "make.raw")
raw_is None is = tt
raw_is (Some path) is = (bytes_eq-Decides path (codes "make.raw")).0 is

made_each : (list : List Definition) → list_all is_made list ≡ true → All IsMade list
made_each [] is = All-nil IsMade
made_each (definition ∷ list) is =
    let here = both (is_made definition) (list_all is_made list) is in
    let fields = both (is_zero definition.priority) (is_raw definition.source && is_none definition.id) here.0 in
    let source = both (is_raw definition.source) (is_none definition.id) fields.1 in
    All-cons IsMade definition list
    (record { priority = zero_is definition.priority fields.0; source = raw_is definition.source source.0 }) (made_each list here.1)

-- none is dropped, and none has an identifier
kept_each : (list : List Definition) → All IsMade list → AreNeverDropped list
kept_each list made =
    All-weaker IsMade (λ (definition : Definition). int_le definition.priority (pos 0) ≡ true)
    (λ definition is. ap (λ (z : ℤ). int_le z (pos 0)) is.priority) list made

none_is : (o : Option Guid) → is_none o ≡ true → o ≡ None
none_is None is = refl
none_is (Some id) is = absurd (cc)

takes_half : (v : Verity) (definition : Definition) → definition.id ≡ None → TakesHalf v definition
takes_half Off definition is = tt
takes_half (Data hash) definition is = is
takes_half (Hash under) definition is = is

halves_each : (list : List Definition) → list_all is_made list ≡ true → TakeHalves list
halves_each [] is = All-nil (λ (definition : Definition). TakesHalf definition.verity definition)
halves_each (definition ∷ list) is =
    let here = both (is_made definition) (list_all is_made list) is in
    let fields = both (is_zero definition.priority) (is_raw definition.source && is_none definition.id) here.0 in
    let id = none_is definition.id (both (is_raw definition.source) (is_none definition.id) fields.1).1 in
    All-cons (λ (d : Definition). TakesHalf d.verity d) definition list (takes_half definition.verity definition id)
    (halves_each list here.1)

-- what passes one by one, with its place
placed_each : (p : ℕ × Definition → Bool) (n : ℕ) (list : List Definition) → list_all p (enumerate_from n list) ≡ true
    → (k m : ℕ) (definition : Definition) → m ≡ n + k → slice_get list k ≡ Some definition → p (m, definition) ≡ true
placed_each p n [] is k m definition place at = absurd (cc)
placed_each p n (d ∷ list) is zero m definition place at =
    let same : d ≡ definition = cc in
    let first : m ≡ n = omega (arith, place) in
    ap (λ (k : ℕ). p (k, definition)) first ∙ ap (λ (x : Definition). p (n, x)) (sym same)
    ∙ (both (p (n, d)) (list_all p (enumerate_from (n + 1) list)) is).0
placed_each p n (d ∷ list) is (suc k) m definition place at =
    placed_each p (n + 1) list (both (p (n, d)) (list_all p (enumerate_from (n + 1) list)) is).1 k m definition (omega (arith, place)) at

data_is : (place : ℕ) (v : Verity) → is_data place v ≡ true → v ≡ Data place
data_is place (Data hash) is = ap (λ (n : ℕ). Data n) (eqb-true hash place is)
data_is place Off is = absurd (cc)
data_is place (Hash under) is = absurd (cc)

-- which of three passes
one_of_three : (a b c : Bool) → (a || b || c) ≡ true → (a ≡ true) ⊎ ((b ≡ true) ⊎ (c ≡ true))
one_of_three true b c is = inl refl
one_of_three false true c is = inr (inl refl)
one_of_three false false c is = inr (inr is)

same_kind : (a b : Guid) → bytes_eq a.0 b.0 ≡ true → a ≡ b
same_kind a b is = ap (λ (bytes : List ℕ). record { 0 = bytes }) ((bytes_eq-Decides a.0 b.0).0 is)

-- of which designators the types are
generic_root : is_of X86_64 Root generic ≡ false
unfolding designator_of entry_of types guid_of by_index
generic_root = refl

generic_tree : is_of X86_64 RootVerity generic ≡ false
unfolding designator_of entry_of types guid_of by_index
generic_tree = refl

generic_usr : is_of X86_64 Usr generic ≡ false
unfolding designator_of entry_of types guid_of by_index
generic_usr = refl

root_isnt_tree : is_of X86_64 RootVerity root ≡ false
unfolding designator_of entry_of types guid_of by_index
root_isnt_tree = refl

root_isnt_usr : is_of X86_64 Usr root ≡ false
unfolding designator_of entry_of types guid_of by_index
root_isnt_usr = refl

tree_isnt_root : is_of X86_64 Root root_tree ≡ false
unfolding designator_of entry_of types guid_of by_index
tree_isnt_root = refl

tree_isnt_usr : is_of X86_64 Usr root_tree ≡ false
unfolding designator_of entry_of types guid_of by_index
tree_isnt_usr = refl

no_type : (d : Designator) (kind other : Guid) → bytes_eq kind.0 other.0 ≡ true → is_of X86_64 d other ≡ false
    → is_of X86_64 d kind ≡ true → ⊥
no_type d kind other same none is = let clash : true ≡ false = sym is ∙ ap (is_of X86_64 d) (same_kind kind other same) ∙ none in cc

module _ (place : ℕ) (list : List Definition) (is : list_all (is_paired place) (enumerate_from 0 list) ≡ true) where
  which : (i : ℕ) (definition : Definition) → slice_get list i ≡ Some definition
      → (bytes_eq definition.kind.0 generic.0 ≡ true) ⊎ (((bytes_eq definition.kind.0 root_tree.0 && (i == place)) ≡ true)
      ⊎ ((bytes_eq definition.kind.0 root.0 && is_data place definition.verity) ≡ true))
  which i definition at = one_of_three _ _ _ (placed_each (is_paired place) 0 list is i i definition (sym (zero-add i)) at)

  data_there : (i : ℕ) (definition : Definition) → slice_get list i ≡ Some definition → is_of X86_64 Root definition.kind ≡ true
      → definition.verity ≡ Data place
  data_there i definition at of_root = elim (which i definition at) [
    | inl same ↦ absurd (no_type Root definition.kind generic same generic_root of_root)
    | inr (inl tree) ↦ absurd (no_type Root definition.kind root_tree (both _ _ tree).0 tree_isnt_root of_root)
    | inr (inr payload) ↦ data_is place definition.verity (both _ _ payload).1
  ]

  tree_there : (i : ℕ) (definition : Definition) → slice_get list i ≡ Some definition → is_of X86_64 RootVerity definition.kind ≡ true
      → i ≡ place
  tree_there i definition at of_tree = elim (which i definition at) [
    | inl same ↦ absurd (no_type RootVerity definition.kind generic same generic_tree of_tree)
    | inr (inl tree) ↦ eqb-true i place (both _ _ tree).1
    | inr (inr payload) ↦ absurd (no_type RootVerity definition.kind root (both _ _ payload).0 root_isnt_tree of_tree)
  ]

  none_of_usr : (i : ℕ) (definition : Definition) → slice_get list i ≡ Some definition → is_of X86_64 Usr definition.kind ≡ true → ⊥
  none_of_usr i definition at of_usr = elim (which i definition at) [
    | inl same ↦ no_type Usr definition.kind generic same generic_usr of_usr
    | inr (inl tree) ↦ no_type Usr definition.kind root_tree (both _ _ tree).0 tree_isnt_usr of_usr
    | inr (inr payload) ↦ no_type Usr definition.kind root (both _ _ payload).0 root_isnt_usr of_usr
  ]

  sealed_all : AreSealed X86_64 list
  sealed_all = (
    λ i j payload hash at there of_root of_tree.
        data_there i payload at of_root ∙ ap (λ (n : ℕ). Data n) (sym (tree_there j hash there of_tree)),
    λ i j payload hash at there of_usr of_tree. absurd (none_of_usr i payload at of_usr),
  )

-- the pair, with its source
there_is : (o : Option (List ℕ)) → is_there o ≡ true → o ≡ Some (codes "make.raw")
there_is None is = absurd (cc)
there_is (Some path) is = ap (λ (p : List ℕ). Some p) ((bytes_eq-Decides path (codes "make.raw")).0 is)

place_is : (place : ℕ) (o : Option ℕ) → is_place place o ≡ true → o ≡ Some place
place_is place None is = absurd (cc)
place_is place (Some other) is = ap (λ (n : ℕ). Some n) (eqb-true other place is)

payload_is : (number : ℕ) (list : List Definition) (o : Option Definition) → slice_get list (number + 1) ≡ o → is_payload_at number o ≡ true
    → first_data list ≡ Some (number + 1) → HasPair number list
payload_is number list None at is first = absurd (cc)
payload_is number list (Some payload) at is first =
    let a = both (bytes_eq payload.kind.0 root_kind.0 && is_there payload.source && payload.want.min == 0) (is_data number payload.verity) is in
    let b = both (bytes_eq payload.kind.0 root_kind.0 && is_there payload.source) (payload.want.min == 0) a.0 in
    let c = both (bytes_eq payload.kind.0 root_kind.0) (is_there payload.source) b.0 in record {
      payload = payload;
      there = at;
      kind = ap (λ (bytes : List ℕ). record { 0 = bytes }) ((bytes_eq-Decides payload.kind.0 root_kind.0).0 c.0);
      source = there_is payload.source c.1;
      least = eqb-true payload.want.min 0 b.1;
      half = data_is number payload.verity a.1;
      first = first;
    }

pair_is : (number : ℕ) (list : List Definition) → has_pair_at number list ≡ true → HasPair number list
pair_is number list is =
    let a = both (is_payload_at number (slice_get list (number + 1))) (is_place (number + 1) (first_data list)) is in
    payload_is number list (slice_get list (number + 1)) refl a.0 (place_is (number + 1) (first_data list) a.1)

by_answer : (number : ℕ) (r : Result Definitions Refusal) → is_right number r ≡ true → (definitions : Definitions)
    × (r ≡ Ok definitions) × (length definitions.list ≡ number + 2) × All IsMade definitions.list × AreSteady X86_64 definitions.list
    × HasPair number definitions.list
by_answer number (Ok definitions) is =
    let a = both (length definitions.list == number + 2)
    (list_all is_made definitions.list
    && (list_all (is_paired number) (enumerate_from 0 definitions.list) && has_pair_at number definitions.list)) is in
    let b = both (list_all is_made definitions.list)
    (list_all (is_paired number) (enumerate_from 0 definitions.list) && has_pair_at number definitions.list) a.1 in
    let c = both (list_all (is_paired number) (enumerate_from 0 definitions.list)) (has_pair_at number definitions.list) b.1 in
    let made = made_each definitions.list b.0 in (
      definitions,
      refl,
      eqb-true (length definitions.list) (number + 2) a.0,
      made,
      record {
        kept = kept_each definitions.list made;
        halves = halves_each definitions.list b.0;
        sealed = sealed_all number definitions.list c.0;
      },
      pair_is number definitions.list c.1,
    )
by_answer number (Err refusal) is = absurd (cc)

-- each number has definitions
pub has_definitions : (number : ℕ) → number ≤ 100 → HasDefinitions number
has_definitions number high =
    let found = by_answer number (definitions_in X86_64 (tree number) folders_of) (is_right_all number high) in record {
      definitions = found.0;
      are = ap (λ (t : Tree). definitions_in X86_64 t folders_of) (tree_is number (omega arith)) ∙ found.1;
      count = found.2;
      each = found.3;
      steady = found.4;
      pair = found.5;
    }
