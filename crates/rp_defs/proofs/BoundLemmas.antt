-- Values of keys are in their bounds, and so is what a definition asks for.
use Rattle.std.proofs.Common.{◌≡◌, ◌≢◌, ℕ, ◌-◌, ◌*◌, ◌^◌, ◌<◌, ◌≤◌, List, Bool, true, false, cond, length, take, ◌||◌, Option, Some, None}
use Rattle.std.proofs.Common.{Ok, Err, inl, inr, refl, sym, ap, subst, arith}
use Rattle.std.specs.Prelude.{All, IfSome, codes, nat_le, nat_lt, min, replicate, unwrap_or, slice_index, slice_index_or}
use Rattle.std.specs.Option.{option_and_then, option_map, option_map_or}
use Rattle.std.proofs.lemmas.Bool.{cases_lt, leb-true, ltb-false}
use Rattle.std.proofs.lemmas.List.{get_or_past}
use Rattle.rp_base.specs.declared.want.Want.{Want}
use Rattle.rp_base.specs.Answers.{Gives}
use Rattle.rp_base.specs.Wants.{IsWant}
use Rattle.rp_base.specs.declared.guid.Guid.{Guid}
use Rattle.rp_defs.specs.declared.fault.DefFault.{DefFault}
use Rattle.rp_defs.specs.declared.fault.DefKind.TheVariants.{Limits}
use Rattle.rp_values.specs.Numbers.{at_most, factor_of, number_of, size_of, weight_of}
use Rattle.rp_defs.specs.declared.definition.Definition.{Definition}
use Rattle.rp_defs.specs.declared.draft.Half.{Half}
use Rattle.rp_defs.specs.declared.draft.Half.TheVariants.{Off, Data, Hash}
use Rattle.rp_defs.specs.declared.value.Value.{Value}
use Rattle.rp_defs.specs.declared.value.Value.TheVariants as value
use Rattle.rp_defs.specs.Keys.{key_named}
use Rattle.rp_defs.specs.Faults.{no_memory, whole_fault, IsFault}
use Rattle.rp_defs.specs.Drafts.{draft_from, half_said, within_limits, want_of}
use Rattle.rp_defs.specs.Limits.{has_no_size, max_of, min_of}
use Rattle.rp_defs.specs.Value.{id_of, as_label, size_of as size_of_value, weight_of as weight_of_value, value_in, label_in, size_in}
use Rattle.rp_defs.specs.Value.{weight_in, IsBounded}
use Rattle.rp_defs.specs.SoundDraft.{IsSizedHalf, IsSoundDraft}

-- a number that is set is at most so much
abbrev pub IsUpTo : ℕ → Option ℕ → Type 0
IsUpTo most set = IfSome set (λ n. n ≤ most)

-- ---- values in their bounds
pub bound_of : (most n : ℕ) (set : Option ℕ) → IsUpTo most set → Some n ≡ set → n ≤ most
bound_of most n None h is = absurd (cc)
bound_of most n (Some m) h is = let same : n ≡ m = cc in omega (arith, h, same)

at_most-le : (most : ℕ) (number : Option ℕ) → IsUpTo most (at_most most number)
at_most-le most None = tt
at_most-le most (Some n) = by_test (nat_le n most) refl where
  by_test : (b : Bool) → nat_le n most ≡ b → IsUpTo most (cond b (Some n) None)
  by_test true is = leb-true n most is
  by_test false is = tt

pub size_of_bound : (text : List ℕ) → IsUpTo (2 ^ 60) (size_of text)
unfolding size_of
size_of_bound text =
    at_most-le (2 ^ 60) (option_map_or (λ factor. option_map (λ n. n * factor) (number_of (take (length text - 1) text)))
    (factor_of (slice_index text (length text - 1))) (number_of text))

pub weight_of_bound : (text : List ℕ) → IsUpTo 1000000 (weight_of text)
unfolding weight_of
weight_of_bound text = at_most-le 1000000 (number_of text)

-- ---- values of keys in their bounds
-- values are those of keys that are unset, or in their bounds
abbrev pub AreBounded : List (Option Value) → Type 0
AreBounded values = All (λ value. IfSome value IsBounded) values

value_bounded : (values : List (Option Value)) (key : ℕ) → AreBounded values → IfSome (slice_index_or values key None) IsBounded
value_bounded values key bounded = elim (cases_lt key (length values)) [
  | inl within ↦ bounded key None within
  | inr past ↦ subst (λ (v : Option Value). IfSome v IsBounded) (sym (get_or_past values key None past)) tt
]

weight_bounded : (value : Option Value) → IfSome value IsBounded → IsUpTo 1000000 (option_and_then weight_of_value value)
weight_bounded None h = tt
weight_bounded (Some (value.Id id)) h = tt
weight_bounded (Some (value.Label units)) h = tt
weight_bounded (Some (value.Priority priority)) h = tt
weight_bounded (Some (value.Weight weight)) h = h
weight_bounded (Some (value.Size size)) h = tt
weight_bounded (Some (value.Half half)) h = tt
weight_bounded (Some (value.Switch on)) h = tt
weight_bounded (Some (value.Text text)) h = tt

size_bounded : (value : Option Value) → IfSome value IsBounded → IsUpTo (2 ^ 60) (option_and_then size_of_value value)
size_bounded None h = tt
size_bounded (Some (value.Id id)) h = tt
size_bounded (Some (value.Label units)) h = tt
size_bounded (Some (value.Priority priority)) h = tt
size_bounded (Some (value.Weight weight)) h = tt
size_bounded (Some (value.Size size)) h = h
size_bounded (Some (value.Half half)) h = tt
size_bounded (Some (value.Switch on)) h = tt
size_bounded (Some (value.Text text)) h = tt

label_bounded : (value : Option Value) → IfSome value IsBounded → IfSome (option_and_then as_label value) (λ units. slice_index units 0 ≢ 0)
label_bounded None h = tt
label_bounded (Some (value.Id id)) h = tt
label_bounded (Some (value.Label units)) h = h
label_bounded (Some (value.Priority priority)) h = tt
label_bounded (Some (value.Weight weight)) h = tt
label_bounded (Some (value.Size size)) h = tt
label_bounded (Some (value.Half half)) h = tt
label_bounded (Some (value.Switch on)) h = tt
label_bounded (Some (value.Text text)) h = tt

pub id_bounded : (value : Option Value) → IfSome value IsBounded → IfSome (option_and_then id_of value) (λ id. id.0 ≢ replicate 16 0)
id_bounded None h = tt
id_bounded (Some (value.Id id)) h = h
id_bounded (Some (value.Label units)) h = tt
id_bounded (Some (value.Priority priority)) h = tt
id_bounded (Some (value.Weight weight)) h = tt
id_bounded (Some (value.Size size)) h = tt
id_bounded (Some (value.Half half)) h = tt
id_bounded (Some (value.Switch on)) h = tt
id_bounded (Some (value.Text text)) h = tt

weight_in_bound : (values : List (Option Value)) (name : List ℕ) → AreBounded values → IsUpTo 1000000 (weight_in values name)
weight_in_bound values name bounded = weight_bounded (value_in values name) (value_bounded values (key_named name) bounded)

size_in_bound : (values : List (Option Value)) (name : List ℕ) → AreBounded values → IsUpTo (2 ^ 60) (size_in values name)
size_in_bound values name bounded = size_bounded (value_in values name) (value_bounded values (key_named name) bounded)

pub label_in_begins : (values : List (Option Value)) (name : List ℕ) → AreBounded values
    → IfSome (label_in values name) (λ units. slice_index units 0 ≢ 0)
label_in_begins values name bounded = label_bounded (value_in values name) (value_bounded values (key_named name) bounded)

-- ---- what is asked for
min_of-lt : (set : Option ℕ) (unset : ℕ) → IsUpTo (2 ^ 60) set → unset < 2 ^ 49 → min_of set unset < 2 ^ 49
min_of-lt None unset le lt = lt
min_of-lt (Some bytes) unset le lt = omega (arith, le)

max_of-le : (set : Option ℕ) → IsUpTo (2 ^ 60) set → max_of set ≤ 2 ^ 52
max_of-le None le = omega arith
max_of-le (Some bytes) le = omega (arith, le)

weight_or : (set : Option ℕ) (unset : ℕ) → IsUpTo 1000000 set → unset ≤ 1000000 → unwrap_or set unset ≤ 1000000
weight_or None unset le h = h
weight_or (Some n) unset le h = le

neither : (a b : Bool) → (a || b) ≡ false → (a ≡ false) × (b ≡ false)
neither true b h = absurd (cc)
neither false b h = (refl, h)

-- a want is in its bounds where each minimum is at most its maximum
in_bounds : (want : Want) → has_no_size want ≡ false → want.min < 2 ^ 49 → want.max ≤ 2 ^ 52 → want.weight ≤ 1000000
    → want.pad_min < 2 ^ 49 → want.pad_max ≤ 2 ^ 52 → want.pad_weight ≤ 1000000 → IsWant want
in_bounds want sized min max weight pad_min pad_max pad_weight =
    let both = neither (nat_lt want.max want.min) (nat_lt want.pad_max want.pad_min) sized in record {
      size = ltb-false want.max want.min both.0;
      size_min = min;
      size_max = max;
      weight = weight;
      padding = ltb-false want.pad_max want.pad_min both.1;
      padding_min = pad_min;
      padding_max = pad_max;
      padding_weight = pad_weight;
    }

-- half of a pair has no weight
half_in_bounds : (half : Half) (values : List (Option Value)) → AreBounded values → has_no_size (want_of half values) ≡ false
    → want_of half values ≡ want_of Data values → IsWant (want_of half values)
unfolding want_of
half_in_bounds half values bounded sized same =
    let sized' = subst (λ (want : Want). has_no_size want ≡ false) same sized in
    subst IsWant (sym same) (in_bounds (want_of Data values) sized'
    (min_of-lt (size_in values (codes "SizeMinBytes")) 0 (size_in_bound values (codes "SizeMinBytes") bounded) (omega arith))
    (max_of-le (size_in values (codes "SizeMaxBytes")) (size_in_bound values (codes "SizeMaxBytes") bounded)) (omega arith)
    (min_of-lt (size_in values (codes "PaddingMinBytes")) 0 (size_in_bound values (codes "PaddingMinBytes") bounded) (omega arith))
    (max_of-le (size_in values (codes "PaddingMaxBytes")) (size_in_bound values (codes "PaddingMaxBytes") bounded))
    (weight_or (weight_in values (codes "PaddingWeight")) 0 (weight_in_bound values (codes "PaddingWeight") bounded) (omega arith)))

pub want_of-IsWant : (half : Half) (values : List (Option Value)) → AreBounded values → has_no_size (want_of half values) ≡ false
    → IsWant (want_of half values)
unfolding want_of
want_of-IsWant Off values bounded sized =
    let min_set = size_in values (codes "SizeMinBytes") in
    let max_set = size_in values (codes "SizeMaxBytes") in
    let least = min_of-lt min_set (min 2560 (max_of max_set)) (size_in_bound values (codes "SizeMinBytes") bounded) (omega arith) in
    in_bounds (want_of Off values) sized (omega (arith, least)) (max_of-le max_set (size_in_bound values (codes "SizeMaxBytes") bounded))
    (weight_or (weight_in values (codes "Weight")) 1000 (weight_in_bound values (codes "Weight") bounded) (omega arith))
    (min_of-lt (size_in values (codes "PaddingMinBytes")) 0 (size_in_bound values (codes "PaddingMinBytes") bounded) (omega arith))
    (max_of-le (size_in values (codes "PaddingMaxBytes")) (size_in_bound values (codes "PaddingMaxBytes") bounded))
    (weight_or (weight_in values (codes "PaddingWeight")) 0 (weight_in_bound values (codes "PaddingWeight") bounded) (omega arith))
want_of-IsWant Data values bounded sized = half_in_bounds Data values bounded sized refl
want_of-IsWant Hash values bounded sized = half_in_bounds Hash values bounded sized refl

-- a draft that is no half has a grain at least, and a half has no weight
pub want_of-IsSizedHalf : (half : Half) (values : List (Option Value)) (definition : Definition) → definition.want ≡ want_of half values
    → IsSizedHalf half definition
unfolding want_of
want_of-IsSizedHalf Off values definition is = let least = ap (λ (want : Want). want.min) is in omega (arith, least)
want_of-IsSizedHalf Data values definition is = ap (λ (want : Want). want.weight) is
want_of-IsSizedHalf Hash values definition is = ap (λ (want : Want). want.weight) is

-- ---- a draft is sound, or its limits are a fault
pub draft_sound : (file : List ℕ) (kind : Guid) (values : List (Option Value)) → kind.0 ≢ replicate 16 0 → AreBounded values
    → has_no_size (want_of (half_said values) values) ≡ false → IsSoundDraft (draft_from file kind values)
unfolding draft_from
draft_sound file kind values used bounded sized = record {
  used = used;
  want = want_of-IsWant (half_said values) values bounded sized;
  label = label_in_begins values (codes "Label") bounded;
  sized = want_of-IsSizedHalf (half_said values) values (draft_from file kind values).definition refl;
  alone = refl;
}

pub limits_kept : (file : List ℕ) (kind : Guid) (values : List (Option Value)) → has_no_size (want_of (half_said values) values) ≡ false
    → within_limits file (draft_from file kind values) ≡ Ok (draft_from file kind values)
unfolding draft_from
limits_kept file kind values sized = rw sized refl

pub limits_broken : (file : List ℕ) (kind : Guid) (values : List (Option Value)) (result : DefFault)
    → has_no_size (want_of (half_said values) values) ≡ true
    → IsFault (whole_fault file Limits) result → Gives no_memory (within_limits file (draft_from file kind values)) (Err result)
unfolding draft_from
limits_broken file kind values result sized (inl is) = inl (rw sized (ap Err is))
limits_broken file kind values result sized (inr is) = inr (ap Err is)
