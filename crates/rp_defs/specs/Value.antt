-- What the value of a key says, by what it is.
use Rattle.std.specs.Prelude.{ℕ, ℤ, ◌≢◌, ◌≤◌, ◌^◌, List, Bool, Option, Some, None, slice_index, replicate, slice_index_or, ⊤}
use Rattle.std.specs.Option.{option_and_then}
use Rattle.rp_base.specs.declared.guid.Guid.{Guid}
use Rattle.rp_defs.specs.declared.draft.Half.{Half}
use Rattle.rp_defs.specs.declared.value.Value.{Value}
use Rattle.rp_defs.specs.declared.value.Value.TheVariants as value
use Rattle.rp_defs.specs.Keys.{key_named}

-- the value of a key, by its name, among the values of all keys in their order
abbrev pub value_in : List (Option Value) → List ℕ → Option Value
value_in values name = slice_index_or values (key_named name) None

-- an identifier, a label, a priority and so on, where the value is one
abbrev pub id_of : Value → Option Guid
id_of (value.Id id) = Some id
id_of other = None

abbrev pub as_label : Value → Option (List ℕ)
as_label (value.Label units) = Some units
as_label other = None

abbrev pub priority_of : Value → Option ℤ
priority_of (value.Priority priority) = Some priority
priority_of other = None

abbrev pub weight_of : Value → Option ℕ
weight_of (value.Weight weight) = Some weight
weight_of other = None

abbrev pub size_of : Value → Option ℕ
size_of (value.Size size) = Some size
size_of other = None

abbrev pub half_of : Value → Option Half
half_of (value.Half half) = Some half
half_of other = None

abbrev pub switch_of : Value → Option Bool
switch_of (value.Switch on) = Some on
switch_of other = None

abbrev pub text_of : Value → Option (List ℕ)
text_of (value.Text text) = Some text
text_of other = None

-- the same of the value of a key, by its name
abbrev pub id_in : List (Option Value) → List ℕ → Option Guid
id_in values name = option_and_then id_of (value_in values name)

abbrev pub label_in : List (Option Value) → List ℕ → Option (List ℕ)
label_in values name = option_and_then as_label (value_in values name)

abbrev pub priority_in : List (Option Value) → List ℕ → Option ℤ
priority_in values name = option_and_then priority_of (value_in values name)

abbrev pub weight_in : List (Option Value) → List ℕ → Option ℕ
weight_in values name = option_and_then weight_of (value_in values name)

abbrev pub size_in : List (Option Value) → List ℕ → Option ℕ
size_in values name = option_and_then size_of (value_in values name)

abbrev pub half_in : List (Option Value) → List ℕ → Option Half
half_in values name = option_and_then half_of (value_in values name)

abbrev pub switch_in : List (Option Value) → List ℕ → Option Bool
switch_in values name = option_and_then switch_of (value_in values name)

abbrev pub text_in : List (Option Value) → List ℕ → Option (List ℕ)
text_in values name = option_and_then text_of (value_in values name)

-- the bounds of a value that is read: no identifier is zero, no label begins with a zero unit, and numbers are in their bounds
abbrev pub IsBounded : Value → Type 0
IsBounded (value.Id id) = id.0 ≢ replicate 16 0
IsBounded (value.Label units) = slice_index units 0 ≢ 0
IsBounded (value.Weight weight) = weight ≤ 1000000
IsBounded (value.Size size) = size ≤ 2 ^ 60
IsBounded other = ⊤
