-- What the files of each number say, by computing it.
use Rattle.std.proofs.Common.{◌≡◌, ℕ, zero, suc, ◌+◌, ℤ, pos, negsuc, Bool, true, false, Result, Ok, Err, List, [], ◌∷◌, refl, length, Option, Some, None}
use Rattle.std.specs.Prelude.{codes, is_none, slice_get, ◌&&◌, ◌||◌, ◌==◌}
use Rattle.std.specs.List.{enumerate_from, list_all}
use Rattle.std.specs.Str.{bytes_eq, chars, is_utf8}
use Rattle.rp_base.specs.declared.guid.Guid.{Guid}
use Rattle.rp_defs.specs.Records.{records}
use Rattle.rp_defs.specs.Settings.{groups_of}
use Rattle.rp_defs.specs.Stated.{stated_by}
use Rattle.rp_defs.specs.declared.definition.Definition.{Definition}
use Rattle.rp_defs.specs.declared.definition.Verity.{Verity}
use Rattle.rp_defs.specs.declared.definition.Verity.TheVariants.{Off, Data, Hash}
use Rattle.rp_defs.specs.declared.definition.Definitions.{Definitions}
use Rattle.rp_make_input.specs.MakeInput.{folders_of}
use Rattle.rp_outcome.specs.Refusals.{Refusal}
use Rattle.rp_reading.specs.Reading.{definitions_in}
use Rattle.rp_types.specs.Table.{types}
use Rattle.rp_types.specs.Guids.{guid_of}
use Rattle.rp_types.specs.Types.{by_name}
use Rattle.rp_types.specs.declared.arch.Arch.TheVariants.{X86_64}
use Rattle.rp_values.specs.Kinds.{kind_of}
use Rattle.rp_values.specs.Numbers.{size_of, weight_of}
use Rattle.rp_values.specs.Texts.{expanded, path_of}
use Rattle.uuid.specs.Text.{by_index}
use Rattle.rp_make_definitions.specs.Made.{first_data, root_kind}
use Rattle.rp_make_definitions.proofs.Spelled.{tree}

abbrev pub is_zero : ℤ → Bool
is_zero (pos zero) = true
is_zero (pos (suc n)) = false
is_zero (negsuc n) = false

abbrev pub is_raw : Option (List ℕ) → Bool
is_raw None = true
is_raw (Some path) = bytes_eq path (codes "make.raw")

abbrev pub is_made : Definition → Bool
is_made definition = is_zero definition.priority && (is_raw definition.source && is_none definition.id)

-- the data of the tree at a place
abbrev pub is_data : ℕ → Verity → Bool
is_data place (Data hash) = hash == place
is_data place Off = false
is_data place (Hash under) = false

-- the types linux-generic, root and root-verity of the architecture
abbrev pub generic : Guid
generic = record { 0 = 15 ∷ 198 ∷ 61 ∷ 175 ∷ 132 ∷ 131 ∷ 71 ∷ 114 ∷ 142 ∷ 121 ∷ 61 ∷ 105 ∷ 216 ∷ 71 ∷ 125 ∷ 228 ∷ [] }

abbrev pub root : Guid
root = record { 0 = 79 ∷ 104 ∷ 188 ∷ 227 ∷ 232 ∷ 205 ∷ 77 ∷ 177 ∷ 150 ∷ 231 ∷ 251 ∷ 202 ∷ 249 ∷ 132 ∷ 183 ∷ 9 ∷ [] }

abbrev pub root_tree : Guid
root_tree = record { 0 = 44 ∷ 115 ∷ 87 ∷ 237 ∷ 235 ∷ 210 ∷ 70 ∷ 217 ∷ 174 ∷ 193 ∷ 35 ∷ 212 ∷ 55 ∷ 236 ∷ 43 ∷ 245 ∷ [] }

-- a definition, given with its place: it has no such type, or is the hash tree at a place, or the data of that
abbrev pub is_paired : ℕ → ℕ × Definition → Bool
is_paired place e =
    bytes_eq e.1.kind.0 generic.0 || (bytes_eq e.1.kind.0 root_tree.0 && (e.0 == place))
    || (bytes_eq e.1.kind.0 root.0 && is_data place e.1.verity)

-- the data of the pair, behind so many definitions and one, and that the first hash tree is over it
abbrev pub is_there : Option (List ℕ) → Bool
is_there None = false
is_there (Some path) = bytes_eq path (codes "make.raw")

abbrev pub is_payload : ℕ → Definition → Bool
is_payload partner payload = bytes_eq payload.kind.0 root_kind.0 && is_there payload.source && payload.want.min == 0 && is_data partner payload.verity

abbrev pub is_payload_at : ℕ → Option Definition → Bool
is_payload_at partner None = false
is_payload_at partner (Some payload) = is_payload partner payload

abbrev pub is_place : ℕ → Option ℕ → Bool
is_place place None = false
is_place place (Some other) = other == place

abbrev pub has_pair_at : ℕ → List Definition → Bool
has_pair_at number list = is_payload_at number (slice_get list (number + 1)) && is_place (number + 1) (first_data list)

abbrev pub is_right : ℕ → Result Definitions Refusal → Bool
is_right number (Ok definitions) = length definitions.list == number + 2
    && (list_all is_made definitions.list
    && (list_all (is_paired number) (enumerate_from 0 definitions.list) && has_pair_at number definitions.list))
is_right number (Err refusal) = false

abbrev pub right : ℕ → Bool
right number = is_right number (definitions_in X86_64 (tree number) folders_of)

-- of so many numbers behind one
abbrev pub right_behind : ℕ → ℕ → Bool
right_behind first zero = true
right_behind first (suc count) = right (first + suc count) && right_behind first count

pub tried_none : right 0 ≡ true
unfolding records stated_by groups_of is_utf8 chars kind_of weight_of size_of path_of expanded by_name types guid_of by_index lib.Utf8.encode
tried_none = refl

pub tried_0 : right_behind 0 10 ≡ true
unfolding records stated_by groups_of is_utf8 chars kind_of weight_of size_of path_of expanded by_name types guid_of by_index lib.Utf8.encode
tried_0 = refl

pub tried_10 : right_behind 10 10 ≡ true
unfolding records stated_by groups_of is_utf8 chars kind_of weight_of size_of path_of expanded by_name types guid_of by_index lib.Utf8.encode
tried_10 = refl

pub tried_20 : right_behind 20 10 ≡ true
unfolding records stated_by groups_of is_utf8 chars kind_of weight_of size_of path_of expanded by_name types guid_of by_index lib.Utf8.encode
tried_20 = refl

pub tried_30 : right_behind 30 10 ≡ true
unfolding records stated_by groups_of is_utf8 chars kind_of weight_of size_of path_of expanded by_name types guid_of by_index lib.Utf8.encode
tried_30 = refl

pub tried_40 : right_behind 40 10 ≡ true
unfolding records stated_by groups_of is_utf8 chars kind_of weight_of size_of path_of expanded by_name types guid_of by_index lib.Utf8.encode
tried_40 = refl

pub tried_50 : right_behind 50 10 ≡ true
unfolding records stated_by groups_of is_utf8 chars kind_of weight_of size_of path_of expanded by_name types guid_of by_index lib.Utf8.encode
tried_50 = refl

pub tried_60 : right_behind 60 10 ≡ true
unfolding records stated_by groups_of is_utf8 chars kind_of weight_of size_of path_of expanded by_name types guid_of by_index lib.Utf8.encode
tried_60 = refl

pub tried_70 : right_behind 70 10 ≡ true
unfolding records stated_by groups_of is_utf8 chars kind_of weight_of size_of path_of expanded by_name types guid_of by_index lib.Utf8.encode
tried_70 = refl

pub tried_80 : right_behind 80 10 ≡ true
unfolding records stated_by groups_of is_utf8 chars kind_of weight_of size_of path_of expanded by_name types guid_of by_index lib.Utf8.encode
tried_80 = refl

pub tried_90 : right_behind 90 10 ≡ true
unfolding records stated_by groups_of is_utf8 chars kind_of weight_of size_of path_of expanded by_name types guid_of by_index lib.Utf8.encode
tried_90 = refl
