-- The one canonical text of a policy (own rule, in the grammar of systemd.image-policy(7)).
use Rattle.std.specs.Prelude.{bit_and, ℕ, ◌==◌, List, [], ◌∷◌, ◌++◌, length, map, filter, zip, codes, if◌then◌else◌, Option, Some, None}
use Rattle.std.specs.List.{flat_map, join_with_byte}
use Rattle.rp_types.specs.Designators.{designator_name}
use Rattle.rp_types.specs.declared.arch.Designator.{Designator}
use Rattle.rp_policy.specs.declared.policy.Flags.{Flags}
use Rattle.rp_policy.specs.declared.policy.Policy.{Policy}
use Rattle.rp_policy.specs.Flags.{absent_bits, has, ignore_bits, open_bits, state_names, use_names}
use Rattle.rp_policy.specs.Reading.{designators}

-- the names of those of these flags that are set
abbrev pub names_set : ℕ → List (List ℕ × ℕ) → List (List ℕ)
names_set flags names = map (λ e. e.0) (filter (λ e. has flags e.1) names)

-- the words for the first six: `open` for all, `ignore` for unused and absent alone, else one by one
abbrev pub use_words : ℕ → List (List ℕ)
use_words flags =
    if bit_and flags open_bits == open_bits then codes "open" ∷ []
    else if bit_and flags open_bits == ignore_bits then codes "ignore" ∷ []
    else names_set flags use_names

-- the text of flags
abbrev pub flags_text : ℕ → List ℕ
flags_text flags = join_with_byte 43 (use_words flags ++ names_set flags state_names)

-- the text of an entry
abbrev pub entry_text : List ℕ → ℕ → List ℕ
entry_text name flags = name ++ 61 ∷ flags_text flags

-- the entry of a designator, if it is listed
abbrev pub listed_entry : Designator → Option Flags → List (List ℕ)
listed_entry d None = []
listed_entry d (Some f) = entry_text (designator_name d) f.0 ∷ []

abbrev pub listed_entries : Policy → List (List ℕ)
listed_entries policy = flat_map (λ e. listed_entry e.0 e.1) (zip designators policy.listed)

-- the default's entry, unless it is to ignore
abbrev pub default_entry : ℕ → List (List ℕ)
default_entry flags = if flags == ignore_bits then [] else entry_text [] flags ∷ []

-- the text of a policy that lists nothing
abbrev pub default_text : ℕ → List ℕ
default_text flags =
    if flags == open_bits then codes "*"
    else if flags == ignore_bits then codes "-"
    else if flags == absent_bits then codes "~"
    else entry_text [] flags

-- the text of a policy: entries in the order of designators, and that of the default, with `:` between them
abbrev pub policy_text : Policy → List ℕ
policy_text policy =
    let entries = listed_entries policy in
    if length entries == 0 then default_text policy.default.0 else join_with_byte 58 (entries ++ default_entry policy.default.0)
