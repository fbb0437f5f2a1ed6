-- The policy that a text is (systemd.image-policy(7), in this project's reading: the first fault from the left refuses it).
use Rattle.std.specs.Prelude.{bit_or, ℕ, ◌+◌, ◌==◌, nat_lt, List, [], ◌∷◌, ◌++◌, length, take, find, position, slice_index_or, slice_set, replicate, codes, ◌||◌, if◌then◌else◌, Option, Some, None, is_some, Result, Ok, Err, unwrap_or}
use Rattle.std.specs.List.{slice_split, before_first, after_first, position_or_len}
use Rattle.std.specs.Option.{option_map, option_map_or}
use Rattle.std.specs.Str.{bytes_eq}
use Rattle.rp_types.specs.Designators.{designator_name}
use Rattle.rp_types.specs.declared.arch.Designator.{Designator}
use Rattle.rp_types.specs.declared.arch.Designator.TheVariants.{Root, Usr, Home, Srv, Esp, Xbootldr, Swap, RootVerity, RootVeritySig, UsrVerity, UsrVeritySig, Tmp, Var}
use Rattle.rp_policy.specs.declared.policy.Flags.{Flags}
use Rattle.rp_policy.specs.declared.policy.Policy.{Policy}
use Rattle.rp_policy.specs.declared.policy.PolicyFault.{PolicyFault}
use Rattle.rp_policy.specs.declared.policy.PolicyKind.{PolicyKind}
use Rattle.rp_policy.specs.declared.policy.PolicyKind.TheVariants.{TooLong, NoEquals, UnknownDesignator, Repeated, UnknownFlag}
use Rattle.rp_policy.specs.Flags.{absent_bits, expanded, ignore_bits, open_bits, state_names, use_names}

-- the designators in order
abbrev pub designators : List Designator
designators =
    Root ∷ Usr ∷ Home ∷ Srv ∷ Esp ∷ Xbootldr ∷ Swap ∷ RootVerity ∷ RootVeritySig ∷ UsrVerity ∷ UsrVeritySig ∷ Tmp ∷ Var ∷ []

-- what entries have set: for each designator, and last for the default
abbrev pub Entries : Type 0
Entries = List (Option Flags)

-- the place of a name among these: that of its designator, and of the default for the empty name
abbrev pub place_of : List ℕ → Option ℕ
place_of name = if length name == 0 then Some 13 else position (λ d. bytes_eq (designator_name d) name) designators

-- the bits of a flag: `open` stands for the first six, `ignore` for unused and absent
abbrev pub bits_named : List ℕ → Option ℕ
bits_named name = option_map (λ e. e.1)
    (find (λ e. bytes_eq e.0 name) (use_names ++ (state_names ++ (codes "open", open_bits) ∷ (codes "ignore", ignore_bits) ∷ [])))

abbrev pub fault : {T : Type 0} → ℕ → PolicyKind → Result T PolicyFault
fault at kind = Err (record { at = at; kind = kind })

-- what stands before and behind the first of a byte
abbrev pub cut : ℕ → List ℕ → Option (List ℕ × List ℕ)
cut mark text =
    if nat_lt (position_or_len (λ byte. byte == mark) text) (length text)
    then Some (before_first (λ byte. byte == mark) text, after_first (λ byte. byte == mark) text) else None

-- flags with those of these names, the first of which begins at a place
abbrev pub with_named : ℕ → ℕ → List (List ℕ) → Result ℕ PolicyFault
with_named flags at [] = Ok flags
with_named flags at (name ∷ names) =
    option_map_or (λ bits. with_named (bit_or flags bits) (at + length name + 1) names) (bits_named name) (fault at UnknownFlag)

-- the flags of a text that begins at a place: none, or names with `+` between them
abbrev pub flags_in : ℕ → List ℕ → Result ℕ PolicyFault
flags_in at text = if length text == 0 then Ok 0 else with_named 0 at (slice_split (λ byte. byte == 43) text)

-- entries with one more, or its fault
abbrev pub with_flags : ℕ → Entries → Result ℕ PolicyFault → Result Entries PolicyFault
with_flags place entries (Ok flags) = Ok (slice_set entries place (Some (record { 0 = expanded flags })))
with_flags place entries (Err f) = Err f

-- what an entry sets, whose name begins at `at` and whose flags begin at `behind`: each name once
abbrev pub with_named_entry : ℕ → ℕ → Option ℕ → List ℕ → Entries → Result Entries PolicyFault
with_named_entry at behind None flags entries = fault at UnknownDesignator
with_named_entry at behind (Some place) flags entries =
    if is_some (slice_index_or entries place None) then fault at Repeated else with_flags place entries (flags_in behind flags)

-- what an entry sets that begins at a place, of which this is the name and the flags
abbrev pub with_parts : ℕ → Option (List ℕ × List ℕ) → Entries → Result Entries PolicyFault
with_parts at None entries = fault at NoEquals
with_parts at (Some parts) entries = with_named_entry at (at + length parts.0 + 1) (place_of parts.0) parts.1 entries

-- what an entry sets: a name, an equals sign, and flags
abbrev pub with_entry : ℕ → List ℕ → Entries → Result Entries PolicyFault
with_entry at text entries = with_parts at (cut 61 text) entries

-- what is set next, unless there was a fault
abbrev pub then_set : Result Entries PolicyFault → (Entries → Result Entries PolicyFault) → Result Entries PolicyFault
then_set (Ok entries) next = next entries
then_set (Err f) next = Err f

-- what these set, the first of which begins at a place
abbrev pub with_entries : ℕ → List (List ℕ) → Entries → Result Entries PolicyFault
with_entries at [] entries = Ok entries
with_entries at (text ∷ texts) entries = then_set (with_entry at text entries) (λ more. with_entries (at + length text + 1) texts more)

-- a policy that lists no designator
abbrev pub default_alone : ℕ → Policy
default_alone flags = record { default = record { 0 = flags }; listed = replicate 13 None }

-- what entries set, the default being to ignore if none sets it
abbrev pub policy_with : Result Entries PolicyFault → Result Policy PolicyFault
policy_with (Ok entries) =
    Ok (record { default = unwrap_or (slice_index_or entries 13 None) (record { 0 = ignore_bits }); listed = take 13 entries })
policy_with (Err f) = Err f

-- the policy of a text of at most 4,096 bytes: `*`, `-` or nothing, `~`, or entries with `:` between them
abbrev pub policy_of : List ℕ → Result Policy PolicyFault
policy_of text =
    if nat_lt 4096 (length text) then fault 4096 TooLong
    else if bytes_eq text (codes "*") then Ok (default_alone open_bits)
    else if bytes_eq text (codes "-") || (length text == 0) then Ok (default_alone ignore_bits)
    else if bytes_eq text (codes "~") then Ok (default_alone absent_bits)
    else policy_with (with_entries 0 (slice_split (λ byte. byte == 58) text) (replicate 14 None))
