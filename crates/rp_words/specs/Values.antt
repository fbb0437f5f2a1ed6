-- The values of options (own, each by the form of the layer that it is for).
use Rattle.std.specs.Prelude.{ℕ, ◌≡◌, ◌≤◌, ◌+◌, ◌*◌, ◌/◌, ◌%◌, ◌^◌, List, [], ◌∷◌, Bool, true, not, ◌==◌, nat_lt, if◌then◌else◌, codes, length, slice_index, Option, Some, None, is_some, option_map}
use Rattle.std.specs.List.{after_first, before_first, list_all, list_any, position_or_len, slice_split}
use Rattle.std.specs.Option.{option_map_or}
use Rattle.std.specs.Str.{bytes_eq}
use Rattle.rp_types.specs.Guids.{guid_of}
use Rattle.rp_values.specs.Numbers.{at_most, number_of, size_of}
use Rattle.rp_words.specs.declared.table.Opt.{Opt}
use Rattle.rp_words.specs.declared.table.Opt.TheVariants.{Definitions, Seed, Arch, Empty, Size, Json, SectorSize, FactoryReset, Policy, Against, Number}

-- the paths of folders, one at least, with colons between them
abbrev pub paths_of : List ℕ → List (List ℕ)
paths_of text = slice_split (λ byte. byte == 58) text

-- what stands before and behind the first colon
abbrev pub at_colon : List ℕ → Option (List ℕ × List ℕ)
at_colon text =
    if nat_lt (position_or_len (λ byte. byte == 58) text) (length text)
    then Some (before_first (λ byte. byte == 58) text, after_first (λ byte. byte == 58) text) else None

-- what stands before it, or all where there is none
abbrev pub before_colon : List ℕ → List ℕ
before_colon text = option_map_or (λ parts. parts.0) (at_colon text) text

-- what stands behind it, where there is one
abbrev pub behind_colon : List ℕ → Option (List ℕ)
behind_colon text = option_map (λ parts. parts.1) (at_colon text)

-- no path is empty
abbrev pub are_paths : List ℕ → Bool
are_paths text = list_all (λ path. not (length path == 0)) (paths_of text)

-- one of these texts
abbrev pub is_among : List (List ℕ) → List ℕ → Bool
is_among texts text = list_any (λ each. bytes_eq each text) texts

-- the least multiple of 4,096 that isn't below
abbrev pub rounded : ℕ → ℕ
rounded size = (size + 4095) / 4096 * 4096

-- a size in bytes, at most 2^44, rounded up to 4,096
abbrev pub size_in : List ℕ → Option ℕ
size_in text = option_map rounded (at_most (2 ^ 44) (size_of text))

-- what a size that is read is: whole grains of 4,096 bytes, at most 2^44 bytes
pub record IsSize (size : ℕ) : Type 0 where
  pub whole : size % 4096 ≡ 0
  pub most : size ≤ 2 ^ 44

-- a number from 1 to 100: decimal digits, the first of them no zero
abbrev pub number_in : List ℕ → Option ℕ
number_in text = if slice_index text 0 == 48 then None else at_most 100 (number_of text)

-- a text that an option takes
abbrev pub is_value : Opt → List ℕ → Bool
is_value Definitions text = are_paths text
is_value Seed text = is_some (guid_of text)
is_value Arch text = is_among (codes "x86-64" ∷ codes "arm64" ∷ []) text
is_value Empty text = is_among (codes "refuse" ∷ codes "allow" ∷ codes "require" ∷ []) text
is_value Size text = is_some (size_in text)
is_value Json text = is_among (codes "off" ∷ codes "short" ∷ []) text
is_value SectorSize text = is_among (codes "512" ∷ codes "4096" ∷ []) text
is_value FactoryReset text = is_among (codes "off" ∷ codes "on" ∷ []) text
is_value Policy text = true
is_value Against text = true
is_value Number text = is_some (number_in text)
