-- Labels, paths and file names in definition files (repart.d(5): Label=, CopyBlocks=, SplitName=, and its specifiers).
use Rattle.std.specs.Prelude.{ℕ, List, [], ◌∷◌, ◌++◌, Bool, ◌&&◌, ◌||◌, not, ◌==◌, nat_lt, nat_le, if◌then◌else◌, Option, Some, None, Result, Ok, Err, codes, length}
use Rattle.std.specs.List.{list_any}
use Rattle.std.specs.Option.{option_and_then, option_map, ok_or}
use Rattle.std.specs.Str.{bytes_eq}
use Rattle.rp_base.specs.Name.{name_of, units_of}
use Rattle.rp_types.specs.Designators.{arch_name}
use Rattle.rp_types.specs.declared.arch.Arch.{Arch}
use Rattle.rp_values.specs.declared.label.LabelFault.{LabelFault}
use Rattle.rp_values.specs.declared.label.LabelFault.TheVariants.{BadLabel, TooLong}
use Rattle.rp_values.specs.declared.split.SplitFault.{SplitFault}
use Rattle.rp_values.specs.declared.split.SplitFault.TheVariants.{BadName}

-- what the letter behind a percent sign stands for: `%%` is `%`, `%a` is the architecture
abbrev pub specified : Arch → ℕ → Option (List ℕ)
specified arch letter = if letter == 37 then Some (37 ∷ []) else if letter == 97 then Some (arch_name arch) else None

-- one text before another, if both are there
abbrev pub joined : Option (List ℕ) → Option (List ℕ) → Option (List ℕ)
joined front rest = option_and_then (λ f. option_map (λ r. f ++ r) rest) front

-- a text with its specifiers replaced, none where a percent sign isn't followed by one of these letters
unfoldable pub expanded : Arch → List ℕ → Option (List ℕ)
expanded arch [] = Some []
expanded arch (c ∷ []) = if c == 37 then None else Some (c ∷ [])
expanded arch (c ∷ letter ∷ rest) =
    if c == 37 then joined (specified arch letter) (expanded arch rest) else joined (Some (c ∷ [])) (expanded arch (letter ∷ rest))

-- the label of a text: more than 36 units of UTF-16 are refused first, then a zero among them
abbrev pub label_units : List ℕ → Result (List ℕ) LabelFault
label_units text = if nat_lt 36 (length (units_of text)) then Err TooLong else ok_or (name_of text) BadLabel

-- a label's units (UEFI 2.10, 5.3.3), or its fault: specifiers are looked at before all else
unfoldable pub label_of_text : Arch → List ℕ → Result (List ℕ) LabelFault
label_of_text arch text = expanded_label (expanded arch text) where
  expanded_label : Option (List ℕ) → Result (List ℕ) LabelFault
  expanded_label None = Err BadLabel
  expanded_label (Some whole) = label_units whole

-- a path has 1 to 4,095 bytes, none of them zero
abbrev pub is_path : List ℕ → Bool
is_path text = nat_le 1 (length text) && nat_le (length text) 4095 && not (list_any (λ byte. byte == 0) text)

-- the path that a text says
unfoldable pub path_of : Arch → List ℕ → Option (List ℕ)
path_of arch text = option_and_then (λ whole. if is_path whole then Some whole else None) (expanded arch text)

-- own: the name of a split file has 1 to 128 bytes, none of them zero or a slash, and isn't that of a folder's own entries
abbrev pub is_file_name : List ℕ → Bool
is_file_name text =
    nat_le 1 (length text) && nat_le (length text) 128 && not (list_any (λ byte. byte == 0 || byte == 47) text)
    && not (bytes_eq text (codes ".")) && not (bytes_eq text (codes ".."))

-- the name of the file that a partition is split into, none for `-`, or its fault
abbrev pub file_name : List ℕ → Result (Option (List ℕ)) SplitFault
file_name text = if bytes_eq text (codes "-") then Ok None else if is_file_name text then Ok (Some text) else Err BadName

unfoldable pub split_name_of : Arch → List ℕ → Result (Option (List ℕ)) SplitFault
split_name_of arch text = named (expanded arch text) where
  named : Option (List ℕ) → Result (Option (List ℕ)) SplitFault
  named None = Err BadName
  named (Some whole) = file_name whole
