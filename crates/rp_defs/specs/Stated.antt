-- What one definition says (repart.d(5)): its record, from the assignments of its main file and drop-ins.
use Rattle.std.specs.Prelude.{ℕ, ◌+◌, min, max, pos, List, [], ◌∷◌, Bool, false, ◌==◌, if◌then◌else◌, Option, None, Some, Result, Ok}
use Rattle.std.specs.Prelude.{Err, unwrap_or, codes}
use Rattle.rp_base.specs.declared.guid.Guid.{Guid}
use Rattle.rp_base.specs.declared.want.Want.{Want}
use Rattle.rp_types.specs.declared.arch.Arch.{Arch}
use Rattle.rp_types.specs.Table.{no_auto, read_only, grow_file_system}
use Rattle.rp_files.specs.declared.piece.Piece.{Piece}
use Rattle.rp_defs.specs.declared.definition.Definition.{Definition}
use Rattle.rp_defs.specs.declared.definition.Verity.TheVariants as verity
use Rattle.rp_defs.specs.declared.fault.DefFault.{DefFault}
use Rattle.rp_defs.specs.declared.fault.DefKind.TheVariants.{Limits, NoType}
use Rattle.rp_defs.specs.Answers.{after}
use Rattle.rp_defs.specs.Attributes.{is_hash_type, bit_of}
use Rattle.rp_defs.specs.Faults.{whole_fault}
use Rattle.rp_defs.specs.Keys.{key_named}
use Rattle.rp_defs.specs.Limits.{min_of, max_of, has_no_size}
use Rattle.rp_defs.specs.Said.{Half, Off, Said, kind_said, id_said, label_said, priority_said, weight_said, size_said, switch_said}
use Rattle.rp_defs.specs.Said.{path_said, half_said, match_said, split_said, refused_said, off_said}
use Rattle.rp_defs.specs.Settings.{Placed, counting, read_pieces, all_placed, all_ignored}

-- a definition by itself, whose verity is off until its partner is known: which half of a pair it is, and the key of the pair
pub record Stated : Type 0 where
  pub definition : Definition
  pub half : Half
  pub match_key : Option (List ℕ)

-- what was said at an assignment: a fault names the main file, and the drop-in and the line of the assignment
abbrev pub said_at : {T : Type 0} → List ℕ → Placed → Said T → Result (Option T) DefFault
said_at file placed (Ok value) = Ok value
said_at file placed (Err kind) = Err (record { file = file; part = placed.0.part; line = placed.1.line; kind = kind })

-- what the key of a number says where this assignment of it counts, none where it is unset
abbrev pub said_of : {T : Type 0} → (ℕ → List ℕ → Said T) → List ℕ → ℕ → Option Placed → Result (Option T) DefFault
said_of reading file key None = Ok None
said_of reading file key (Some placed) = said_at file placed (reading key placed.1.value)

-- what a key says, by its name
abbrev pub says : {T : Type 0} → (ℕ → List ℕ → Said T) → List ℕ → List Placed → List ℕ → Result (Option T) DefFault
says reading file all name = said_of reading file (key_named name) (counting all name)

-- the partition type, which has to be set
abbrev pub required : List ℕ → Option Guid → Result Guid DefFault
required file None = Err (whole_fault file NoType)
required file (Some kind) = Ok kind

-- what a definition asks for: half of a verity pair has no weight and, unset, no minimum; any other has a grain at least, and
-- unset the lesser of 10 MiB and the maximum
abbrev pub want_said : Half → Option ℕ → Option ℕ → Option ℕ → Option ℕ → Option ℕ → Option ℕ → Want
want_said Off low high weight pad_low pad_high pad_weight = record {
  min = max 1 (min_of low (min 2560 (max_of high)));
  max = max_of high;
  weight = unwrap_or weight 1000;
  pad_min = min_of pad_low 0;
  pad_max = max_of pad_high;
  pad_weight = unwrap_or pad_weight 0;
}
want_said half low high weight pad_low pad_high pad_weight = record {
  min = min_of low 0;
  max = max_of high;
  weight = 0;
  pad_min = min_of pad_low 0;
  pad_max = max_of pad_high;
  pad_weight = unwrap_or pad_weight 0;
}

-- the attributes of a type: no-auto by default off, read-only on for hashes and signatures, grow-file-system on unless read-only is on
abbrev pub attrs_said : Guid → Option Bool → Option Bool → Option Bool → ℕ
attrs_said kind hidden fixed grows =
    let is_fixed = bit_of kind read_only (unwrap_or fixed (is_hash_type kind)) in
    bit_of kind no_auto (unwrap_or hidden false) + is_fixed + bit_of kind grow_file_system (unwrap_or grows (is_fixed == 0))

-- a minimum above its maximum is a fault
abbrev pub within_limits : List ℕ → Stated → Result Stated DefFault
within_limits file one = if has_no_size one.definition.want then Err (whole_fault file Limits) else Ok one

-- what the assignments of a definition state, or its first fault: the type, then the keys in their order, then the limits
unfoldable pub stated_by : Arch → List ℕ → List Placed → Result Stated DefFault
stated_by arch file all =
    after (after (says (kind_said arch) file all (codes "Type")) (required file)) (λ kind.
    after (says (label_said arch) file all (codes "Label")) (λ label.
    after (says id_said file all (codes "UUID")) (λ id.
    after (says priority_said file all (codes "Priority")) (λ priority.
    after (says weight_said file all (codes "Weight")) (λ weight.
    after (says weight_said file all (codes "PaddingWeight")) (λ pad_weight.
    after (says size_said file all (codes "SizeMinBytes")) (λ low.
    after (says size_said file all (codes "SizeMaxBytes")) (λ high.
    after (says size_said file all (codes "PaddingMinBytes")) (λ pad_low.
    after (says size_said file all (codes "PaddingMaxBytes")) (λ pad_high.
    after (says (path_said arch) file all (codes "CopyBlocks")) (λ source.
    after (says half_said file all (codes "Verity")) (λ half.
    after (says match_said file all (codes "VerityMatchKey")) (λ match_key.
    after (says switch_said file all (codes "NoAuto")) (λ hidden.
    after (says switch_said file all (codes "ReadOnly")) (λ fixed.
    after (says switch_said file all (codes "GrowFileSystem")) (λ grows.
    after (says switch_said file all (codes "FactoryReset")) (λ factory_reset.
    after (says refused_said file all (codes "CopyFiles")) (λ _.
    after (says off_said file all (codes "Encrypt")) (λ _.
    after (says refused_said file all (codes "Flags")) (λ _.
    after (says refused_said file all (codes "Format")) (λ _.
    after (says refused_said file all (codes "MakeDirectories")) (λ _.
    after (says off_said file all (codes "Minimize")) (λ _.
    after (says refused_said file all (codes "MountPoint")) (λ _.
    after (says refused_said file all (codes "Subvolumes")) (λ _.
    after (says (split_said arch) file all (codes "SplitName")) (λ split.
    within_limits file (record {
      definition = record {
        file = file;
        kind = kind;
        label = label;
        id = id;
        priority = unwrap_or priority (pos 0);
        want = want_said (unwrap_or half Off) low high weight pad_low pad_high pad_weight;
        attrs = attrs_said kind hidden fixed grows;
        source = source;
        verity = verity.Off;
        factory_reset = unwrap_or factory_reset false;
        split = split;
      };
      half = unwrap_or half Off;
      match_key = match_key;
    })))))))))))))))))))))))))))

-- what the pieces of one definition state, and how many of their assignments are ignored: faults of its pieces come first
abbrev pub stated_in : Arch → List ℕ → List Piece → Result (Stated × ℕ) DefFault
stated_in arch file pieces =
    after (read_pieces pieces) (λ read.
    after (stated_by arch file (all_placed read)) (λ one.
    Ok (one, all_ignored read)))

-- the same of a group of pieces, whose first is the main file
abbrev pub stated : Arch → List Piece → Result (Stated × ℕ) DefFault
stated arch [] = stated_in arch [] []
stated arch (main ∷ parts) = stated_in arch main.file (main ∷ parts)
