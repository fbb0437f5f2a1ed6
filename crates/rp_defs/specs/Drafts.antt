-- The drafts of definitions, as the code makes them of the values of keys.
use Rattle.std.specs.Prelude.{ℕ, ℤ, ◌+◌, min, max, pos, List, [], ◌∷◌, false, ◌==◌, if◌then◌else◌, Option, Result, Ok, Err, map, sum_by}
use Rattle.std.specs.Prelude.{unwrap_or, codes}
use Rattle.rp_base.specs.declared.guid.Guid.{Guid}
use Rattle.rp_base.specs.declared.want.Want.{Want}
use Rattle.rp_types.specs.declared.arch.Arch.{Arch}
use Rattle.rp_types.specs.Table.{no_auto, read_only, grow_file_system}
use Rattle.rp_files.specs.declared.piece.Piece.{Piece}
use Rattle.rp_defs.specs.declared.definition.Definitions.{Definitions}
use Rattle.rp_defs.specs.declared.definition.Verity.TheVariants as verity
use Rattle.rp_defs.specs.declared.draft.Draft.{Draft}
use Rattle.rp_defs.specs.declared.draft.Half.{Half}
use Rattle.rp_defs.specs.declared.draft.Half.TheVariants.{Off}
use Rattle.rp_defs.specs.declared.fault.DefFault.{DefFault}
use Rattle.rp_defs.specs.declared.fault.DefKind.TheVariants.{Limits}
use Rattle.rp_defs.specs.declared.setting.Setting.{Setting}
use Rattle.rp_defs.specs.declared.value.Value.{Value}
use Rattle.rp_defs.specs.Answers.{after, each}
use Rattle.rp_defs.specs.Attributes.{is_hash_type, bit_of}
use Rattle.rp_defs.specs.Faults.{whole_fault}
use Rattle.rp_defs.specs.Kept.{counting_of, all_keyed}
use Rattle.rp_defs.specs.Limits.{min_of, max_of, has_no_size}
use Rattle.rp_defs.specs.Pairs.{paired}
use Rattle.rp_defs.specs.Settings.{read_pieces, all_ignored, groups_of}
use Rattle.rp_defs.specs.Value.{id_in, label_in, priority_in, weight_in, size_in, half_in, switch_in, text_in}
use Rattle.rp_defs.specs.Values.{type_of, values_of}

-- what a definition asks for: half of a verity pair has no weight and, unset, no minimum; any other has a grain at least, and
-- unset the lesser of 10 MiB and the maximum
unfoldable pub want_of : Half → List (Option Value) → Want
want_of Off values = record {
  min = max 1 (min_of (size_in values (codes "SizeMinBytes")) (min 2560 (max_of (size_in values (codes "SizeMaxBytes")))));
  max = max_of (size_in values (codes "SizeMaxBytes"));
  weight = unwrap_or (weight_in values (codes "Weight")) 1000;
  pad_min = min_of (size_in values (codes "PaddingMinBytes")) 0;
  pad_max = max_of (size_in values (codes "PaddingMaxBytes"));
  pad_weight = unwrap_or (weight_in values (codes "PaddingWeight")) 0;
}
want_of half values = record {
  min = min_of (size_in values (codes "SizeMinBytes")) 0;
  max = max_of (size_in values (codes "SizeMaxBytes"));
  weight = 0;
  pad_min = min_of (size_in values (codes "PaddingMinBytes")) 0;
  pad_max = max_of (size_in values (codes "PaddingMaxBytes"));
  pad_weight = unwrap_or (weight_in values (codes "PaddingWeight")) 0;
}

-- the attributes of a type: no-auto by default off, read-only on for hashes and signatures, grow-file-system on unless read-only is on
unfoldable pub attrs_of : Guid → List (Option Value) → ℕ
attrs_of kind values =
    let fixed = bit_of kind read_only (unwrap_or (switch_in values (codes "ReadOnly")) (is_hash_type kind)) in
    bit_of kind no_auto (unwrap_or (switch_in values (codes "NoAuto")) false) + fixed
    + bit_of kind grow_file_system (unwrap_or (switch_in values (codes "GrowFileSystem")) (fixed == 0))

abbrev pub within_limits : List ℕ → Draft → Result Draft DefFault
within_limits file draft = if has_no_size draft.definition.want then Err (whole_fault file Limits) else Ok draft

-- which half of a verity pair the values of its keys make a definition
abbrev pub half_said : List (Option Value) → Half
half_said values = unwrap_or (half_in values (codes "Verity")) Off

-- the priority that they give it
abbrev pub priority_said : List (Option Value) → ℤ
priority_said values = unwrap_or (priority_in values (codes "Priority")) (pos 0)

-- a definition from its type and the values of its keys, with the half and the match key of its pair; its verity is off until its
-- partner is known
unfoldable pub draft_from : List ℕ → Guid → List (Option Value) → Draft
draft_from file kind values = record {
  definition = record {
    file = file;
    kind = kind;
    label = label_in values (codes "Label");
    id = id_in values (codes "UUID");
    priority = priority_said values;
    want = want_of (half_said values) values;
    attrs = attrs_of kind values;
    source = text_in values (codes "CopyBlocks");
    verity = verity.Off;
    factory_reset = unwrap_or (switch_in values (codes "FactoryReset")) false;
    split = text_in values (codes "SplitName");
  };
  half = half_said values;
  match_key = text_in values (codes "VerityMatchKey");
}

-- a definition from what its pieces set, or its first fault: its type, which has to be set, the values in the order of the keys, then
-- the limits
unfoldable pub draft_of : Arch → List ℕ → List (Option Setting) → Result Draft DefFault
draft_of arch file counting =
    after (type_of arch file counting) (λ kind.
    after (values_of arch file counting) (λ values.
    within_limits file (draft_from file kind values)))

-- a definition's draft, and how many assignments of its pieces are ignored
pub record Drafted : Type 0 where
  pub draft : Draft
  pub ignored : ℕ

-- the draft of the pieces of one definition: faults of its pieces come first
abbrev pub drafted : Arch → List ℕ → List Piece → Result Drafted DefFault
drafted arch file pieces =
    after (read_pieces pieces) (λ read.
    after (draft_of arch file (counting_of (all_keyed read))) (λ draft.
    Ok (record { draft = draft; ignored = all_ignored read })))

-- the draft of a group of pieces, whose first is the main file
abbrev pub drafted_group : Arch → List Piece → Result Drafted DefFault
drafted_group arch [] = drafted arch [] []
drafted_group arch (main ∷ parts) = drafted arch main.file (main ∷ parts)

-- the drafts of the pieces, and their pairs
unfoldable pub drafted_records : Arch → List Piece → Result Definitions DefFault
drafted_records arch pieces =
    after (each (drafted_group arch) (groups_of pieces)) (λ all.
    after (paired (map (λ one. one.draft) all)) (λ list.
    Ok (record { list = list; ignored = sum_by (λ one. one.ignored) all })))
