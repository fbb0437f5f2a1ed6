-- The draft of a definition is what its assignments state.
use Rattle.std.proofs.Common.{◌≡◌, ℕ, ℤ, List, ◌∷◌, Bool, true, false, cond, Option, Some, None, Result, Ok, Err, map, refl, ap}
use Rattle.std.proofs.Common.{sym, ◌∙◌}
use Rattle.std.specs.Prelude.{codes, option_map, unwrap_or, pos}
use Rattle.std.specs.List.{range_with_len}
use Rattle.std.specs.Option.{option_and_then}
use Rattle.rp_base.specs.declared.guid.Guid.{Guid}
use Rattle.rp_types.specs.declared.arch.Arch.{Arch}
use Rattle.rp_defs.specs.declared.definition.Verity.TheVariants as verity
use Rattle.rp_defs.specs.declared.draft.Draft.{Draft}
use Rattle.rp_defs.specs.declared.draft.Half.{Half as Kept}
use Rattle.rp_defs.specs.declared.draft.Half.TheVariants as half
use Rattle.rp_defs.specs.declared.fault.DefFault.{DefFault}
use Rattle.rp_defs.specs.declared.fault.DefKind.TheVariants.{Limits}
use Rattle.rp_defs.specs.declared.setting.Setting.{Setting}
use Rattle.rp_defs.specs.declared.value.Value.{Value}
use Rattle.rp_defs.specs.declared.value.Value.TheVariants as value
use Rattle.rp_defs.specs.Answers.{after, each}
use Rattle.rp_defs.specs.Drafts.{want_of, attrs_of, draft_from, draft_of, half_said as half_of_values}
use Rattle.rp_defs.specs.Drafts.{within_limits as draft_within}
use Rattle.rp_defs.specs.Faults.{whole_fault}
use Rattle.rp_defs.specs.Kept.{counting_of, counting as kept_counting}
use Rattle.rp_defs.specs.Keys.{key_named}
use Rattle.rp_defs.specs.Limits.{has_no_size}
use Rattle.rp_defs.specs.Readers.{reader_of}
use Rattle.rp_defs.specs.Said.{Half, Off, Data, Hash, Said, kind_said, id_said, label_said, priority_said, weight_said, size_said}
use Rattle.rp_defs.specs.Said.{switch_said, path_said, half_said, match_said, split_said, refused_said, off_said}
use Rattle.rp_defs.specs.Settings.{Placed, counting}
use Rattle.rp_defs.specs.Stated.{Stated, says, said_of, required, stated_by, within_limits, want_said, attrs_said}
use Rattle.rp_defs.specs.Value.{id_in, label_in, priority_in, weight_in, size_in, switch_in, text_in, id_of, as_label, priority_of}
use Rattle.rp_defs.specs.Value.{weight_of, size_of, half_of, switch_of, text_of}
use Rattle.rp_defs.specs.Values.{kept_as, read_at, half_kept, value_at, values_of, value_of, type_of, read_set}
use Rattle.rp_defs.proofs.TiedValues.{setting_kept, keyed_kept, counting_kept, read_kept, said_back}

-- what a definition states, as the code drafts it
abbrev pub draft_kept : Stated → Draft
draft_kept one = record { definition = one.definition; half = half_kept one.half; match_key = one.match_key }

-- an answer with another value
abbrev pub ok_map : {A B E : Type 0} → (A → B) → Result A E → Result B E
ok_map f (Ok value) = Ok (f value)
ok_map f (Err fault) = Err fault

module _ {A B : Type 0} (f : A → B) where
  rest_first : {V : Type 0} (rest : Result (List V) DefFault) (v : V) (k : List V → Result B DefFault)
      → after (after rest (λ vs. Ok (v ∷ vs))) k ≡ after rest (λ vs. k (v ∷ vs))
  rest_first (Ok vs) v k = refl
  rest_first (Err fault) v k = refl

  -- one more key, and what follows
  pub next : {T : Type 0} (r : Result (Option Value) DefFault) (said : Result (Option T) DefFault) (make : T → Value)
      (rest : Result (List (Option Value)) DefFault) (k : List (Option Value) → Result B DefFault) (l : Option T → Result A DefFault)
      → r ≡ kept_as make said → ((o : Option T) → after rest (λ vs. k (option_map make o ∷ vs)) ≡ ok_map f (l o))
      → after (after r (λ v. after rest (λ vs. Ok (v ∷ vs)))) k ≡ ok_map f (after said l)
  next r (Err fault) make rest k l is then =
      ap (λ (x : Result (Option Value) DefFault). after (after x (λ v. after rest (λ vs. Ok (v ∷ vs)))) k) is
  next r (Ok o) make rest k l is then =
      ap (λ (x : Result (Option Value) DefFault). after (after x (λ v. after rest (λ vs. Ok (v ∷ vs)))) k) is
      ∙ rest_first rest (option_map make o) k ∙ then o

  -- the type, which is read twice
  pub first : (file : List ℕ) (r : Result (Option Value) DefFault) (said : Result (Option Guid) DefFault)
      (rest : Result (List (Option Value)) DefFault) (k : Guid → List (Option Value) → Result B DefFault) (l : Guid → Result A DefFault)
      → r ≡ kept_as value.Id said
      → ((kind : Guid) (o : Option Guid) → after rest (λ vs. k kind (option_map value.Id o ∷ vs)) ≡ ok_map f (l kind))
      → after (after r (λ v. required file (option_and_then id_of v)))
      (λ kind. after (after r (λ v. after rest (λ vs. Ok (v ∷ vs)))) (k kind))
      ≡ ok_map f (after (after said (required file)) l)
  first file r (Err fault) rest k l is then =
      ap (λ (x : Result (Option Value) DefFault). after (after x (λ v. required file (option_and_then id_of v)))
      (λ kind. after (after x (λ v. after rest (λ vs. Ok (v ∷ vs)))) (k kind))) is
  first file r (Ok None) rest k l is then =
      ap (λ (x : Result (Option Value) DefFault). after (after x (λ v. required file (option_and_then id_of v)))
      (λ kind. after (after x (λ v. after rest (λ vs. Ok (v ∷ vs)))) (k kind))) is
  first file r (Ok (Some kind)) rest k l is then =
      ap (λ (x : Result (Option Value) DefFault). after (after x (λ v. required file (option_and_then id_of v)))
      (λ kind. after (after x (λ v. after rest (λ vs. Ok (v ∷ vs)))) (k kind))) is
      ∙ rest_first rest (Some (value.Id kind)) (k kind) ∙ then kind (Some kind)

-- the halves, and what a definition asks for, by half
half_back : (said : Option Half) → unwrap_or (option_and_then half_of (option_map (λ half. value.Half (half_kept half)) said)) half.Off
    ≡ half_kept (unwrap_or said Off)
half_back None = refl
half_back (Some h) = refl

want_same : (h : Half) (values : List (Option Value)) (low high weight pad_low pad_high pad_weight : Option ℕ)
    → size_in values (codes "SizeMinBytes") ≡ low → size_in values (codes "SizeMaxBytes") ≡ high
    → weight_in values (codes "Weight") ≡ weight
    → size_in values (codes "PaddingMinBytes") ≡ pad_low → size_in values (codes "PaddingMaxBytes") ≡ pad_high
    → weight_in values (codes "PaddingWeight") ≡ pad_weight
    → want_of (half_kept h) values ≡ want_said h low high weight pad_low pad_high pad_weight
unfolding want_of
want_same Off values low high weight pad_low pad_high pad_weight a b c d e f = rw (a, b, c, d, e, f) refl
want_same Data values low high weight pad_low pad_high pad_weight a b c d e f = rw (a, b, d, e, f) refl
want_same Hash values low high weight pad_low pad_high pad_weight a b c d e f = rw (a, b, d, e, f) refl

attrs_same : (kind : Guid) (values : List (Option Value)) (hidden fixed grows : Option Bool)
    → switch_in values (codes "NoAuto") ≡ hidden → switch_in values (codes "ReadOnly") ≡ fixed
    → switch_in values (codes "GrowFileSystem") ≡ grows
    → attrs_of kind values ≡ attrs_said kind hidden fixed grows
unfolding attrs_of
attrs_same kind values hidden fixed grows a b c = rw (a, b, c) refl

-- no draft has a minimum above its maximum
limits_same : (b : Bool) (file : List ℕ) (one : Stated) → cond b (Err (whole_fault file Limits)) (Ok (draft_kept one))
    ≡ ok_map draft_kept (cond b (Err (whole_fault file Limits)) (Ok one))
limits_same true file one = refl
limits_same false file one = refl

module _ (arch : Arch) (file : List ℕ) (all : List Placed) where
  -- the settings that count
  abbrev settings : List (Option Setting)
  settings = counting_of (map keyed_kept all)

  abbrev key : ℕ → Result (Option Value) DefFault
  key = value_at arch file settings

  abbrev keys_from : ℕ → ℕ → Result (List (Option Value)) DefFault
  keys_from number count = each key (range_with_len number count)

  -- the value of a key is what it says
  read_same : {T : Type 0} (make : T → Value) (reading : ℕ → List ℕ → Said T) (number : ℕ) (counts : Option Placed)
      → ((text : List ℕ) → value_of arch (reader_of number) number text ≡ kept_as make (reading number text))
      → read_set arch file number (option_map setting_kept counts) ≡ kept_as make (said_of reading file number counts)
  read_same make reading number None is = refl
  read_same make reading number (Some placed) is =
      ap (λ r. read_setting r) (is placed.1.value) ∙ read_kept make file placed (reading number placed.1.value) where
        read_setting : Said Value → Result (Option Value) DefFault
        read_setting = read_at file (setting_kept placed)

  told : {T : Type 0} (make : T → Value) (reading : ℕ → List ℕ → Said T) (number : ℕ) (name : List ℕ)
      → key number ≡ read_set arch file number (kept_counting (map keyed_kept all) name) → key_named name ≡ number
      → ((text : List ℕ) → value_of arch (reader_of number) number text ≡ kept_as make (reading number text))
      → key number ≡ kept_as make (says reading file all name)
  told make reading number name here named is =
      here ∙ ap (read_set arch file number) (counting_kept all name) ∙ read_same make reading number (counting all name) is
      ∙ ap (λ n. kept_as make (said_of reading file n (counting all name))) (sym named)

  abbrev half_made : Half → Value
  half_made half = value.Half (half_kept half)

  told_0 : key 0 ≡ kept_as value.Id (says (kind_said arch) file all (codes "Type"))
  unfolding value_at counting_of reader_of value_of
  told_0 = told value.Id (kind_said arch) 0 (codes "Type") refl refl (λ text. refl)

  told_1 : key 1 ≡ kept_as value.Label (says (label_said arch) file all (codes "Label"))
  unfolding value_at counting_of reader_of value_of
  told_1 = told value.Label (label_said arch) 1 (codes "Label") refl refl (λ text. refl)

  told_2 : key 2 ≡ kept_as value.Id (says id_said file all (codes "UUID"))
  unfolding value_at counting_of reader_of value_of
  told_2 = told value.Id id_said 2 (codes "UUID") refl refl (λ text. refl)

  told_3 : key 3 ≡ kept_as value.Priority (says priority_said file all (codes "Priority"))
  unfolding value_at counting_of reader_of value_of
  told_3 = told value.Priority priority_said 3 (codes "Priority") refl refl (λ text. refl)

  told_4 : key 4 ≡ kept_as value.Weight (says weight_said file all (codes "Weight"))
  unfolding value_at counting_of reader_of value_of
  told_4 = told value.Weight weight_said 4 (codes "Weight") refl refl (λ text. refl)

  told_5 : key 5 ≡ kept_as value.Weight (says weight_said file all (codes "PaddingWeight"))
  unfolding value_at counting_of reader_of value_of
  told_5 = told value.Weight weight_said 5 (codes "PaddingWeight") refl refl (λ text. refl)

  told_6 : key 6 ≡ kept_as value.Size (says size_said file all (codes "SizeMinBytes"))
  unfolding value_at counting_of reader_of value_of
  told_6 = told value.Size size_said 6 (codes "SizeMinBytes") refl refl (λ text. refl)

  told_7 : key 7 ≡ kept_as value.Size (says size_said file all (codes "SizeMaxBytes"))
  unfolding value_at counting_of reader_of value_of
  told_7 = told value.Size size_said 7 (codes "SizeMaxBytes") refl refl (λ text. refl)

  told_8 : key 8 ≡ kept_as value.Size (says size_said file all (codes "PaddingMinBytes"))
  unfolding value_at counting_of reader_of value_of
  told_8 = told value.Size size_said 8 (codes "PaddingMinBytes") refl refl (λ text. refl)

  told_9 : key 9 ≡ kept_as value.Size (says size_said file all (codes "PaddingMaxBytes"))
  unfolding value_at counting_of reader_of value_of
  told_9 = told value.Size size_said 9 (codes "PaddingMaxBytes") refl refl (λ text. refl)

  told_10 : key 10 ≡ kept_as value.Text (says (path_said arch) file all (codes "CopyBlocks"))
  unfolding value_at counting_of reader_of value_of
  told_10 = told value.Text (path_said arch) 10 (codes "CopyBlocks") refl refl (λ text. refl)

  told_11 : key 11 ≡ kept_as half_made (says half_said file all (codes "Verity"))
  unfolding value_at counting_of reader_of value_of
  told_11 = told half_made half_said 11 (codes "Verity") refl refl (λ text. refl)

  told_12 : key 12 ≡ kept_as value.Text (says match_said file all (codes "VerityMatchKey"))
  unfolding value_at counting_of reader_of value_of
  told_12 = told value.Text match_said 12 (codes "VerityMatchKey") refl refl (λ text. refl)

  told_13 : key 13 ≡ kept_as value.Switch (says switch_said file all (codes "NoAuto"))
  unfolding value_at counting_of reader_of value_of
  told_13 = told value.Switch switch_said 13 (codes "NoAuto") refl refl (λ text. refl)

  told_14 : key 14 ≡ kept_as value.Switch (says switch_said file all (codes "ReadOnly"))
  unfolding value_at counting_of reader_of value_of
  told_14 = told value.Switch switch_said 14 (codes "ReadOnly") refl refl (λ text. refl)

  told_15 : key 15 ≡ kept_as value.Switch (says switch_said file all (codes "GrowFileSystem"))
  unfolding value_at counting_of reader_of value_of
  told_15 = told value.Switch switch_said 15 (codes "GrowFileSystem") refl refl (λ text. refl)

  told_16 : key 16 ≡ kept_as value.Switch (says switch_said file all (codes "FactoryReset"))
  unfolding value_at counting_of reader_of value_of
  told_16 = told value.Switch switch_said 16 (codes "FactoryReset") refl refl (λ text. refl)

  told_17 : key 17 ≡ kept_as value.Text (says refused_said file all (codes "CopyFiles"))
  unfolding value_at counting_of reader_of value_of
  told_17 = told value.Text refused_said 17 (codes "CopyFiles") refl refl (λ text. refl)

  told_18 : key 18 ≡ kept_as value.Text (says off_said file all (codes "Encrypt"))
  unfolding value_at counting_of reader_of value_of
  told_18 = told value.Text off_said 18 (codes "Encrypt") refl refl (λ text. refl)

  told_19 : key 19 ≡ kept_as value.Text (says refused_said file all (codes "Flags"))
  unfolding value_at counting_of reader_of value_of
  told_19 = told value.Text refused_said 19 (codes "Flags") refl refl (λ text. refl)

  told_20 : key 20 ≡ kept_as value.Text (says refused_said file all (codes "Format"))
  unfolding value_at counting_of reader_of value_of
  told_20 = told value.Text refused_said 20 (codes "Format") refl refl (λ text. refl)

  told_21 : key 21 ≡ kept_as value.Text (says refused_said file all (codes "MakeDirectories"))
  unfolding value_at counting_of reader_of value_of
  told_21 = told value.Text refused_said 21 (codes "MakeDirectories") refl refl (λ text. refl)

  told_22 : key 22 ≡ kept_as value.Text (says off_said file all (codes "Minimize"))
  unfolding value_at counting_of reader_of value_of
  told_22 = told value.Text off_said 22 (codes "Minimize") refl refl (λ text. refl)

  told_23 : key 23 ≡ kept_as value.Text (says refused_said file all (codes "MountPoint"))
  unfolding value_at counting_of reader_of value_of
  told_23 = told value.Text refused_said 23 (codes "MountPoint") refl refl (λ text. refl)

  told_24 : key 24 ≡ kept_as value.Text (says refused_said file all (codes "Subvolumes"))
  unfolding value_at counting_of reader_of value_of
  told_24 = told value.Text refused_said 24 (codes "Subvolumes") refl refl (λ text. refl)

  told_25 : key 25 ≡ kept_as value.Text (says (split_said arch) file all (codes "SplitName"))
  unfolding value_at counting_of reader_of value_of
  told_25 = told value.Text (split_said arch) 25 (codes "SplitName") refl refl (λ text. refl)

  module _ (kind : Guid) (values : List (Option Value)) (label : Option (List ℕ)) (id : Option Guid) (priority : Option ℤ)
      (weight pad_weight low high pad_low pad_high : Option ℕ) (source : Option (List ℕ)) (half : Option Half) (match_key : Option (List ℕ))
      (hidden fixed grows factory_reset : Option Bool) (split : Option (List ℕ))
      (is_label : label_in values (codes "Label") ≡ label) (is_id : id_in values (codes "UUID") ≡ id)
      (is_priority : priority_in values (codes "Priority") ≡ priority) (is_weight : weight_in values (codes "Weight") ≡ weight)
      (is_pad_weight : weight_in values (codes "PaddingWeight") ≡ pad_weight) (is_low : size_in values (codes "SizeMinBytes") ≡ low)
      (is_high : size_in values (codes "SizeMaxBytes") ≡ high) (is_pad_low : size_in values (codes "PaddingMinBytes") ≡ pad_low)
      (is_pad_high : size_in values (codes "PaddingMaxBytes") ≡ pad_high) (is_source : text_in values (codes "CopyBlocks") ≡ source)
      (is_half : half_of_values values ≡ half_kept (unwrap_or half Off))
      (is_match_key : text_in values (codes "VerityMatchKey") ≡ match_key)
      (is_hidden : switch_in values (codes "NoAuto") ≡ hidden) (is_fixed : switch_in values (codes "ReadOnly") ≡ fixed)
      (is_grows : switch_in values (codes "GrowFileSystem") ≡ grows) (is_reset : switch_in values (codes "FactoryReset") ≡ factory_reset)
      (is_split : text_in values (codes "SplitName") ≡ split) where
    abbrev one : Stated
    one = record {
      definition = record {
        file = file;
        kind = kind;
        label = label;
        id = id;
        priority = unwrap_or priority (pos 0);
        want = want_said (unwrap_or half Off) low high weight pad_low pad_high pad_weight;
        attrs = attrs_said kind hidden fixed grows;
        source = source;
        verity = verity.Off;
        factory_reset = unwrap_or factory_reset false;
        split = split;
      };
      half = unwrap_or half Off;
      match_key = match_key;
    }

    draft_same : draft_from file kind values ≡ draft_kept one
    unfolding draft_from
    draft_same =
        let want = ap (λ (h : Kept). want_of h values) is_half
        ∙ want_same (unwrap_or half Off) values low high weight pad_low pad_high pad_weight is_low is_high is_weight is_pad_low is_pad_high
        is_pad_weight in
        let attrs = attrs_same kind values hidden fixed grows is_hidden is_fixed is_grows in
        rw (is_label, is_id, is_priority, want, attrs, is_source, is_reset, is_split, is_half, is_match_key) refl

    ended : draft_within file (draft_from file kind values) ≡ ok_map draft_kept (within_limits file one)
    ended = ap (draft_within file) draft_same ∙ limits_same (has_no_size one.definition.want) file one

  -- the draft from the settings that count is what the assignments state
  pub draft_said : draft_of arch file settings ≡ ok_map draft_kept (stated_by arch file all)
  unfolding draft_of type_of values_of stated_by
  draft_said =
      first draft_kept file (key 0) (says (kind_said arch) file all (codes "Type")) (keys_from 1 25) _ _ told_0 (λ kind type.
      next draft_kept (key 1) _ value.Label (keys_from 2 24) _ _ told_1 (λ label.
      next draft_kept (key 2) _ value.Id (keys_from 3 23) _ _ told_2 (λ id.
      next draft_kept (key 3) _ value.Priority (keys_from 4 22) _ _ told_3 (λ priority.
      next draft_kept (key 4) _ value.Weight (keys_from 5 21) _ _ told_4 (λ weight.
      next draft_kept (key 5) _ value.Weight (keys_from 6 20) _ _ told_5 (λ pad_weight.
      next draft_kept (key 6) _ value.Size (keys_from 7 19) _ _ told_6 (λ low.
      next draft_kept (key 7) _ value.Size (keys_from 8 18) _ _ told_7 (λ high.
      next draft_kept (key 8) _ value.Size (keys_from 9 17) _ _ told_8 (λ pad_low.
      next draft_kept (key 9) _ value.Size (keys_from 10 16) _ _ told_9 (λ pad_high.
      next draft_kept (key 10) _ value.Text (keys_from 11 15) _ _ told_10 (λ source.
      next draft_kept (key 11) _ half_made (keys_from 12 14) _ _ told_11 (λ half.
      next draft_kept (key 12) _ value.Text (keys_from 13 13) _ _ told_12 (λ match_key.
      next draft_kept (key 13) _ value.Switch (keys_from 14 12) _ _ told_13 (λ hidden.
      next draft_kept (key 14) _ value.Switch (keys_from 15 11) _ _ told_14 (λ fixed.
      next draft_kept (key 15) _ value.Switch (keys_from 16 10) _ _ told_15 (λ grows.
      next draft_kept (key 16) _ value.Switch (keys_from 17 9) _ _ told_16 (λ factory_reset.
      next draft_kept (key 17) _ value.Text (keys_from 18 8) _ _ told_17 (λ a.
      next draft_kept (key 18) _ value.Text (keys_from 19 7) _ _ told_18 (λ b.
      next draft_kept (key 19) _ value.Text (keys_from 20 6) _ _ told_19 (λ c.
      next draft_kept (key 20) _ value.Text (keys_from 21 5) _ _ told_20 (λ d.
      next draft_kept (key 21) _ value.Text (keys_from 22 4) _ _ told_21 (λ e.
      next draft_kept (key 22) _ value.Text (keys_from 23 3) _ _ told_22 (λ f.
      next draft_kept (key 23) _ value.Text (keys_from 24 2) _ _ told_23 (λ g.
      next draft_kept (key 24) _ value.Text (keys_from 25 1) _ _ told_24 (λ h.
      next draft_kept (key 25) _ value.Text (keys_from 26 0) _ _ told_25 (λ split.
      ended kind _ label id priority weight pad_weight low high pad_low pad_high source half match_key hidden fixed grows factory_reset
      split
      (said_back value.Label as_label (λ x. refl) label)
      (said_back value.Id id_of (λ x. refl) id)
      (said_back value.Priority priority_of (λ x. refl) priority)
      (said_back value.Weight weight_of (λ x. refl) weight)
      (said_back value.Weight weight_of (λ x. refl) pad_weight)
      (said_back value.Size size_of (λ x. refl) low)
      (said_back value.Size size_of (λ x. refl) high)
      (said_back value.Size size_of (λ x. refl) pad_low)
      (said_back value.Size size_of (λ x. refl) pad_high)
      (said_back value.Text text_of (λ x. refl) source)
      (half_back half)
      (said_back value.Text text_of (λ x. refl) match_key)
      (said_back value.Switch switch_of (λ x. refl) hidden)
      (said_back value.Switch switch_of (λ x. refl) fixed)
      (said_back value.Switch switch_of (λ x. refl) grows)
      (said_back value.Switch switch_of (λ x. refl) factory_reset)
      (said_back value.Text text_of (λ x. refl) split)))))))))))))))))))))))))))
