-- What the table's tests say of a type that is found in it.
use Rattle.std.proofs.Common.{◌≡◌, ◌≢◌, ℕ, ◌+◌, ◌-◌, ◌≤◌, List, [], ◌∷◌, Bool, true, false, cond, Option, None, Some, get_or, length, refl, sym, ap, ◌∙◌, subst, arith}
use Rattle.std.specs.Prelude.{find, nat_le, nat_lt, not, if◌then◌else◌, option_map, replicate, IfSome}
use Rattle.std.specs.List.{list_all}
use Rattle.std.specs.Option.{option_map_or}
use Rattle.std.specs.Str.{bytes_eq}
use Rattle.std.proofs.lemmas.Bool.{leb-true}
use Rattle.std.proofs.lemmas.Slice.Eq.{bytes_eq-Decides}
use Rattle.rp_base.specs.declared.guid.Guid.{Guid}
use Rattle.rp_types.specs.declared.arch.Arch.{Arch}
use Rattle.rp_types.specs.declared.arch.Arch.TheVariants.{X86_64, Arm64}
use Rattle.rp_types.specs.declared.arch.Designator.{Designator}
use Rattle.rp_types.specs.declared.table.PartitionType.{PartitionType}
use Rattle.rp_types.specs.Designators.{designator_name, designator_under}
use Rattle.rp_types.specs.Table.{types}
use Rattle.rp_types.specs.Types.{entry_of, by_guid, by_name, is_called, padded}
use Rattle.rp_types.specs.Guids.{guid_text}
use Rattle.uuid.specs.Text.{digit_place, hex_digit, hyphen, is_hyphen_place, lower, nibble}
use Rattle.uuid.proofs.TextLemmas.{by_index_at}
use Rattle.rp_types.proofs.Finding.{find_passes}
use Rattle.rp_types.proofs.Listed.{coded, of_types}

-- whether an option is this type
is_kind : Option Guid → Guid → Bool
is_kind None kind = false
is_kind (Some other) kind = bytes_eq other.0 kind.0

guid : List ℕ → Guid
guid bytes = record { 0 = bytes }

same_guid : (a b : Guid) → bytes_eq a.0 b.0 ≡ true → a ≡ b
unfolding guid
same_guid a b h = ap guid ((bytes_eq-Decides a.0 b.0).0 h)

is_kind-Some : (o : Option Guid) (kind : Guid) → is_kind o kind ≡ true → o ≡ Some kind
unfolding is_kind
is_kind-Some None kind h = absurd (cc)
is_kind-Some (Some other) kind h = ap Some (same_guid other kind h)

-- ---- what is computed of the table
Entry : Type 0
Entry = List ℕ × PartitionType

-- a type's name finds it
names_back : (arch : Arch) → list_all (λ entry. is_kind (by_name entry.0 arch) entry.1.kind) types ≡ true
unfolding by_name is_kind Entry
names_back arch = of_types
    (λ (all : List Entry). list_all (λ entry. is_kind (option_map (λ e. e.1.kind) (find (is_called entry.0 arch) all)) entry.1.kind) all ≡ true)
    (by_arch arch) where
      by_arch : (arch : Arch) → list_all (λ entry. is_kind (option_map (λ e. e.1.kind) (find (is_called entry.0 arch) coded)) entry.1.kind) coded ≡ true
      by_arch X86_64 = refl
      by_arch Arm64 = refl

-- a type's designator's name finds it
designators_back : (arch : Arch) → list_all (λ entry. option_map_or (λ d. is_kind (by_name (designator_name d) arch) entry.1.kind) (designator_under arch entry.1) true) types ≡ true
unfolding by_name is_kind Entry
designators_back arch = of_types
    (λ (all : List Entry). list_all (λ entry. option_map_or (λ d. is_kind (option_map (λ e. e.1.kind) (find (is_called (designator_name d) arch) all)) entry.1.kind) (designator_under arch entry.1) true) all ≡ true)
    (by_arch arch) where
      by_arch : (arch : Arch) → list_all (λ entry. option_map_or (λ d. is_kind (option_map (λ e. e.1.kind) (find (is_called (designator_name d) arch) coded)) entry.1.kind) (designator_under arch entry.1) true) coded ≡ true
      by_arch X86_64 = refl
      by_arch Arm64 = refl

names_fit : list_all (λ entry. nat_le (length entry.0) 36) types ≡ true
unfolding types
names_fit = refl

kinds_used : list_all (λ entry. not (bytes_eq entry.1.kind.0 (replicate 16 0))) types ≡ true
unfolding Entry
kinds_used = of_types (λ (all : List Entry). list_all (λ entry. not (bytes_eq entry.1.kind.0 (replicate 16 0))) all ≡ true) refl

names_begin : list_all (λ entry. nat_le 1 (get_or entry.0 0 0)) types ≡ true
unfolding types
names_begin = refl

-- the type of the entry that is found for it
entry_of-kind : (kind : Guid) (q : List ℕ × PartitionType → Bool) (entry : List ℕ × PartitionType) → list_all q types ≡ true
    → Some entry ≡ entry_of kind → (entry.1.kind ≡ kind) × (q entry ≡ true)
unfolding entry_of
entry_of-kind kind q entry all found =
    let both = find_passes (λ e. bytes_eq e.1.kind.0 kind.0) q types entry all (sym found) in
    (same_guid entry.1.kind kind both.0, both.1)

pub by_name-entry : (kind : Guid) (entry : List ℕ × PartitionType) → Some entry ≡ entry_of kind → (arch : Arch)
    → by_name entry.0 arch ≡ Some kind
by_name-entry kind entry found arch =
    let both = entry_of-kind kind (λ e. is_kind (by_name e.0 arch) e.1.kind) entry (names_back arch) found in
    is_kind-Some (by_name entry.0 arch) entry.1.kind both.1 ∙ ap Some both.0

pub entry_of-fits : (kind : Guid) (entry : List ℕ × PartitionType) → Some entry ≡ entry_of kind → length entry.0 ≤ 36
entry_of-fits kind entry found =
    let both = entry_of-kind kind (λ e. nat_le (length e.0) 36) entry names_fit found in
    leb-true (length entry.0) 36 both.1

option_passes : (f : Designator → Bool) (o : Option Designator) (d : Designator) → o ≡ Some d → option_map_or f o true ≡ true → f d ≡ true
option_passes f o d e h = let at = ap (λ x. option_map_or f x true) (sym e) in at ∙ h

by_name-designator : (kind : Guid) (arch : Arch) (entry : List ℕ × PartitionType) (d : Designator) → Some entry ≡ entry_of kind
    → designator_under arch entry.1 ≡ Some d → by_name (designator_name d) arch ≡ Some kind
by_name-designator kind arch entry d found has =
    let test = λ (x : Designator). is_kind (by_name (designator_name x) arch) entry.1.kind in
    let both = entry_of-kind kind
    (λ e. option_map_or (λ x. is_kind (by_name (designator_name x) arch) e.1.kind) (designator_under arch e.1) true)
    entry (designators_back arch) found in
    is_kind-Some (by_name (designator_name d) arch) entry.1.kind (option_passes test (designator_under arch entry.1) d has both.1)
    ∙ ap Some both.0

pub by_name-designators : (kind : Guid) (arch : Arch) (entry : List ℕ × PartitionType) (o : Option Designator) → Some entry ≡ entry_of kind
    → o ≡ designator_under arch entry.1 → IfSome o (λ d. by_name (designator_name d) arch ≡ Some kind)
by_name-designators kind arch entry None found e = tt
by_name-designators kind arch entry (Some d) found e = by_name-designator kind arch entry d found (sym e)

not_true : (b : Bool) → not b ≡ true → b ≡ false
not_true true h = absurd (cc)
not_true false h = refl

pub by_name-used : (name : List ℕ) (arch : Arch) (entry : List ℕ × PartitionType) → find (is_called name arch) types ≡ Some entry
    → entry.1.kind.0 ≢ replicate 16 0
by_name-used name arch entry found zero =
    let both = find_passes (is_called name arch) (λ e. not (bytes_eq e.1.kind.0 (replicate 16 0))) types entry kinds_used found in
    let differs : bytes_eq entry.1.kind.0 (replicate 16 0) ≡ false = not_true _ both.1 in
    let same = (bytes_eq-Decides entry.1.kind.0 (replicate 16 0)).1 zero in
    absurd (cc)

entry_of-begins : (kind : Guid) (entry : List ℕ × PartitionType) → Some entry ≡ entry_of kind → 1 ≤ get_or entry.0 0 0
entry_of-begins kind entry found =
    let both = entry_of-kind kind (λ e. nat_le 1 (get_or e.0 0 0)) entry names_begin found in
    leb-true 1 (get_or entry.0 0 0) both.1

begins_by : (o : Option (List ℕ × PartitionType)) (name : List ℕ) → ((e : List ℕ × PartitionType) → Some e ≡ o → 1 ≤ get_or e.0 0 0)
    → Some name ≡ option_map (λ e. e.0) o → 1 ≤ get_or name 0 0
begins_by None name each is = absurd (cc)
begins_by (Some e) name each is = let same : e.0 ≡ name = cc in subst (λ t. 1 ≤ get_or t 0 0) same (each e refl)

pub by_guid-begins : (kind : Guid) (name : List ℕ) → Some name ≡ by_guid kind → 1 ≤ get_or name 0 0
unfolding by_guid
by_guid-begins kind name is = begins_by (entry_of kind) name (λ e. entry_of-begins kind e) is

digit_begins : (b : Bool) (d : ℕ) → 1 ≤ cond b (48 + d) (97 + d - 10)
digit_begins true d = omega arith
digit_begins false d = omega arith

pub guid_text-begins : (id : Guid) → 1 ≤ get_or (guid_text id) 0 0
unfolding guid_text
guid_text-begins id =
    let first = by_index_at 36 (λ k. if is_hyphen_place k then hyphen else hex_digit lower (nibble id.0 (digit_place k))) 0 0 (omega arith) in
    subst (λ n. 1 ≤ n) (sym first) (digit_begins (nat_lt (nibble id.0 0) 10) (nibble id.0 0))

pub padded-begins : (n : ℕ) (text : List ℕ) → 1 ≤ get_or text 0 0 → get_or (padded n text) 0 0 ≢ 0
padded-begins n [] h e = absurd (omega arith)
padded-begins n (unit ∷ units) h e = absurd (omega arith)
