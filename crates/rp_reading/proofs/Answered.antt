-- What reading definitions answers, by where it ends.
use Rattle.std.proofs.Common.{ℕ, ◌≡◌, ◌⊎◌, ◌∙◌, List, Option, Some, None, Result, Ok, Err, IfSome, refl, sym, ap, inl, inr, arith}
use Rattle.rp_base.specs.Answers.{Gives}
use Rattle.rp_defs.specs.Faults.{no_memory}
use Rattle.rp_defs.specs.Records.{records}
use Rattle.rp_defs.specs.WellFormed.{IsWellFormed}
use Rattle.rp_defs.specs.declared.definition.Definitions.{Definitions}
use Rattle.rp_defs.specs.declared.fault.DefFault.{DefFault}
use Rattle.rp_defs.specs.declared.fault.DefKind.{DefKind}
use Rattle.rp_defs.specs.declared.fault.DefKind.TheVariants as kinds
use Rattle.rp_files.specs.Faults.{HasLoadCause, Loads}
use Rattle.rp_files.specs.Pieces.{pieces}
use Rattle.rp_files.specs.declared.fault.LoadFault.{LoadFault}
use Rattle.rp_files.specs.declared.fault.LoadFault.TheVariants.{FolderFault, TooMany, TooBig, Memory}
use Rattle.rp_files.specs.declared.piece.Piece.{Piece}
use Rattle.rp_io.specs.Files.{Tree}
use Rattle.rp_outcome.specs.Definitions.{def_refusal, load_refusal, refusal_of}
use Rattle.rp_outcome.specs.Refusals.{Refusal, folder_refusal, memory_refusal}
use Rattle.rp_outcome.specs.Store.{Store}
use Rattle.rp_outcome.specs.Words.{line_text}
use Rattle.rp_reading.specs.Reading.{IsReadingRefusal, ReadsDefinitions, definitions_in}
use Rattle.rp_reading.specs.Stages.{HasStageCause, Settles, and_then, refused}
use Rattle.rp_types.specs.declared.arch.Arch.{Arch}

-- refusals of two statuses differ
differ : {P : Type 0} (a b : Refusal) (m n : ℕ) → ◌≡◌ {A = Result Definitions Refusal} (Err a) (Err b) → a.status ≡ m → b.status ≡ n → (m ≡ n → ⊥) → P
differ a b m n e is_m is_n apart = absurd (apart (sym is_m ∙ ap (λ (r : Refusal). r.status) (same e) ∙ is_n)) where
  same : ◌≡◌ {A = Result Definitions Refusal} (Err a) (Err b) → a ≡ b
  same e = cc

abbrev Loaded : Result (List Piece) LoadFault → Result (List Piece) LoadFault → Type 0
Loaded ideal result = Loads (λ found. found) ideal result

-- what folders tell, where loading ended with a fault
settled_load : (arch : Arch) (dirs : List (List ℕ)) (told : Option Tree) (fault : LoadFault)
    → IfSome told (λ tree. Loaded (pieces tree dirs) (Err fault))
    → IfSome told (λ tree. Settles folder_refusal (definitions_in arch tree dirs) (Err (load_refusal fault)))
settled_load arch dirs None fault loads = tt
settled_load arch dirs (Some tree) FolderFault loads = inr (inl refl)
settled_load arch dirs (Some tree) TooMany loads =
    inl (sym (ap (λ (p : Result (List Piece) LoadFault). and_then (refused load_refusal p) (λ pieces. refused def_refusal (records arch pieces))) loads))
settled_load arch dirs (Some tree) (TooBig file part) loads =
    inl (sym (ap (λ (p : Result (List Piece) LoadFault). and_then (refused load_refusal p) (λ pieces. refused def_refusal (records arch pieces))) loads))
settled_load arch dirs (Some tree) Memory loads = inr (inr refl)

refusal_load : (fault : LoadFault) → IsReadingRefusal (load_refusal fault)
refusal_load FolderFault = inr (inl refl)
refusal_load TooMany = inl refl
refusal_load (TooBig file part) = inl refl
refusal_load Memory = inr (inr refl)

cause_load : (before now : ℕ) (fault : LoadFault) → HasLoadCause {T = List Piece} before now (Err fault)
    → HasStageCause {T = Definitions} folder_refusal before now (Err (load_refusal fault))
cause_load before now FolderFault cause = record { failed = λ e. cause.1; kept = inl refl }
cause_load before now TooMany cause =
    record { failed = λ e. differ (load_refusal TooMany) folder_refusal 3 8 e refl refl (λ h. omega arith); kept = inr cause }
cause_load before now (TooBig file part) cause =
    record { failed = λ e. differ (load_refusal (TooBig file part)) folder_refusal 3 8 e refl refl (λ h. omega arith); kept = inr cause }
cause_load before now Memory cause = record { failed = λ e. differ memory_refusal folder_refusal 10 8 e refl refl (λ h. omega arith); kept = inr cause }

-- the files couldn't be loaded
pub loading_failed : (arch : Arch) (dirs : List (List ℕ)) (before now : Store Tree) (fault : LoadFault) → now.told ≡ before.told
    → IfSome before.told (λ tree. now.strays ≡ before.strays)
    → IfSome before.told (λ tree. Loaded (pieces tree dirs) (Err fault))
    → HasLoadCause {T = List Piece} before.faults now.faults (Err fault)
    → ReadsDefinitions arch dirs before now (Err (load_refusal fault))
loading_failed arch dirs before now fault told strays loads cause = record {
  told = told;
  strays = strays;
  settled = settled_load arch dirs before.told fault loads;
  well_formed = tt;
  refusal = refusal_load fault;
  cause = cause_load before.faults now.faults fault cause;
}

-- what folders tell, where their pieces were read
settled_read : (arch : Arch) (dirs : List (List ℕ)) (told : Option Tree) (found : List Piece) (result : Result Definitions DefFault)
    → IfSome told (λ tree. Loaded (pieces tree dirs) (Ok found)) → Gives no_memory (records arch found) result
    → IfSome told (λ tree. Settles folder_refusal (definitions_in arch tree dirs) (refused def_refusal result))
settled_read arch dirs None found result loads gives = tt
settled_read arch dirs (Some tree) found result loads (inl same) =
    inl (ap (refused def_refusal) same
    ∙ sym (ap (λ (p : Result (List Piece) LoadFault). and_then (refused load_refusal p) (λ pieces. refused def_refusal (records arch pieces))) loads))
settled_read arch dirs (Some tree) found result loads (inr want) = inr (inr (ap (refused def_refusal) want))

-- the status of a definition's fault
status_of : (place : List ℕ) (kind : DefKind) → ((refusal_of place kind).status ≡ 3) ⊎ (refusal_of place kind ≡ memory_refusal)
status_of place (kinds.Ini fault) = inl refl
status_of place kinds.NoType = inl refl
status_of place (kinds.BadValue key) = inl refl
status_of place (kinds.Unsupported key) = inl refl
status_of place kinds.LabelTooLong = inl refl
status_of place kinds.Limits = inl refl
status_of place kinds.VerityPair = inl refl
status_of place kinds.Memory = inr refl

refusal_def : (fault : DefFault) → IsReadingRefusal (def_refusal fault)
refusal_def fault = elim (status_of (line_text fault.file fault.part fault.line) fault.kind) [
  | inl e ↦ inl e
  | inr e ↦ inr (inr e)
]

cause_def : (before now : ℕ) (fault : DefFault) → now ≡ before → HasStageCause {T = Definitions} folder_refusal before now (Err (def_refusal fault))
cause_def before now fault same = record {
  failed = λ e. elim (status_of (line_text fault.file fault.part fault.line) fault.kind) [
    | inl three ↦ differ (def_refusal fault) folder_refusal 3 8 e three refl (λ h. omega arith)
    | inr want ↦ differ (def_refusal fault) folder_refusal 10 8 e (ap (λ (r : Refusal). r.status) want) refl (λ h. omega arith)
  ];
  kept = inr same;
}

-- the definitions of the pieces were read
pub reading_done : (arch : Arch) (dirs : List (List ℕ)) (before now : Store Tree) (found : List Piece) (definitions : Definitions) → now.told ≡ before.told
    → IfSome before.told (λ tree. now.strays ≡ before.strays)
    → IfSome before.told (λ tree. Loaded (pieces tree dirs) (Ok found)) → now.faults ≡ before.faults
    → Gives no_memory (records arch found) (Ok definitions) → IsWellFormed definitions.list
    → ReadsDefinitions arch dirs before now (Ok definitions)
reading_done arch dirs before now found definitions told strays loads same gives well_formed = record {
  told = told;
  strays = strays;
  settled = settled_read arch dirs before.told found (Ok definitions) loads gives;
  well_formed = well_formed;
  refusal = tt;
  cause = record { failed = λ e. absurd (no_err e); kept = inr same };
} where
  no_err : ◌≡◌ {A = Result Definitions Refusal} (Ok definitions) (Err folder_refusal) → ⊥
  no_err e = absurd (cc)

pub reading_failed : (arch : Arch) (dirs : List (List ℕ)) (before now : Store Tree) (found : List Piece) (fault : DefFault) → now.told ≡ before.told
    → IfSome before.told (λ tree. now.strays ≡ before.strays)
    → IfSome before.told (λ tree. Loaded (pieces tree dirs) (Ok found)) → now.faults ≡ before.faults
    → Gives no_memory (records arch found) (Err fault)
    → ReadsDefinitions arch dirs before now (Err (def_refusal fault))
reading_failed arch dirs before now found fault told strays loads same gives = record {
  told = told;
  strays = strays;
  settled = settled_read arch dirs before.told found (Err fault) loads gives;
  well_formed = tt;
  refusal = refusal_def fault;
  cause = cause_def before.faults now.faults fault same;
}
