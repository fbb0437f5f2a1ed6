-- A run of `make` from the input that it has made.
use Rattle.std.proofs.Common.{ℕ, ◌≡◌, ◌∙◌, List, Some, Ok, ap, subst, inr}
use Rattle.rp_base.specs.declared.guid.Guid.{Guid}
use Rattle.rp_defs.specs.declared.definition.Definitions.{Definitions}
use Rattle.rp_io.specs.Files.{Tree}
use Rattle.rp_io.specs.declared.stored.Stored.{Stored}
use Rattle.rp_make_input.specs.MadeFolders.{failures_of, strays_of, tree_of}
use Rattle.rp_make_input.specs.MadeSources.{failures_of as source_failures, files_in, strays_of as source_strays}
use Rattle.rp_make_input.specs.MakeInput.{HoldsInput, make_input}
use Rattle.rp_make_input.specs.declared.input.Input.{Input}
use Rattle.rp_outcome.specs.Device.{Device}
use Rattle.rp_outcome.specs.Output.{Output}
use Rattle.rp_outcome.specs.Store.{Store}
use Rattle.rp_reading.specs.Reading.{ReadsDefinitions}
use Rattle.rp_types.specs.declared.arch.Arch.TheVariants.{X86_64}
use Rattle.rp_make_command.specs.Makes.{FailsAstray, Makes, MakesRead, made_store}

abbrev at : {Held : Type 0} → Held → ℕ → ℕ → Store Held
at held faults strays = record { told = Some held; faults = faults; strays = strays }

-- folders or sources that hold this, and of which no call has failed or strayed
is_made : {Held : Type 0} (held other : Held) (faults strays : ℕ) → held ≡ other → faults ≡ 0 → strays ≡ 0 → at held faults strays ≡ made_store other
is_made {Held} held other faults strays same none none_astray =
    ap (λ (h : Held). at h faults strays) same ∙ ap (λ (n : ℕ). at other n strays) none ∙ ap (λ (n : ℕ). at other 0 n) none_astray

-- the input was made, and its definitions were read
pub started : (number : ℕ) (input : Input) → HoldsInput number input → (dirs : List (List ℕ)) → dirs ≡ input.dirs → (read : Store Tree)
    (definitions : Definitions)
    → ReadsDefinitions X86_64 dirs (at (tree_of input.folders) (failures_of input.folders) (strays_of input.folders)) read (Ok definitions)
    → FailsAstray read → (drained : Store (List Stored)) → FailsAstray drained → (disk later : Device) (out after : Output) (status : ℕ)
    → MakesRead number input.seed definitions disk later (at (files_in input.sources) (source_failures input.sources) (source_strays input.sources))
    drained out after status → Makes number disk later out after status
started number input holds dirs same read definitions reads astray drained sources_astray disk later out after status makes =
    let folders = is_made (tree_of input.folders) (make_input number).tree (failures_of input.folders) (strays_of input.folders)
    holds.tree holds.folder_failures holds.folder_strays in
    let sources = is_made (files_in input.sources) (make_input number).files (source_failures input.sources) (source_strays input.sources)
    holds.files holds.source_failures holds.source_strays in
    inr (
      read,
      Ok definitions,
      subst (λ (s : Store Tree). ReadsDefinitions X86_64 (make_input number).dirs s read (Ok definitions)) folders
          (subst (λ (d : List (List ℕ)). ReadsDefinitions X86_64 d
          (at (tree_of input.folders) (failures_of input.folders) (strays_of input.folders)) read (Ok definitions))
          (same ∙ holds.dirs) reads),
      astray,
      (
        drained,
        sources_astray,
        subst (λ (s : Guid). MakesRead number s definitions disk later (made_store (make_input number).files) drained out after status) holds.seed
            (subst (λ (s : Store (List Stored)). MakesRead number input.seed definitions disk later s drained out after status) sources makes),
      ),
    )
