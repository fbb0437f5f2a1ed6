-- What new rows hold when all is done: own rules. A source is the bytes of the file that a definition names, by the place of
-- the definition in their list; it has no bytes where there is no such file.
use Rattle.std.specs.Prelude.{ℕ, ◌+◌, ◌*◌, ◌-◌, ◌==◌, ◌≡◌, nat_le, if◌then◌else◌, List, [], ◌++◌, All, find, length, replicate, ⊤}
use Rattle.std.specs.List.{concat}
use Rattle.std.specs.Option.{option_map_or}
use Rattle.rp_base.specs.Image.{bytes_at}
use Rattle.rp_base.specs.Plan.{Noted, noted_of}
use Rattle.rp_base.specs.declared.plan.Plan.{Plan}
use Rattle.rp_base.specs.declared.plan.Role.{Role}
use Rattle.rp_base.specs.declared.plan.Role.TheVariants.{Plain, Data, Hash}
use Rattle.rp_disk.specs.Calls.{resized}
use Rattle.rp_verity.specs.Filled.{cut}
use Rattle.rp_verity.specs.Superblock.{superblock}
use Rattle.rp_verity.specs.Tree.{stored_tree}
use Rattle.rp_steps.specs.Steps.{byte_count, byte_of_slot, from_byte, mebibyte, source_len}

-- the sources of definitions
abbrev pub Sources : Type 0
Sources = ℕ → List ℕ

-- the first bytes of a row's source, as many as planned; zeros stand for what it lacks, which no copying can read
unfoldable pub source_bytes : Sources → Noted → List ℕ
source_bytes sources noted = option_map_or (λ file. resized (sources file) (source_len noted.1)) noted.1.file []

-- its source, and zeros up to the row's end
abbrev pub payload : Sources → Noted → List ℕ
payload sources noted = resized (source_bytes sources noted) (byte_count noted.0)

-- the bytes of the new row that begins at a place
unfoldable pub payload_at : Plan → Sources → ℕ → List ℕ
payload_at plan sources at = option_map_or (payload sources) (find (λ noted. from_byte noted.0 == at) (noted_of plan)) []

-- the tree over the blocks of the row that begins at a place (Linux, dm-verity)
unfoldable pub tree_over : Plan → Sources → ℕ → ℕ → List ℕ → List (List ℕ)
tree_over plan sources at blocks salt = stored_tree salt (cut blocks (payload_at plan sources at))

-- of a rest of so many bytes of a plain row the first and the last MiB are zeros, and those between as they were
unfoldable pub plain_rest : List ℕ → ℕ → ℕ → List ℕ
plain_rest image at len =
    if nat_le len (2 * mebibyte) then replicate len 0
    else replicate mebibyte 0 ++ bytes_at image (at + mebibyte) (len - 2 * mebibyte) ++ replicate mebibyte 0

-- what a new row holds, by its role, on the image as it was and of its new length: its source and a rest; its source and zeros; a
-- superblock, the tree over its partner's blocks, and zeros
unfoldable pub contents_as : Plan → Sources → List ℕ → Noted → Role → List ℕ
contents_as plan sources image noted Plain =
    let len = source_len noted.1 in
    source_bytes sources noted ++ plain_rest image (from_byte noted.0 + len) (byte_count noted.0 - len)
contents_as plan sources image noted (Data partner root) = payload sources noted
contents_as plan sources image noted (Hash partner blocks salt uuid root) =
    resized (superblock uuid blocks salt ++ concat (tree_over plan sources (byte_of_slot plan.goal.rows partner) blocks salt))
    (byte_count noted.0)

abbrev pub contents : Plan → Sources → List ℕ → Noted → List ℕ
contents plan sources image noted = contents_as plan sources image noted noted.1.role

-- the numbers of a role are within their fields, as those of each value of the type are
abbrev pub RoleFits : Role → Type 0
RoleFits (Hash partner blocks salt uuid root) = (length salt ≡ 32) × (length uuid.0 ≡ 16)
RoleFits other = ⊤

abbrev pub NotesFit : Plan → Type 0
NotesFit plan = All (λ note. RoleFits note.role) plan.notes
