-- The calls on the disk that steps are: own rules.
use Rattle.std.specs.Prelude.{ℕ, Bool, true, false, ◌+◌, ◌*◌, List, [], ◌∷◌, ◌++◌, flat_map, length, map, replicate}
use Rattle.std.specs.List.{range_with_len}
use Rattle.rp_base.specs.Image.{bytes_at}
use Rattle.rp_base.specs.declared.geometry.Which.TheVariants.{Primary, Backup}
use Rattle.rp_base.specs.declared.plan.Plan.{Plan}
use Rattle.rp_base.specs.declared.seen.Seen.{Seen}
use Rattle.rp_disk.specs.Calls.{resized}
use Rattle.rp_disk.specs.declared.call.Call.{Call}
use Rattle.rp_disk.specs.declared.call.Call.TheVariants.{Write, SetLen, Sync as SyncCall}
use Rattle.rp_stops.specs.Order.{array_call, close_call, header_call, mbr_call}
use Rattle.rp_verity.specs.Order.{order}
use Rattle.rp_verity.specs.Puts.{placed}
use Rattle.rp_verity.specs.Superblock.{superblock}
use Rattle.rp_steps.specs.Contents.{Sources, tree_over}
use Rattle.rp_steps.specs.Steps.{contents_steps, steps}
use Rattle.rp_steps.specs.Writes.{piece, pieces}
use Rattle.rp_steps.specs.declared.step.Step.{Step}
use Rattle.rp_steps.specs.declared.step.Step.TheVariants.{Grow, Zero, Copy, Tree, ClosePrimary, ArrayPrimary, HeaderPrimary, CloseBackup, ArrayBackup, HeaderBackup, Mbr, Sync}

-- bytes written from a place on, piece by piece, the last of them maybe shorter
unfoldable pub in_pieces : ℕ → List ℕ → List Call
in_pieces at bytes = map (λ k. Write (at + piece * k) (bytes_at bytes (piece * k) piece)) (range_with_len 0 (pieces (length bytes)))

-- the blocks of a tree written behind its superblock's, in the order in which they become complete
unfoldable pub tree_writes : ℕ → ℕ → List (List ℕ) → List Call
tree_writes hash_at blocks tree = map (λ put. Write (hash_at + 4096 * (1 + put.0)) put.1) (placed tree (order blocks))

-- the calls of a step; a superblock is written behind its tree, so that it tells of a whole one
unfoldable pub calls_of : Plan → Sources → Step → List Call
calls_of plan sources (Grow len) = SetLen len ∷ []
calls_of plan sources (Zero at len) = in_pieces at (replicate len 0)
calls_of plan sources (Copy file at len) = in_pieces at (resized (sources file) len)
calls_of plan sources (Tree data_at hash_at blocks salt uuid root) =
    tree_writes hash_at blocks (tree_over plan sources data_at blocks salt) ++ Write hash_at (superblock uuid blocks salt) ∷ []
calls_of plan sources ClosePrimary = close_call plan Primary ∷ []
calls_of plan sources ArrayPrimary = array_call plan Primary ∷ []
calls_of plan sources HeaderPrimary = header_call plan Primary ∷ []
calls_of plan sources CloseBackup = close_call plan Backup ∷ []
calls_of plan sources ArrayBackup = array_call plan Backup ∷ []
calls_of plan sources HeaderBackup = header_call plan Backup ∷ []
calls_of plan sources Mbr = mbr_call plan ∷ []
calls_of plan sources Sync = SyncCall ∷ []

-- the calls of steps, in their order
abbrev pub calls_of_steps : Plan → Sources → List Step → List Call
calls_of_steps plan sources steps = flat_map (calls_of plan sources) steps

-- the calls of a plan on an image of which this was seen
abbrev pub calls : Plan → Seen → Sources → List Call
calls plan seen sources = calls_of_steps plan sources (steps plan seen)

-- those that give the new rows their contents
abbrev pub contents_calls : Plan → Sources → List Call
contents_calls plan sources = calls_of_steps plan sources (contents_steps plan)

-- a call writes bytes
abbrev pub is_write : Call → Bool
is_write (Write at bytes) = true
is_write other = false
