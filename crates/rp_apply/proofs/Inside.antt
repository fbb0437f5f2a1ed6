-- Calls that lie in a row.
use Rattle.std.proofs.Common.{◌≡◌, ℕ, ◌+◌, ◌-◌, ◌*◌, ◌≤◌, List, [], ◌∷◌, length, get_or, ap, arith}
use Rattle.std.specs.List.{concat}
use Rattle.std.proofs.lemmas.List.{length-append}
use Rattle.std.proofs.lemmas.List.FromFn.{length-map-range_with_len}
use Rattle.rp_base.specs.Image.{bytes_at}
use Rattle.rp_base.specs.Trees.{hash_blocks, levels}
use Rattle.rp_base.specs.declared.guid.Guid.{Guid}
use Rattle.rp_base.specs.declared.table.Row.{Row}
use Rattle.rp_disk.specs.declared.call.Call.{Call}
use Rattle.rp_disk.specs.declared.call.Call.TheVariants.{Write, Sync, SetLen}
use Rattle.rp_disk.specs.Stops.{Each}
use Rattle.rp_disk.proofs.Blocks.{Each-imp}
use Rattle.rp_format.specs.Written.{AreBlocks, tree_calls}
use Rattle.rp_format.proofs.Places.{length-tree, tree_blocks}
use Rattle.rp_steps.specs.Calls.{in_pieces, tree_writes}
use Rattle.rp_steps.specs.Steps.{byte_count, from_byte}
use Rattle.rp_steps.specs.Writes.{piece, pieces}
use Rattle.rp_steps.proofs.Pieces.{pieces_write}
use Rattle.rp_steps.proofs.Trees.{length-superblock, tree_fill}
use Rattle.rp_steps.proofs.Written.{Each-append, Writes}
use Rattle.rp_step.specs.Found.{tree_of}
use Rattle.rp_stops.specs.Rows.{IsInside}
use Rattle.rp_verity.specs.Order.{blocks_over}
use Rattle.rp_verity.specs.Superblock.{superblock}
use Rattle.rp_verity.specs.Tree.{stored_tree}
use Rattle.rp_verity.proofs.ShapeLemmas.{hash_blocks-over}

-- a call that is planned within a range is one inside each row that has the range
pub inside_row : (value : ℕ → ℕ) (low high : ℕ) (row : Row) (call : Call) → from_byte row ≤ low → high ≤ from_byte row + byte_count row
    → Writes value low high call → IsInside row call
inside_row value low high row (Write at bytes) from to writes = let a = writes.0 in let b = writes.1 in (omega arith, omega arith)
inside_row value low high row Sync from to writes = absurd writes
inside_row value low high row (SetLen len) from to writes = absurd writes

-- bytes in pieces
pub pieces_in : (row : Row) (at : ℕ) (bytes : List ℕ) → from_byte row ≤ at → at + length bytes ≤ from_byte row + byte_count row
    → Each (IsInside row) (in_pieces at bytes)
pieces_in row at bytes from to =
    let value = λ (k : ℕ). get_or bytes (k - at) 0 in
    Each-imp (Writes value at (at + length bytes)) (IsInside row) (λ call writes. inside_row value at (at + length bytes) row call from to writes) (in_pieces at bytes)
    (pieces_write value at (at + length bytes) at bytes (omega arith) (omega arith)
    (λ i below. ap (λ (j : ℕ). get_or bytes j 0) (let e : i ≡ at + i - at = omega arith in e)))

pub some_pieces : (at : ℕ) (bytes : List ℕ) → 1 ≤ length bytes → 1 ≤ length (in_pieces at bytes)
unfolding in_pieces
some_pieces at bytes some =
    omega (arith, length-map-range_with_len (λ k. Write (at + piece * k) (bytes_at bytes (piece * k) piece)) 0 (pieces (length bytes)))

-- a tree and its superblock
pub tree_in : (row : Row) (data_at blocks : ℕ) (salt : List ℕ) (uuid : Guid) (root : List ℕ) (taken : List (List ℕ)) → AreBlocks blocks taken → 1 ≤ blocks
    → 8 * hash_blocks blocks ≤ row.size → length uuid.0 ≡ 16 → length salt ≡ 32
    → Each (IsInside row) (tree_calls (tree_of data_at (from_byte row) blocks salt uuid root) taken)
tree_in row data_at blocks salt uuid root taken are some room id long =
    let at = from_byte row in
    let tree = stored_tree salt taken in
    let value = λ (k : ℕ). get_or (concat tree) (k - (at + 4096)) 0 in
    let over = hash_blocks-over blocks some in
    let count : length taken ≡ blocks = are.count in
    let size : length tree + 1 ≡ hash_blocks blocks = let l = length-tree salt taken in let same = ap (λ (n : ℕ). blocks_over (levels n) n) count in omega (arith, l, same, over) in
    let fill = tree_fill value at blocks tree [] some (tree_blocks salt taken) size
    (λ i below. ap (λ (j : ℕ). get_or (concat tree) j 0) (let e : at + 4096 + i - (at + 4096) ≡ i = omega arith in e)) in
    let super = length-superblock uuid blocks salt id long in
    Each-append (IsInside row) (tree_writes at blocks tree) (Write at (superblock uuid blocks salt) ∷ [])
    (Each-imp (Writes value (at + 4096) (at + 4096 * hash_blocks blocks)) (IsInside row)
    (λ call writes. inside_row value (at + 4096) (at + 4096 * hash_blocks blocks) row call (omega arith) (omega (arith, room)) writes) (tree_writes at blocks tree) fill.writes)
    ((omega arith, omega (arith, super, room, over)), tt)

pub some_tree : (data_at hash_at blocks : ℕ) (salt : List ℕ) (uuid : Guid) (root : List ℕ) (taken : List (List ℕ))
    → 1 ≤ length (tree_calls (tree_of data_at hash_at blocks salt uuid root) taken)
some_tree data_at hash_at blocks salt uuid root taken =
    omega (arith, length-append (tree_writes hash_at blocks (stored_tree salt taken)) (Write hash_at (superblock uuid blocks salt) ∷ []))
