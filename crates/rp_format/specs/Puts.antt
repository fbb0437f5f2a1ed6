-- Hash blocks with their places behind the superblock's block, and their writes.
use Rattle.std.specs.Prelude.{ℕ, ◌+◌, ◌*◌, ◌≤◌, List, All, map, slice_index}
use Rattle.std.specs.List.{range_with_len}
use Rattle.rp_base.specs.Image.{bytes_at}
use Rattle.rp_disk.specs.declared.call.Call.{Call}
use Rattle.rp_disk.specs.declared.call.Call.TheVariants.{Write}

-- so many places, each with its block of bytes that stand one behind another
abbrev pub kept_puts : ℕ → List ℕ → List ℕ → List (ℕ × List ℕ)
kept_puts count places blocks = map (λ k. (slice_index places k, bytes_at blocks (4096 * k) 4096)) (range_with_len 0 count)

-- blocks written each at its place behind the superblock's block
abbrev pub writes_of : ℕ → List (ℕ × List ℕ) → List Call
writes_of hash_at puts = map (λ put. Write (hash_at + 4096 * (1 + put.0)) put.1) puts

-- these writes end by a place
abbrev pub EndBy : ℕ → ℕ → List (ℕ × List ℕ) → Type 0
EndBy hash_at end puts = All (λ put. hash_at + 4096 * (2 + put.0) ≤ end) puts
