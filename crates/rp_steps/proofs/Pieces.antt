-- Bytes that are written piece by piece.
use Rattle.std.proofs.Common.{◌≡◌, ℕ, ◌+◌, ◌-◌, ◌*◌, ◌/◌, ◌<◌, ◌≤◌, min, List, [], length, get_or, drop, map, replicate, sym, ap, ◌∙◌, arith}
use Rattle.std.specs.List.{range_with_len}
use Rattle.std.proofs.lemmas.List.{get_or-replicate, length-drop, length-replicate, length-take}
use Rattle.rp_base.specs.Image.{bytes_at}
use Rattle.rp_disk.specs.declared.call.Call.TheVariants.{Write}
use Rattle.rp_disk.specs.Stops.{Each}
use Rattle.rp_disk.proofs.Ranges.{bytes_at-take}
use Rattle.rp_steps.specs.Calls.{in_pieces}
use Rattle.rp_steps.specs.Writes.{piece, pieces}
use Rattle.rp_steps.proofs.Written.{Covered, Covered-map, Each-map, Writes, get_or-range}

-- a range that passes the end is cut there
pub length-cut : (bytes : List ℕ) (at n : ℕ) → length (bytes_at bytes at n) ≡ min n (length bytes - at)
length-cut bytes at n =
    ap length (bytes_at-take bytes at n) ∙ length-take n (drop at bytes) ∙ ap (λ (l : ℕ). min n l) (length-drop at bytes)

-- each piece writes its own bytes
pub pieces_write : (value : ℕ → ℕ) (low high at : ℕ) (bytes : List ℕ) → low ≤ at → at + length bytes ≤ high
    → ((i : ℕ) → i < length bytes → get_or bytes i 0 ≡ value (at + i)) → Each (Writes value low high) (in_pieces at bytes)
unfolding in_pieces
pieces_write value low high at bytes from to are =
    Each-map (Writes value low high) (λ k. Write (at + piece * k) (bytes_at bytes (piece * k) piece)) 0 (pieces (length bytes))
    (λ j _ below.
    let long = length-cut bytes (piece * j) piece in (
      omega arith,
      omega (arith, long),
      (λ i inside. get_or-range bytes (piece * j) piece i (omega (arith, long)) ∙ are (piece * j + i) (omega (arith, long))
          ∙ ap value (let e : at + (piece * j + i) ≡ at + piece * j + i = omega arith in e)),
    ))

-- and they cover all of them
pub pieces_cover : (k at : ℕ) (bytes : List ℕ) → at ≤ k → k < at + length bytes → Covered k (in_pieces at bytes)
unfolding in_pieces
pieces_cover k at bytes from to =
    let j = (k - at) / 262144 in
    let long = length-cut bytes (piece * j) piece in
    Covered-map k (λ k. Write (at + piece * k) (bytes_at bytes (piece * k) piece)) 0 (pieces (length bytes)) j (omega arith) (omega arith)
    (omega arith, omega (arith, long))

-- no bytes are no pieces
pub pieces_of_none : (at : ℕ) (bytes : List ℕ) → length bytes ≡ 0 → in_pieces at bytes ≡ []
unfolding in_pieces
pieces_of_none at bytes none =
    ap (λ (n : ℕ). map (λ k. Write (at + piece * k) (bytes_at bytes (piece * k) piece)) (range_with_len 0 n))
    (let e : pieces (length bytes) ≡ 0 = omega arith in e)

-- zeros are written where zeros are planned
pub zeros_write : (value : ℕ → ℕ) (low high at len : ℕ) → low ≤ at → at + len ≤ high → ((k : ℕ) → at ≤ k → k < at + len → value k ≡ 0)
    → Each (Writes value low high) (in_pieces at (replicate len 0))
zeros_write value low high at len from to zero =
    let long = length-replicate {A = ℕ} len 0 in
    pieces_write value low high at (replicate len 0) from (omega (arith, long))
    (λ i inside. let below : i < len = omega (arith, long) in
    get_or-replicate len i 0 0 below ∙ sym (zero (at + i) (omega arith) (omega arith)))

pub zeros_cover : (k at len : ℕ) → at ≤ k → k < at + len → Covered k (in_pieces at (replicate len 0))
zeros_cover k at len from to = let long = length-replicate {A = ℕ} len 0 in pieces_cover k at (replicate len 0) from (omega (arith, long))
