-- What is written to a superblock's block, and what is read of it.
use Rattle.std.proofs.Common.{◌≡◌, ℕ, suc, ◌+◌, ◌-◌, ◌*◌, ◌^◌, ◌<◌, ◌≤◌, true, List, [], ◌∷◌, ◌++◌, Some, length, take, drop, replicate, refl, ◌∙◌, ap, arith, append_assoc, append-nil}
use Rattle.std.specs.Int.{w16, w64, to_le_bytes}
use Rattle.std.specs.List.{concat}
use Rattle.std.proofs.lemmas.Bool.{le-leb}
use Rattle.std.proofs.lemmas.List.{take_all, take-append-le}
use Rattle.std.proofs.lemmas.Nat.{from_le_bytes-to_le_bytes_8}
use Rattle.rp_base.specs.declared.guid.Guid.{Guid}
use Rattle.rp_base.specs.declared.table.Row.{Row}
use Rattle.rp_base.specs.Image.{bytes_at}
use Rattle.rp_base.specs.Trees.{hash_blocks}
use Rattle.rp_verity.specs.Superblock.{FitIn, blocks_in, fits, form, head, is_headed, salt_in, salt_size_in, superblock, superblock_in}

-- ten parts, one behind another
ten-joined : (a b c d e f g h i j : List ℕ)
    → (a ++ b ++ c ++ d ++ (e ++ f) ++ g) ++ (h ++ (i ++ j)) ≡ concat (a ∷ b ∷ c ∷ d ∷ e ∷ f ∷ g ∷ h ∷ i ∷ j ∷ [])
ten-joined a b c d e f g h i j = simp (append_assoc, append-nil)

zeros : replicate {A = ℕ} 3976 0 ≡ replicate 224 0 ++ (replicate 168 0 ++ replicate 3584 0)
zeros = refl

-- the fields with the zeros behind them
pub written : (uuid : Guid) (blocks : ℕ) (salt : List ℕ) → length salt ≡ 32
    → (head ++ uuid.0 ++ form ++ to_le_bytes w64 blocks ++ (32 ∷ 0 ∷ 0 ∷ 0 ∷ 0 ∷ 0 ∷ 0 ∷ 0 ∷ []) ++ salt) ++ replicate 3976 0
    ≡ superblock uuid blocks salt
unfolding superblock
written uuid blocks salt long =
    let parts = ten-joined head uuid.0 form (to_le_bytes w64 blocks) (to_le_bytes w16 32) (replicate 6 0) salt (replicate 224 0) (replicate 168 0) (replicate 3584 0) in
    rw (long, zeros) parts

-- what is left past the first of two lists
drop-past : (xs ys : List ℕ) (n k : ℕ) → length xs + k ≡ n → drop n (xs ++ ys) ≡ drop k ys
drop-past [] ys n k e = ap (λ (i : ℕ). drop i ys) (omega arith)
drop-past (x ∷ xs) ys n k e =
    let next : n ≡ suc (length xs + k) = omega arith in
    rw next (drop-past xs ys (length xs + k) k refl)

-- what stands behind the UUID
unfoldable behind : ℕ → List ℕ → List ℕ
behind blocks salt =
    concat (form ∷ to_le_bytes w64 blocks ∷ to_le_bytes w16 (length salt) ∷ replicate 6 0 ∷ salt
    ∷ replicate (256 - length salt) 0 ∷ replicate 168 0 ∷ replicate 3584 0 ∷ [])

parts : (uuid : Guid) (blocks : ℕ) (salt : List ℕ) → superblock uuid blocks salt ≡ head ++ (uuid.0 ++ behind blocks salt)
unfolding superblock behind
parts uuid blocks salt = refl

-- a field behind the UUID
field-behind : (uuid : Guid) (blocks at count : ℕ) (salt : List ℕ) → length uuid.0 ≡ 16
    → bytes_at (superblock uuid blocks salt) (32 + at) count ≡ take count (drop at (behind blocks salt))
field-behind uuid blocks at count salt long =
    let size : 32 + at + count - (32 + at) ≡ count = omega arith in
    rw (parts uuid blocks salt, size)
    (ap (take count) (drop-past head (uuid.0 ++ behind blocks salt) (32 + at) (16 + at) (omega arith)
    ∙ drop-past uuid.0 (behind blocks salt) (16 + at) at (omega arith)))

fit_in-fits : (blocks : ℕ) (payload hash : Row) → FitIn blocks payload hash → fits blocks payload hash ≡ true
unfolding fits
fit_in-fits blocks payload hash fit =
    rw (le-leb 1 blocks fit.some, le-leb blocks (2 ^ 32) fit.few, le-leb (8 * blocks) payload.size fit.blocks_fit, le-leb (8 * hash_blocks blocks) hash.size fit.tree_fits) refl

-- a written superblock has the form of one
written-headed : (uuid : Guid) (blocks : ℕ) (salt : List ℕ) → length uuid.0 ≡ 16 → is_headed (superblock uuid blocks salt) ≡ true
unfolding is_headed behind
written-headed uuid blocks salt long =
    let front : bytes_at (superblock uuid blocks salt) 0 16 ≡ head = rw (parts uuid blocks salt) refl in
    let rest : bytes_at (superblock uuid blocks salt) 32 40 ≡ form = field-behind uuid blocks 0 40 salt long in
    rw (front, rest) refl

written-blocks : (uuid : Guid) (blocks : ℕ) (salt : List ℕ) → length uuid.0 ≡ 16 → blocks < 2 ^ 64
    → blocks_in (superblock uuid blocks salt) ≡ blocks
unfolding blocks_in behind
written-blocks uuid blocks salt long few =
    let bytes : bytes_at (superblock uuid blocks salt) 72 8 ≡ to_le_bytes w64 blocks = field-behind uuid blocks 40 8 salt long in
    rw bytes (from_le_bytes-to_le_bytes_8 blocks few)

written-salt_size : (uuid : Guid) (blocks : ℕ) (salt : List ℕ) → length uuid.0 ≡ 16 → length salt ≡ 32
    → salt_size_in (superblock uuid blocks salt) ≡ 32
unfolding salt_size_in behind
written-salt_size uuid blocks salt long whole =
    let bytes : bytes_at (superblock uuid blocks salt) 80 2 ≡ to_le_bytes w16 (length salt) = field-behind uuid blocks 48 2 salt long in
    rw (bytes, whole) refl

-- so it is right where its blocks fit
pub written-right : (uuid : Guid) (blocks : ℕ) (salt : List ℕ) (payload hash : Row) → length uuid.0 ≡ 16 → length salt ≡ 32
    → FitIn blocks payload hash
    → superblock_in (superblock uuid blocks salt) payload hash ≡ Some (record { blocks = blocks; salt_size = 32 })
unfolding superblock_in
written-right uuid blocks salt payload hash long whole fit =
    let few : blocks ≤ 2 ^ 32 = fit.few in
    rw (written-headed uuid blocks salt long, written-blocks uuid blocks salt long (omega arith), written-salt_size uuid blocks salt long whole, fit_in-fits blocks payload hash fit) refl

-- and its salt is the one that was written
pub written-salt : (uuid : Guid) (blocks : ℕ) (salt : List ℕ) → length uuid.0 ≡ 16 → length salt ≡ 32
    → salt_in (superblock uuid blocks salt) 32 ≡ salt
unfolding salt_in behind
written-salt uuid blocks salt long whole =
    let rest : List ℕ = concat (replicate (256 - length salt) 0 ∷ replicate 168 0 ∷ replicate 3584 0 ∷ []) in
    let bytes : bytes_at (superblock uuid blocks salt) 88 32 ≡ take 32 (salt ++ rest) = field-behind uuid blocks 56 32 salt long in
    bytes ∙ take-append-le 32 salt rest (omega arith) ∙ take_all 32 salt (omega arith)
