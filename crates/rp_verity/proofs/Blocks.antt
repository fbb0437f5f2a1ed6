-- A hash block as bytes: digests of 32 bytes one behind another, then zeros.
use Rattle.std.proofs.Common.{◌≡◌, ℕ, ◌+◌, ◌-◌, ◌*◌, ◌<◌, ◌≤◌, List, [], ◌∷◌, ◌++◌, length, get_or, map, take, drop, replicate, refl, sym, ◌∙◌, arith, append_assoc, append-nil, length-append}
use Rattle.std.proofs.lemmas.List.{take_at, drop_at, drop-drop, drop-replicate, length-replicate}
use Rattle.std.proofs.lemmas.List.Elements.{All-head, All-tail, All-map, All-from_get_or}
use Rattle.std.specs.List.{concat}
use Rattle.sha2.proofs.Facts256.{length-sha256}
use Rattle.rp_verity.specs.Tree.{digest, hash_block}
use Rattle.rp_verity.specs.Room.{AreDigests, IsDigest, placed_at}

pub length-digest : (salt block : List ℕ) → length (digest salt block) ≡ 32
unfolding digest
length-digest salt block = length-sha256 _

-- digests of blocks are digests
pub are_digests : (salt : List ℕ) (blocks : List (List ℕ)) → AreDigests (map (digest salt) blocks)
are_digests salt blocks =
    All-map IsDigest (digest salt) blocks
    (All-from_get_or (λ block. IsDigest (digest salt block)) blocks [] (λ k below. length-digest salt (get_or blocks k [])))

pub length-concat : (digests : List (List ℕ)) → AreDigests digests → length (concat digests) ≡ 32 * length digests
length-concat [] each = refl
length-concat (d ∷ digests) each =
    let first : length d ≡ 32 = All-head IsDigest d digests each in
    let rest : length (concat digests) ≡ 32 * length digests = length-concat digests (All-tail IsDigest d digests each) in
    omega (arith, length-append d (concat digests))

concat-push : (digests : List (List ℕ)) (new : List ℕ) → concat (digests ++ new ∷ []) ≡ concat digests ++ new
concat-push [] new = append-nil new
concat-push (d ∷ digests) new = rw (concat-push digests new, append_assoc) refl

pub length-hash_block : (digests : List (List ℕ)) → AreDigests digests → length digests ≤ 128 → length (hash_block digests) ≡ 4096
unfolding hash_block
length-hash_block digests each few =
    omega (
      arith,
      length-append (concat digests) (replicate (4096 - 32 * length digests) 0),
      length-concat digests each,
      length-replicate {A = ℕ} (4096 - 32 * length digests) 0,
    )

-- a digest written behind those of a block
pub hash_block-push : (digests : List (List ℕ)) (new block : List ℕ) (place : ℕ) → AreDigests digests → length new ≡ 32
    → length digests < 128 → block ≡ hash_block digests → place ≡ 32 * length digests
    → placed_at place new block ≡ hash_block (digests ++ new ∷ [])
unfolding hash_block
hash_block-push digests new block place each long few held at =
    let zeros : List ℕ = replicate (4096 - 32 * length digests) 0 in
    let full : length (concat digests) ≡ place = length-concat digests each ∙ sym at in
    let front : take place block ≡ concat digests = rw held (take_at (concat digests) zeros place full) in
    let behind : drop place block ≡ zeros = rw held (drop_at (concat digests) zeros place full) in
    let left : 4096 - 32 * length digests - 32 ≡ 4096 - 32 * length (digests ++ new ∷ []) =
    omega (arith, length-append digests (new ∷ [])) in
    let rest : drop (place + length new) block ≡ replicate (4096 - 32 * length (digests ++ new ∷ [])) 0 =
    rw (long, ← drop-drop 32 place block, behind, drop-replicate, left) refl in
    rw (front, rest, concat-push digests new) refl

-- a block of no digests is zeros
pub hash_block-nil : hash_block [] ≡ replicate 4096 0
unfolding hash_block
hash_block-nil = refl
