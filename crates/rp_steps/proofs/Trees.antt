-- A tree's calls fill the range behind its superblock's block: each block is written once.
use Rattle.std.proofs.Common.{◌≡◌, ℕ, zero, suc, ◌+◌, ◌-◌, ◌*◌, ◌/◌, ◌<◌, ◌≤◌, inl, inr, Bool, true, false, cond, eqb, List, [], ◌∷◌, ◌++◌, length, get_or, drop, map, refl, sym, ap, ◌∙◌, subst, arith, All}
use Rattle.std.specs.Prelude.{count_by}
use Rattle.std.specs.List.{concat, range_with_len}
use Rattle.std.proofs.lemmas.Bool.{eqb-true}
use Rattle.std.proofs.lemmas.List.{get_or-append_right, get_or_append_left, length-append, length-replicate, length-take}
use Rattle.std.proofs.lemmas.List.Elements.{All-append, All-drop, All-from_get_or, All-head, All-map, All-tail, All-take, All-weaker}
use Rattle.std.proofs.lemmas.List.Sums.{sum_by-cons}
use Rattle.rp_base.specs.Trees.{hash_blocks, levels}
use Rattle.rp_base.specs.declared.guid.Guid.{Guid}
use Rattle.rp_disk.specs.declared.call.Call.{Call}
use Rattle.rp_disk.specs.declared.call.Call.TheVariants.{Write}
use Rattle.rp_disk.specs.Stops.{Each}
use Rattle.rp_verity.specs.Order.{blocks_over, order}
use Rattle.rp_verity.specs.Puts.{placed}
use Rattle.rp_verity.specs.Room.{AreDigests, IsDigest}
use Rattle.rp_verity.specs.Superblock.{superblock}
use Rattle.rp_verity.specs.Tree.{hash_block, level, raised, run, runs, stored}
use Rattle.rp_verity.proofs.Blocks.{are_digests, length-hash_block}
use Rattle.rp_verity.proofs.OrderLemmas.{order-inside, put_once}
use Rattle.rp_verity.proofs.ShapeLemmas.{hash_blocks-over}
use Rattle.rp_steps.specs.Calls.{tree_writes}
use Rattle.rp_steps.proofs.Filled.{Fill}
use Rattle.rp_steps.proofs.Written.{Covered, Covers, Writes}

abbrev pub IsBlock : List ℕ → Type 0
IsBlock bytes = length bytes ≡ 4096

-- the blocks of a level
level_blocks : (digests : List (List ℕ)) → AreDigests digests → All IsBlock (level digests)
unfolding level
level_blocks digests each =
    All-map IsBlock (λ k. hash_block (run digests k)) (range_with_len 0 (runs (length digests)))
    (All-from_get_or (λ k. IsBlock (hash_block (run digests k))) (range_with_len 0 (runs (length digests))) 0
    (λ j below. let k = get_or (range_with_len 0 (runs (length digests))) j 0 in
    length-hash_block (run digests k) (All-take IsDigest 128 (drop (128 * k) digests) (All-drop IsDigest (128 * k) digests each))
    (omega (arith, length-take 128 (drop (128 * k) digests)))))

pub stored_blocks : (salt : List ℕ) (n : ℕ) (digests : List (List ℕ)) → AreDigests digests → All IsBlock (stored salt n digests)
unfolding stored
stored_blocks salt zero digests each = λ k d below. absurd (omega arith)
stored_blocks salt (suc n) digests each =
    All-append IsBlock (stored salt n (raised salt digests)) (level digests) (stored_blocks salt n (raised salt digests) (are_digests salt (level digests)))
    (level_blocks digests each)

-- the bytes of blocks, one behind another
pub length-blocks : (tree : List (List ℕ)) → All IsBlock tree → length (concat tree) ≡ 4096 * length tree
length-blocks [] each = refl
length-blocks (block ∷ tree) each =
    let first : length block ≡ 4096 = All-head IsBlock block tree each in
    let rest = length-blocks tree (All-tail IsBlock block tree each) in
    omega (arith, length-append block (concat tree))

pub get_or-blocks : (tree : List (List ℕ)) (j i : ℕ) → All IsBlock tree → j < length tree → i < 4096
    → get_or (concat tree) (4096 * j + i) 0 ≡ get_or (get_or tree j []) i 0
get_or-blocks [] j i each below inside = absurd (omega arith)
get_or-blocks (block ∷ tree) zero i each below inside =
    let first : length block ≡ 4096 = All-head IsBlock block tree each in
    ap (λ (k : ℕ). get_or (block ++ concat tree) k 0) (let e : 4096 * zero + i ≡ i = omega arith in e)
    ∙ get_or_append_left block (concat tree) 0 i (omega arith)
get_or-blocks (block ∷ tree) (suc j) i each below inside =
    let first : length block ≡ 4096 = All-head IsBlock block tree each in
    get_or-append_right block (concat tree) 4096 (4096 * suc j + i) 0 first (omega arith)
    ∙ ap (λ (k : ℕ). get_or (concat tree) k 0) (let e : 4096 * suc j + i - 4096 ≡ 4096 * j + i = omega arith in e)
    ∙ get_or-blocks tree j i (All-tail IsBlock block tree each) (omega arith) inside

-- the superblock's block
pub length-superblock : (uuid : Guid) (blocks : ℕ) (salt : List ℕ) → length uuid.0 ≡ 16 → length salt ≡ 32 → length (superblock uuid blocks salt) ≡ 4096
unfolding superblock
length-superblock uuid blocks salt id long = simp (length-append, length-replicate) (omega (arith, id, long))

-- calls made of places
Each-placed : (P : Call → Type 0) (f : ℕ × List ℕ → Call) (tree : List (List ℕ)) (places : List ℕ)
    → All (λ place. P (f (place, get_or tree place []))) places → Each P (map f (placed tree places))
Each-placed P f tree [] each = tt
Each-placed P f tree (place ∷ places) each = (
  All-head (λ p. P (f (p, get_or tree p []))) place places each,
  Each-placed P f tree places (All-tail (λ p. P (f (p, get_or tree p []))) place places each),
)

-- what is left of one
left_of : (l c r : ℕ) → l ≡ c + r → l ≡ 1 → c ≡ 0 → r ≡ 1
left_of l c r is one none = omega arith

Covered-placed : (k : ℕ) (f : ℕ × List ℕ → Call) (tree : List (List ℕ)) (places : List ℕ) (place : ℕ) → count_by (λ each. eqb each place) places ≡ 1
    → Covers k (f (place, get_or tree place [])) → Covered k (map f (placed tree places))
Covered-placed k f tree [] place once covers = absurd (omega (arith, once))
Covered-placed k f tree (p ∷ places) place once covers =
    step (eqb p place) refl (λ (later : count_by (λ each. eqb each place) places ≡ 1). Covered-placed k f tree places place later covers) where
      counted : count_by (λ each. eqb each place) (p ∷ places) ≡ cond (eqb p place) 1 0 + count_by (λ each. eqb each place) places
      counted = sum_by-cons (λ (q : ℕ). cond (eqb q place) 1 0) p places

      step : (b : Bool) → eqb p place ≡ b → (count_by (λ each. eqb each place) places ≡ 1 → Covered k (map f (placed tree places)))
          → Covered k (map f (placed tree (p ∷ places)))
      step true same later = inl (let e : p ≡ place = eqb-true p place same in subst (λ (q : ℕ). Covers k (f (q, get_or tree q []))) (sym e) covers)
      step false other later = inr (later (left_of _ _ _ counted once (ap (λ (b : Bool). cond b 1 0) other)))

-- the tree's blocks fill their range
pub tree_fill : (value : ℕ → ℕ) (at blocks : ℕ) (tree : List (List ℕ)) (image : List ℕ) → 1 ≤ blocks → All IsBlock tree
    → length tree + 1 ≡ hash_blocks blocks → ((i : ℕ) → i < 4096 * length tree → value (at + 4096 + i) ≡ get_or (concat tree) i 0)
    → Fill value (at + 4096) (at + 4096 * hash_blocks blocks) image (tree_writes at blocks tree)
unfolding tree_writes
tree_fill value at blocks tree image some each size are =
    let over = hash_blocks-over blocks some in
    let f = λ (put : ℕ × List ℕ). Write (at + 4096 * (1 + put.0)) put.1 in
    let known = order-inside (levels blocks) blocks some in record {
      writes = Each-placed (Writes value (at + 4096) (at + 4096 * hash_blocks blocks)) f tree (order blocks)
          (All-weaker (λ place. place < blocks_over (levels blocks) blocks) (λ place. Writes value (at + 4096) (at + 4096 * hash_blocks blocks) (f (place, get_or tree place [])))
          (λ place below.
          let here : place < length tree = omega arith in
          let long : length (get_or tree place []) ≡ 4096 = each place [] here in (
            omega arith,
            omega arith,
            (λ i inside.
                let e : at + 4096 * (1 + place) + i ≡ at + 4096 + (4096 * place + i) = omega arith in
                sym (ap value e ∙ are (4096 * place + i) (omega arith) ∙ get_or-blocks tree place i each here (omega arith))),
          )) (order blocks) known);
      right = λ k above below.
          let place = (k - at) / 4096 - 1 in
          let here : place < length tree = omega arith in
          let long : length (get_or tree place []) ≡ 4096 = each place [] here in
          inr (Covered-placed k f tree (order blocks) place (put_once place (levels blocks) blocks some (omega arith)) (omega arith, omega arith));
    }
