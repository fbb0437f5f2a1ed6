-- The order of a tree's blocks cut at a data block, and where their writes lie.
use Rattle.std.proofs.Common.{◌≡◌, ℕ, zero, suc, ◌+◌, ◌-◌, ◌*◌, ◌<◌, ◌≤◌, ◌⊎◌, inl, inr, List, [], ◌∷◌, ◌++◌, length, get_or, map, flat_map, refl, ◌∙◌, ap, arith, append_assoc, All}
use Rattle.std.specs.List.{range_with_len}
use Rattle.std.proofs.lemmas.Grind.{flat_map-append}
use Rattle.std.proofs.lemmas.List.{map-append}
use Rattle.std.proofs.lemmas.List.Elements.{All-append, All-head, All-map, All-nil, All-tail, All-weaker}
use Rattle.rp_base.specs.Trees.{levels}
use Rattle.rp_disk.specs.declared.call.Call.{Call}
use Rattle.rp_disk.specs.Ranges.{Apart}
use Rattle.rp_disk.specs.Stops.{Each}
use Rattle.rp_verity.specs.Order.{blocks_over, full_with, left_over, order_over}
use Rattle.rp_verity.specs.Puts.{placed}
use Rattle.rp_verity.specs.Tree.{digest, stored_tree}
use Rattle.rp_verity.proofs.Blocks.{are_digests}
use Rattle.rp_verity.proofs.ShapeLemmas.{length-stored}
use Rattle.rp_verity.proofs.TreeLemmas.{full_with-inside}
use Rattle.rp_steps.specs.Calls.{tree_writes}
use Rattle.rp_format.specs.Puts.{EndBy, writes_of}
use Rattle.rp_format.specs.Taking.{full_puts, left_puts}
use Rattle.rp_format.specs.Written.{hash_calls}
use Rattle.rp_format.specs.declared.tree.TreePlan.{TreePlan}
use Rattle.rp_steps.proofs.Trees.{IsBlock, stored_blocks}
use Rattle.rp_format.proofs.Kept.{writes-append}

-- the blocks that are full with the first so many data blocks
abbrev pub filled_by : ℕ → ℕ → List ℕ
filled_by blocks k = flat_map (full_with (levels blocks) blocks) (range_with_len 1 k)

-- these with their places
abbrev pub so_far_puts : TreePlan → List (List ℕ) → ℕ → List (ℕ × List ℕ)
so_far_puts tree taken k = placed (stored_tree tree.salt taken) (filled_by tree.blocks k)

-- numbers one behind another, cut
range-split : (a m n : ℕ) → range_with_len a (m + n) ≡ range_with_len a m ++ range_with_len (a + m) n
range-split a zero n =
    let e : zero + n ≡ n = omega arith in
    let f : a + zero ≡ a = omega arith in
    rw (e, f) refl
range-split a (suc m) n =
    let e : suc m + n ≡ suc (m + n) = omega arith in
    let f : a + suc m ≡ a + 1 + m = omega arith in
    rw (e, f) (ap (λ (l : List ℕ). a ∷ l) (range-split (a + 1) m n))

pub map-range-split : {X : Type 0} (f : ℕ → X) (a m n : ℕ)
    → map f (range_with_len a (m + n)) ≡ map f (range_with_len a m) ++ map f (range_with_len (a + m) n)
map-range-split f a m n = ap (map f) (range-split a m n) ∙ map-append f (range_with_len a m) (range_with_len (a + m) n)

filled-split : (blocks m n : ℕ)
    → filled_by blocks (m + n) ≡ filled_by blocks m ++ flat_map (full_with (levels blocks) blocks) (range_with_len (1 + m) n)
filled-split blocks m n =
    ap (flat_map (full_with (levels blocks) blocks)) (range-split 1 m n)
    ∙ flat_map-append (full_with (levels blocks) blocks) (range_with_len 1 m) (range_with_len (1 + m) n)

filled-more : (blocks k : ℕ) → filled_by blocks (k + 1) ≡ filled_by blocks k ++ full_with (levels blocks) blocks (k + 1)
filled-more blocks k =
    let one : flat_map (full_with (levels blocks) blocks) (range_with_len (1 + k) 1) ≡ full_with (levels blocks) blocks (1 + k) ++ [] =
    refl in
    let e : 1 + k ≡ k + 1 = omega arith in
    filled-split blocks k 1 ∙ ap (λ (l : List ℕ). filled_by blocks k ++ l)
    (one ∙ rw e (append-nil' (full_with (levels blocks) blocks (k + 1)))) where
      append-nil' : (l : List ℕ) → l ++ [] ≡ l
      append-nil' [] = refl
      append-nil' (x ∷ xs) = ap (λ (r : List ℕ). x ∷ r) (append-nil' xs)

placed-append : (blocks : List (List ℕ)) (xs ys : List ℕ) → placed blocks (xs ++ ys) ≡ placed blocks xs ++ placed blocks ys
placed-append blocks xs ys = map-append (λ place. (place, get_or blocks place [])) xs ys

-- the writes of one data block more
pub so_far-more : (tree : TreePlan) (taken : List (List ℕ)) (k : ℕ)
    → writes_of tree.hash_at (so_far_puts tree taken (k + 1))
    ≡ writes_of tree.hash_at (so_far_puts tree taken k) ++ writes_of tree.hash_at (full_puts tree taken (k + 1))
so_far-more tree taken k =
    ap (λ (places : List ℕ). writes_of tree.hash_at (placed (stored_tree tree.salt taken) places)) (filled-more tree.blocks k)
    ∙ ap (writes_of tree.hash_at)
    (placed-append (stored_tree tree.salt taken) (filled_by tree.blocks k) (full_with (levels tree.blocks) tree.blocks (k + 1)))
    ∙ writes-append tree.hash_at (so_far_puts tree taken k) (full_puts tree taken (k + 1))

-- all writes: those of all data blocks, and what is left over
pub all-split : (tree : TreePlan) (taken : List (List ℕ))
    → hash_calls tree taken ≡ writes_of tree.hash_at (so_far_puts tree taken tree.blocks) ++ writes_of tree.hash_at (left_puts tree taken)
unfolding tree_writes order_over
all-split tree taken =
    ap (writes_of tree.hash_at)
    (placed-append (stored_tree tree.salt taken) (filled_by tree.blocks tree.blocks) (left_over (levels tree.blocks) tree.blocks))
    ∙ writes-append tree.hash_at (so_far_puts tree taken tree.blocks) (left_puts tree taken)

-- the same, cut at a data block
pub all-split-at : (tree : TreePlan) (taken : List (List ℕ)) (k : ℕ) → k < tree.blocks
    → (rest : List Call) × (hash_calls tree taken
    ≡ writes_of tree.hash_at (so_far_puts tree taken k) ++ (writes_of tree.hash_at (full_puts tree taken (k + 1)) ++ rest))
all-split-at tree taken k below =
    let W : List (ℕ × List ℕ) → List Call = writes_of tree.hash_at in
    let blocks : ℕ = tree.blocks in
    let stored : List (List ℕ) = stored_tree tree.salt taken in
    let behind : List ℕ = flat_map (full_with (levels blocks) blocks) (range_with_len (1 + (k + 1)) (blocks - (k + 1))) in
    let size : k + 1 + (blocks - (k + 1)) ≡ blocks = omega arith in
    let filled : filled_by blocks blocks ≡ filled_by blocks (k + 1) ++ behind =
    rw size at (filled-split blocks (k + 1) (blocks - (k + 1))) in
    let front : W (so_far_puts tree taken blocks) ≡ (W (so_far_puts tree taken k) ++ W (full_puts tree taken (k + 1))) ++ W
    (placed stored behind) =
    ap (λ (places : List ℕ). W (placed stored places)) filled ∙ ap W (placed-append stored (filled_by blocks (k + 1)) behind)
    ∙ writes-append tree.hash_at (so_far_puts tree taken (k + 1)) (placed stored behind)
    ∙ ap (λ (l : List Call). l ++ W (placed stored behind)) (so_far-more tree taken k) in (
      W (placed stored behind) ++ W (left_puts tree taken),
      all-split tree taken ∙ ap (λ (l : List Call). l ++ W (left_puts tree taken)) front
          ∙ append_assoc (W (so_far_puts tree taken k) ++ W (full_puts tree taken (k + 1))) (W (placed stored behind))
          (W (left_puts tree taken))
          ∙ append_assoc (W (so_far_puts tree taken k)) (W (full_puts tree taken (k + 1)))
          (W (placed stored behind) ++ W (left_puts tree taken)),
    )

-- the places are those of the tree
pub filled-inside : (n digests a m : ℕ) → 1 ≤ a → a + m ≤ digests + 1
    → All (λ place. place < blocks_over n digests) (flat_map (full_with n digests) (range_with_len a m))
filled-inside n digests a zero some few = All-nil (λ place. place < blocks_over n digests)
filled-inside n digests a (suc m) some few =
    All-append (λ place. place < blocks_over n digests) (full_with n digests a) (flat_map (full_with n digests) (range_with_len (a + 1) m))
    (full_with-inside n digests a some (omega arith)) (filled-inside n digests (a + 1) m (omega arith) (omega arith))

-- a tree has these blocks
pub length-tree : (salt : List ℕ) (taken : List (List ℕ))
    → length (stored_tree salt taken) ≡ blocks_over (levels (length taken)) (length taken)
unfolding stored_tree
length-tree salt taken =
    let n : length (map (digest salt) taken) ≡ length taken = length-map-all (digest salt) taken in
    length-stored salt (levels (length taken)) (map (digest salt) taken) ∙ ap (λ (k : ℕ). blocks_over (levels (length taken)) k) n where
      length-map-all : (f : List ℕ → List ℕ) (xs : List (List ℕ)) → length (map f xs) ≡ length xs
      length-map-all f [] = refl
      length-map-all f (x ∷ xs) = let rest = length-map-all f xs in omega arith

pub tree_blocks : (salt : List ℕ) (taken : List (List ℕ)) → All IsBlock (stored_tree salt taken)
unfolding stored_tree
tree_blocks salt taken = stored_blocks salt (levels (length taken)) (map (digest salt) taken) (are_digests salt taken)

-- their writes leave alone what lies outside of them
pub apart_placed : (at size hash_at : ℕ) (blocks : List (List ℕ)) (places : List ℕ) → All IsBlock blocks
    → All (λ place. place < length blocks) places → (at + size ≤ hash_at) ⊎ (hash_at + 4096 * (1 + length blocks) ≤ at)
    → Each (Apart at size) (writes_of hash_at (placed blocks places))
apart_placed at size hash_at blocks [] each inside outside = tt
apart_placed at size hash_at blocks (place ∷ places) each inside outside =
    let here : place < length blocks = All-head (λ p. p < length blocks) place places inside in
    let long : length (get_or blocks place []) ≡ 4096 = each place [] here in (
      elim outside [ inl low ↦ inl (omega arith) | inr high ↦ inr (omega arith) ],
      apart_placed at size hash_at blocks places each (All-tail (λ p. p < length blocks) place places inside) outside,
    )

-- and they end by the end of the hash blocks
pub ends_placed : (hash_at end n : ℕ) (blocks : List (List ℕ)) (places : List ℕ) → All (λ place. place < n) places
    → hash_at + 4096 * (1 + n) ≤ end → EndBy hash_at end (placed blocks places)
ends_placed hash_at end n blocks places inside fits =
    All-map (λ (put : ℕ × List ℕ). hash_at + 4096 * (2 + put.0) ≤ end) (λ place. (place, get_or blocks place [])) places
    (All-weaker (λ place. place < n) (λ place. hash_at + 4096 * (2 + place) ≤ end) (λ place below. omega arith) places inside)
