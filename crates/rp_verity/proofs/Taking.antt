-- What a builder has taken: at first, with one block more, and at the end.
use Rattle.std.proofs.Common.{◌≡◌, ℕ, zero, suc, ◌+◌, ◌-◌, ◌*◌, ◌/◌, ◌^◌, ◌≤◌, List, [], ◌∷◌, ◌++◌, length, map, take, drop, replicate, get_or, refl, sym, ◌∙◌, ap, arith, append-nil, length-append}
use Rattle.std.proofs.lemmas.List.{drop-replicate, length-map, map-append, map_push, nil_from_length, same_from_push, take-replicate}
use Rattle.rp_base.specs.Trees.{levels}
use Rattle.rp_verity.specs.Tree.{digest, root_hash, stored_tree, tops}
use Rattle.rp_verity.specs.Order.{full_with, left_over}
use Rattle.rp_verity.specs.Puts.{placed}
use Rattle.rp_verity.specs.Room.{Holds, full_level, full_puts, full_tops, pending, rest_puts}
use Rattle.rp_verity.proofs.Blocks.{hash_block-nil}
use Rattle.rp_verity.proofs.ShapeLemmas.{length-tops}
use Rattle.rp_verity.proofs.TreeLemmas.{full_puts-placed, rest_puts-placed}

full_level-nil : full_level [] ≡ []
unfolding full_level
full_level-nil = refl

pending-nil : pending [] ≡ []
unfolding pending
pending-nil = refl

-- a room of zeros is that of no digests
pub holds-zeros : (salt : List ℕ) (n : ℕ) → Holds salt n (replicate (4096 * n) 0) []
unfolding Holds
holds-zeros salt zero = tt
holds-zeros salt (suc n) =
    let front : take {A = ℕ} 4096 (replicate (4096 * suc n) 0) ≡ replicate 4096 0 = take-replicate 4096 (4096 * suc n) 0 (omega arith) in
    let count : 4096 * suc n - 4096 ≡ 4096 * n = omega arith in
    let rest : drop {A = ℕ} 4096 (replicate (4096 * suc n) 0) ≡ replicate (4096 * n) 0 = rw (drop-replicate, count) refl in
    (rw (pending-nil) (front ∙ sym hash_block-nil), rw (rest, full_level-nil) (holds-zeros salt n))

full_tops-nil : (salt : List ℕ) (n : ℕ) → full_tops salt n [] ≡ []
unfolding full_tops
full_tops-nil salt zero = refl
full_tops-nil salt (suc n) = rw full_level-nil (full_tops-nil salt n)

-- and no digest left it
pub no_tops : (salt : List ℕ) (n : ℕ) (front : List (List ℕ)) (top root : List ℕ) → full_tops salt n [] ≡ front ++ top ∷ [] → root ≡ top
no_tops salt n front top root e =
    let none : 0 ≡ length (front ++ top ∷ []) = ap length (sym (full_tops-nil salt n) ∙ e) in
    absurd (omega (arith, length-append front (top ∷ [])))

-- the root that stands after a digest has left the room, or hasn't
pub root_some : (salt : List ℕ) (n : ℕ) (digests : List (List ℕ)) (new root : List ℕ)
    → full_tops salt n (digests ++ new ∷ []) ≡ full_tops salt n digests ++ root ∷ []
    → (front : List (List ℕ)) (top : List ℕ) → full_tops salt n (digests ++ new ∷ []) ≡ front ++ top ∷ [] → root ≡ top
root_some salt n digests new root tops_are front top e =
    (same_from_push (full_tops salt n digests) front root top (sym tops_are ∙ e)).1

pub root_none : (salt : List ℕ) (n : ℕ) (digests : List (List ℕ)) (new root : List ℕ)
    → ((front : List (List ℕ)) (top : List ℕ) → full_tops salt n digests ≡ front ++ top ∷ [] → root ≡ top)
    → full_tops salt n (digests ++ new ∷ []) ≡ full_tops salt n digests ++ []
    → (front : List (List ℕ)) (top : List ℕ) → full_tops salt n (digests ++ new ∷ []) ≡ front ++ top ∷ [] → root ≡ top
root_none salt n digests new root before tops_are front top e =
    before front top (sym (append-nil (full_tops salt n digests)) ∙ sym tops_are ∙ e)

-- the digests of the blocks with one more
pub digests_more : (salt : List ℕ) (taken : List (List ℕ)) (next : List ℕ)
    → map (digest salt) taken ++ digest salt next ∷ [] ≡ map (digest salt) (taken ++ next ∷ [])
digests_more salt taken next = sym (map_push (digest salt) taken next)

-- what is put with a block, in the tree of all blocks
pub puts_taken : (salt : List ℕ) (n blocks : ℕ) (taken rest : List (List ℕ)) (next : List ℕ) → n ≡ levels blocks
    → length (taken ++ next ∷ [] ++ rest) ≡ blocks
    → full_puts salt n blocks (map (digest salt) taken ++ digest salt next ∷ [])
    ≡ placed (stored_tree salt (taken ++ next ∷ [] ++ rest)) (full_with (levels blocks) blocks (length taken + 1))
unfolding stored_tree
puts_taken salt n blocks taken rest next count all =
    let digests : List (List ℕ) = map (digest salt) (taken ++ next ∷ []) in
    let whole : map (digest salt) (taken ++ next ∷ [] ++ rest) ≡ digests ++ map (digest salt) rest =
    map-append (digest salt) (taken ++ next ∷ []) rest in
    let total : length (digests ++ map (digest salt) rest) ≡ blocks =
    ap length (sym whole) ∙ length-map (taken ++ next ∷ [] ++ rest) (digest salt) ∙ all in
    let reached : length digests ≡ length taken + 1 =
    length-map (taken ++ next ∷ []) (digest salt) ∙ length-append taken (next ∷ []) in
    let some : 1 ≤ length digests = omega arith in
    let puts = full_puts-placed salt n digests (map (digest salt) rest) some in
    rw (digests_more salt taken next, all, whole, ← count) (rw (total, reached) at puts)

-- what is put at the end
pub puts_left : (salt : List ℕ) (n : ℕ) (blocks : List (List ℕ)) → 1 ≤ length blocks → n ≡ levels (length blocks)
    → rest_puts salt n (map (digest salt) blocks) ≡ placed (stored_tree salt blocks) (left_over (levels (length blocks)) (length blocks))
unfolding stored_tree
puts_left salt n blocks some count =
    let total : length (map (digest salt) blocks) ≡ length blocks = length-map blocks (digest salt) in
    let puts = rest_puts-placed salt n (map (digest salt) blocks) (omega arith) in
    rw (← count) (rw total at puts)

-- a list of one element
single : (xs : List (List ℕ)) → length xs ≡ 1 → xs ≡ get_or xs 0 [] ∷ []
single [] one = absurd (omega arith)
single (x ∷ []) one = refl
single (x ∷ (y ∷ rest)) one = absurd (omega arith)

-- there is one digest on top of all levels
one_top : (salt : List ℕ) (n : ℕ) (blocks : List (List ℕ)) → 1 ≤ length blocks → (length blocks - 1) / 128 ^ n ≡ 0
    → length (tops salt n (map (digest salt) blocks)) ≡ 1
one_top salt n blocks some one =
    let total : length (map (digest salt) blocks) ≡ length blocks = length-map blocks (digest salt) in
    length-tops salt n (map (digest salt) blocks) (omega arith) ∙ rw (total, one) refl

-- the root hash is the digest that closing gave
pub root_given : (salt : List ℕ) (n : ℕ) (blocks : List (List ℕ)) (root : List ℕ)
    → 1 ≤ length blocks → n ≡ levels (length blocks) → (length blocks - 1) / 128 ^ n ≡ 0
    → tops salt n (map (digest salt) blocks ++ []) ≡ full_tops salt n (map (digest salt) blocks) ++ root ∷ []
    → root ≡ root_hash salt blocks
unfolding root_hash
root_given salt n blocks root some count one tops_are =
    let all : tops salt n (map (digest salt) blocks) ≡ full_tops salt n (map (digest salt) blocks) ++ root ∷ [] = rw append-nil at tops_are in
    let length_one : length (full_tops salt n (map (digest salt) blocks) ++ root ∷ []) ≡ 1 =
    ap length (sym all) ∙ one_top salt n blocks some one in
    let none : full_tops salt n (map (digest salt) blocks) ≡ [] =
    nil_from_length (full_tops salt n (map (digest salt) blocks))
    (omega (arith, length-append (full_tops salt n (map (digest salt) blocks)) (root ∷ []))) in
    rw (← count, all, none) refl

-- or the one that left the room before
pub root_kept : (salt : List ℕ) (n : ℕ) (blocks : List (List ℕ)) (root : List ℕ)
    → 1 ≤ length blocks → n ≡ levels (length blocks) → (length blocks - 1) / 128 ^ n ≡ 0
    → tops salt n (map (digest salt) blocks ++ []) ≡ full_tops salt n (map (digest salt) blocks) ++ []
    → ((front : List (List ℕ)) (top : List ℕ) → full_tops salt n (map (digest salt) blocks) ≡ front ++ top ∷ [] → root ≡ top)
    → root ≡ root_hash salt blocks
unfolding root_hash
root_kept salt n blocks root some count one tops_are before =
    let all : tops salt n (map (digest salt) blocks) ≡ full_tops salt n (map (digest salt) blocks) = rw (append-nil, append-nil) at tops_are in
    let length_one : length (full_tops salt n (map (digest salt) blocks)) ≡ 1 = ap length (sym all) ∙ one_top salt n blocks some one in
    rw (← count, all) (before [] (get_or (full_tops salt n (map (digest salt) blocks)) 0 []) (single _ length_one))
