-- Nothing is wrong of a tree that is stored.
use Rattle.std.proofs.Common.{◌≡◌, ℕ, zero, suc, ◌+◌, ◌-◌, ◌*◌, ◌/◌, ◌%◌, ◌<◌, ◌≤◌, Bool, true, false, List, [], ◌∷◌, ◌++◌, Some, None, length, take, drop, get_or, map, replicate, inl, inr, refl, min, sym, ◌∙◌, ap, arith, append_assoc, length-drop, length-take}
use Rattle.std.specs.Prelude.{find, not}
use Rattle.std.specs.List.{concat, range_with_len}
use Rattle.std.proofs.lemmas.Bool.Decides.{eqb_tells}
use Rattle.std.proofs.lemmas.List.{drop-append-le, drop-drop, drop_all, get_or-drop, get_or-map, get_or-take, get_or_append_left, length-map, take-append-le, take_all}
use Rattle.std.proofs.lemmas.List.Elements.{All-head, All-tail}
use Rattle.std.proofs.lemmas.Slice.Eq.{bytes_eq-Decides}
use Rattle.rp_base.specs.declared.guid.Guid.{Guid}
use Rattle.rp_base.specs.declared.table.Row.{Row}
use Rattle.rp_base.specs.Image.{bytes_at}
use Rattle.rp_base.specs.Trees.{hash_blocks, levels}
use Rattle.rp_verity.specs.Tree.{digest, hash_block, level, raised, root_hash, run, runs, stored, stored_tree, tops}
use Rattle.rp_verity.specs.Order.{blocks_over}
use Rattle.rp_verity.specs.Room.{AreDigests, IsDigest}
use Rattle.rp_verity.proofs.Blocks.{are_digests}
use Rattle.rp_verity.proofs.LevelLemmas.{length-level}
use Rattle.rp_verity.proofs.ShapeLemmas.{hash_blocks-over, length-stored}
use Rattle.rp_verity.proofs.SuperblockLemmas.{written-right, written-salt}
use Rattle.rp_verity.proofs.TreeLemmas.{get_or-level, get_or-stored}
use Rattle.rp_tree.specs.Checked.{begin_of, block_of, first_bad, first_wrong, has_root, is_rooted, is_wrong, salt_of, stored_for, superblock_of, top_of, wrong_block, wrong_hash}
use Rattle.rp_tree.specs.Sealed.{IsSealed}
use Rattle.rp_tree.proofs.Counts.{levels-some, some_blocks}
use Rattle.rp_tree.proofs.RangeLemmas.{part-part}

-- a digest of some, one behind another
digest-at : (digests : List (List ℕ)) (rest : List ℕ) (k : ℕ) → AreDigests digests → k < length digests
    → take 32 (drop (32 * k) (concat digests ++ rest)) ≡ get_or digests k []
digest-at [] rest k each inside = absurd (omega arith)
digest-at (d ∷ digests) rest zero each inside =
    let long : length d ≡ 32 = All-head IsDigest d digests each in
    ap (take 32) (append_assoc d (concat digests) rest) ∙ take-append-le 32 d (concat digests ++ rest) (omega arith) ∙ take_all 32 d (omega arith)
digest-at (d ∷ digests) rest (suc k) each inside =
    let long : length d ≡ 32 = All-head IsDigest d digests each in
    let place : 32 * suc k ≡ 32 + 32 * k = omega arith in
    let behind : drop 32 (d ++ (concat digests ++ rest)) ≡ concat digests ++ rest =
    drop-append-le 32 d (concat digests ++ rest) (omega arith) ∙ ap (λ (xs : List ℕ). xs ++ (concat digests ++ rest)) (drop_all 32 d (omega arith)) in
    ap (λ (n : ℕ). take 32 (drop n (concat (d ∷ digests) ++ rest))) place
    ∙ ap (λ (xs : List ℕ). take 32 (drop (32 + 32 * k) xs)) (append_assoc d (concat digests) rest)
    ∙ ap (take 32) (sym (drop-drop (32 * k) 32 (d ++ (concat digests ++ rest))) ∙ ap (drop (32 * k)) behind)
    ∙ digest-at digests rest k (All-tail IsDigest d digests each) (omega arith)

-- a digest of a hash block
hash_block-at : (digests : List (List ℕ)) (k : ℕ) → AreDigests digests → k < length digests
    → bytes_at (hash_block digests) (32 * k) 32 ≡ get_or digests k []
unfolding hash_block
hash_block-at digests k each inside =
    let size : 32 * k + 32 - 32 * k ≡ 32 = omega arith in
    ap (λ (n : ℕ). take n (drop (32 * k) (concat digests ++ replicate (4096 - 32 * length digests) 0))) size
    ∙ digest-at digests (replicate (4096 - 32 * length digests) 0) k each inside

-- the digests of a run are digests of the whole
run-at : (digests : List (List ℕ)) (q r : ℕ) (d : List ℕ) → r < 128 → get_or (run digests q) r d ≡ get_or digests (128 * q + r) d
run-at digests q r d low = get_or-take 128 (drop (128 * q) digests) r d low ∙ get_or-drop (128 * q) digests r d

length-run : (digests : List (List ℕ)) (q : ℕ) → length (run digests q) ≡ min 128 (length digests - 128 * q)
length-run digests q = length-take 128 (drop (128 * q) digests) ∙ ap (min 128) (length-drop (128 * q) digests)

run-digests : (digests : List (List ℕ)) (q : ℕ) → AreDigests digests → AreDigests (run digests q)
run-digests digests q each k d inside =
    let size : length (run digests q) ≡ min 128 (length digests - 128 * q) = length-run digests q in
    let there : length (get_or digests (128 * q + k) d) ≡ 32 = each (128 * q + k) d (omega arith) in
    ap length (run-at digests q k d (omega arith)) ∙ there

-- what a level has for a digest, where its blocks stand in the row
stored-digest : (image : List ℕ) (hash : Row) (begin k : ℕ) (digests : List (List ℕ)) → AreDigests digests → k < length digests
    → block_of image hash (begin + k / 128) ≡ hash_block (run digests (k / 128))
    → stored_for image hash begin k ≡ get_or digests k []
stored-digest image hash begin k digests each inside stands =
    let q : ℕ = k / 128 in
    let r : ℕ = k % 128 in
    let place : 512 * hash.start + 4096 * (begin + q) + 32 * r ≡ 512 * hash.start + 4096 * begin + 32 * k = omega arith in
    let size : length (run digests q) ≡ min 128 (length digests - 128 * q) = length-run digests q in
    let whole : 128 * q + r ≡ k = omega arith in
    rw (← place)
    (sym (part-part image (512 * hash.start + 4096 * (begin + q)) 4096 (32 * r) 32 (omega arith))
    ∙ ap (λ (bytes : List ℕ). bytes_at bytes (32 * r) 32) stands
    ∙ hash_block-at (run digests q) r (run-digests digests q each) (omega arith)
    ∙ run-at digests q r [] (omega arith)
    ∙ ap (λ (n : ℕ). get_or digests n []) whole)

-- a block with the digest that is stored for it isn't wrong
right-is : (image salt : List ℕ) (row : Row) (first : ℕ) (hash : Row) (begin k : ℕ) (d : List ℕ)
    → digest salt (block_of image row (first + k)) ≡ d → stored_for image hash begin k ≡ d
    → is_wrong image salt row first hash begin k ≡ false
right-is image salt row first hash begin k d here there =
    rw (here, there) (ap not ((bytes_eq-Decides d d).1 refl))

find-nothing : (p : ℕ → Bool) (a n : ℕ) → ((k : ℕ) → a ≤ k → k < a + n → p k ≡ false) → find p (range_with_len a n) ≡ None
find-nothing p a zero none = refl
find-nothing p a (suc n) none =
    rw (none a (omega arith) (omega arith)) (find-nothing p (a + 1) n (λ k low high. none k (omega arith) (omega arith)))

-- the blocks of so many levels stand in the hash row
unfoldable AreStored : List ℕ → List ℕ → Row → ℕ → List (List ℕ) → Type 0
AreStored image salt hash n digests =
    (k : ℕ) → k < blocks_over n (length digests) → block_of image hash (k + 1) ≡ get_or (stored salt n digests) k []

-- so those of the levels above, and the blocks of the lowest one
stored-above : (image salt : List ℕ) (hash : Row) (n : ℕ) (digests : List (List ℕ)) → AreStored image salt hash (suc n) digests
    → AreStored image salt hash n (raised salt digests)
unfolding AreStored blocks_over stored
stored-above image salt hash n digests are k below =
    let up : length (raised salt digests) ≡ runs (length digests) = length-map (level digests) (digest salt) ∙ length-level digests in
    let size : length (stored salt n (raised salt digests)) ≡ blocks_over n (length (raised salt digests)) = length-stored salt n (raised salt digests) in
    let less : k < blocks_over n (runs (length digests)) = rw up at below in
    are k (omega arith) ∙ get_or_append_left (stored salt n (raised salt digests)) (level digests) [] k (omega arith)

stored-lowest : (image salt : List ℕ) (hash : Row) (n : ℕ) (digests : List (List ℕ)) (q : ℕ) → AreStored image salt hash (suc n) digests
    → q < runs (length digests) → block_of image hash (begin_of (suc n) (length digests) + q) ≡ hash_block (run digests q)
unfolding AreStored blocks_over
stored-lowest image salt hash n digests q are below =
    let number : blocks_over n (runs (length digests)) + q + 1 ≡ begin_of (suc n) (length digests) + q = omega arith in
    rw (← number) (are (blocks_over n (runs (length digests)) + q) (omega arith) ∙ get_or-stored salt n digests q below)

-- none of their digests is wrong
stored-right : (image salt : List ℕ) (hash : Row) (n : ℕ) (digests : List (List ℕ)) → AreDigests digests → 1 ≤ length digests
    → AreStored image salt hash n digests → wrong_hash image salt hash n (length digests) ≡ None
unfolding wrong_hash
stored-right image salt hash zero digests each some are = refl
stored-right image salt hash (suc zero) digests each some are = refl
stored-right image salt hash (suc (suc n)) digests each some are =
    let up : length (raised salt digests) ≡ runs (length digests) = length-map (level digests) (digest salt) ∙ length-level digests in
    let higher : AreStored image salt hash (suc n) (raised salt digests) = stored-above image salt hash (suc n) digests are in
    let above : wrong_hash image salt hash (suc n) (runs (length digests)) ≡ None =
    rw up at (stored-right image salt hash (suc n) (raised salt digests) (are_digests salt (level digests)) (omega arith) higher) in
    let none : first_wrong image salt hash (begin_of (suc (suc n)) (length digests)) (runs (length digests)) hash (begin_of (suc n) (runs (length digests))) ≡ None =
    find-nothing (is_wrong image salt hash (begin_of (suc (suc n)) (length digests)) hash (begin_of (suc n) (runs (length digests)))) 0 (runs (length digests))
    (λ k low below.
    let inside : k < runs (length digests) = omega arith in
    let block : block_of image hash (begin_of (suc (suc n)) (length digests) + k) ≡ hash_block (run digests k) =
    stored-lowest image salt hash (suc n) digests k are inside in
    let parent : block_of image hash (begin_of (suc n) (runs (length digests)) + k / 128) ≡ hash_block (run (raised salt digests) (k / 128)) =
    rw up at (stored-lowest image salt hash n (raised salt digests) (k / 128) higher (omega arith)) in
    let long : k < length (level digests) = omega (arith, length-level digests) in
    let mine : get_or (raised salt digests) k [] ≡ digest salt (hash_block (run digests k)) =
    get_or-map (digest salt) (level digests) k [] [] long ∙ ap (digest salt) (get_or-level digests k inside) in
    right-is image salt hash (begin_of (suc (suc n)) (length digests)) hash (begin_of (suc n) (runs (length digests))) k
    (digest salt (hash_block (run digests k))) (ap (digest salt) block)
    (stored-digest image hash (begin_of (suc n) (runs (length digests))) k (raised salt digests) (are_digests salt (level digests)) (omega arith) parent
    ∙ mine)) in
    rw (above, none) refl

-- the topmost block's digest is the first of the tops
top-digest : (salt : List ℕ) (n : ℕ) (digests : List (List ℕ)) → 1 ≤ length digests
    → digest salt (get_or (stored salt (suc n) digests) 0 []) ≡ get_or (tops salt (suc n) digests) 0 []
unfolding stored tops
top-digest salt zero digests some =
    let long : 0 < length (level digests) = omega (arith, length-level digests) in
    sym (get_or-map (digest salt) (level digests) 0 [] [] long)
top-digest salt (suc n) digests some =
    let up : length (raised salt digests) ≡ runs (length digests) = length-map (level digests) (digest salt) ∙ length-level digests in
    let size : length (stored salt (suc n) (raised salt digests)) ≡ blocks_over (suc n) (length (raised salt digests)) = length-stored salt (suc n) (raised salt digests) in
    let first : 0 < length (stored salt (suc n) (raised salt digests)) = some_blocks n (length (raised salt digests)) (length (stored salt (suc n) (raised salt digests))) (omega arith) size in
    ap (digest salt) (get_or_append_left (stored salt (suc n) (raised salt digests)) (level digests) [] 0 first)
    ∙ top-digest salt n (raised salt digests) (omega arith)

-- the superblock of sealed rows, and its salt
sealed-superblock : (image : List ℕ) (payload hash : Row) (uuid : Guid) (salt : List ℕ) (blocks : List (List ℕ))
    → IsSealed image payload hash uuid salt blocks → superblock_of image payload hash ≡ Some (record { blocks = length blocks; salt_size = 32 })
sealed-superblock image payload hash uuid salt blocks sealed =
    rw sealed.superblock (written-right uuid (length blocks) salt payload hash sealed.uuid_len sealed.salt_len sealed.fit)

sealed-salt : (image : List ℕ) (payload hash : Row) (uuid : Guid) (salt : List ℕ) (blocks : List (List ℕ))
    → IsSealed image payload hash uuid salt blocks → salt_of image hash (record { blocks = length blocks; salt_size = 32 }) ≡ salt
sealed-salt image payload hash uuid salt blocks sealed =
    rw sealed.superblock (written-salt uuid (length blocks) salt sealed.uuid_len sealed.salt_len)

-- its tree
sealed-stored : (image : List ℕ) (payload hash : Row) (uuid : Guid) (salt : List ℕ) (blocks : List (List ℕ))
    → IsSealed image payload hash uuid salt blocks → AreStored image salt hash (levels (length blocks)) (map (digest salt) blocks)
unfolding AreStored stored_tree
sealed-stored image payload hash uuid salt blocks sealed k below =
    let many : length (map (digest salt) blocks) ≡ length blocks = length-map blocks (digest salt) in
    let size : hash_blocks (length blocks) ≡ 1 + blocks_over (levels (length blocks)) (length blocks) = hash_blocks-over (length blocks) sealed.fit.some in
    let less : k < blocks_over (levels (length blocks)) (length blocks) = rw many at below in
    sealed.tree k (omega arith)

-- its data blocks
sealed-digest : (image : List ℕ) (payload hash : Row) (uuid : Guid) (salt : List ℕ) (blocks : List (List ℕ)) (k : ℕ)
    → IsSealed image payload hash uuid salt blocks → k < length blocks
    → digest salt (block_of image payload (0 + k)) ≡ get_or (map (digest salt) blocks) k []
sealed-digest image payload hash uuid salt blocks k sealed inside =
    let number : 0 + k ≡ k = omega arith in
    rw (number, sealed.data_blocks k inside) (sym (get_or-map (digest salt) blocks k [] [] inside))

-- its root hash
root-one : (salt : List ℕ) (blocks : List (List ℕ)) → length blocks ≡ 1 → root_hash salt blocks ≡ get_or (map (digest salt) blocks) 0 []
unfolding root_hash levels tops
root-one salt blocks one = rw one refl

root-more : (salt : List ℕ) (n : ℕ) (blocks : List (List ℕ)) → levels (length blocks) ≡ suc n → 1 ≤ length blocks
    → root_hash salt blocks ≡ digest salt (get_or (stored_tree salt blocks) 0 [])
unfolding root_hash stored_tree
root-more salt n blocks is some =
    let many : length (map (digest salt) blocks) ≡ length blocks = length-map blocks (digest salt) in
    rw is (sym (top-digest salt n (map (digest salt) blocks) (omega arith)))

sealed-root : (image : List ℕ) (payload hash : Row) (uuid : Guid) (salt : List ℕ) (blocks : List (List ℕ))
    → IsSealed image payload hash uuid salt blocks → digest salt (top_of image payload hash (length blocks)) ≡ payload.id.0 ++ hash.id.0
sealed-root image payload hash uuid salt blocks sealed =
    elim (eqb_tells (length blocks) 1) [
      | inl w ↦
          rw (sealed.root, root-one salt blocks w.1, w.0)
          (sealed-digest image payload hash uuid salt blocks 0 sealed (omega (arith, w.1)))
      | inr w ↦
          let count : 1 ≤ levels (length blocks) = levels-some (length blocks) sealed.fit.some w.1 in
          let is : levels (length blocks) ≡ suc (levels (length blocks) - 1) = omega arith in
          let size : hash_blocks (length blocks) ≡ 1 + blocks_over (levels (length blocks)) (length blocks) = hash_blocks-over (length blocks) sealed.fit.some in
          let first : 0 < blocks_over (levels (length blocks)) (length blocks) =
          some_blocks (levels (length blocks) - 1) (length blocks) (blocks_over (levels (length blocks)) (length blocks)) sealed.fit.some (ap (λ (n : ℕ). blocks_over n (length blocks)) is) in
          rw (sealed.root, root-more salt (levels (length blocks) - 1) blocks is sealed.fit.some, w.0)
          (ap (digest salt) (sealed.tree 0 (omega arith)))
    ]

sealed-rooted : (image : List ℕ) (payload hash : Row) (uuid : Guid) (salt : List ℕ) (blocks : List (List ℕ))
    → IsSealed image payload hash uuid salt blocks → is_rooted image payload hash (record { blocks = length blocks; salt_size = 32 }) ≡ true
sealed-rooted image payload hash uuid salt blocks sealed =
    rw (sealed-salt image payload hash uuid salt blocks sealed)
    ((bytes_eq-Decides (digest salt (top_of image payload hash (length blocks))) (payload.id.0 ++ hash.id.0)).1
    (sealed-root image payload hash uuid salt blocks sealed))

-- no block is wrong
sealed-data : (image : List ℕ) (payload hash : Row) (uuid : Guid) (salt : List ℕ) (blocks : List (List ℕ)) (n : ℕ)
    → IsSealed image payload hash uuid salt blocks → levels (length blocks) ≡ suc n
    → first_wrong image salt payload 0 (length blocks) hash (begin_of (suc n) (length blocks)) ≡ None
sealed-data image payload hash uuid salt blocks n sealed is =
    let many : length (map (digest salt) blocks) ≡ length blocks = length-map blocks (digest salt) in
    let stored_is : AreStored image salt hash (suc n) (map (digest salt) blocks) = rw is at (sealed-stored image payload hash uuid salt blocks sealed) in
    find-nothing (is_wrong image salt payload 0 hash (begin_of (suc n) (length blocks))) 0 (length blocks)
    (λ k low below.
    let inside : k < length blocks = omega arith in
    let parent : block_of image hash (begin_of (suc n) (length blocks) + k / 128) ≡ hash_block (run (map (digest salt) blocks) (k / 128)) =
    rw many at (stored-lowest image salt hash n (map (digest salt) blocks) (k / 128) stored_is (omega arith)) in
    right-is image salt payload 0 hash (begin_of (suc n) (length blocks)) k (get_or (map (digest salt) blocks) k [])
    (sealed-digest image payload hash uuid salt blocks k sealed inside)
    (stored-digest image hash (begin_of (suc n) (length blocks)) k (map (digest salt) blocks) (are_digests salt blocks) (omega arith) parent))

sealed-blocks : (image : List ℕ) (payload hash : Row) (uuid : Guid) (salt : List ℕ) (blocks : List (List ℕ))
    → IsSealed image payload hash uuid salt blocks → wrong_block image salt payload hash (length blocks) ≡ None
unfolding wrong_block
sealed-blocks image payload hash uuid salt blocks sealed =
    elim (eqb_tells (length blocks) 1) [
      | inl w ↦ rw w.0 refl
      | inr w ↦
          let many : length (map (digest salt) blocks) ≡ length blocks = length-map blocks (digest salt) in
          let count : 1 ≤ levels (length blocks) = levels-some (length blocks) sealed.fit.some w.1 in
          let is : levels (length blocks) ≡ suc (levels (length blocks) - 1) = omega arith in
          let hashes : wrong_hash image salt hash (levels (length blocks)) (length blocks) ≡ None =
          rw many at (stored-right image salt hash (levels (length blocks)) (map (digest salt) blocks) (are_digests salt blocks) (omega (arith, sealed.fit.some))
          (sealed-stored image payload hash uuid salt blocks sealed)) in
          let under : first_wrong image salt payload 0 (length blocks) hash (begin_of (levels (length blocks)) (length blocks)) ≡ None =
          rw is (sealed-data image payload hash uuid salt blocks (levels (length blocks) - 1) sealed is) in
          rw (w.0, hashes, under) refl
    ]

pub sealed-has_root : (image : List ℕ) (payload hash : Row) (uuid : Guid) (salt : List ℕ) (blocks : List (List ℕ))
    → IsSealed image payload hash uuid salt blocks → has_root image payload hash ≡ true
unfolding has_root
sealed-has_root image payload hash uuid salt blocks sealed =
    rw (sealed-superblock image payload hash uuid salt blocks sealed) (sealed-rooted image payload hash uuid salt blocks sealed)

pub sealed-bad : (image : List ℕ) (payload hash : Row) (uuid : Guid) (salt : List ℕ) (blocks : List (List ℕ))
    → IsSealed image payload hash uuid salt blocks → first_bad image payload hash ≡ None
unfolding first_bad
sealed-bad image payload hash uuid salt blocks sealed =
    rw (
      sealed-superblock image payload hash uuid salt blocks sealed,
      sealed-rooted image payload hash uuid salt blocks sealed,
      sealed-salt image payload hash uuid salt blocks sealed,
      sealed-blocks image payload hash uuid salt blocks sealed,
    )
    refl
