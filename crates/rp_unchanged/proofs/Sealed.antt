-- A new pair that holds its contents is sealed.
use Rattle.std.proofs.Common.{◌≡◌, ◌∙◌, ℕ, zero, suc, ◌+◌, ◌-◌, ◌*◌, ◌/◌, ◌<◌, ◌≤◌, List, [], ◌∷◌, ◌++◌, length, take, drop, get_or, replicate, All, arith, append_assoc, sym, ap, subst}
use Rattle.std.specs.List.{concat}
use Rattle.std.proofs.lemmas.List.{drop-append-le, drop-drop, drop_all, take-append-le, take_all}
use Rattle.std.proofs.lemmas.List.Elements.{All-cons, All-head, All-tail}
use Rattle.std.proofs.lemmas.List.FromFn.{get_or-map-range_with_len, length-map-range_with_len}
use Rattle.rp_apply.specs.Commits.{HasPlannedRoot, HavePlannedRoots}
use Rattle.rp_apply.proofs.Can.{are_rows, role_fits}
use Rattle.rp_apply.proofs.Partners.{byte_of_row, payload_of_row}
use Rattle.rp_base.specs.Image.{bytes_at, range_of}
use Rattle.rp_base.specs.Plan.{IsPair, IsWellFormed, Noted, noted_of}
use Rattle.rp_base.specs.Trees.{hash_blocks}
use Rattle.rp_base.specs.declared.guid.Guid.{Guid}
use Rattle.rp_base.specs.declared.plan.Plan.{Plan}
use Rattle.rp_base.specs.declared.plan.Role.{Role}
use Rattle.rp_base.specs.declared.plan.Role.TheVariants.{Hash}
use Rattle.rp_base.specs.declared.seen.Seen.{Seen}
use Rattle.rp_disk.specs.Calls.{resized}
use Rattle.rp_steps.specs.Contents.{NotesFit, RoleFits, Sources, contents, contents_as, payload, payload_at, tree_over}
use Rattle.rp_steps.specs.Steps.{byte_count, byte_of_slot}
use Rattle.rp_steps.proofs.Planned.{writable}
use Rattle.rp_steps.proofs.Rowed.{length-tree, resized-longer, tree_blocks}
use Rattle.rp_steps.proofs.Trees.{IsBlock, length-blocks, length-superblock}
use Rattle.rp_stops.specs.Rows.{HoldContents}
use Rattle.rp_tree.specs.Checked.{block_of}
use Rattle.rp_tree.specs.Sealed.{IsSealed}
use Rattle.rp_tree.proofs.RangeLemmas.{part-part}
use Rattle.rp_tree.proofs.SealedLemmas.{sealed-bad}
use Rattle.rp_verity.specs.Filled.{cut}
use Rattle.rp_verity.specs.Superblock.{superblock}
use Rattle.rp_verity.specs.Tree.{root_hash, stored_tree}
use Rattle.rp_unchanged.specs.Pairs.{HasRoot, HaveRightTrees, HaveRootIds}

-- a block among blocks, one behind another
block_at : (blocks : List (List ℕ)) (rest : List ℕ) (k : ℕ) → All IsBlock blocks → k < length blocks
    → take 4096 (drop (4096 * k) (concat blocks ++ rest)) ≡ get_or blocks k []
block_at [] rest k each inside = absurd (omega arith)
block_at (b ∷ blocks) rest zero each inside =
    let long : length b ≡ 4096 = All-head IsBlock b blocks each in
    ap (take 4096) (append_assoc b (concat blocks) rest) ∙ take-append-le 4096 b (concat blocks ++ rest) (omega arith)
    ∙ take_all 4096 b (omega arith)
block_at (b ∷ blocks) rest (suc k) each inside =
    let long : length b ≡ 4096 = All-head IsBlock b blocks each in
    let place : 4096 * suc k ≡ 4096 + 4096 * k = omega arith in
    let behind : drop 4096 (b ++ (concat blocks ++ rest)) ≡ concat blocks ++ rest =
    drop-append-le 4096 b (concat blocks ++ rest) (omega arith)
    ∙ ap (λ (xs : List ℕ). xs ++ (concat blocks ++ rest)) (drop_all 4096 b (omega arith)) in
    ap (λ (n : ℕ). take 4096 (drop n (concat (b ∷ blocks) ++ rest))) place
    ∙ ap (λ (xs : List ℕ). take 4096 (drop (4096 + 4096 * k) xs)) (append_assoc b (concat blocks) rest)
    ∙ ap (take 4096) (sym (drop-drop (4096 * k) 4096 (b ++ (concat blocks ++ rest))) ∙ ap (drop (4096 * k)) behind)
    ∙ block_at blocks rest k (All-tail IsBlock b blocks each) (omega arith)

module _ (seen : Seen) (plan : Plan) (sources : Sources) (before image : List ℕ) (formed : IsWellFormed seen plan) (fit : NotesFit plan)
    (rooted : HavePlannedRoots plan sources) (named : HaveRootIds plan) (hold : HoldContents plan (contents plan sources before) image)
  where
    module _ (i j : ℕ) (d e : Noted) (near : i < length (noted_of plan)) (far : j < length (noted_of plan))
        (pair : IsPair (get_or (noted_of plan) i d) (get_or (noted_of plan) j e)) where
      abbrev under : Noted
      under = get_or (noted_of plan) i d

      abbrev over : Noted
      over = get_or (noted_of plan) j e

      abbrev count : ℕ
      count = (get_or (noted_of plan) i d).0.size / 8

      abbrev salt : List ℕ
      salt = pair.hash_role.0

      abbrev uuid : Guid
      uuid = pair.hash_role.1

      abbrev root : List ℕ
      root = pair.hash_role.2

      abbrev blocks : List (List ℕ)
      blocks = cut count (payload sources under)

      abbrev own_role : Role
      own_role = Hash under.1.slot count salt uuid root

      abbrev partner_at : ℕ
      partner_at = byte_of_slot plan.goal.rows under.1.slot

      role_is : over.1.role ≡ own_role
      role_is = pair.hash_role.3

      many : length blocks ≡ count
      many = length-map-range_with_len (λ k. bytes_at (payload sources under) (4096 * k) 4096) 0 count

      fits : RoleFits own_role
      fits = subst RoleFits role_is (role_fits seen plan formed fit over (are_rows seen plan formed j e far))

      some : 1 ≤ count
      some = omega (arith, pair.whole, (writable seen plan formed i d near).size)

      -- what the tree stands over
      payload_is : payload_at plan sources partner_at ≡ payload sources under
      payload_is = ap (payload_at plan sources) (byte_of_row seen plan formed i d near) ∙ payload_of_row seen plan formed sources i d near

      tree_is : tree_over plan sources partner_at count salt ≡ stored_tree salt blocks
      unfolding tree_over
      tree_is = ap (λ (bytes : List ℕ). stored_tree salt (cut count bytes)) payload_is

      data_holds : range_of image under.0 ≡ payload sources under
      unfolding contents_as
      data_holds = hold i d near pair.new.0 ∙ ap (contents_as plan sources before under) pair.payload_role.1

      abbrev whole : List (List ℕ)
      whole = superblock uuid count salt ∷ stored_tree salt blocks

      hash_holds : range_of image over.0 ≡ resized (concat whole) (byte_count over.0)
      unfolding contents_as
      hash_holds = hold j e far pair.new.1 ∙ ap (contents_as plan sources before over) role_is
          ∙ ap (λ (tree : List (List ℕ)). resized (superblock uuid count salt ++ concat tree) (byte_count over.0)) tree_is

      all_blocks : All IsBlock whole
      all_blocks = All-cons IsBlock (superblock uuid count salt) (stored_tree salt blocks) (length-superblock uuid count salt fits.1 fits.0)
          (subst (All IsBlock) tree_is (tree_blocks plan sources partner_at count salt))

      whole_count : length whole ≡ hash_blocks count
      whole_count =
          let long = length-tree plan sources partner_at count salt some in
          let same : length (tree_over plan sources partner_at count salt) ≡ length (stored_tree salt blocks) =
          ap (λ (t : List (List ℕ)). length t) tree_is in
          omega (arith, long, same)

      -- the blocks of the hash row
      hash_block : (k : ℕ) → k < hash_blocks count → block_of image over.0 k ≡ get_or whole k []
      hash_block k below =
          let room = pair.room in
          let size : 4096 * k + 4096 - 4096 * k ≡ 4096 = omega arith in
          let long : length (concat whole) ≡ 4096 * hash_blocks count = length-blocks whole all_blocks
          ∙ ap (λ (n : ℕ). 4096 * n) whole_count in
          sym (part-part image (512 * over.0.start) (512 * over.0.size) (4096 * k) 4096 (omega arith))
          ∙ ap (λ (bytes : List ℕ). bytes_at bytes (4096 * k) 4096)
          (hash_holds ∙ resized-longer plan sources (concat whole) (byte_count over.0) (4096 * hash_blocks count) long (omega arith))
          ∙ ap (λ (n : ℕ). take n (drop (4096 * k) (concat whole ++ replicate (byte_count over.0 - 4096 * hash_blocks count) 0))) size
          ∙ block_at whole (replicate (byte_count over.0 - 4096 * hash_blocks count) 0) k all_blocks (omega (arith, whole_count))

      tree_block : (k : ℕ) → k + 1 < hash_blocks count → block_of image over.0 (k + 1) ≡ get_or (stored_tree salt blocks) k []
      tree_block k below =
          let next : k + 1 ≡ suc k = omega arith in
          ap (block_of image over.0) next ∙ hash_block (suc k) (omega (arith, below))

      data_block : (k : ℕ) → k < count → block_of image under.0 k ≡ get_or blocks k []
      data_block k below =
          sym (part-part image (512 * under.0.start) (512 * under.0.size) (4096 * k) 4096 (omega arith))
          ∙ ap (λ (bytes : List ℕ). bytes_at bytes (4096 * k) 4096) data_holds
          ∙ sym (get_or-map-range_with_len (λ n. bytes_at (payload sources under) (4096 * n) 4096) 0 count k k [] below (omega arith))

      root_is : root_hash salt blocks ≡ root
      root_is =
          sym (ap (λ (bytes : List ℕ). root_hash salt (cut count bytes)) payload_is)
          ∙ subst (HasPlannedRoot plan sources) role_is (rooted j e far)

      ids_are : under.0.id.0 ++ over.0.id.0 ≡ root
      ids_are = subst (HasRoot (under.0.id.0 ++ over.0.id.0)) role_is (named i d near j e far pair)

      sealed : IsSealed image under.0 over.0 uuid salt blocks
      sealed =
          let fit_in = (writable seen plan formed i d near).fits in
          record {
            uuid_len = fits.1;
            salt_len = fits.0;
            fit = rw many (record {
              some = some;
              few = omega (arith, fit_in);
              blocks_fit = omega arith;
              tree_fits = pair.room;
            });
            data_blocks = λ k below. data_block k (omega (arith, below, many));
            superblock = hash_block 0 (omega (arith, whole_count)) ∙ ap (λ (n : ℕ). superblock uuid n salt) (sym many);
            tree = λ k below. tree_block k (rw many at below);
            root = ids_are ∙ sym root_is;
          }

    pub trees_right : HaveRightTrees plan image
    trees_right i d near j e far pair =
        sealed-bad image (get_or (noted_of plan) i d).0 (get_or (noted_of plan) j e).0 (uuid i j d e near far pair)
        (salt i j d e near far pair)
        (blocks i j d e near far pair) (sealed i j d e near far pair)
