-- The calls that give one new row its contents.
use Rattle.std.proofs.Common.{◌≡◌, ℕ, ◌+◌, ◌-◌, ◌*◌, ◌<◌, ◌≤◌, ◌⊎◌, inl, inr, Bool, true, false, cond, eqb, List, [], ◌∷◌, ◌++◌, length, get_or, replicate, Option, Some, None, refl, sym, ap, ap₂, ◌∙◌, subst, arith, map, All}
use Rattle.std.specs.List.{concat}
use Rattle.std.specs.Option.{option_map_or}
use Rattle.std.specs.Prelude.{IfSome, IsSome}
use Rattle.std.proofs.lemmas.Bool.{eqb-true, eqb-false}
use Rattle.std.proofs.lemmas.Grind.{flat_map-append}
use Rattle.std.proofs.lemmas.List.{append-nil, get_or-append_right, get_or-replicate, get_or_append_left, length-append, length-map, take_all}
use Rattle.std.proofs.lemmas.List.FromFn.{length-map-range_with_len}
use Rattle.rp_base.specs.Plan.{HoldsSource, Noted}
use Rattle.rp_base.specs.Trees.{hash_blocks, levels}
use Rattle.rp_base.specs.declared.guid.Guid.{Guid}
use Rattle.rp_base.specs.declared.plan.Plan.{Plan}
use Rattle.rp_base.specs.declared.plan.Role.{Role}
use Rattle.rp_base.specs.declared.plan.Role.TheVariants.{Plain, Data, Hash}
use Rattle.rp_base.specs.declared.table.Row.{Row}
use Rattle.rp_disk.specs.Calls.{resized}
use Rattle.rp_disk.specs.declared.call.Call.{Call}
use Rattle.rp_disk.specs.declared.call.Call.TheVariants.{Write}
use Rattle.rp_disk.proofs.Agreeing.{get_or-resized, length-resized}
use Rattle.rp_verity.specs.Filled.{cut}
use Rattle.rp_verity.specs.Order.{blocks_over}
use Rattle.rp_verity.specs.Superblock.{superblock}
use Rattle.rp_verity.specs.Tree.{digest, stored_tree}
use Rattle.rp_verity.proofs.Blocks.{are_digests}
use Rattle.rp_verity.proofs.ShapeLemmas.{hash_blocks-over, length-stored}
use Rattle.rp_steps.specs.Calls.{calls_of, calls_of_steps, in_pieces, tree_writes}
use Rattle.rp_steps.specs.Contents.{RoleFits, Sources, contents_as, payload_at, plain_rest, source_bytes, tree_over}
use Rattle.rp_steps.specs.Planned.{HasRoom}
use Rattle.rp_steps.specs.Steps.{byte_count, byte_of_slot, copy_steps, from_byte, payload_steps, rest_steps, source_len, tree_steps, zero_steps}
use Rattle.rp_steps.specs.declared.step.Step.TheVariants as steps
use Rattle.rp_steps.proofs.Filled.{Fill, fill_both, fill_other, fill_pieces, fill_write, length-plain_rest, rest_fill, rest_of, zeros_fill}
use Rattle.rp_steps.proofs.Pieces.{pieces_of_none}
use Rattle.rp_steps.proofs.Trees.{IsBlock, length-blocks, length-superblock, stored_blocks, tree_fill}

-- a source with bytes has a file
abbrev pub HasFile : Noted → Type 0
HasFile noted = (source_len noted.1 ≡ 0) ⊎ IsSome noted.1.file

pub has_file : (noted : Noted) → HoldsSource noted → HasFile noted
has_file noted holds = by noted.1.source refl holds where
  by : (source : Option ℕ) → noted.1.source ≡ source → IfSome source (λ bytes. IsSome noted.1.file × (bytes ≤ 512 * noted.0.size)) → HasFile noted
  by None is held = inl (rw is refl)
  by (Some bytes) is held = inr held.0

module _ (plan : Plan) (sources : Sources) where
  -- the calls that copy a source are its bytes in pieces
  copy_of_file : (file : Option ℕ) (at len : ℕ) → (len ≡ 0 → ⊥) → (len ≡ 0) ⊎ IsSome file
      → calls_of_steps plan sources (option_map_or (λ f. steps.Copy f at len ∷ []) file [])
      ≡ in_pieces at (option_map_or (λ f. resized (sources f) len) file [])
  unfolding calls_of
  copy_of_file (Some file) at len some has = append-nil (in_pieces at (resized (sources file) len))
  copy_of_file None at len some (inl none) = absurd (some none)
  copy_of_file None at len some (inr has) = cc

  pub length-source : (file : Option ℕ) (len : ℕ) → (len ≡ 0) ⊎ IsSome file → length (option_map_or (λ f. resized (sources f) len) file []) ≡ len
  length-source (Some file) len has = length-resized (sources file) len
  length-source None len (inl none) = sym none
  length-source None len (inr has) = cc

  copy_as : (file : Option ℕ) (at len : ℕ) (b : Bool) → eqb len 0 ≡ b → (len ≡ 0) ⊎ IsSome file
      → calls_of_steps plan sources (cond b [] (option_map_or (λ f. steps.Copy f at len ∷ []) file []))
      ≡ in_pieces at (option_map_or (λ f. resized (sources f) len) file [])
  copy_as file at len true none has =
      sym (pieces_of_none at (option_map_or (λ f. resized (sources f) len) file []) (length-source file len has ∙ eqb-true len 0 none))
  copy_as file at len false some has = copy_of_file file at len (eqb-false len 0 some) has

  pub copy_calls : (noted : Noted) → HasFile noted → calls_of_steps plan sources (copy_steps noted) ≡ in_pieces (from_byte noted.0) (source_bytes sources noted)
  unfolding copy_steps source_bytes
  copy_calls noted has = copy_as noted.1.file (from_byte noted.0) (source_len noted.1) (eqb (source_len noted.1) 0) refl has

  pub length-source_bytes : (noted : Noted) → HasFile noted → length (source_bytes sources noted) ≡ source_len noted.1
  unfolding source_bytes
  length-source_bytes noted has = length-source noted.1.file (source_len noted.1) has

  -- a source and a rest behind it
  payload_fill : (noted : Noted) (role : Role) (image whole : List ℕ) → HasFile noted → source_len noted.1 ≤ byte_count noted.0
      → from_byte noted.0 + byte_count noted.0 ≤ length image
      → whole ≡ source_bytes sources noted ++ rest_of plan sources role image (from_byte noted.0 + source_len noted.1) (byte_count noted.0 - source_len noted.1)
      → Fill (λ k. get_or whole (k - from_byte noted.0) 0) (from_byte noted.0) (from_byte noted.0 + byte_count noted.0) image
      (calls_of_steps plan sources
      (copy_steps noted ++ rest_steps role (from_byte noted.0 + source_len noted.1) (byte_count noted.0 - source_len noted.1)))
  payload_fill noted role image whole has room fits is =
      let from = from_byte noted.0 in
      let len = source_len noted.1 in
      let count = byte_count noted.0 in
      let source = source_bytes sources noted in
      let rest = rest_of plan sources role image (from + len) (count - len) in
      let long = length-source_bytes noted has in
      let value = λ (k : ℕ). get_or whole (k - from) 0 in
      let ends : from + len + (count - len) ≡ from + count = omega arith in
      let first : Fill value from (from + len) image (calls_of_steps plan sources (copy_steps noted)) =
      subst (λ (calls : List Call). Fill value from (from + len) image calls) (sym (copy_calls noted has))
      (fill_pieces value from (from + len) source image (omega arith)
      (λ i inside.
      sym (ap (λ (l : List ℕ). get_or l (from + i - from) 0) is
      ∙ ap (λ (j : ℕ). get_or (source ++ rest) j 0) (let e : from + i - from ≡ i = omega arith in e)
      ∙ get_or_append_left source rest 0 i inside))) in
      let second : Fill value (from + len) (from + count) image (calls_of_steps plan sources (rest_steps role (from + len) (count - len))) =
      subst (λ (high : ℕ). Fill value (from + len) high image (calls_of_steps plan sources (rest_steps role (from + len) (count - len)))) ends
      (rest_fill plan sources role value (from + len) (count - len) image (omega arith)
      (λ k above below.
      ap (λ (l : List ℕ). get_or l (k - from) 0) is ∙ get_or-append_right source rest len (k - from) 0 long (omega arith)
      ∙ ap (λ (j : ℕ). get_or rest j 0) (let e : k - from - len ≡ k - (from + len) = omega arith in e))) in
      subst (λ (calls : List Call). Fill value from (from + count) image calls)
      (sym (flat_map-append (calls_of plan sources) (copy_steps noted) (rest_steps role (from + len) (count - len))))
      (fill_both value from (from + len) (from + count) image _ _ (omega arith) (omega arith) first second)

  -- what a row holds behind its source where it is filled up with zeros
  pub resized-longer : (bytes : List ℕ) (n len : ℕ) → length bytes ≡ len → len ≤ n → resized bytes n ≡ bytes ++ replicate (n - len) 0
  resized-longer bytes n len long fits =
      ap (λ (l : List ℕ). l ++ replicate (n - length bytes) 0) (take_all n bytes (omega arith))
      ∙ ap (λ (m : ℕ). bytes ++ replicate (n - m) 0) long

  -- a superblock, a tree and zeros
  hash_fill : (row : Row) (at blocks : ℕ) (salt : List ℕ) (uuid : Guid) (root : List ℕ) (image : List ℕ)
      → 1 ≤ blocks → 8 * hash_blocks blocks ≤ row.size → All IsBlock (tree_over plan sources at blocks salt)
      → length (tree_over plan sources at blocks salt) + 1 ≡ hash_blocks blocks → length uuid.0 ≡ 16 → length salt ≡ 32
      → Fill (λ k. get_or (resized (superblock uuid blocks salt ++ concat (tree_over plan sources at blocks salt)) (byte_count row)) (k - from_byte row) 0)
      (from_byte row) (from_byte row + byte_count row) image
      (calls_of_steps plan sources
      (steps.Tree at (from_byte row) blocks salt uuid root ∷ zero_steps (from_byte row + 4096 * hash_blocks blocks) (byte_count row - 4096 * hash_blocks blocks)))
  unfolding calls_of
  hash_fill row at blocks salt uuid root image some room each size id long =
      let from = from_byte row in
      let count = byte_count row in
      let end = 4096 * hash_blocks blocks in
      let super = superblock uuid blocks salt in
      let tree = tree_over plan sources at blocks salt in
      let whole = super ++ concat tree in
      let super_long = length-superblock uuid blocks salt id long in
      let tree_long = length-blocks tree each in
      let whole_long : length whole ≡ end = omega (arith, length-append super (concat tree), super_long, tree_long, size) in
      let value = λ (k : ℕ). get_or (resized whole count) (k - from) 0 in
      let inside : (i : ℕ) → i < end → value (from + i) ≡ get_or whole i 0 =
      λ i below. ap (λ (j : ℕ). get_or (resized whole count) j 0) (let e : from + i - from ≡ i = omega arith in e)
      ∙ get_or-resized whole count i (omega (arith, whole_long)) (omega arith) in
      let first = tree_fill value from blocks tree image some each size (λ i below.
      ap value (let e : from + 4096 + i ≡ from + (4096 + i) = omega arith in e) ∙ inside (4096 + i) (omega (arith, tree_long, size))
      ∙ get_or-append_right super (concat tree) 4096 (4096 + i) 0 super_long (omega arith)
      ∙ ap (λ (j : ℕ). get_or (concat tree) j 0) (let e : 4096 + i - 4096 ≡ i = omega arith in e)) in
      let second = fill_write value from (from + 4096) super image (omega (arith, super_long)) (λ i below.
      sym (inside i (omega (arith, super_long, size)) ∙ get_or_append_left super (concat tree) 0 i below)) in
      let both = fill_other value from (from + 4096) (from + end) image (tree_writes from blocks tree) (Write from super ∷ []) (omega arith) (omega (arith, size))
      first second in
      let ends : from + end + (count - end) ≡ from + count = omega arith in
      let third = zeros_fill plan sources value (from + end) (count - end) image (λ k above below.
      ap (λ (l : List ℕ). get_or l (k - from) 0) (resized-longer whole count end whole_long (omega arith))
      ∙ get_or-append_right whole (replicate (count - end) 0) end (k - from) 0 whole_long (omega arith)
      ∙ get_or-replicate (count - end) (k - from - end) 0 0 (omega arith)) in
      fill_both value from (from + end) (from + count) image (tree_writes from blocks tree ++ Write from super ∷ [])
      (calls_of_steps plan sources (zero_steps (from + end) (count - end))) (omega arith) (omega arith) both
      (subst (λ (high : ℕ). Fill value (from + end) high image (calls_of_steps plan sources (zero_steps (from + end) (count - end)))) ends third)

  -- the blocks of a tree over so many data blocks
  pub tree_blocks : (at blocks : ℕ) (salt : List ℕ) → All IsBlock (tree_over plan sources at blocks salt)
  unfolding tree_over stored_tree
  tree_blocks at blocks salt = stored_blocks salt _ _ (are_digests salt _)

  pub length-tree : (at blocks : ℕ) (salt : List ℕ) → 1 ≤ blocks → length (tree_over plan sources at blocks salt) + 1 ≡ hash_blocks blocks
  unfolding tree_over stored_tree
  length-tree at blocks salt some =
      let under = cut blocks (payload_at plan sources at) in
      let count : length under ≡ blocks = length-map-range_with_len _ 0 blocks in
      let digests : length (map (digest salt) under) ≡ blocks = length-map under (digest salt) ∙ count in
      let long = length-stored salt (levels (length under)) (map (digest salt) under) in
      let same : blocks_over (levels (length under)) (length (map (digest salt) under)) ≡ blocks_over (levels blocks) blocks =
      ap₂ (λ n m. blocks_over (levels n) m) count digests in
      omega (arith, long, same, hash_blocks-over blocks some)

  -- all calls of a row, by its role
  pub row_fill : (noted : Noted) (role : Role) (image : List ℕ) → HasFile noted → source_len noted.1 ≤ byte_count noted.0
      → from_byte noted.0 + byte_count noted.0 ≤ length image → HasRoom noted.0 role → RoleFits role
      → Fill (λ k. get_or (contents_as plan sources image noted role) (k - from_byte noted.0) 0) (from_byte noted.0) (from_byte noted.0 + byte_count noted.0) image
      (calls_of_steps plan sources (payload_steps noted role) ++ calls_of_steps plan sources (tree_steps plan.goal.rows noted.0 role))
  unfolding payload_steps tree_steps contents_as
  row_fill noted Plain image has room fits tree role =
      let whole = contents_as plan sources image noted Plain in
      subst (λ (calls : List Call). Fill (λ k. get_or whole (k - from_byte noted.0) 0) (from_byte noted.0) (from_byte noted.0 + byte_count noted.0) image calls)
      (sym (append-nil (calls_of_steps plan sources (payload_steps noted Plain))))
      (payload_fill noted Plain image whole has room fits refl)
  row_fill noted (Data partner root) image has room fits tree role =
      let whole = contents_as plan sources image noted (Data partner root) in
      subst (λ (calls : List Call). Fill (λ k. get_or whole (k - from_byte noted.0) 0) (from_byte noted.0) (from_byte noted.0 + byte_count noted.0) image calls)
      (sym (append-nil (calls_of_steps plan sources (payload_steps noted (Data partner root)))))
      (payload_fill noted (Data partner root) image whole has room fits
      (resized-longer (source_bytes sources noted) (byte_count noted.0) (source_len noted.1) (length-source_bytes noted has) room))
  row_fill noted (Hash partner blocks salt uuid root) image has room fits tree role =
      hash_fill noted.0 (byte_of_slot plan.goal.rows partner) blocks salt uuid root image tree.0 tree.2
      (tree_blocks (byte_of_slot plan.goal.rows partner) blocks salt) (length-tree (byte_of_slot plan.goal.rows partner) blocks salt tree.0) role.1 role.0

  -- contents have the bytes of their row
  pub length-contents : (noted : Noted) (role : Role) (image : List ℕ) → HasFile noted → source_len noted.1 ≤ byte_count noted.0
      → from_byte noted.0 + byte_count noted.0 ≤ length image → length (contents_as plan sources image noted role) ≡ byte_count noted.0
  unfolding contents_as
  length-contents noted Plain image has room fits =
      let len = source_len noted.1 in
      let rest = plain_rest image (from_byte noted.0 + len) (byte_count noted.0 - len) in
      omega (
        arith,
        length-append (source_bytes sources noted) rest,
        length-source_bytes noted has,
        length-plain_rest image (from_byte noted.0 + len) (byte_count noted.0 - len) (omega arith),
      )
  length-contents noted (Data partner root) image has room fits = length-resized (source_bytes sources noted) (byte_count noted.0)
  length-contents noted (Hash partner blocks salt uuid root) image has room fits = length-resized _ (byte_count noted.0)
