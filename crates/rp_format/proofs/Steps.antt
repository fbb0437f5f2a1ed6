-- From data block to data block: what was taken and written so far.
use Rattle.std.proofs.Common.{◌≡◌, ℕ, ◌+◌, ◌-◌, ◌*◌, ◌<◌, ◌≤◌, ◌⊎◌, inl, inr, List, [], ◌∷◌, ◌++◌, length, get_or, slice_index_or, map, take, drop, replicate, refl, sym, ◌∙◌, ap, ap₂, subst, arith, append_assoc, append-nil, All, length-append}
use Rattle.std.specs.Prelude.{Option, Some, None, Result, Ok, Err, IfOk, IfSome, IsErr, OnOk, OnErr}
use Rattle.std.specs.List.{range_with_len}
use Rattle.std.proofs.lemmas.List.{drop-drop, drop-take, get_or-map, take-take, take_all, length-replicate}
use Rattle.std.proofs.lemmas.List.Elements.{All-append, All-cons, All-map, All-nil}
use Rattle.std.proofs.lemmas.List.FromFn.{get_or-map-range_with_len, length-map-range_with_len, map-range_with_len_more}
use Rattle.rp_base.specs.Image.{bytes_at}
use Rattle.rp_base.specs.Trees.{hash_blocks, levels}
use Rattle.rp_base.specs.declared.faults.Failed.{Failed}
use Rattle.rp_disk.specs.declared.call.Call.{Call}
use Rattle.rp_disk.specs.Calls.{resized}
use Rattle.rp_disk.specs.History.{IsLawful, held}
use Rattle.rp_disk.specs.Made.{Past, Made, dones, history_of, history_told}
use Rattle.rp_disk.specs.Ranges.{Apart}
use Rattle.rp_disk.specs.Runs.{BrokeOff, MadeFirst}
use Rattle.rp_disk.specs.Stops.{Each}
use Rattle.rp_disk.proofs.Agreeing.{length-resized}
use Rattle.rp_disk.proofs.Ranges.{bytes_at-take, length-bytes_at}
use Rattle.rp_disk.proofs.Runs.{first_of_longer, first_of_more, more}
use Rattle.rp_verity.specs.declared.builder.Builder.{Builder}
use Rattle.rp_verity.specs.Builder.{HasTaken}
use Rattle.rp_verity.specs.Filled.{cut}
use Rattle.rp_verity.specs.Order.{blocks_over}
use Rattle.rp_verity.specs.Tree.{digest, root_hash, stored_tree}
use Rattle.rp_verity.proofs.LevelLemmas.{same_range as same_map}
use Rattle.rp_verity.proofs.ShapeLemmas.{hash_blocks-over}
use Rattle.rp_format.specs.Puts.{writes_of}
use Rattle.rp_format.specs.Taking.{IsBlockAt, TakesBlock, WritesAll, WritesHashes, full_puts, left_puts}
use Rattle.rp_format.specs.Written.{AreBlocks, AreShown, IsTreePlan, data_end, hash_calls, hash_end}
use Rattle.rp_format.specs.declared.tree.TreePlan.{TreePlan}
use Rattle.rp_steps.proofs.Trees.{IsBlock}
use Rattle.rp_format.proofs.Kept.{writes-are}
use Rattle.rp_format.proofs.Places.{all-split, all-split-at, apart_placed, filled-inside, filled_by, length-tree, map-range-split, so_far-more, so_far_puts, tree_blocks}
use Rattle.rp_format.proofs.Told.{SameLength, SameRange, same_length, same_range, still_shown, told_so}

-- the bytes of the data blocks that are shown
abbrev pub row_bytes : TreePlan → List ℕ → List ℕ
row_bytes tree image = bytes_at image tree.data_at (4096 * tree.blocks)

-- so many data blocks were taken, and of the writes all that they fill were made
pub record SoFar (tree : TreePlan) (first : Option Past) (old : List Made) (builder : Builder) (k : ℕ) (now : List Made)
    (taken : List (List ℕ)) : Type 0 where
  pub has : HasTaken builder tree.salt taken
  pub count : length taken ≡ k
  pub whole : All IsBlock taken
  pub shown : IfSome first (λ bytes. tree.data_at + 4096 * k ≤ length (held (history_of bytes old))
      → taken ≡ cut k (row_bytes tree (held (history_of bytes old))))
  pub calls : (rest : List (List ℕ)) → length (taken ++ rest) ≡ tree.blocks
      → now ≡ old ++ dones (writes_of tree.hash_at (so_far_puts tree (taken ++ rest) k))

none_shown : (tree : TreePlan) (first : Option Past) (old : List Made)
    → IfSome first (λ bytes. tree.data_at + 4096 * 0 ≤ length (held (history_of bytes old))
    → [] ≡ cut 0 (row_bytes tree (held (history_of bytes old))))
none_shown tree None old = tt
none_shown tree (Some bytes) old = λ fits. refl

pub so_far_none : (tree : TreePlan) (first : Option Past) (old : List Made) (builder : Builder) → HasTaken builder tree.salt []
    → SoFar tree first old builder 0 old []
so_far_none tree first old builder has =
    record { has = has; count = refl; whole = All-nil IsBlock; shown = none_shown tree first old; calls = λ rest all. sym (append-nil old) }

pub so_far_same : (tree : TreePlan) (first : Option Past) (old : List Made) (builder : Builder) (k j : ℕ) (mid now : List Made)
    (taken : List (List ℕ)) → SoFar tree first old builder k mid taken → k ≡ j → now ≡ mid → SoFar tree first old builder j now taken
so_far_same tree first old builder k j mid now taken so at same =
    subst (λ (i : ℕ). SoFar tree first old builder i now taken) at
    (subst (λ (l : List Made). SoFar tree first old builder k l taken) (sym same) so)

-- a run whose first part is known
pub made_within : (old mid new : List Made) (calls plan rest whole : List Call) → mid ≡ old ++ dones calls → MadeFirst mid plan new
    → whole ≡ calls ++ (plan ++ rest) → MadeFirst old whole new
made_within old mid new calls plan rest whole so made split =
    let all : MadeFirst old (calls ++ (plan ++ rest)) new = (
      dones calls ++ made.0,
      first_of_more calls made.0 (plan ++ rest) (first_of_longer made.0 plan rest made.1),
      made.2 ∙ ap (λ (l : List Made). l ++ made.0) so ∙ append_assoc old (dones calls) made.0,
    ) in
    subst (λ (l : List Call). MadeFirst old l new) (sym split) all

pub broke_first : (old : List Made) (plan : List Call) (new : List Made) → BrokeOff old plan new → MadeFirst old plan new
broke_first old plan new broke = (broke.0, broke.1, broke.3)

-- what was taken so far, with blocks that come still, is a whole row
fill_up : (tree : TreePlan) (k : ℕ) (taken : List (List ℕ)) → length taken ≡ k → k ≤ tree.blocks
    → length (taken ++ replicate (tree.blocks - k) []) ≡ tree.blocks
fill_up tree k taken count few =
    omega (arith, length-append taken (replicate (tree.blocks - k) []), length-replicate {A = List ℕ} (tree.blocks - k) [])

-- the writes so far leave alone what lies outside of the tree
writes_apart : (tree : TreePlan) (plan : IsTreePlan tree) (all : List (List ℕ)) (k at size : ℕ) → length all ≡ tree.blocks → k ≤ tree.blocks
    → (at + size ≤ tree.hash_at) ⊎ (hash_end tree ≤ at) → Each (Apart at size) (writes_of tree.hash_at (so_far_puts tree all k))
writes_apart tree plan all k at size count few outside =
    let some : 1 ≤ tree.blocks = plan.some in
    let stored : List (List ℕ) = stored_tree tree.salt all in
    let long : length stored ≡ blocks_over (levels tree.blocks) tree.blocks = rw count at (length-tree tree.salt all) in
    let end : hash_blocks tree.blocks ≡ 1 + blocks_over (levels tree.blocks) tree.blocks = hash_blocks-over tree.blocks some in
    let inside : All (λ place. place < length stored) (filled_by tree.blocks k) =
    rw long (filled-inside (levels tree.blocks) tree.blocks 1 k (omega arith) (omega arith)) in
    let reach : (at + size ≤ tree.hash_at) ⊎ (tree.hash_at + 4096 * (1 + length stored) ≤ at) =
    elim outside [ inl low ↦ inl low | inr high ↦ inr (omega arith) ] in
    apart_placed at size tree.hash_at stored (filled_by tree.blocks k) (tree_blocks tree.salt all) inside reach

blocks_outside : (tree : TreePlan) (plan : IsTreePlan tree) (k count : ℕ) → k + count ≤ tree.blocks
    → (tree.data_at + 4096 * k + 4096 * count ≤ tree.hash_at) ⊎ (hash_end tree ≤ tree.data_at + 4096 * k)
blocks_outside tree plan k count below = elim plan.apart [ inl low ↦ inl (omega arith) | inr high ↦ inr (omega arith) ]

-- so where the disk tells, its length and the next data blocks are as they were
pub length_so_far : (tree : TreePlan) (first : Option Past) (old : List Made) (builder : Builder) (k : ℕ) (now : List Made)
    (taken : List (List ℕ)) → SoFar tree first old builder k now taken → k ≤ tree.blocks → IfSome (history_told first now) IsLawful
    → SameLength first old now
length_so_far tree first old builder k now taken so few lawful =
    let rest : List (List ℕ) = replicate (tree.blocks - k) [] in
    let puts = so_far_puts tree (taken ++ rest) k in
    same_length first old now (writes_of tree.hash_at puts) (so.calls rest (fill_up tree k taken so.count few))
    (writes-are tree.hash_at puts) lawful

range_so_far : (tree : TreePlan) (plan : IsTreePlan tree) (first : Option Past) (old : List Made) (builder : Builder) (k count : ℕ)
    (now : List Made) (taken : List (List ℕ)) → SoFar tree first old builder k now taken → k + count ≤ tree.blocks
    → IfSome (history_told first now) IsLawful → SameRange (tree.data_at + 4096 * k) (4096 * count) first old now
range_so_far tree plan first old builder k count now taken so below lawful =
    let rest : List (List ℕ) = replicate (tree.blocks - k) [] in
    let all : length (taken ++ rest) ≡ tree.blocks = fill_up tree k taken so.count (omega arith) in
    let puts = so_far_puts tree (taken ++ rest) k in
    same_range (tree.data_at + 4096 * k) (4096 * count) first old now (writes_of tree.hash_at puts) (so.calls rest all)
    (writes-are tree.hash_at puts)
    (writes_apart tree plan (taken ++ rest) k (tree.data_at + 4096 * k) (4096 * count) all (omega arith)
    (blocks_outside tree plan k count below)) lawful

-- a part of a part
bytes_within : (image : List ℕ) (at m a n : ℕ) → a + n ≤ m → bytes_at (bytes_at image at m) a n ≡ bytes_at image (at + a) n
bytes_within image at m a n inside =
    let size : a + (m - a) ≡ m = omega arith in
    let cut-front : drop a (take m (drop at image)) ≡ take (m - a) (drop a (drop at image)) =
    rw size at (drop-take a (m - a) (drop at image)) in
    bytes_at-take (bytes_at image at m) a n
    ∙ ap (λ (l : List ℕ). take n (drop a l)) (bytes_at-take image at m)
    ∙ ap (take n) cut-front
    ∙ take-take n (m - a) (drop a (drop at image)) (omega arith)
    ∙ ap (take n) (drop-drop a at image)
    ∙ sym (bytes_at-take image (at + a) n)

-- data blocks that were read when so many were taken: they are still as at first
pub run_shown : (tree : TreePlan) (plan : IsTreePlan tree) (first : Option Past) (old : List Made) (builder : Builder) (k count : ℕ)
    (now : List Made) (taken : List (List ℕ)) (run : List ℕ) → SoFar tree first old builder k now taken → k + count ≤ tree.blocks
    → IfSome (history_told first now) IsLawful
    → IfSome (history_told first now) (λ h. tree.data_at + 4096 * k + 4096 * count ≤ length (held h))
    → IfSome (history_told first now) (λ h. run ≡ bytes_at (held h) (tree.data_at + 4096 * k) (4096 * count))
    → IfSome (history_told first old) (λ h. run ≡ bytes_at (held h) (tree.data_at + 4096 * k) (4096 * count))
run_shown tree plan first old builder k count now taken run so below lawful reaches read =
    still_shown (tree.data_at + 4096 * k) (4096 * count) first old now run
    (length_so_far tree first old builder k now taken so (omega arith) lawful)
    (range_so_far tree plan first old builder k count now taken so below lawful) reaches read

-- one of them is the data block of its number
pub run_block : (tree : TreePlan) (first : Option Past) (old : List Made) (k count i : ℕ) (run : List ℕ) → length run ≡ 4096 * count
    → i < count → IfSome (history_told first old) (λ h. run ≡ bytes_at (held h) (tree.data_at + 4096 * k) (4096 * count))
    → IsBlockAt tree (k + i) first old (bytes_at run (4096 * i) 4096)
run_block tree None old k count i run long below is = record { size = length-bytes_at run (4096 * i) 4096 (omega arith); shown = tt }
run_block tree (Some bytes) old k count i run long below is = record {
  size = length-bytes_at run (4096 * i) 4096 (omega arith);
  shown = λ fits.
      let image : List ℕ = held (history_of bytes old) in
      let place : tree.data_at + 4096 * k + 4096 * i ≡ tree.data_at + 4096 * (k + i) = omega arith in
      ap (λ (l : List ℕ). bytes_at l (4096 * i) 4096) is
      ∙ bytes_within image (tree.data_at + 4096 * k) (4096 * count) (4096 * i) 4096 (omega arith)
      ∙ ap (λ (at : ℕ). bytes_at image at 4096) place;
}

-- the data blocks with these digests, from that of this number on
abbrev pub AreRead : TreePlan → ℕ → ℕ → Option Past → List Made → List (List ℕ) → Type 0
AreRead tree k count first old digests =
    (i : ℕ) → i < count → (block : List ℕ) × (slice_index_or digests i [] ≡ digest tree.salt block) × IsBlockAt tree (k + i) first old block

pub run_read : (tree : TreePlan) (plan : IsTreePlan tree) (first : Option Past) (old : List Made) (builder : Builder) (k count n : ℕ)
    (now : List Made) (taken : List (List ℕ)) (run : List ℕ) (digests : List (List ℕ)) → SoFar tree first old builder k now taken
    → k + count ≤ tree.blocks → n ≡ 4096 * count → length run ≡ n → IfSome (history_told first now) IsLawful
    → IfSome (history_told first now) (λ h. tree.data_at + 4096 * k + n ≤ length (held h))
    → IfSome (history_told first now) (λ h. run ≡ bytes_at (held h) (tree.data_at + 4096 * k) n)
    → digests ≡ map (digest tree.salt) (cut count run) → AreRead tree k count first old digests
run_read tree plan first old builder k count n now taken run digests so below size long lawful reaches read are i inside =
    let block : List ℕ = bytes_at run (4096 * i) 4096 in
    let all : length (cut count run) ≡ count = length-map-range_with_len (λ j. bytes_at run (4096 * j) 4096) 0 count in
    let one : slice_index_or (cut count run) i [] ≡ block =
    get_or-map-range_with_len (λ j. bytes_at run (4096 * j) 4096) 0 count i i [] inside (omega arith) in
    let here : slice_index_or digests i [] ≡ digest tree.salt block =
    ap (λ (ds : List (List ℕ)). slice_index_or ds i []) are ∙ get_or-map (digest tree.salt) (cut count run) i [] [] (omega arith)
    ∙ ap (digest tree.salt) one in (
      block,
      here,
      run_block tree first old k count i run (long ∙ size) inside
          (run_shown tree plan first old builder k count now taken run so below lawful (rw size at reaches) (rw size at read)),
    )

-- the data block is the next one of the row
next_shown : (tree : TreePlan) (image : List ℕ) (k : ℕ) (block : List ℕ) → k < tree.blocks
    → block ≡ bytes_at image (tree.data_at + 4096 * k) 4096 → block ≡ bytes_at (row_bytes tree image) (4096 * k) 4096
next_shown tree image k block below is = is ∙ sym (bytes_within image tree.data_at (4096 * tree.blocks) (4096 * k) 4096 (omega arith))

more_shown : (tree : TreePlan) (first : Option Past) (old : List Made) (k : ℕ) (taken : List (List ℕ)) (block : List ℕ)
    → k < tree.blocks → IsBlockAt tree k first old block
    → IfSome first (λ bytes. tree.data_at + 4096 * k ≤ length (held (history_of bytes old))
    → taken ≡ cut k (row_bytes tree (held (history_of bytes old))))
    → IfSome first (λ bytes. tree.data_at + 4096 * (k + 1) ≤ length (held (history_of bytes old))
    → taken ++ block ∷ [] ≡ cut (k + 1) (row_bytes tree (held (history_of bytes old))))
more_shown tree None old k taken block below is so = tt
more_shown tree (Some bytes) old k taken block below is so = λ fits.
    let image : List ℕ = held (history_of bytes old) in
    let row : List ℕ = row_bytes tree image in
    let before : taken ≡ cut k row = so (omega arith) in
    let here : block ≡ bytes_at row (4096 * k) 4096 = next_shown tree image k block below (is.shown fits) in
    ap₂ (λ (l : List (List ℕ)) (b : List ℕ). l ++ b ∷ []) before here
    ∙ sym (map-range_with_len_more (λ j. bytes_at row (4096 * j) 4096) 0 k k (omega arith))

-- one data block more
pub so_far_more : {T E : Type 0} (x : T) (tree : TreePlan) (first : Option Past) (old : List Made) (builder after : Builder)
    (k : ℕ) (mid new : List Made) (taken : List (List ℕ)) (block : List ℕ) → SoFar tree first old builder k mid taken → k < tree.blocks
    → IsBlockAt tree k first old block → TakesBlock {T = T} {E = E} tree k builder after mid new block (Ok x)
    → SoFar tree first old after (k + 1) new (taken ++ block ∷ [])
so_far_more x tree first old builder after k mid new taken block so below is takes = record {
  has = takes.taken taken so.has;
  count = omega (arith, length-append taken (block ∷ []), so.count);
  whole = All-append IsBlock taken (block ∷ []) so.whole (All-cons IsBlock block [] is.size (All-nil IsBlock));
  shown = more_shown tree first old k taken block below is so.shown;
  calls = λ rest all.
      let e : (taken ++ block ∷ []) ++ rest ≡ taken ++ block ∷ rest = append_assoc taken (block ∷ []) rest in
      let whole : length (taken ++ block ∷ rest) ≡ tree.blocks = sym (ap length e) ∙ all in
      let whole-row : List (List ℕ) = taken ++ block ∷ rest in
      let both = more old mid new (writes_of tree.hash_at (so_far_puts tree whole-row k))
      (writes_of tree.hash_at (full_puts tree whole-row (k + 1)))
      (so.calls (block ∷ rest) whole) (takes.done taken rest so.has whole) in
      rw e (both ∙ ap (λ (l : List Call). old ++ dones l) (sym (so_far-more tree whole-row k)));
}

-- bytes of that length already
resized_same : (bytes : List ℕ) (n : ℕ) → length bytes ≡ n → resized bytes n ≡ bytes
resized_same bytes n long =
    let none : n - length bytes ≡ 0 = omega arith in
    rw (none, take_all n bytes (omega arith)) (append-nil bytes)

-- a data block that the disk shows, or zeros
pub some_block : (tree : TreePlan) (k : ℕ) (first : Option Past) (made : List Made)
    → (block : List ℕ) × IsBlockAt tree k first made block
some_block tree k None made = (replicate 4096 0, record { size = length-replicate {A = ℕ} 4096 0; shown = tt })
some_block tree k (Some bytes) made =
    let piece : List ℕ = bytes_at (held (history_of bytes made)) (tree.data_at + 4096 * k) 4096 in (
      resized piece 4096,
      record {
        size = length-resized piece 4096;
        shown =
            λ fits. resized_same piece 4096 (length-bytes_at (held (history_of bytes made)) (tree.data_at + 4096 * k) 4096 (omega arith));
      },
    )

-- those that come still, where a disk tells
unfoldable rest_blocks : TreePlan → ℕ → List ℕ → List (List ℕ)
rest_blocks tree k row = map (λ j. resized (bytes_at row (4096 * j) 4096) 4096) (range_with_len (k + 1) (tree.blocks - (k + 1)))

length-rest : (tree : TreePlan) (k : ℕ) (row : List ℕ) → length (rest_blocks tree k row) ≡ tree.blocks - (k + 1)
unfolding rest_blocks
length-rest tree k row = length-map-range_with_len (λ j. resized (bytes_at row (4096 * j) 4096) 4096) (k + 1) (tree.blocks - (k + 1))

rest_are_blocks : (tree : TreePlan) (k : ℕ) (row : List ℕ) → All IsBlock (rest_blocks tree k row)
unfolding rest_blocks
rest_are_blocks tree k row =
    All-map IsBlock (λ j. resized (bytes_at row (4096 * j) 4096) 4096) (range_with_len (k + 1) (tree.blocks - (k + 1)))
    (λ i d below. length-resized (bytes_at row (4096 * (get_or (range_with_len (k + 1) (tree.blocks - (k + 1))) i d)) 4096) 4096)

-- the first blocks of a row with those that come still
whole_row : (tree : TreePlan) (k : ℕ) (row : List ℕ) → k < tree.blocks → length row ≡ 4096 * tree.blocks
    → cut (k + 1) row ++ rest_blocks tree k row ≡ cut tree.blocks row
unfolding rest_blocks
whole_row tree k row below long =
    let f : ℕ → List ℕ = λ j. bytes_at row (4096 * j) 4096 in
    let behind : ℕ = tree.blocks - (k + 1) in
    let size : k + 1 + behind ≡ tree.blocks = omega arith in
    let start : 0 + (k + 1) ≡ k + 1 = omega arith in
    let parts : map f (range_with_len 0 tree.blocks) ≡ map f (range_with_len 0 (k + 1)) ++ map f (range_with_len (k + 1) behind) =
    rw (size, start) at (map-range-split f 0 (k + 1) behind) in
    let same : map (λ j. resized (f j) 4096) (range_with_len (k + 1) behind) ≡ map f (range_with_len (k + 1) behind) =
    same_map (λ j. resized (f j) 4096) f (k + 1) behind (λ j inside.
    resized_same (f j) 4096 (length-bytes_at row (4096 * j) 4096 (omega arith))) in
    ap (λ (l : List (List ℕ)). map f (range_with_len 0 (k + 1)) ++ l) same ∙ sym parts

-- what was taken so far and the block that was read, as first blocks of a whole row of blocks
abbrev RowOf : TreePlan → Option Past → List Made → List (List ℕ) → Type 0
RowOf tree first old front = (rest : List (List ℕ)) × AreBlocks tree.blocks (front ++ rest) × AreShown tree first old (front ++ rest)

row_of : (tree : TreePlan) (first : Option Past) (old : List Made) (k : ℕ) (front : List (List ℕ)) → k < tree.blocks
    → length front ≡ k + 1 → All IsBlock front
    → IfSome first (λ bytes. tree.data_at + 4096 * (k + 1) ≤ length (held (history_of bytes old))
    → front ≡ cut (k + 1) (row_bytes tree (held (history_of bytes old))))
    → RowOf tree first old front
row_of tree None old k front below count whole is = (
  rest_blocks tree k [],
  record {
    count = omega (arith, length-append front (rest_blocks tree k []), length-rest tree k []);
    whole = All-append IsBlock front (rest_blocks tree k []) whole (rest_are_blocks tree k []);
  },
  tt,
)
row_of tree (Some bytes) old k front below count whole is =
    let image : List ℕ = held (history_of bytes old) in
    let row : List ℕ = row_bytes tree image in (
      rest_blocks tree k row,
      record {
        count = omega (arith, length-append front (rest_blocks tree k row), length-rest tree k row);
        whole = All-append IsBlock front (rest_blocks tree k row) whole (rest_are_blocks tree k row);
      },
      λ fits.
          let long : length row ≡ 4096 * tree.blocks = length-bytes_at image tree.data_at (4096 * tree.blocks) fits in
          ap (λ (l : List (List ℕ)). l ++ rest_blocks tree k row) (is (omega arith)) ∙ whole_row tree k row below long,
    )

-- it broke off at a data block: the data blocks with those that come still
pub so_far_broke : {T E : Type 0} (e : E) (tree : TreePlan) (first : Option Past) (old : List Made) (builder after : Builder)
    (k : ℕ) (mid new : List Made) (taken : List (List ℕ)) (block : List ℕ) → SoFar tree first old builder k mid taken → k < tree.blocks
    → IsBlockAt tree k first old block → TakesBlock {T = T} {E = E} tree k builder after mid new block (Err e)
    → (all : List (List ℕ)) × AreBlocks tree.blocks all × AreShown tree first old all × MadeFirst old (hash_calls tree all) new
so_far_broke e tree first old builder after k mid new taken block so below is takes =
    let front : List (List ℕ) = taken ++ block ∷ [] in
    let found = row_of tree first old k front below
    (omega (arith, length-append taken (block ∷ []), so.count))
    (All-append IsBlock taken (block ∷ []) so.whole (All-cons IsBlock block [] is.size (All-nil IsBlock)))
    (more_shown tree first old k taken block below is so.shown) in
    let rest : List (List ℕ) = found.0 in
    let one : front ++ rest ≡ taken ++ block ∷ rest = append_assoc taken (block ∷ []) rest in
    let count : length (taken ++ block ∷ rest) ≡ tree.blocks = sym (ap length one) ∙ found.1.count in
    let split = all-split-at tree (taken ++ block ∷ rest) k below in
    let made : MadeFirst old (hash_calls tree (taken ++ block ∷ rest)) new =
    made_within old mid new (writes_of tree.hash_at (so_far_puts tree (taken ++ block ∷ rest) k))
    (writes_of tree.hash_at (full_puts tree (taken ++ block ∷ rest) (k + 1))) split.0 (hash_calls tree (taken ++ block ∷ rest))
    (so.calls (block ∷ rest) count) (takes.failed taken rest so.has count) split.1 in
    (front ++ rest, found.1, found.2, subst (λ (l : List (List ℕ)). MadeFirst old (hash_calls tree l) new) (sym one) made)

-- it broke off before the next data block was taken
pub so_far_stopped : (tree : TreePlan) (first : Option Past) (old : List Made) (builder : Builder) (k : ℕ) (mid new : List Made)
    (taken : List (List ℕ)) → SoFar tree first old builder k mid taken → k < tree.blocks → new ≡ mid
    → (all : List (List ℕ)) × AreBlocks tree.blocks all × AreShown tree first old all × MadeFirst old (hash_calls tree all) new
so_far_stopped tree first old builder k mid new taken so below same =
    let found = some_block tree k first old in
    so_far_broke {T = ℕ} {E = ℕ} 0 tree first old builder builder k mid new taken found.0 so below found.1 (record {
      taken = λ all has. tt;
      done = λ all rest has count. tt;
      failed = λ all rest has count. ([], tt, same ∙ sym (append-nil mid));
    })

-- all were taken
pub so_far_blocks : (tree : TreePlan) (first : Option Past) (old : List Made) (builder : Builder) (now : List Made)
    (taken : List (List ℕ)) → SoFar tree first old builder tree.blocks now taken → AreBlocks tree.blocks taken
so_far_blocks tree first old builder now taken so = record { count = so.count; whole = so.whole }

pub so_far_shown : (tree : TreePlan) (first : Option Past) (old : List Made) (builder : Builder) (now : List Made)
    (taken : List (List ℕ)) → SoFar tree first old builder tree.blocks now taken → AreShown tree first old taken
so_far_shown tree None old builder now taken so = tt
so_far_shown tree (Some bytes) old builder now taken so = so.shown

so_far_calls : (tree : TreePlan) (first : Option Past) (old : List Made) (builder : Builder) (now : List Made)
    (taken : List (List ℕ)) → SoFar tree first old builder tree.blocks now taken
    → now ≡ old ++ dones (writes_of tree.hash_at (so_far_puts tree taken tree.blocks))
so_far_calls tree first old builder now taken so =
    rw (append-nil taken) at (so.calls [] (ap length (append-nil taken) ∙ so.count))

pub so_far_done : (tree : TreePlan) (first : Option Past) (old : List Made) (builder : Builder) (mid new : List Made)
    (taken : List (List ℕ)) → SoFar tree first old builder tree.blocks mid taken
    → new ≡ mid ++ dones (writes_of tree.hash_at (left_puts tree taken)) → new ≡ old ++ dones (hash_calls tree taken)
so_far_done tree first old builder mid new taken so done =
    more old mid new (writes_of tree.hash_at (so_far_puts tree taken tree.blocks)) (writes_of tree.hash_at (left_puts tree taken))
    (so_far_calls tree first old builder mid taken so) done
    ∙ ap (λ (l : List Call). old ++ dones l) (sym (all-split tree taken))

pub so_far_left : (tree : TreePlan) (first : Option Past) (old : List Made) (builder : Builder) (mid new : List Made)
    (taken : List (List ℕ)) → SoFar tree first old builder tree.blocks mid taken
    → MadeFirst mid (writes_of tree.hash_at (left_puts tree taken)) new → MadeFirst old (hash_calls tree taken) new
so_far_left tree first old builder mid new taken so made =
    made_within old mid new (writes_of tree.hash_at (so_far_puts tree taken tree.blocks)) (writes_of tree.hash_at (left_puts tree taken)) []
    (hash_calls tree taken) (so_far_calls tree first old builder mid taken so) made
    (all-split tree taken ∙ ap (λ (l : List Call). writes_of tree.hash_at (so_far_puts tree taken tree.blocks) ++ l)
    (sym (append-nil (writes_of tree.hash_at (left_puts tree taken)))))

-- where a disk tells, it has the data blocks that were taken
unfoldable pub Reaches : TreePlan → ℕ → Option Past → List Made → Type 0
Reaches tree k first old = IfSome (history_told first old) (λ h. 1 ≤ k → tree.data_at + 4096 * k ≤ length (held h))

pub reaches_none : (tree : TreePlan) (first : Option Past) (old : List Made) → Reaches tree 0 first old
unfolding Reaches
reaches_none tree None old = tt
reaches_none tree (Some bytes) old = λ some. absurd (omega arith)

pub reaches_more : (tree : TreePlan) (k : ℕ) (first : Option Past) (old mid : List Made) → SameLength first old mid
    → IfSome (history_told first mid) (λ h. tree.data_at + 4096 * k ≤ length (held h)) → Reaches tree k first old
unfolding Reaches SameLength
reaches_more tree k None old mid same range = tt
reaches_more tree k (Some bytes) old mid same range = λ some. omega arith

-- it has those that were read
pub reaches_run : (tree : TreePlan) (k count n m : ℕ) (first : Option Past) (old mid : List Made) → SameLength first old mid
    → n ≡ 4096 * count → m ≡ k + count → IfSome (history_told first mid) (λ h. tree.data_at + 4096 * k + n ≤ length (held h))
    → Reaches tree m first old
reaches_run tree k count n m first old mid same size all range =
    reaches_more tree m first old mid same (told_so (history_told first mid) _ _ (λ h fits. omega arith) range)

pub reaches_all : (tree : TreePlan) (first : Option Past) (old : List Made) → 1 ≤ tree.blocks → Reaches tree tree.blocks first old
    → IfSome (history_told first old) (λ h. data_end tree ≤ length (held h))
unfolding Reaches
reaches_all tree None old some reaches = tt
reaches_all tree (Some bytes) old some reaches = reaches some

-- for answers: a failure while data blocks are taken
pub writes_err : (result : Result (List ℕ) Failed) (tree : TreePlan) (first : Option Past) (old new : List Made) → IsErr result
    → (all : List (List ℕ)) × AreBlocks tree.blocks all × AreShown tree first old all × MadeFirst old (hash_calls tree all) new
    → WritesAll tree first old new result
writes_err (Ok x) tree first old new err made = absurd (let no = err in cc)
writes_err (Err e) tree first old new err made = (made.0, made.1, made.2, record { done = tt; root = tt; failed = made.3 })

-- and the end, when all were taken
pub writes_hashes : (result : Result (List ℕ) Failed) (tree : TreePlan) (first : Option Past) (old : List Made) (builder : Builder)
    (mid new : List Made)
    (taken : List (List ℕ)) → SoFar tree first old builder tree.blocks mid taken
    → OnOk result (new ≡ mid ++ dones (writes_of tree.hash_at (left_puts tree taken)))
    → IfOk result (λ root. root ≡ root_hash tree.salt taken)
    → OnErr result (MadeFirst mid (writes_of tree.hash_at (left_puts tree taken)) new)
    → WritesHashes tree taken old new result
writes_hashes (Ok x) tree first old builder mid new taken so done root failed =
    record { done = so_far_done tree first old builder mid new taken so done; root = root; failed = tt }
writes_hashes (Err e) tree first old builder mid new taken so done root failed =
    record { done = tt; root = tt; failed = so_far_left tree first old builder mid new taken so failed }

pub on_ok : {T E P : Type 0} (result : Result T E) → P → OnOk result P
on_ok (Ok x) p = p
on_ok (Err e) p = tt
