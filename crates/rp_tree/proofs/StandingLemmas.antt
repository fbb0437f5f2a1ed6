-- What stands in the room while a tree is checked, a block at a time.
use Rattle.std.proofs.Common.{◌≡◌, ℕ, zero, suc, ◌+◌, ◌-◌, ◌*◌, ◌/◌, ◌%◌, ◌^◌, ◌<◌, ◌≤◌, Bool, true, false, List, [], ◌∷◌, ◌++◌, Option, Some, None, length, take, drop, replicate, get_or, refl, sym, ◌∙◌, ap, arith, length-drop}
use Rattle.std.specs.Prelude.{find, not, option_map, if◌then◌else◌}
use Rattle.std.specs.Option.{option_or}
use Rattle.std.specs.List.{range_with_len}
use Rattle.std.specs.Str.{bytes_eq}
use Rattle.std.proofs.lemmas.List.{drop-drop, drop-append-le, drop_all, take_all, take-append-le}
use Rattle.rp_base.specs.declared.table.Row.{Row}
use Rattle.rp_base.specs.Image.{bytes_at}
use Rattle.rp_verity.specs.Tree.{digest, runs}
use Rattle.rp_verity.specs.Order.{blocks_over}
use Rattle.rp_verity.proofs.ShapeLemmas.{div-pow-suc}
use Rattle.rp_tree.specs.Checked.{begin_of, block_of, is_wrong, stored_for, wrong_hash}
use Rattle.rp_tree.specs.Standing.{IsNoted, IsShape, Stands, above_of, noted}
use Rattle.rp_tree.proofs.RangeLemmas.{find-one_more, part-front, part-part}

-- the levels above the lowest
pub shape-above : (hash : Row) (n digests room notes : ℕ) → IsShape hash (suc (suc n)) digests room notes
    → IsShape hash (suc n) (runs digests) (room - 4096) (notes - 1)
unfolding blocks_over
shape-above hash n digests room notes shape =
    let less : runs digests - 1 ≡ (digests - 1) / 128 = omega (arith, shape.full) in
    let power : (digests - 1) / 128 ^ (suc n + 1) ≡ (digests - 1) / 128 / 128 ^ suc n = div-pow-suc (digests - 1) (suc n) in
    let count : suc n + 1 ≡ suc (suc n) = omega arith in
    record {
      some = omega arith;
      low = omega (arith, shape.low);
      full = omega (arith, shape.full);
      few = omega (arith, shape.few);
      top = rw (less, ← power, count) shape.top;
      room_size = omega (arith, shape.room_size);
      note_size = omega (arith, shape.note_size);
      ends = shape.ends;
      fits = omega (arith, shape.fits);
    }

-- under one topmost level there are at most 128 blocks
pub shape-top : (hash : Row) (digests room notes : ℕ) → IsShape hash 1 digests room notes → runs digests ≡ 1
shape-top hash digests room notes shape =
    let few : (digests - 1) / 128 ≡ 0 = shape.top in
    omega (arith, shape.full)

-- where nothing was read yet, the topmost block stands
pub stands-start : (image salt : List ℕ) (hash : Row) (n digests count : ℕ) (room : List ℕ)
    → take 4096 (drop (4096 * n) room) ≡ block_of image hash 1 → Stands image salt hash (suc n) digests 0 room (replicate count None)
unfolding Stands
stands-start image salt hash zero digests count room top = top
stands-start image salt hash (suc n) digests count room top =
    let place : 4096 * suc n ≡ 4096 + 4096 * n = omega arith in
    let above : drop (4096 * suc n) room ≡ drop (4096 * n) (drop 4096 room) =
    ap (λ (k : ℕ). drop k room) place ∙ sym (drop-drop (4096 * n) 4096 room) in
    let none : runs 0 ≡ 0 = omega arith in (
      λ some. absurd (some refl),
      nothing count,
      rw (none, drop_none count) (stands-start image salt hash n (runs digests) (count - 1) (drop 4096 room) (rw (← above) top)),
    ) where
      nothing : (k : ℕ) → get_or (replicate {A = Option ℕ} k None) 0 None ≡ None
      nothing zero = refl
      nothing (suc k) = refl

      drop_none : (k : ℕ) → drop 1 (replicate {A = Option ℕ} k None) ≡ replicate (k - 1) None
      drop_none zero = refl
      drop_none (suc k) = let e : suc k - 1 ≡ k = omega arith in rw e refl

-- the block of the lowest level that was read last
pub stands-lowest : (image salt : List ℕ) (hash : Row) (n digests index : ℕ) (room : List ℕ) (notes : List (Option ℕ))
    → (n ≡ 0 → index ≡ 0) → Stands image salt hash (suc n) digests (index + 1) room notes
    → take 4096 room ≡ block_of image hash (begin_of (suc n) digests + index)
unfolding Stands blocks_over
stands-lowest image salt hash zero digests index room notes first stands = rw (first refl) stands
stands-lowest image salt hash (suc n) digests index room notes first stands =
    let number : begin_of (suc (suc n)) digests + (index + 1) - 1 ≡ begin_of (suc (suc n)) digests + index = omega arith in
    rw number at (stands.0 (omega arith))

-- a block has the digest that is stored for it, where the bytes of the level above stand at hand
pub stored-here : (image : List ℕ) (hash : Row) (begin index : ℕ) (above : List ℕ)
    → take 4096 above ≡ block_of image hash (begin + index / 128)
    → bytes_at above (32 * (index % 128)) 32 ≡ stored_for image hash begin index
stored-here image hash begin index above stands =
    let place : 512 * hash.start + 4096 * (begin + index / 128) + 32 * (index % 128) ≡ 512 * hash.start + 4096 * begin + 32 * index = omega arith in
    sym (part-front above (32 * (index % 128)) 32 (omega arith))
    ∙ rw (stands, part-part image (512 * hash.start + 4096 * (begin + index / 128)) 4096 (32 * (index % 128)) 32 (omega arith), place) refl

-- what is noted of one block more
pub noted-more : (image salt : List ℕ) (hash : Row) (n digests index : ℕ) (notes : List (Option ℕ)) (right : Bool) → 1 ≤ length notes
    → right ≡ bytes_eq (digest salt (block_of image hash (begin_of n digests + index))) (stored_for image hash (above_of n digests) index)
    → IsNoted image salt hash n digests index notes
    → IsNoted image salt hash n digests (index + 1) (noted notes (begin_of n digests + index) right)
noted-more image salt hash n digests index [] right some is before = absurd (omega arith)
noted-more image salt hash n digests index (entry ∷ notes) right some is before =
    let wrong : ℕ → Bool = is_wrong image salt hash (begin_of n digests) hash (above_of n digests) in
    let more : find wrong (range_with_len 0 (index + 1)) ≡ option_or (find wrong (range_with_len 0 index)) (if wrong index then Some index else None) =
    find-one_more wrong index in
    step right (find wrong (range_with_len 0 index)) (find wrong (range_with_len 0 (index + 1))) (ap not (sym is)) more before where
      step : (t : Bool) (old now : Option ℕ) → is_wrong image salt hash (begin_of n digests) hash (above_of n digests) index ≡ not t
          → now ≡ option_or old (if is_wrong image salt hash (begin_of n digests) hash (above_of n digests) index then Some index else None)
          → entry ≡ option_map (λ k. begin_of n digests + k) old
          → get_or (noted (entry ∷ notes) (begin_of n digests + index) t) 0 None ≡ option_map (λ k. begin_of n digests + k) now
      step true None now wrong is before = rw (is, wrong) before
      step true (Some k) now wrong is before = rw is before
      step false None now wrong is before = rw (is, wrong, before) refl
      step false (Some k) now wrong is before = rw (is, before) refl

drop-noted : (notes : List (Option ℕ)) (number : ℕ) (right : Bool) → drop 1 (noted notes number right) ≡ drop 1 notes
drop-noted [] number right = refl
drop-noted (entry ∷ notes) number true = refl
drop-noted (entry ∷ notes) number false = refl

-- one block more of the lowest level
pub stands-more : (image salt : List ℕ) (hash : Row) (n digests index : ℕ) (block above : List ℕ) (notes : List (Option ℕ)) (right : Bool)
    → length block ≡ 4096 → 1 ≤ length notes → (n ≡ 0 → index / 128 ≡ 0)
    → block ≡ block_of image hash (begin_of (suc (suc n)) digests + index)
    → right ≡ bytes_eq (digest salt block) (bytes_at above (32 * (index % 128)) 32)
    → IsNoted image salt hash (suc (suc n)) digests index notes
    → Stands image salt hash (suc n) (runs digests) (index / 128 + 1) above (drop 1 notes)
    → Stands image salt hash (suc (suc n)) digests (index + 1) (block ++ above) (noted notes (begin_of (suc (suc n)) digests + index) right)
unfolding Stands
stands-more image salt hash n digests index block above notes right long some first read is before stands =
    let parent : take 4096 above ≡ block_of image hash (begin_of (suc n) (runs digests) + index / 128) =
    stands-lowest image salt hash n (runs digests) (index / 128) above (drop 1 notes) first stands in
    let stored : bytes_at above (32 * (index % 128)) 32 ≡ stored_for image hash (begin_of (suc n) (runs digests)) index =
    stored-here image hash (begin_of (suc n) (runs digests)) index above parent in
    let judged : right ≡ bytes_eq (digest salt (block_of image hash (begin_of (suc (suc n)) digests + index))) (stored_for image hash (begin_of (suc n) (runs digests)) index) =
    rw (← stored, ← read) is in
    let number : begin_of (suc (suc n)) digests + (index + 1) - 1 ≡ begin_of (suc (suc n)) digests + index = omega arith in
    let front : take 4096 (block ++ above) ≡ block = take-append-le 4096 block above (omega arith) ∙ take_all 4096 block (omega arith) in
    let back : drop 4096 (block ++ above) ≡ above = drop-append-le 4096 block above (omega arith) ∙ ap (λ (xs : List ℕ). xs ++ above) (drop_all 4096 block (omega arith)) in
    let reached : runs (index + 1) ≡ index / 128 + 1 = omega arith in (
      λ _. rw (front, number) read,
      noted-more image salt hash (suc (suc n)) digests index notes right some judged before,
      rw (back, reached, drop-noted notes (begin_of (suc (suc n)) digests + index) right) stands,
    )

-- the first wrong hash block is the first that was noted
pub noted-wrong : (image salt : List ℕ) (hash : Row) (n digests : ℕ) (room : List ℕ) (notes : List (Option ℕ)) (above : Option ℕ)
    → above ≡ wrong_hash image salt hash (suc n) (runs digests)
    → Stands image salt hash (suc (suc n)) digests (runs digests) room notes
    → option_or above (get_or notes 0 None) ≡ wrong_hash image salt hash (suc (suc n)) digests
unfolding Stands wrong_hash
noted-wrong image salt hash n digests room notes above is stands = rw (is, stands.1) refl

-- the parts of what stands, where there is a level above the lowest
pub stands-parts : (image salt : List ℕ) (hash : Row) (levels digests reached : ℕ) (room : List ℕ) (notes : List (Option ℕ)) → 2 ≤ levels
    → Stands image salt hash levels digests reached room notes
    → IsNoted image salt hash levels digests reached notes × Stands image salt hash (levels - 1) (runs digests) (runs reached) (drop 4096 room) (drop 1 notes)
unfolding Stands
stands-parts image salt hash zero digests reached room notes more stands = absurd (omega arith)
stands-parts image salt hash (suc zero) digests reached room notes more stands = absurd (omega arith)
stands-parts image salt hash (suc (suc n)) digests reached room notes more stands =
    let above : suc (suc n) - 1 ≡ suc n = omega arith in
    rw above (stands.1, stands.2)

-- what stands of the topmost level alone
pub stands-top : (image salt : List ℕ) (hash : Row) (levels digests reached more : ℕ) (room : List ℕ) (notes : List (Option ℕ)) → levels ≡ 1
    → Stands image salt hash levels digests reached room notes → Stands image salt hash levels digests more room notes
unfolding Stands
stands-top image salt hash zero digests reached more room notes one stands = absurd (omega arith)
stands-top image salt hash (suc zero) digests reached more room notes one stands = stands
stands-top image salt hash (suc (suc n)) digests reached more room notes one stands = absurd (omega arith)

-- one block more of the lowest level, in the words of the code
pub stands-next : (image salt : List ℕ) (hash : Row) (levels digests index number room : ℕ) (block above : List ℕ) (notes : List (Option ℕ)) (right : Bool)
    → IsShape hash levels digests room (length notes) → 2 ≤ levels → index < runs digests → length block ≡ 4096
    → block ≡ block_of image hash number → number ≡ 1 + blocks_over (levels - 1) (runs digests) + index
    → right ≡ bytes_eq (digest salt block) (bytes_at above (32 * (index % 128)) 32)
    → IsNoted image salt hash levels digests index notes
    → Stands image salt hash (levels - 1) (runs digests) (index / 128 + 1) above (drop 1 notes)
    → Stands image salt hash levels digests (index + 1) (block ++ above) (noted notes number right)
stands-next image salt hash zero digests index number room block above notes right shape more below long read number_is is before stands = absurd (omega arith)
stands-next image salt hash (suc zero) digests index number room block above notes right shape more below long read number_is is before stands = absurd (omega arith)
stands-next image salt hash (suc (suc n)) digests index number room block above notes right shape more below long read number_is is before stands =
    let e : suc (suc n) - 1 ≡ suc n = omega arith in
    let number_here : number ≡ begin_of (suc (suc n)) digests + index = rw e at number_is in
    let some : 1 ≤ length notes = omega (arith, shape.note_size) in
    rw number_here
    (stands-more image salt hash n digests index block above notes right long some (first n shape) (rw number_here at read) is before (rw e at stands)) where
      first : (n : ℕ) → IsShape hash (suc (suc n)) digests room (length notes) → n ≡ 0 → index / 128 ≡ 0
      first zero shape none = let top : (digests - 1) / 16384 ≡ 0 = shape.top in omega arith
      first (suc n) shape none = absurd (omega arith)

-- what was noted, in the words of the code
pub noted-first : (image salt : List ℕ) (hash : Row) (levels digests : ℕ) (room : List ℕ) (notes : List (Option ℕ)) (above : Option ℕ) → 2 ≤ levels
    → (Stands image salt hash (levels - 1) (runs digests) (runs (runs digests)) (drop 4096 room) (drop 1 notes)
    → above ≡ wrong_hash image salt hash (levels - 1) (runs digests))
    → Stands image salt hash levels digests (runs digests) room notes
    → option_or above (get_or notes 0 None) ≡ wrong_hash image salt hash levels digests
noted-first image salt hash zero digests room notes above more is stands = absurd (omega arith)
noted-first image salt hash (suc zero) digests room notes above more is stands = absurd (omega arith)
noted-first image salt hash (suc (suc n)) digests room notes above more is stands =
    let e : suc (suc n) - 1 ≡ suc n = omega arith in
    let parts = stands-parts image salt hash (suc (suc n)) digests (runs digests) room notes more stands in
    noted-wrong image salt hash n digests room notes above (rw e at (is parts.1)) stands

pub noted-none : (image salt : List ℕ) (hash : Row) (levels digests : ℕ) → levels ≤ 1 → None ≡ wrong_hash image salt hash levels digests
unfolding wrong_hash
noted-none image salt hash zero digests few = refl
noted-none image salt hash (suc zero) digests few = refl
noted-none image salt hash (suc (suc n)) digests few = absurd (omega arith)

-- the block of the lowest level that was read last, in the words of the code
pub lowest-block : (image salt : List ℕ) (hash : Row) (levels digests index size count : ℕ) (room : List ℕ) (notes : List (Option ℕ))
    → IsShape hash levels digests size count → index < runs digests → Stands image salt hash levels digests (index + 1) room notes
    → take 4096 room ≡ block_of image hash (begin_of levels digests + index)
lowest-block image salt hash zero digests index size count room notes shape below stands = absurd (omega (arith, shape.some))
lowest-block image salt hash (suc n) digests index size count room notes shape below stands =
    stands-lowest image salt hash n digests index room notes (first n shape) stands where
      first : (n : ℕ) → IsShape hash (suc n) digests size count → n ≡ 0 → index ≡ 0
      first zero shape none = let one : runs digests ≡ 1 = shape-top hash digests size count shape in omega arith
      first (suc n) shape none = absurd (omega arith)

-- what stands at first, in the words of the code
pub stands-first : (image salt : List ℕ) (hash : Row) (levels digests count : ℕ) (room : List ℕ) → 1 ≤ levels → length room ≡ 4096 * levels
    → drop (4096 * (levels - 1)) room ≡ block_of image hash 1 → Stands image salt hash levels digests 0 room (replicate count None)
stands-first image salt hash zero digests count room some long top = absurd (omega arith)
stands-first image salt hash (suc n) digests count room some long top =
    let e : suc n - 1 ≡ n = omega arith in
    let size : length (drop (4096 * n) room) ≤ 4096 = omega (arith, length-drop (4096 * n) room) in
    stands-start image salt hash n digests count room (take_all 4096 (drop (4096 * n) room) size ∙ rw e at top)

-- what stands behind the first block of a room
pub drop-front : (block above : List ℕ) → length block ≡ 4096 → drop 4096 (block ++ above) ≡ above
drop-front block above whole =
    drop-append-le 4096 block above (omega arith) ∙ ap (λ (xs : List ℕ). xs ++ above) (drop_all 4096 block (omega arith))

-- the shape of the levels above, in the words of the code
pub shape-next : (hash : Row) (levels digests room notes : ℕ) → 2 ≤ levels → IsShape hash levels digests room notes
    → IsShape hash (levels - 1) (runs digests) (room - 4096) (notes - 1)
shape-next hash zero digests room notes more shape = absurd (omega arith)
shape-next hash (suc zero) digests room notes more shape = absurd (omega arith)
shape-next hash (suc (suc n)) digests room notes more shape =
    let e : suc (suc n) - 1 ≡ suc n = omega arith in
    rw e (shape-above hash n digests room notes shape)
