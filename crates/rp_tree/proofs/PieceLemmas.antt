-- Data blocks, a piece at a time, and the digests of a hash block.
use Rattle.std.proofs.Common.{◌≡◌, ℕ, ◌+◌, ◌-◌, ◌*◌, ◌<◌, ◌≤◌, Bool, true, false, List, [], Option, Some, None, length, take, drop, min, refl, sym, ◌∙◌, ap, arith, true≢false}
use Rattle.std.specs.Prelude.{find, is_some, not, option_map, slice_index_or}
use Rattle.std.specs.List.{range_with_len}
use Rattle.std.specs.Str.{bytes_eq}
use Rattle.std.proofs.lemmas.List.{drop-drop}
use Rattle.rp_base.specs.declared.table.Row.{Row}
use Rattle.rp_base.specs.Image.{bytes_at}
use Rattle.rp_lanes.specs.Blocks.{block_of as lane_block}
use Rattle.rp_verity.specs.Tree.{digest}
use Rattle.rp_tree.specs.Checked.{block_of, first_wrong, is_wrong}
use Rattle.rp_tree.proofs.RangeLemmas.{find-longer, find-part, find-same, part-part}

-- a block hasn't the digest that stands for it in bytes, one behind another
abbrev pub differs : List ℕ → List ℕ → List ℕ → ℕ → Bool
differs salt blocks digests k = not (bytes_eq (digest salt (bytes_at blocks (4096 * k) 4096)) (bytes_at digests (32 * k) 32))

-- a digest isn't the one that stands for it in bytes, one behind another
abbrev pub other : List (List ℕ) → List ℕ → ℕ → Bool
other own digests k = not (bytes_eq (slice_index_or own k []) (bytes_at digests (32 * k) 32))

-- the first of the blocks' digests that is another
pub hashed-found : (salt blocks digests : List ℕ) (count : ℕ) (own : List (List ℕ)) → length own ≡ count
    → ((k : ℕ) → k < count → slice_index_or own k [] ≡ digest salt (lane_block blocks 4096 k))
    → find (other own digests) (range_with_len 0 (length own)) ≡ find (differs salt blocks digests) (range_with_len 0 count)
hashed-found salt blocks digests count own all each =
    rw all (find-same (other own digests) (differs salt blocks digests) 0 count (λ k low below.
    let at : k * 4096 ≡ 4096 * k = omega arith in
    let size : 4096 * k + 4096 - 4096 * k ≡ 4096 = omega arith in
    let same : lane_block blocks 4096 k ≡ bytes_at blocks (4096 * k) 4096 = rw (at, size) refl in
    rw (each k (omega arith), same) refl))

-- the same of a data block from a number on
abbrev pub differs_from : List ℕ → List ℕ → Row → ℕ → List ℕ → ℕ → Bool
differs_from image salt payload first digests k =
    not (bytes_eq (digest salt (block_of image payload (first + k))) (bytes_at digests (32 * k) 32))

-- the bytes behind some first ones
behind : (bytes : List ℕ) (from at count : ℕ) → bytes_at (drop from bytes) at count ≡ bytes_at bytes (from + at) count
behind bytes from at count =
    let near : at + count - at ≡ count = omega arith in
    let far : from + at + count - (from + at) ≡ count = omega arith in
    rw (near, far) (ap (take count) (drop-drop at from bytes))

-- a piece that was read
pub piece-same : (image salt : List ℕ) (payload : Row) (first done step : ℕ) (digests piece : List ℕ)
    → piece ≡ bytes_at image (512 * payload.start + 4096 * (first + done)) (4096 * step)
    → (k : ℕ) → k < step → differs salt piece (drop (32 * done) digests) k ≡ differs_from image salt payload first digests (done + k)
piece-same image salt payload first done step digests piece read k below =
    let place : 512 * payload.start + 4096 * (first + done) + 4096 * k ≡ 512 * payload.start + 4096 * (first + (done + k)) = omega arith in
    let number : 32 * done + 32 * k ≡ 32 * (done + k) = omega arith in
    rw (
      read,
      part-part image (512 * payload.start + 4096 * (first + done)) (4096 * step) (4096 * k) 4096 (omega arith),
      place,
      behind digests (32 * done) (32 * k) 32,
      number,
    )
    refl

-- what is found of a piece, behind those in which nothing was
pub piece-found : (image salt : List ℕ) (payload : Row) (first done step : ℕ) (digests piece : List ℕ) (found : Option ℕ)
    → piece ≡ bytes_at image (512 * payload.start + 4096 * (first + done)) (4096 * step)
    → find (differs_from image salt payload first digests) (range_with_len 0 done) ≡ None
    → found ≡ find (differs salt piece (drop (32 * done) digests)) (range_with_len 0 step)
    → find (differs_from image salt payload first digests) (range_with_len 0 (done + step)) ≡ option_map (λ k. done + k) found
piece-found image salt payload first done step digests piece found read none is =
    find-part (differs_from image salt payload first digests) done step none
    ∙ ap (option_map (λ k. done + k))
    (sym (find-same (differs salt piece (drop (32 * done) digests)) (λ k. differs_from image salt payload first digests (done + k)) 0 step
    (λ k low below. piece-same image salt payload first done step digests piece read k (omega arith)))
    ∙ sym is)

-- the digests of a hash block are those stored for the data blocks under it
pub under-same : (image salt : List ℕ) (payload hash : Row) (begin index : ℕ) (digests : List ℕ)
    → digests ≡ block_of image hash (begin + index)
    → (k : ℕ) → k < 128 → differs_from image salt payload (128 * index) digests k ≡ is_wrong image salt payload 0 hash begin (128 * index + k)
under-same image salt payload hash begin index digests stands k below =
    let place : 512 * hash.start + 4096 * (begin + index) + 32 * k ≡ 512 * hash.start + 4096 * begin + 32 * (128 * index + k) = omega arith in
    let number : 0 + (128 * index + k) ≡ 128 * index + k = omega arith in
    rw (
      stands,
      part-part image (512 * hash.start + 4096 * (begin + index)) 4096 (32 * k) 32 (omega arith),
      place,
      number,
    )
    refl

-- what is found under one hash block more
pub under-found : (image salt : List ℕ) (payload hash : Row) (begin index count blocks : ℕ) (digests : List ℕ) (found : Option ℕ)
    → digests ≡ block_of image hash (begin + index) → count ≤ 128 → min (128 * index + 128) blocks ≡ 128 * index + count
    → first_wrong image salt payload 0 (128 * index) hash begin ≡ None
    → found ≡ find (differs_from image salt payload (128 * index) digests) (range_with_len 0 count)
    → option_map (λ k. 128 * index + k) found ≡ first_wrong image salt payload 0 (min (128 * index + 128) blocks) hash begin
under-found image salt payload hash begin index count blocks digests found stands few all none is =
    rw all
    (sym (find-part (is_wrong image salt payload 0 hash begin) (128 * index) count none
    ∙ ap (option_map (λ k. 128 * index + k))
    (sym (find-same (differs_from image salt payload (128 * index) digests) (λ k. is_wrong image salt payload 0 hash begin (128 * index + k)) 0 count
    (λ k low below. under-same image salt payload hash begin index digests stands k (omega arith)))
    ∙ sym is)))

pub under-before : (image salt : List ℕ) (payload hash : Row) (begin index blocks k : ℕ) → 128 * index ≤ min (128 * index + 128) blocks
    → first_wrong image salt payload 0 (128 * index) hash begin ≡ Some k
    → first_wrong image salt payload 0 (min (128 * index + 128) blocks) hash begin ≡ Some k
under-before image salt payload hash begin index blocks k less found =
    find-longer (is_wrong image salt payload 0 hash begin) (128 * index) (min (128 * index + 128) blocks) k less found

-- what was found before stays
pub under-kept : (image salt : List ℕ) (payload hash : Row) (begin index blocks : ℕ) (found : Option ℕ) → is_some found ≡ true
    → 128 * index ≤ min (128 * index + 128) blocks → found ≡ first_wrong image salt payload 0 (128 * index) hash begin
    → found ≡ first_wrong image salt payload 0 (min (128 * index + 128) blocks) hash begin
under-kept image salt payload hash begin index blocks None some less is = absurd (true≢false (sym some))
under-kept image salt payload hash begin index blocks (Some k) some less is =
    sym (under-before image salt payload hash begin index blocks k less (sym is))

pub none-found : (found : Option ℕ) → is_some found ≡ false → found ≡ None
none-found None is = refl
none-found (Some k) is = absurd (true≢false is)

-- a wrong block in a piece is the first of all
pub piece-first : (image salt : List ℕ) (payload : Row) (first done step count k : ℕ) (digests piece : List ℕ) → done + step ≤ count
    → piece ≡ bytes_at image (512 * payload.start + 4096 * (first + done)) (4096 * step)
    → find (differs_from image salt payload first digests) (range_with_len 0 done) ≡ None
    → Some k ≡ find (differs salt piece (drop (32 * done) digests)) (range_with_len 0 step)
    → Some (done + k) ≡ find (differs_from image salt payload first digests) (range_with_len 0 count)
piece-first image salt payload first done step count k digests piece less read none is =
    sym (find-longer (differs_from image salt payload first digests) (done + step) count (done + k) less
    (piece-found image salt payload first done step digests piece (Some k) read none is))
