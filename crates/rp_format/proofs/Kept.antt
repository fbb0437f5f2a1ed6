-- The blocks that wait: one more of them, and their writes.
use Rattle.std.proofs.Common.{◌≡◌, ℕ, ◌+◌, ◌*◌, ◌<◌, ◌≤◌, List, [], ◌∷◌, ◌++◌, length, get_or, take, drop, refl, sym, ◌∙◌, ap, ap₂, subst, arith, inl, append_assoc, drop-drop}
use Rattle.std.specs.Prelude.{slice_set}
use borrow.Rule.Slice.PartMut.{put_mid}
use Rattle.std.proofs.lemmas.List.{get_or-set_other, get_or-set_same, map-append, take-append-drop}
use Rattle.std.proofs.lemmas.List.FromFn.{get_or-map-range_with_len, length-map-range_with_len, map-range_with_len_more, take-map-range_with_len}
use Rattle.rp_base.specs.Image.{bytes_at}
use Rattle.rp_disk.specs.declared.call.Call.{Call}
use Rattle.rp_disk.specs.declared.call.Call.TheVariants.{Write}
use Rattle.rp_disk.specs.Stops.{Each}
use Rattle.rp_disk.proofs.Ranges.{bytes_at-overwritten, bytes_at-done}
use Rattle.rp_disk.specs.Calls.{overwritten}
use Rattle.rp_verity.proofs.LevelLemmas.{same_range}
use Rattle.rp_format.specs.Puts.{EndBy, kept_puts, writes_of}
use Rattle.rp_format.proofs.Told.{IsWrite}

-- one block that is kept
abbrev pub put_at : List ℕ → List ℕ → ℕ → ℕ × List ℕ
put_at places blocks k = (get_or places k 0, bytes_at blocks (4096 * k) 4096)

pub kept-more : (k : ℕ) (places blocks : List ℕ)
    → kept_puts (k + 1) places blocks ≡ kept_puts k places blocks ++ put_at places blocks k ∷ []
kept-more k places blocks = map-range_with_len_more (put_at places blocks) 0 k k (omega arith)

pub length-kept : (k : ℕ) (places blocks : List ℕ) → length (kept_puts k places blocks) ≡ k
length-kept k places blocks = length-map-range_with_len (put_at places blocks) 0 k

-- bytes put among others
pub put_mid-overwritten : (at n : ℕ) (xs ys : List ℕ) → n ≡ length ys → put_mid at n xs ys ≡ overwritten xs at ys
put_mid-overwritten at n xs ys is =
    let behind : drop n (drop at xs) ≡ drop (at + length ys) xs = drop-drop n at xs ∙ ap (λ (k : ℕ). drop k xs) (omega arith) in
    ap (λ (l : List ℕ). take at xs ++ (ys ++ l)) behind

-- a block that is written behind those that are kept
pub kept-put : (k place : ℕ) (places blocks block : List ℕ) → k < length places → 4096 * k + 4096 ≤ length blocks → length block ≡ 4096
    → kept_puts (k + 1) (slice_set places k place) (overwritten blocks (4096 * k) block) ≡ kept_puts k places blocks ++ (place, block) ∷ []
kept-put k place places blocks block below fits size =
    let new : List ℕ = overwritten blocks (4096 * k) block in
    let marked : List ℕ = slice_set places k place in
    let here : bytes_at new (4096 * k) 4096 ≡ block = let P : ℕ
    → Type 0 = λ n. bytes_at new (4096 * k) n ≡ block in subst P size (bytes_at-overwritten (4096 * k) block blocks (omega arith)) in
    let old : kept_puts k marked new ≡ kept_puts k places blocks =
    same_range (put_at marked new) (put_at places blocks) 0 k (λ j before.
    ap₂ (λ (p : ℕ) (b : List ℕ). (p, b)) (get_or-set_other places k j place 0 (omega arith))
    (bytes_at-done (4096 * j) 4096 (Write (4096 * k) block) blocks (omega arith) (omega arith) (inl (omega arith)))) in
    kept-more k marked new ∙ ap₂ (λ (l : List (ℕ × List ℕ)) (p : ℕ × List ℕ). l ++ p ∷ []) old
    (ap₂ (λ (p : ℕ) (b : List ℕ). (p, b)) (get_or-set_same places k place 0 below) here)

-- the writes
pub writes-append : (hash_at : ℕ) (xs ys : List (ℕ × List ℕ)) → writes_of hash_at (xs ++ ys) ≡ writes_of hash_at xs ++ writes_of hash_at ys
writes-append hash_at xs ys = map-append (λ (put : ℕ × List ℕ). Write (hash_at + 4096 * (1 + put.0)) put.1) xs ys

pub writes-more : (hash_at k : ℕ) (places blocks : List ℕ)
    → writes_of hash_at (kept_puts (k + 1) places blocks)
    ≡ writes_of hash_at (kept_puts k places blocks) ++ Write (hash_at + 4096 * (1 + get_or places k 0))
    (bytes_at blocks (4096 * k) 4096) ∷ []
writes-more hash_at k places blocks =
    ap (writes_of hash_at) (kept-more k places blocks) ∙ writes-append hash_at (kept_puts k places blocks) (put_at places blocks k ∷ [])

-- all of them, cut at one
pub writes-split : (hash_at n k : ℕ) (places blocks : List ℕ) → k < n
    → (rest : List Call) × (writes_of hash_at (kept_puts n places blocks)
    ≡ writes_of hash_at (kept_puts k places blocks) ++ Write (hash_at + 4096 * (1 + get_or places k 0))
    (bytes_at blocks (4096 * k) 4096) ∷ rest)
writes-split hash_at n k places blocks below =
    let all : List (ℕ × List ℕ) = kept_puts n places blocks in
    let front : take (k + 1) all ≡ kept_puts (k + 1) places blocks = take-map-range_with_len (put_at places blocks) 0 n (k + 1)
    (omega arith) in
    let parts : all ≡ kept_puts (k + 1) places blocks ++ drop (k + 1) all = rw front at (sym (take-append-drop (k + 1) all)) in
    let calls : List Call = writes_of hash_at (kept_puts k places blocks) in (
      writes_of hash_at (drop (k + 1) all),
      ap (writes_of hash_at) parts ∙ writes-append hash_at (kept_puts (k + 1) places blocks) (drop (k + 1) all)
          ∙ ap (λ (l : List Call). l ++ writes_of hash_at (drop (k + 1) all)) (writes-more hash_at k places blocks)
          ∙ append_assoc calls (Write (hash_at + 4096 * (1 + get_or places k 0)) (bytes_at blocks (4096 * k) 4096) ∷ [])
          (writes_of hash_at (drop (k + 1) all)),
    )

pub writes-are : (hash_at : ℕ) (puts : List (ℕ × List ℕ)) → Each IsWrite (writes_of hash_at puts)
writes-are hash_at [] = tt
writes-are hash_at (put ∷ puts) = (refl, writes-are hash_at puts)

-- one of them ends by the end of all
pub ends-at : (hash_at end n k : ℕ) (places blocks : List ℕ) → k < n → EndBy hash_at end (kept_puts n places blocks)
    → hash_at + 4096 * (1 + get_or places k 0) + 4096 ≤ end
ends-at hash_at end n k places blocks below ends =
    let all : hash_at + 4096 * (2 + (get_or (kept_puts n places blocks) k (0, [])).0) ≤ end =
    ends k (0, []) (omega (arith, length-kept n places blocks)) in
    let is : get_or (kept_puts n places blocks) k (0, []) ≡ put_at places blocks k =
    get_or-map-range_with_len (put_at places blocks) 0 n k k (0, []) below (omega arith) in
    let one : hash_at + 4096 * (2 + get_or places k 0) ≤ end = rw is at all in
    omega arith
