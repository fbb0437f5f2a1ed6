-- Bytes cut into blocks, part by part, and the digests of the blocks.
use Rattle.std.proofs.Common.{◌≡◌, ℕ, zero, suc, ◌+◌, ◌-◌, ◌*◌, ◌<◌, ◌≤◌, List, [], ◌∷◌, ◌++◌, length, take, drop, map, slice_index_or, refl, sym, ◌∙◌, ap, arith, add-zero, append-nil}
use Rattle.std.specs.List.{range_with_len}
use Rattle.std.proofs.lemmas.List.{append_assoc, drop-drop, drop-take, ext_get_or, length-map, take-take, get_or-map}
use Rattle.std.proofs.lemmas.List.FromFn.{get_or-map-range_with_len, length-map-range_with_len, map-range_with_len_more}
use Rattle.sha2.specs.Sha256.{sha256}
use Rattle.rp_base.specs.Image.{bytes_at}
use Rattle.rp_lanes.specs.Blocks.{block_of}
use Rattle.rp_verity.specs.Tree.{digest}
use Rattle.rp_verity.specs.Filled.{cut}

-- a part of a part
part-part : (bytes : List ℕ) (at count inner size : ℕ) → inner + size ≤ count
    → bytes_at (bytes_at bytes at count) inner size ≡ bytes_at bytes (at + inner) size
part-part bytes at count inner size fits =
    let outer : at + count - at ≡ count = omega arith in
    let part : inner + size - inner ≡ size = omega arith in
    let whole : at + inner + size - (at + inner) ≡ size = omega arith in
    let left : count ≡ inner + (count - inner) = omega arith in
    rw (outer, part, whole)
    (ap (take size) (ap (λ (n : ℕ). drop inner (take n (drop at bytes))) left ∙ drop-take inner (count - inner) (drop at bytes))
    ∙ take-take size (count - inner) (drop inner (drop at bytes)) (omega arith)
    ∙ ap (take size) (drop-drop inner at bytes))

-- the first blocks of bytes, and then those of a part behind them
pub cut-more : (all : List ℕ) (k count c : ℕ) → c ≤ count
    → cut (k + c) all ≡ cut k all ++ cut c (bytes_at all (4096 * k) (4096 * count))
cut-more all k count zero fits = rw add-zero (sym (append-nil (cut k all)))
cut-more all k count (suc c) fits =
    let part : List ℕ = bytes_at all (4096 * k) (4096 * count) in
    let more : cut (k + c + 1) all ≡ cut (k + c) all ++ bytes_at all (4096 * (k + c)) 4096 ∷ [] =
    map-range_with_len_more (λ i. bytes_at all (4096 * i) 4096) 0 (k + c) (k + c) (omega arith) in
    let last : cut (c + 1) part ≡ cut c part ++ bytes_at part (4096 * c) 4096 ∷ [] =
    map-range_with_len_more (λ i. bytes_at part (4096 * i) 4096) 0 c c (omega arith) in
    let place : 4096 * k + 4096 * c ≡ 4096 * (k + c) = omega arith in
    let same : bytes_at part (4096 * c) 4096 ≡ bytes_at all (4096 * (k + c)) 4096 =
    part-part all (4096 * k) (4096 * count) (4096 * c) 4096 (omega arith) ∙ ap (λ (n : ℕ). bytes_at all n 4096) place in
    let count_is : k + suc c ≡ k + c + 1 = omega arith in
    let suc_is : suc c ≡ c + 1 = omega arith in
    ap (λ (n : ℕ). cut n all) count_is ∙ more
    ∙ ap (λ (front : List (List ℕ)). front ++ bytes_at all (4096 * (k + c)) 4096 ∷ []) (cut-more all k count c (omega arith))
    ∙ append_assoc (cut k all) (cut c part) (bytes_at all (4096 * (k + c)) 4096 ∷ [])
    ∙ ap (λ (block : List ℕ). cut k all ++ (cut c part ++ block ∷ [])) (sym same)
    ∙ ap (λ (blocks : List (List ℕ)). cut k all ++ blocks) (sym last ∙ ap (λ (n : ℕ). cut n part) (sym suc_is))

-- the digests of the blocks of bytes, one by one
pub digests_cut : (salt bytes : List ℕ) (count : ℕ) (digests : List (List ℕ)) → length digests ≡ count
    → ((k : ℕ) → k < count → slice_index_or digests k [] ≡ sha256 (salt ++ block_of bytes 4096 k))
    → digests ≡ map (digest salt) (cut count bytes)
unfolding digest
digests_cut salt bytes count digests long each =
    let blocks : length (cut count bytes) ≡ count = length-map-range_with_len (λ k. bytes_at bytes (4096 * k) 4096) 0 count in
    let total : length (map (digest salt) (cut count bytes)) ≡ count = length-map (cut count bytes) (digest salt) ∙ blocks in
    ext_get_or [] digests (map (digest salt) (cut count bytes)) (long ∙ sym total) (λ k lt.
    let below : k < count = omega arith in
    let at : k * 4096 ≡ 4096 * k = omega arith in
    let size : 4096 * k + 4096 - 4096 * k ≡ 4096 = omega arith in
    let block : slice_index_or (cut count bytes) k [] ≡ bytes_at bytes (4096 * k) 4096 =
    get_or-map-range_with_len (λ i. bytes_at bytes (4096 * i) 4096) 0 count k k [] below (omega arith) in
    let same : block_of bytes 4096 k ≡ bytes_at bytes (4096 * k) 4096 = rw (at, size) refl in
    each k below ∙ ap (λ (x : List ℕ). sha256 (salt ++ x)) (same ∙ sym block)
    ∙ sym (get_or-map (digest salt) (cut count bytes) k [] [] (omega arith)))
