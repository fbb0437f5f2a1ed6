-- Ranges of bytes within ranges.
use Rattle.std.proofs.Common.{◌≡◌, ℕ, ◌+◌, ◌-◌, ◌≤◌, List, take, drop, sym, ap, ◌∙◌, arith}
use Rattle.std.proofs.lemmas.List.{drop-drop, drop-take, take-take}
use Rattle.rp_base.specs.Image.{bytes_at}
use Rattle.rp_disk.proofs.Ranges.{bytes_at-take}

-- the first bytes of a range, and those behind them
pub take_bytes : (image : List ℕ) (at some rest : ℕ) → take some (bytes_at image at (some + rest)) ≡ bytes_at image at some
take_bytes image at some rest =
    ap (take some) (bytes_at-take image at (some + rest)) ∙ take-take some (some + rest) (drop at image) (omega arith)
    ∙ sym (bytes_at-take image at some)

pub drop_bytes : (image : List ℕ) (at some rest : ℕ) → drop some (bytes_at image at (some + rest)) ≡ bytes_at image (at + some) rest
drop_bytes image at some rest =
    ap (drop some) (bytes_at-take image at (some + rest)) ∙ drop-take some rest (drop at image) ∙ ap (take rest) (drop-drop some at image)
    ∙ sym (bytes_at-take image (at + some) rest)

-- two images that have the same bytes in a range have them in each part of it
pub part_same : (at n from k : ℕ) (xs ys : List ℕ) → at ≤ from → from + k ≤ at + n → bytes_at xs at n ≡ bytes_at ys at n
    → bytes_at xs from k ≡ bytes_at ys from k
part_same at n from k xs ys low high same =
    let skip = from - at in
    let rest = at + n - (from + k) in
    let n_is : n ≡ (from - at) + (k + (at + n - (from + k))) = omega arith in
    let from_is : at + (from - at) ≡ from = omega arith in
    let one : (l : List ℕ) → take k (drop (from - at) (bytes_at l at n)) ≡ bytes_at l from k =
    λ l. ap (λ c. take k (drop (from - at) (bytes_at l at c))) n_is
    ∙ ap (take k) (drop_bytes l at (from - at) (k + (at + n - (from + k))))
    ∙ take_bytes l (at + (from - at)) k (at + n - (from + k)) ∙ ap (λ a. bytes_at l a k) from_is in
    sym (one xs) ∙ ap (λ l. take k (drop (from - at) l)) same ∙ one ys
