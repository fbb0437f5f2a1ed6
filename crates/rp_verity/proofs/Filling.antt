-- Blocks of bytes that were filled up with zeros: what was read of it, and zeros.
use Rattle.std.proofs.Common.{◌≡◌, ◌≢◌, ℕ, ◌+◌, ◌-◌, ◌*◌, ◌<◌, ◌≤◌, List, [], ◌∷◌, ◌++◌, length, take, drop, replicate, min, inl, inr, refl, sym, ◌∙◌, ap, arith, length-drop, length-take, append-nil, suc}
use Rattle.std.specs.Prelude.{slice_range, Option, Some, None, Result, Ok, Err, IfSome, OnOk}
use Rattle.std.proofs.lemmas.Bool.{cases_lt}
use Rattle.std.proofs.lemmas.List.{drop-take, drop-append-le, drop-replicate, take-append-le, take-replicate, take-take, take_all}
use Rattle.rp_base.specs.Image.{bytes_at}
use Rattle.rp_io.specs.declared.stored.Stored.{Stored}
use Rattle.rp_io.specs.Files.{Reads, content}
use Rattle.rp_verity.specs.Filled.{filled}

-- what is taken past the first of two lists
take-past : (xs ys : List ℕ) (n k : ℕ) → length xs + k ≡ n → take n (xs ++ ys) ≡ xs ++ take k ys
take-past [] ys n k e = ap (λ (i : ℕ). take i ys) (omega arith)
take-past (x ∷ xs) ys n k e =
    let next : n ≡ suc (length xs + k) = omega arith in
    rw next (ap (λ (rest : List ℕ). x ∷ rest) (take-past xs ys (length xs + k) k refl))

-- what is left past the first of two lists
drop-past : (xs ys : List ℕ) (n k : ℕ) → length xs + k ≡ n → drop n (xs ++ ys) ≡ drop k ys
drop-past [] ys n k e = ap (λ (i : ℕ). drop i ys) (omega arith)
drop-past (x ∷ xs) ys n k e =
    let next : n ≡ suc (length xs + k) = omega arith in
    rw next (drop-past xs ys (length xs + k) k refl)

-- the part of the first bytes that blocks have
front-part : (bytes : List ℕ) (len at size : ℕ) → at + size ≤ len → take size (drop at (take len bytes)) ≡ take size (drop at bytes)
front-part bytes len at size fits =
    let e : at + (len - at) ≡ len = omega arith in
    let cut : drop at (take len bytes) ≡ take (len - at) (drop at bytes) = rw e at (drop-take at (len - at) bytes) in
    rw cut (take-take size (len - at) (drop at bytes) (omega arith))

-- blocks of which nothing is read
pub filled-none : (bytes : List ℕ) (len k n blocks : ℕ) → 4096 * k + n ≤ 4096 * blocks → len ≤ 4096 * k
    → replicate n 0 ≡ bytes_at (filled blocks (take len bytes)) (4096 * k) n
filled-none bytes len k n blocks below past =
    let front : List ℕ = take len bytes in
    let m : ℕ = length front in
    let short : m ≤ 4096 * k = omega (arith, length-take len bytes) in
    let size : 4096 * k + n - 4096 * k ≡ n = omega arith in
    let rest : drop (4096 * k) (front ++ replicate (4096 * blocks - m) 0) ≡ replicate (4096 * blocks - m - (4096 * k - m)) 0 =
    drop-past front (replicate (4096 * blocks - m) 0) (4096 * k) (4096 * k - m) (omega arith)
    ∙ drop-replicate (4096 * k - m) (4096 * blocks - m) 0 in
    sym (rw (size, rest) (take-replicate n (4096 * blocks - m - (4096 * k - m)) 0 (omega arith)))

-- blocks of which some bytes are read
pub filled-part : (bytes : List ℕ) (len k n blocks size : ℕ) → 4096 * k + n ≤ 4096 * blocks → len ≤ 4096 * blocks
    → size ≡ min (len - 4096 * k) n → size ≢ 0 → 4096 * k + size ≤ length bytes
    → slice_range bytes (4096 * k) (4096 * k + size) ++ replicate (n - size) 0
    ≡ bytes_at (filled blocks (take len bytes)) (4096 * k) n
filled-part bytes len k n blocks size below few is_size some reaches =
    let at : ℕ = 4096 * k in
    let front : List ℕ = take len bytes in
    let m : ℕ = length front in
    let m_is : m ≡ min len (length bytes) = length-take len bytes in
    let within : at + size ≤ m = omega arith in
    let count : at + size - at ≡ size = omega arith in
    let whole : at + n - at ≡ n = omega arith in
    let cut : drop at (front ++ replicate (4096 * blocks - m) 0) ≡ drop at front ++ replicate (4096 * blocks - m) 0 =
    drop-append-le at front (replicate (4096 * blocks - m) 0) (omega arith) in
    let part : take size (drop at front) ≡ take size (drop at bytes) = front-part bytes len at size (omega arith) in
    let left : length (drop at front) ≡ m - at = length-drop at front in
    rw (count, whole, cut, ← part)
    (elim (cases_lt size n) [
      | inl short ↦
          let end : length (drop at front) ≡ size = omega arith in
          let all : take size (drop at front) ≡ drop at front = take_all size (drop at front) (omega arith) in
          rw all
          (sym (take-past (drop at front) (replicate (4096 * blocks - m) 0) n (n - size) (omega arith)
          ∙ ap (λ (rest : List ℕ). drop at front ++ rest) (take-replicate (n - size) (4096 * blocks - m) 0 (omega arith))))
      | inr long ↦
          let full : size ≡ n = omega arith in
          let none : n - size ≡ 0 = omega arith in
          rw (none, full) (append-nil (take n (drop at front))
          ∙ sym (take-append-le n (drop at front) (replicate (4096 * blocks - m) 0) (omega arith)))
    ])

-- what was read of blocks, with zeros behind it
pub filled-read : {T E : Type 0} (result : Result T E) (found : Option (List ℕ)) (len k n size : ℕ) (part rest : List ℕ)
    → size ≡ min (len - 4096 * k) n → size ≢ 0 → rest ≡ replicate (n - size) 0
    → OnOk result (Reads found (4096 * k) size part)
    → IfSome found (λ bytes. OnOk result ((blocks : ℕ)
    → 4096 * k + n ≤ 4096 * blocks → len ≤ 4096 * blocks → part ++ rest ≡ bytes_at (filled blocks (take len bytes)) (4096 * k) n))
filled-read result None len k n size part rest is_size some zeros read = tt
filled-read (Err e) (Some bytes) len k n size part rest is_size some zeros read = tt
filled-read (Ok v) (Some bytes) len k n size part rest is_size some zeros read =
    λ blocks below few. rw (read.1, zeros) (filled-part bytes len k n blocks size below few is_size some read.0)

-- the same of a source, where it tells
pub source-read : {T E : Type 0} (result : Result T E) (told : Option (List Stored)) (path : List ℕ) (len k n size : ℕ) (part rest : List ℕ)
    → size ≡ min (len - 4096 * k) n → size ≢ 0 → rest ≡ replicate (n - size) 0
    → IfSome told (λ files. OnOk result (Reads (content files path) (4096 * k) size part))
    → IfSome told (λ files. IfSome (content files path) (λ bytes. OnOk result ((blocks : ℕ)
    → 4096 * k + n ≤ 4096 * blocks → len ≤ 4096 * blocks → part ++ rest ≡ bytes_at (filled blocks (take len bytes)) (4096 * k) n)))
source-read result None path len k n size part rest is_size some zeros read = tt
source-read result (Some files) path len k n size part rest is_size some zeros read =
    filled-read result (content files path) len k n size part rest is_size some zeros read

none_of : (found : Option (List ℕ)) (len k n : ℕ) (block : List ℕ) → len ≤ 4096 * k → block ≡ replicate n 0
    → IfSome found (λ bytes. (blocks : ℕ) → 4096 * k + n ≤ 4096 * blocks → len ≤ 4096 * blocks
    → block ≡ bytes_at (filled blocks (take len bytes)) (4096 * k) n)
none_of None len k n block past zeros = tt
none_of (Some bytes) len k n block past zeros = λ blocks below few. zeros ∙ filled-none bytes len k n blocks below past

pub source-none : (told : Option (List Stored)) (path : List ℕ) (len k n : ℕ) (block : List ℕ) → len ≤ 4096 * k → block ≡ replicate n 0
    → IfSome told (λ files. IfSome (content files path) (λ bytes. (blocks : ℕ) → 4096 * k + n ≤ 4096 * blocks → len ≤ 4096 * blocks
    → block ≡ bytes_at (filled blocks (take len bytes)) (4096 * k) n))
source-none None path len k n block past zeros = tt
source-none (Some files) path len k n block past zeros = none_of (content files path) len k n block past zeros
