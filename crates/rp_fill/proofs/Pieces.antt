-- Bytes that are written piece by piece, so many pieces of them.
use Rattle.std.proofs.Common.{◌≡◌, ℕ, zero, suc, ◌+◌, ◌-◌, ◌*◌, ◌<◌, ◌≤◌, ◌⊎◌, ⊎_elim, inl, inr, min, List, [], ◌∷◌, ◌++◌, length, take, drop, map, get_or, replicate, refl, sym, ap, ◌∙◌, subst, arith, append_assoc}
use Rattle.std.specs.List.{range_with_len}
use Rattle.std.proofs.lemmas.List.{drop-drop, ext_get_or, get_or-drop, get_or-replicate, get_or-take, length-drop, length-replicate, length-take, take-append-drop, take_all}
use Rattle.std.proofs.lemmas.List.FromFn.{map-range_with_len_more}
use Rattle.rp_base.specs.Image.{bytes_at}
use Rattle.rp_disk.specs.Calls.{overwritten, resized}
use Rattle.rp_disk.specs.Ranges.{Inside}
use Rattle.rp_disk.specs.Stops.{Each}
use Rattle.rp_disk.specs.declared.call.Call.{Call}
use Rattle.rp_disk.specs.declared.call.Call.TheVariants.{Write}
use Rattle.rp_disk.proofs.Agreeing.{get_or-resized, length-overwritten, length-resized}
use Rattle.rp_disk.proofs.Ranges.{bytes_at-done, bytes_at-overwritten, bytes_at-take, same_bytes}
use Rattle.rp_steps.specs.Calls.{in_pieces}
use Rattle.rp_steps.specs.Writes.{piece, pieces}
use Rattle.rp_steps.proofs.Pieces.{length-cut}

-- the write of one piece
abbrev pub piece_call : ℕ → List ℕ → ℕ → Call
piece_call at bytes k = Write (at + piece * k) (bytes_at bytes (piece * k) piece)

-- the writes of the first so many pieces
abbrev pub some_pieces : ℕ → List ℕ → ℕ → List Call
some_pieces at bytes n = map (piece_call at bytes) (range_with_len 0 n)

pub all_pieces : (at : ℕ) (bytes : List ℕ) → in_pieces at bytes ≡ some_pieces at bytes (pieces (length bytes))
unfolding in_pieces
all_pieces at bytes = refl

pub pieces-more : (at : ℕ) (bytes : List ℕ) (k : ℕ) → some_pieces at bytes (k + 1) ≡ some_pieces at bytes k ++ piece_call at bytes k ∷ []
pieces-more at bytes k = map-range_with_len_more (piece_call at bytes) 0 k k (omega arith)

or_last : (i n : ℕ) → i < suc n → (i ≡ n) ⊎ (i < n)
or_last i n below = grind arith

pieces-suc : (at : ℕ) (bytes : List ℕ) (k : ℕ) → some_pieces at bytes (suc k) ≡ some_pieces at bytes k ++ piece_call at bytes k ∷ []
pieces-suc at bytes k = let e : suc k ≡ k + 1 = omega arith in ap (some_pieces at bytes) e ∙ pieces-more at bytes k

-- the pieces from one of them on
pub pieces_split : (at : ℕ) (bytes : List ℕ) (n k : ℕ) → k < n
    → (rest : List Call) × (some_pieces at bytes n ≡ some_pieces at bytes k ++ piece_call at bytes k ∷ rest)
pieces_split at bytes zero k below = absurd (omega arith)
pieces_split at bytes (suc n) k below = ⊎_elim
    (λ (last : k ≡ n). ([], let P : ℕ → Type 0 = λ j. some_pieces at bytes (suc n) ≡ some_pieces at bytes j ++ piece_call at bytes j ∷ [] in subst P (sym last) (pieces-suc at bytes n)))
    (λ (before : k < n). let r = pieces_split at bytes n k before in (
      r.0 ++ piece_call at bytes n ∷ [],
      pieces-suc at bytes n ∙ ap (λ l. l ++ piece_call at bytes n ∷ []) r.1
          ∙ append_assoc (some_pieces at bytes k) (piece_call at bytes k ∷ r.0) (piece_call at bytes n ∷ []),
    ))
    (or_last k n below)

-- all pieces from one of them on
pub piece_in : (at : ℕ) (bytes : List ℕ) (k : ℕ) → k < pieces (length bytes)
    → (rest : List Call) × (in_pieces at bytes ≡ some_pieces at bytes k ++ piece_call at bytes k ∷ rest)
piece_in at bytes k below = let r = pieces_split at bytes (pieces (length bytes)) k below in (r.0, all_pieces at bytes ∙ r.1)

-- a range that passes the end is cut there
pub bytes_at-cut : (bytes : List ℕ) (at n m : ℕ) → m ≡ min n (length bytes - at) → bytes_at bytes at n ≡ bytes_at bytes at m
bytes_at-cut bytes at n m is = bytes_at-take bytes at n ∙ by (min_cases n (length bytes - at)) ∙ sym (bytes_at-take bytes at m)
  where
    min_cases : (a b : ℕ) → (min a b ≡ a) ⊎ ((min a b ≡ b) × (b ≤ a))
    min_cases a b = grind arith

    by : (min n (length bytes - at) ≡ n) ⊎ ((min n (length bytes - at) ≡ length bytes - at) × (length bytes - at ≤ n))
        → take n (drop at bytes) ≡ take m (drop at bytes)
    by (inl all) = ap (λ (i : ℕ). take i (drop at bytes)) (sym all ∙ sym is)
    by (inr cut) =
        take_all n (drop at bytes) (omega (arith, length-drop at bytes, cut.1))
        ∙ sym (take_all m (drop at bytes) (omega (arith, length-drop at bytes, cut.0, is)))

-- bytes that are put where they stand
pub put_same : (bytes : List ℕ) (at n : ℕ) → at + n ≤ length bytes → overwritten bytes at (bytes_at bytes at n) ≡ bytes
put_same bytes at n fits =
    let size : length (bytes_at bytes at n) ≡ n = ap length (bytes_at-take bytes at n) ∙ (let a = length-take n (drop at bytes) in let b = length-drop at bytes in omega arith) in
    ap (λ (m : ℕ). take at bytes ++ (bytes_at bytes at n ++ drop (at + m) bytes)) size
    ∙ ap (λ (l : List ℕ). take at bytes ++ (l ++ drop (at + n) bytes)) (bytes_at-take bytes at n)
    ∙ ap (λ (l : List ℕ). take at bytes ++ (take n (drop at bytes) ++ l)) (sym (drop-drop n at bytes))
    ∙ ap (λ (l : List ℕ). take at bytes ++ l) (take-append-drop n (drop at bytes))
    ∙ take-append-drop at bytes

-- a piece of a source, put where it stands
pub put_read : (source : List ℕ) (len at n : ℕ) → at + n ≤ length source → at + n ≤ len
    → overwritten (resized source len) at (bytes_at source at n) ≡ resized source len
put_read source len at n fits within =
    let long = length-resized source len in
    let same : bytes_at (resized source len) at n ≡ bytes_at source at n =
    same_bytes at n (resized source len) source (omega (arith, long)) fits (λ k low high. get_or-resized source len k (omega arith) (omega arith)) in
    ap (overwritten (resized source len) at) (sym same) ∙ put_same (resized source len) at n (omega (arith, long))

map_same : (f g : ℕ → Call) (a n : ℕ) → ((j : ℕ) → a ≤ j → j < a + n → f j ≡ g j) → map f (range_with_len a n) ≡ map g (range_with_len a n)
map_same f g a zero same = refl
map_same f g a (suc n) same =
    ap (λ (c : Call). c ∷ map f (range_with_len (a + 1) n)) (same a (omega arith) (omega arith))
    ∙ ap (λ (l : List Call). g a ∷ l) (map_same f g (a + 1) n (λ j low high. same j (omega arith) (omega arith)))

-- other bytes in the place of one piece leave the pieces before it
pub pieces-put : (at : ℕ) (bytes read : List ℕ) (k : ℕ) → piece * k + length read ≤ length bytes
    → some_pieces at (overwritten bytes (piece * k) read) k ≡ some_pieces at bytes k
pieces-put at bytes read k fits = map_same _ _ 0 k (λ j low high.
    ap (Write (at + piece * j)) (bytes_at-done (piece * j) piece (Write (piece * k) read) bytes (omega arith) fits (inl (omega arith))))

-- and are that piece
pub piece-put : (at : ℕ) (bytes read : List ℕ) (k : ℕ) → piece * k ≤ length bytes → length read ≡ min piece (length bytes - piece * k)
    → piece_call at (overwritten bytes (piece * k) read) k ≡ Write (at + piece * k) read
piece-put at bytes read k from size =
    let fits : piece * k + length read ≤ length bytes = omega arith in
    let new = overwritten bytes (piece * k) read in
    let long : length new ≡ length bytes = length-overwritten bytes (piece * k) read fits in
    ap (Write (at + piece * k))
    (bytes_at-cut new (piece * k) piece (length read) (size ∙ ap (λ (n : ℕ). min piece (n - piece * k)) (sym long)) ∙ bytes_at-overwritten (piece * k) read bytes fits)

each_map : (P : Call → Type 0) (f : ℕ → Call) (a n : ℕ) → ((j : ℕ) → a ≤ j → j < a + n → P (f j)) → Each P (map f (range_with_len a n))
each_map P f a zero each = tt
each_map P f a (suc n) each = (each a (omega arith) (omega arith), each_map P f (a + 1) n (λ j low high. each j (omega arith) (omega arith)))

-- the pieces lie in the range that they fill
pub pieces-inside : (at : ℕ) (bytes : List ℕ) (n end : ℕ) → at + length bytes ≤ end → n ≤ pieces (length bytes) → Each (Inside end) (some_pieces at bytes n)
pieces-inside at bytes n end fits few =
    each_map (Inside end) (piece_call at bytes) 0 n (λ j low high. let long = length-cut bytes (piece * j) piece in omega (arith, long))

-- a part of zeros
pub zero_part : (len from n m size : ℕ) → size ≡ min n (len - from) → size ≤ m → take size (replicate m 0) ≡ bytes_at (replicate len 0) from n
zero_part len from n m size is few =
    let long = length-replicate {A = ℕ} len 0 in
    let zeros : length (replicate {A = ℕ} m 0) ≡ m = length-replicate {A = ℕ} m 0 in
    ext_get_or 0 (take size (replicate m 0)) (bytes_at (replicate len 0) from n)
    (let a = length-take {A = ℕ} size (replicate m 0) in let b = length-cut (replicate len 0) from n in omega (arith, long, zeros, a, b))
    (λ i below.
    let a = length-take {A = ℕ} size (replicate m 0) in
    let under : i < size = omega (arith, a) in
    get_or-take size (replicate m 0) i 0 under ∙ get_or-replicate m i 0 0 (omega arith)
    ∙ sym (get_or-replicate len (from + i) 0 0 (omega arith)) ∙ sym (get_or-drop from (replicate len 0) i 0)
    ∙ sym (get_or-take n (drop from (replicate len 0)) i 0 (omega arith)) ∙ ap (λ (l : List ℕ). get_or l i 0) (sym (bytes_at-take (replicate len 0) from n)))

-- a piece of zeros
pub zero_call : (at len k size : ℕ) (room : List ℕ) → room ≡ replicate (length room) 0 → size ≡ min piece (len - piece * k) → size ≤ length room
    → Write (at + piece * k) (take size room) ≡ piece_call at (replicate len 0) k
zero_call at len k size room zeros is few =
    ap (λ (l : List ℕ). Write (at + piece * k) (take size l)) zeros ∙ ap (Write (at + piece * k)) (zero_part len (piece * k) piece (length room) size is few)
