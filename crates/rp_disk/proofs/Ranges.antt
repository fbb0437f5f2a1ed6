-- Bytes and ranges of an image under calls.
use Rattle.std.proofs.Common.{◌≡◌, ℕ, ◌+◌, ◌-◌, ◌<◌, ◌≤◌, List, [], ◌∷◌, ◌++◌, length, take, drop, get_or, refl, sym, ap, ◌∙◌, subst, arith, inl, inr, length-take, length-drop}
use Rattle.std.proofs.lemmas.List.{get_or-take, get_or-drop, ext_get_or, take_at, drop_at, length-take-le}
use Rattle.rp_base.specs.Image.{bytes_at}
use Rattle.rp_disk.specs.declared.call.Call.{Call}
use Rattle.rp_disk.specs.declared.call.Call.TheVariants.{Write, Sync, SetLen}
use Rattle.rp_disk.specs.Calls.{overwritten, done, all_done, IsWithin}
use Rattle.rp_disk.specs.Stops.{Each, SetsLength, Spares, Agrees}
use Rattle.rp_disk.specs.Blocks.{EachBlock, blocks_done, Phases}
use Rattle.rp_disk.specs.Ranges.{Misses, Apart, Inside}
use Rattle.rp_disk.proofs.Agreeing.{length-overwritten, get_or-overwritten, agrees-same, agrees-then, agrees-done}
use Rattle.rp_disk.proofs.Blocks.{Each-imp}

-- calls that each miss a byte spare it
pub spares : (k : ℕ) (calls : List Call) → Each (Misses k) calls → Spares k calls
spares k [] misses = tt
spares k (Write at bytes ∷ calls) misses = (misses.0, spares k calls misses.1)
spares k (Sync ∷ calls) misses = spares k calls misses.1
spares k (SetLen len ∷ calls) misses = (inl misses.0, spares k calls misses.1)

pub kept-missed : (image : List ℕ) (later : List Call) (new : List ℕ) (k : ℕ) → Agrees image later new → k < length image → k < length new
    → Each (Misses k) later → get_or new k 0 ≡ get_or image k 0
kept-missed image later new k agrees lt lt' misses = agrees.kept k lt lt' (spares k later misses)

-- a range as what is taken behind what is dropped
pub bytes_at-take : (image : List ℕ) (at n : ℕ) → bytes_at image at n ≡ take n (drop at image)
bytes_at-take image at n = let size : at + n - at ≡ n = omega arith in ap (λ (i : ℕ). take i (drop at image)) size

pub bytes_at-overwritten : (at : ℕ) (bytes image : List ℕ) → at + length bytes ≤ length image
    → bytes_at (overwritten image at bytes) at (length bytes) ≡ bytes
bytes_at-overwritten at bytes image fits =
    bytes_at-take (overwritten image at bytes) at (length bytes)
    ∙ ap (λ (l : List ℕ). take (length bytes) l) (drop_at (take at image) (bytes ++ drop (at + length bytes) image) at (length-take-le at image (omega arith)))
    ∙ take_at bytes (drop (at + length bytes) image) (length bytes) refl

pub length-bytes_at : (image : List ℕ) (at n : ℕ) → at + n ≤ length image → length (bytes_at image at n) ≡ n
length-bytes_at image at n fits =
    ap length (bytes_at-take image at n) ∙ (let is = length-take n (drop at image) in let len = length-drop at image in omega arith)

get_or-bytes_at : (image : List ℕ) (at n k : ℕ) → k < n → get_or (bytes_at image at n) k 0 ≡ get_or image (at + k) 0
get_or-bytes_at image at n k below =
    ap (λ (l : List ℕ). get_or l k 0) (bytes_at-take image at n) ∙ get_or-take n (drop at image) k 0 below ∙ get_or-drop at image k 0

-- two images with the same bytes at the places of a range
pub same_bytes : (at n : ℕ) (xs ys : List ℕ) → at + n ≤ length xs → at + n ≤ length ys
    → ((k : ℕ) → at ≤ k → k < at + n → get_or xs k 0 ≡ get_or ys k 0) → bytes_at xs at n ≡ bytes_at ys at n
same_bytes at n xs ys fits fits' same =
    ext_get_or 0 (bytes_at xs at n) (bytes_at ys at n) (length-bytes_at xs at n fits ∙ sym (length-bytes_at ys at n fits'))
    (λ i lt.
    let below : i < n = omega (arith, length-bytes_at xs at n fits) in
    get_or-bytes_at xs at n i below ∙ same (at + i) (omega arith) (omega arith) ∙ sym (get_or-bytes_at ys at n i below))

-- and back
pub byte_of : (at n : ℕ) (xs ys : List ℕ) → bytes_at xs at n ≡ bytes_at ys at n → (k : ℕ) → at ≤ k → k < at + n
    → get_or xs k 0 ≡ get_or ys k 0
byte_of at n xs ys same k low high =
    let one : (l : List ℕ) → get_or (bytes_at l at n) (k - at) 0 ≡ get_or l k 0 =
    λ l. get_or-bytes_at l at n (k - at) (omega arith) ∙ ap (λ (i : ℕ). get_or l i 0) (omega arith) in
    sym (one xs) ∙ ap (λ (l : List ℕ). get_or l (k - at) 0) same ∙ one ys

pub misses-apart : (at n : ℕ) (call : Call) (k : ℕ) → Apart at n call → at ≤ k → k < at + n → Misses k call
misses-apart at n (Write from bytes) k (inl below) low high = inl (omega arith)
misses-apart at n (Write from bytes) k (inr above) low high = inr (omega arith)
misses-apart at n Sync k apart low high = tt
misses-apart at n (SetLen m) k apart low high = omega arith

-- a call inside an image keeps its length
pub length-done : (call : Call) (image : List ℕ) → Inside (length image) call → length (done image call) ≡ length image
length-done (Write at bytes) image fits = length-overwritten image at bytes fits
length-done Sync image fits = refl
length-done (SetLen len) image fits = absurd fits

inside_of : (call : Call) (image : List ℕ) (n : ℕ) → length image ≡ n → Inside n call → Inside (length image) call
inside_of call image n long inside = let P : ℕ → Type 0 = λ m. Inside m call in subst P (sym long) inside

pub length-all_done : (calls : List Call) (image : List ℕ) (n : ℕ) → length image ≡ n → Each (Inside n) calls
    → length (all_done image calls) ≡ n
length-all_done [] image n long each = long
length-all_done (call ∷ calls) image n long each =
    length-all_done calls (done image call) n (length-done call image (inside_of call image n long each.0) ∙ long) each.1

-- a call inside an image leaves a range apart from it
pub bytes_at-done : (at n : ℕ) (call : Call) (image : List ℕ) → at + n ≤ length image → Inside (length image) call → Apart at n call
    → bytes_at (done image call) at n ≡ bytes_at image at n
bytes_at-done at n (Write from bytes) image fits inside apart =
    same_bytes at n (overwritten image from bytes) image (omega (arith, length-overwritten image from bytes inside)) fits
    (λ k low high. get_or-overwritten image from bytes k inside (misses-apart at n (Write from bytes) k apart low high))
bytes_at-done at n Sync image fits inside apart = refl
bytes_at-done at n (SetLen m) image fits inside apart = absurd inside

pub bytes_at-all_done : (at n : ℕ) (calls : List Call) (image : List ℕ) (m : ℕ) → length image ≡ m → at + n ≤ m → Each (Inside m) calls
    → Each (Apart at n) calls
    → bytes_at (all_done image calls) at n ≡ bytes_at image at n
bytes_at-all_done at n [] image m long fits inside apart = refl
bytes_at-all_done at n (call ∷ calls) image m long fits inside apart =
    let here = inside_of call image m long inside.0 in
    bytes_at-all_done at n calls (done image call) m (length-done call image here ∙ long) fits inside.1 apart.1
    ∙ bytes_at-done at n call image (omega arith) here apart.0

-- what a stop may leave in a range that is apart from the later calls
pub bytes_at-agrees : (at n : ℕ) (image : List ℕ) (later : List Call) (new : List ℕ) → Agrees image later new → at + n ≤ length image
    → at + n ≤ length new
    → Each (Apart at n) later → bytes_at new at n ≡ bytes_at image at n
bytes_at-agrees at n image later new agrees fits fits' apart =
    same_bytes at n new image fits' fits
    (λ k low high. kept-missed image later new k agrees (omega arith) (omega arith) (Each-imp (Apart at n) (Misses k) (λ c a. misses-apart at n c k a low high) later apart))

-- with no length change among the later calls the length stays
pub no_length : (n : ℕ) (later : List Call) (m : ℕ) → Each (Inside n) later → SetsLength later m → ⊥
no_length n [] m inside sets = sets
no_length n (Write at bytes ∷ calls) m inside sets = no_length n calls m inside.1 sets
no_length n (Sync ∷ calls) m inside sets = no_length n calls m inside.1 sets
no_length n (SetLen k ∷ calls) m inside sets = inside.0

pub length-agrees : (n : ℕ) (image : List ℕ) (later : List Call) (new : List ℕ) → Agrees image later new → Each (Inside n) later
    → length new ≡ length image
length-agrees n image later new agrees inside =
    elim agrees.size [ inl same ↦ same | inr sets ↦ absurd (no_length n later (length new) inside sets) ]

-- the length, and a range apart from all, in each phase
pub phases-length : (n : ℕ) (blocks : List (List Call)) (image new : List ℕ) → length image ≡ n → EachBlock (Inside n) blocks
    → Phases image blocks new → length new ≡ n
phases-length n [] image new long inside agrees = length-agrees n image [] new agrees tt ∙ long
phases-length n (block ∷ blocks) image new long inside (inl agrees) = length-agrees n image block new agrees inside.0 ∙ long
phases-length n (block ∷ blocks) image new long inside (inr later) =
    phases-length n blocks (all_done image block) new (length-all_done block image n long inside.0) inside.1 later

pub phases-range : (at m n : ℕ) (blocks : List (List Call)) (image new : List ℕ) → length image ≡ n → at + m ≤ n
    → EachBlock (Inside n) blocks → EachBlock (Apart at m) blocks → Phases image blocks new → bytes_at new at m ≡ bytes_at image at m
phases-range at m n [] image new long fits inside apart agrees =
    bytes_at-agrees at m image [] new agrees (omega arith) (omega (arith, length-agrees n image [] new agrees tt)) tt
phases-range at m n (block ∷ blocks) image new long fits inside apart (inl agrees) =
    bytes_at-agrees at m image block new agrees (omega arith) (omega (arith, length-agrees n image block new agrees inside.0)) apart.0
phases-range at m n (block ∷ blocks) image new long fits inside apart (inr later) =
    phases-range at m n blocks (all_done image block) new (length-all_done block image n long inside.0) fits inside.1 apart.1 later
    ∙ bytes_at-all_done at m block image n long fits inside.0 apart.0

pub length-blocks_done : (n : ℕ) (blocks : List (List Call)) (image : List ℕ) → length image ≡ n → EachBlock (Inside n) blocks
    → length (blocks_done image blocks) ≡ n
length-blocks_done n [] image long inside = long
length-blocks_done n (block ∷ blocks) image long inside =
    length-blocks_done n blocks (all_done image block) (length-all_done block image n long inside.0) inside.1

pub bytes_at-blocks_done : (at m n : ℕ) (blocks : List (List Call)) (image : List ℕ) → length image ≡ n → at + m ≤ n
    → EachBlock (Inside n) blocks → EachBlock (Apart at m) blocks
    → bytes_at (blocks_done image blocks) at m ≡ bytes_at image at m
bytes_at-blocks_done at m n [] image long fits inside apart = refl
bytes_at-blocks_done at m n (block ∷ blocks) image long fits inside apart =
    bytes_at-blocks_done at m n blocks (all_done image block) (length-all_done block image n long inside.0) fits inside.1 apart.1
    ∙ bytes_at-all_done at m block image n long fits inside.0 apart.0

-- calls inside an image that were done whole are one of the things that a stop may leave of them
pub agrees-inside : (n : ℕ) (calls : List Call) (image : List ℕ) → length image ≡ n → Each (Inside n) calls
    → Agrees image calls (all_done image calls)
agrees-inside n [] image long inside = agrees-same image []
agrees-inside n (call ∷ calls) image long inside =
    let here = inside_of call image n long inside.0 in
    agrees-then image (done image call) (all_done (done image call) calls) (call ∷ []) calls
    (agrees-done image call (within call image here))
    (agrees-inside n calls (done image call) (length-done call image here ∙ long) inside.1)
  where
    within : (call : Call) (image : List ℕ) → Inside (length image) call → IsWithin (length image) call
    within (Write at bytes) image here = here
    within Sync image here = tt
    within (SetLen len) image here = tt
