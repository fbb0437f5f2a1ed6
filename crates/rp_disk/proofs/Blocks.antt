-- What a stop leaves of calls in blocks, each ended by a sync.
use Rattle.std.proofs.Common.{◌≡◌, ℕ, ◌⊎◌, ◌||◌, List, [], ◌∷◌, ◌++◌, refl, sym, ap, ◌∙◌, subst, inl, inr, Bool, true, false, cond, append_assoc}
use Rattle.rp_disk.specs.declared.call.Call.{Call}
use Rattle.rp_disk.specs.declared.call.Call.TheVariants.{Sync}
use Rattle.rp_disk.specs.Calls.{done, all_done, is_sync, has_sync, settled, pending}
use Rattle.rp_disk.specs.Stops.{Each, Agrees, Leaves, IsFrontOf}
use Rattle.rp_disk.specs.Blocks.{flat, EachBlock, Unsynced, blocks_done, Phases}
use Rattle.rp_disk.proofs.Agreeing.{agrees-more}
use Rattle.rp_disk.proofs.Pushing.{or_true}

pub Each-append : (P : Call → Type 0) (xs ys : List Call) → Each P xs → Each P ys → Each P (xs ++ ys)
Each-append P [] ys a b = b
Each-append P (x ∷ xs) ys a b = (a.0, Each-append P xs ys a.1 b)

pub Each-imp : (P Q : Call → Type 0) → ((call : Call) → P call → Q call) → (calls : List Call) → Each P calls → Each Q calls
Each-imp P Q imp [] each = tt
Each-imp P Q imp (call ∷ calls) each = (imp call each.0, Each-imp P Q imp calls each.1)

pub EachBlock-imp : (P Q : Call → Type 0) → ((call : Call) → P call → Q call) → (blocks : List (List Call)) → EachBlock P blocks
    → EachBlock Q blocks
EachBlock-imp P Q imp [] each = tt
EachBlock-imp P Q imp (block ∷ blocks) each = (Each-imp P Q imp block each.0, EachBlock-imp P Q imp blocks each.1)

pub EachBlock-append : (P : Call → Type 0) (xs ys : List (List Call)) → EachBlock P xs → EachBlock P ys → EachBlock P (xs ++ ys)
EachBlock-append P [] ys a b = b
EachBlock-append P (x ∷ xs) ys a b = (a.0, EachBlock-append P xs ys a.1 b)

pub Unsynced-append : (xs ys : List (List Call)) → Unsynced xs → Unsynced ys → Unsynced (xs ++ ys)
Unsynced-append [] ys a b = b
Unsynced-append (x ∷ xs) ys a b = (a.0, Unsynced-append xs ys a.1 b)

pub each_flat : (P : Call → Type 0) → P Sync → (blocks : List (List Call)) → EachBlock P blocks → Each P (flat blocks)
each_flat P syncs [] each = tt
each_flat P syncs (block ∷ blocks) each = Each-append P block (Sync ∷ flat blocks) each.0 (syncs, each_flat P syncs blocks each.1)

pub flat-append : (xs ys : List (List Call)) → flat (xs ++ ys) ≡ flat xs ++ flat ys
flat-append [] ys = refl
flat-append (x ∷ xs) ys = ap (λ l. x ++ Sync ∷ l) (flat-append xs ys) ∙ sym (append_assoc x (Sync ∷ flat xs) (flat ys))

pub all_done-append : (image : List ℕ) (xs ys : List Call) → all_done image (xs ++ ys) ≡ all_done (all_done image xs) ys
all_done-append image [] ys = refl
all_done-append image (x ∷ xs) ys = all_done-append (done image x) xs ys

pub all_done-flat : (image : List ℕ) (blocks : List (List Call)) → all_done image (flat blocks) ≡ blocks_done image blocks
all_done-flat image [] = refl
all_done-flat image (block ∷ blocks) = all_done-append image block (Sync ∷ flat blocks) ∙ all_done-flat (all_done image block) blocks

has_sync-block : (block rest : List Call) → has_sync (block ++ Sync ∷ rest) ≡ true
has_sync-block [] rest = refl
has_sync-block (call ∷ block) rest = ap (λ b. is_sync call || b) (has_sync-block block rest) ∙ or_true (is_sync call)

pub settled-block : (image : List ℕ) (block rest : List Call) → settled image (block ++ Sync ∷ rest) ≡ settled (all_done image block) rest
settled-block image [] [] = refl
settled-block image [] (call ∷ rest) = refl
settled-block image (call ∷ block) rest =
    ap (λ b. cond b (settled (done image call) (block ++ Sync ∷ rest)) image) (has_sync-block (call ∷ block) rest)
    ∙ settled-block (done image call) block rest

pub pending-block : (block rest : List Call) → pending (block ++ Sync ∷ rest) ≡ pending rest
pending-block [] rest = refl
pending-block (call ∷ block) rest =
    ap (λ b. cond b (pending (block ++ Sync ∷ rest)) (call ∷ (block ++ Sync ∷ rest))) (has_sync-block (call ∷ block) rest)
    ∙ pending-block block rest

pub settled-open : (image : List ℕ) (block : List Call) → has_sync block ≡ false → settled image block ≡ image
settled-open image [] none = refl
settled-open image (call ∷ block) none = ap (λ b. cond b (settled (done image call) block) image) none

pub pending-open : (block : List Call) → has_sync block ≡ false → pending block ≡ block
pending-open [] none = refl
pending-open (call ∷ block) none = ap (λ b. cond b (pending block) (call ∷ block)) none

-- behind a block and its sync
pub leaves-block : (image : List ℕ) (block rest : List Call) (new : List ℕ) → Leaves image (block ++ Sync ∷ rest) new
    → Leaves (all_done image block) rest new
leaves-block image block rest new left =
    let P : List ℕ → Type 0 = λ s. Agrees s (pending rest) new in
    let Q : List Call → Type 0 = λ l. Agrees (settled image (block ++ Sync ∷ rest)) l new in
    subst P (settled-block image block rest) (subst Q (pending-block block rest) left)

-- in calls without a sync
pub leaves-open : (image : List ℕ) (block : List Call) (new : List ℕ) → has_sync block ≡ false → Leaves image block new
    → Agrees image block new
leaves-open image block new none left =
    let P : List ℕ → Type 0 = λ s. Agrees s block new in
    let Q : List Call → Type 0 = λ l. Agrees (settled image block) l new in
    subst P (settled-open image block none) (subst Q (pending-open block none) left)

or_left : (a b : Bool) → (a || b) ≡ false → a ≡ false
or_left true b none = none
or_left false b none = refl

or_right : (a b : Bool) → (a || b) ≡ false → b ≡ false
or_right true b none = absurd (cc)
or_right false b none = none

pub has_sync-left : (xs ys : List Call) → has_sync (xs ++ ys) ≡ false → has_sync xs ≡ false
has_sync-left [] ys none = refl
has_sync-left (x ∷ xs) ys none =
    let here : is_sync x ≡ false = or_left (is_sync x) (has_sync (xs ++ ys)) none in
    let there : has_sync xs ≡ false = has_sync-left xs ys (or_right (is_sync x) (has_sync (xs ++ ys)) none) in
    ap (λ b. b || has_sync xs) here ∙ there

-- the first calls of blocks end inside the first block, or go on behind its sync
pub split_block : (front rest block others : List Call) → front ++ rest ≡ block ++ Sync ∷ others
    → ((more : List Call) × (front ++ more ≡ block)) ⊎ ((behind : List Call) × (front ≡ block ++ Sync ∷ behind) × (behind ++ rest ≡ others))
split_block [] rest block others e = inl (block, refl)
split_block (call ∷ front) rest [] others e = inr (front, (cc), (cc))
split_block (call ∷ front) rest (first ∷ block) others e =
    elim (split_block front rest block others (cc)) [
      | inl inside ↦ let same : front ++ inside.0 ≡ block = inside.1 in inl (inside.0, (cc))
      | inr behind ↦ let same : front ≡ block ++ Sync ∷ behind.0 = behind.1 in inr (behind.0, (cc), behind.2)
    ]

agrees_block : (image : List ℕ) (front more block : List Call) (new : List ℕ) → front ++ more ≡ block → has_sync block ≡ false
    → Leaves image front new → Agrees image block new
agrees_block image front more block new e none left =
    let P : List Call → Type 0 = λ l. Agrees image l new in
    subst P e (agrees-more image front more new (leaves-open image front new (has_sync-left front more (ap has_sync e ∙ none)) left))

-- each image that a stop leaves of the first calls of blocks is of one of the phases
pub phases : (image : List ℕ) (blocks : List (List Call)) (front : List Call) (new : List ℕ) → Unsynced blocks
    → IsFrontOf front (flat blocks) → Leaves image front new → Phases image blocks new
phases image [] [] new inner e left = left
phases image [] (call ∷ front) new inner e left = let none : call ∷ (front ++ e.0) ≡ [] = e.1 in absurd (cc)
phases image (block ∷ blocks) front new inner e left =
    elim (split_block front e.0 block (flat blocks) e.1) [
      | inl inside ↦ inl (agrees_block image front inside.0 block new inside.1 inner.0 left)
      | inr behind ↦
          let P : List Call → Type 0 = λ l. Leaves image l new in
          inr (phases (all_done image block) blocks behind.0 new inner.1 (e.0, behind.2)
          (leaves-block image block behind.0 new (subst P behind.1 left)))
    ]

-- the phases of the first blocks, or those behind them
pub phases-append : (image : List ℕ) (xs ys : List (List Call)) (new : List ℕ) → Phases image (xs ++ ys) new
    → Phases image xs new ⊎ Phases (blocks_done image xs) ys new
phases-append image [] ys new left = inr left
phases-append image (x ∷ xs) ys new (inl here) = inl (inl here)
phases-append image (x ∷ xs) ys new (inr behind) = elim (phases-append (all_done image x) xs ys new behind) [
  | inl within ↦ inl (inr within)
  | inr later ↦ inr later
]
