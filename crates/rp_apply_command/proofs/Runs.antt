-- Runs behind a sync.
use Rattle.std.proofs.Common.{◌≡◌, ◌∙◌, ℕ, List, [], ◌∷◌, ◌++◌, refl, sym, ap, append_assoc, append-nil}
use Rattle.rp_disk.specs.Blocks.{flat}
use Rattle.rp_disk.specs.History.{held}
use Rattle.rp_disk.specs.Made.{Past, Made, Done, dones, history_of}
use Rattle.rp_disk.specs.Runs.{MadeFirst}
use Rattle.rp_disk.specs.declared.call.Call.{Call}
use Rattle.rp_disk.specs.declared.call.Call.TheVariants.{Sync}
use Rattle.rp_disk.proofs.Runs.{history_of-dones, held-all_did}

-- a sync was made, and then the first of these calls
pub made_behind : (start mid new : List Made) (calls : List Call) → mid ≡ start ++ dones (Sync ∷ []) → MadeFirst mid calls new
    → MadeFirst start (Sync ∷ calls) new
made_behind start mid new calls opened made = (
  Done Sync ∷ made.0,
  (refl, made.1),
  made.2 ∙ ap (λ l. l ++ made.0) opened ∙ append_assoc start (Done Sync ∷ []) made.0,
)

-- or all of them
pub all_behind : (start mid new : List Made) (calls : List Call) → mid ≡ start ++ dones (Sync ∷ []) → new ≡ mid ++ dones calls
    → new ≡ start ++ dones (Sync ∷ calls)
all_behind start mid new calls opened made = made ∙ ap (λ l. l ++ dones calls) opened ∙ append_assoc start (Done Sync ∷ []) (dones calls)

-- none was made
pub made_none : (start : List Made) (calls : List Call) → MadeFirst start calls start
made_none start calls = ([], tt, sym (append-nil start))

-- a sync was made, and no other call
pub made_sync : (start new : List Made) → new ≡ start ++ dones (Sync ∷ []) → MadeFirst start (Sync ∷ []) new
made_sync start new opened = (Done Sync ∷ [], (refl, tt), opened)

-- a sync changes no byte
pub same_shown : (bytes : Past) (start : List Made) → held (history_of bytes (start ++ dones (Sync ∷ []))) ≡ held (history_of bytes start)
same_shown bytes start = ap held (history_of-dones bytes start (Sync ∷ [])) ∙ held-all_did (history_of bytes start) (Sync ∷ [])

-- a sync and blocks, each ended by a sync, end with one
pub ends_with_sync : (blocks : List (List Call)) → (calls : List Call) × (Sync ∷ flat blocks ≡ calls ++ Sync ∷ [])
ends_with_sync [] = ([], refl)
ends_with_sync (block ∷ blocks) =
    let rest = ends_with_sync blocks in
    (Sync ∷ (block ++ rest.0), ap (λ l. Sync ∷ l) (ap (λ l. block ++ l) rest.1 ∙ sym (append_assoc block rest.0 (Sync ∷ []))))
