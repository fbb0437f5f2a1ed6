-- What a stop leaves of calls in blocks with writes of others between them, where torn headers are honest.
use Rattle.std.proofs.Common.{◌≡◌, ℕ, ◌⊎◌, List, [], ◌∷◌, ◌++◌, sym, ap, ◌∙◌, subst, inl, inr, false, append_assoc}
use Rattle.rp_base.specs.Image.{bytes_at, sectors_of}
use Rattle.rp_base.specs.declared.geometry.Which.{Which}
use Rattle.rp_disk.specs.declared.call.Call.{Call}
use Rattle.rp_disk.specs.declared.call.Call.TheVariants.{Sync}
use Rattle.rp_disk.specs.Blocks.{flat, Unsynced}
use Rattle.rp_disk.specs.Calls.{all_done, has_sync, pending, settled}
use Rattle.rp_disk.specs.Stops.{Agrees, Each, IsFrontOf}
use Rattle.rp_disk.proofs.Agreeing.{agrees-more, SetsLength-left, Each-left, Each-right}
use Rattle.rp_disk.proofs.Blocks.{settled-block, pending-block, settled-open, pending-open, has_sync-left}
use Rattle.rp_gpt.specs.Shown.{IsTold, told_at}
use Rattle.rp_stops.specs.Honest.{SetsSomeLength}
use Rattle.rp_stops.specs.Order.{header_offset}
use Rattle.rp_stops.specs.Writers.{Event, mine, calls_of, ours, others}
use Rattle.rp_stops.proofs.Cuts.{cut, each_call, calls-append, others-append, has_sync_ours, front_empty, live_call}

-- the header of each place that tells is as it is after some of the later calls, unless these change the length
abbrev pub Honest : ℕ → List ℕ → List Call → List ℕ → Type 0
Honest sector image later new =
    SetsSomeLength later
    ⊎ ((which : Which) → IsTold (told_at sector new which)
    → (more : List Call) × IsFrontOf more later
    × (bytes_at new (header_offset sector (sectors_of sector new) which) sector ≡ bytes_at (all_done image more)
    (header_offset sector (sectors_of sector new) which) sector))

-- an image that a stop leaves of later calls
pub record Stop (sector : ℕ) (image : List ℕ) (later : List Call) (new : List ℕ) : Type 0 where
  pub agrees : Agrees image later new
  pub honest : Honest sector image later new

pub stop-more : (sector : ℕ) (image : List ℕ) (xs ys : List Call) (new : List ℕ) → Stop sector image xs new
    → Stop sector image (xs ++ ys) new
stop-more sector image xs ys new stop = record {
  agrees = agrees-more image xs ys new stop.agrees;
  honest = elim stop.honest [
    | inl sets ↦ inl (sets.0, SetsLength-left xs ys sets.0 sets.1)
    | inr honest ↦ inr (λ which told.
        let h = honest which told in
        (h.0, (h.1.0 ++ ys, sym (append_assoc h.0 h.1.0 ys) ∙ ap (λ l. l ++ ys) h.1.1), h.2))
  ];
}

-- a stop in the midst of one of the blocks, each with writes of others, or behind the last
abbrev pub Stages : ℕ → (Call → Type 0) → List ℕ → List (List Call) → List ℕ → Type 0
Stages sector O image [] new = (end : List Call) × Each O end × Stop sector image end new
Stages sector O image (block ∷ blocks) new =
    (part : List Event) × (ours part ≡ block) × Each O (others part)
    × (Stop sector image (calls_of part) new ⊎ Stages sector O (all_done image (calls_of part)) blocks new)

module _ (sector : ℕ) (O : Call → Type 0) where
  -- calls without a sync
  open_stop : (front : List Event) (image new : List ℕ) → has_sync (calls_of front) ≡ false
      → Stop sector (settled image (calls_of front)) (pending (calls_of front)) new → Stop sector image (calls_of front) new
  open_stop front image new none stop =
      let P : List ℕ → Type 0 = λ s. Stop sector s (calls_of front) new in
      let Q : List Call → Type 0 = λ l. Stop sector (settled image (calls_of front)) l new in
      subst P (settled-open image (calls_of front) none) (subst Q (pending-open (calls_of front) none) stop)

  -- calls behind a block and its sync
  block_stop : (block rest : List Call) (image new : List ℕ)
      → Stop sector (settled image (block ++ Sync ∷ rest)) (pending (block ++ Sync ∷ rest)) new
      → Stop sector (settled (all_done image block) rest) (pending rest) new
  block_stop block rest image new stop =
      let P : List ℕ → Type 0 = λ s. Stop sector s (pending rest) new in
      let Q : List Call → Type 0 = λ l. Stop sector (settled image (block ++ Sync ∷ rest)) l new in
      subst P (settled-block image block rest) (subst Q (pending-block block rest) stop)

  in_part : (part front more : List Event) (image new : List ℕ) → front ++ more ≡ part → has_sync (calls_of part) ≡ false
      → Stop sector (settled image (calls_of front)) (pending (calls_of front)) new → Stop sector image (calls_of part) new
  in_part part front more image new is none stop =
      let calls : calls_of front ++ calls_of more ≡ calls_of part = sym (calls-append front more) ∙ ap calls_of is in
      let open_front : has_sync (calls_of front) ≡ false = has_sync-left (calls_of front) (calls_of more) (ap has_sync calls ∙ none) in
      let P : List Call → Type 0 = λ l. Stop sector image l new in
      subst P calls (stop-more sector image (calls_of front) (calls_of more) new (open_stop front image new open_front stop))

  -- each image that a stop leaves of the first events is of one of the stages
  pub stages : (blocks : List (List Call)) (events front rest : List Event) (image new : List ℕ) → Unsynced blocks
      → ours events ≡ flat blocks
      → Each O (others events) → front ++ rest ≡ events → Stop sector (settled image (calls_of front)) (pending (calls_of front)) new
      → Stages sector O image blocks new
  stages [] events front rest image new inner live each is stop =
      let none : ours front ≡ [] = front_empty front rest (ap ours is ∙ live) in
      let open_front : has_sync (calls_of front) ≡ false = has_sync_ours front ∙ ap has_sync none in
      let each_front : Each O (others front) = Each-left O (others front) (others rest)
      (subst (Each O) (ap others (sym is) ∙ others-append front rest) each) in
      (calls_of front, each_call O front (subst (Each O) (sym none) tt) each_front, open_stop front image new open_front stop)
  stages (block ∷ blocks) events front rest image new inner live each is stop =
      let r = live_call events block Sync (flat blocks) live in
      let part = r.0 in
      let back = r.1 in
      let each_parts : Each O (others r.0 ++ others r.1) = subst (Each O) (ap others r.2 ∙ others-append r.0 (mine Sync ∷ r.1)) each in
      let none : has_sync (calls_of r.0) ≡ false = has_sync_ours r.0 ∙ ap has_sync r.3 ∙ inner.0 in (
        r.0,
        r.3,
        Each-left O (others r.0) (others r.1) each_parts,
        elim (cut front rest r.0 (mine Sync) r.1 (is ∙ r.2)) [
          | inl inside ↦ inl (in_part r.0 front inside.0 image new inside.1 none stop)
          | inr behind ↦
              let calls : calls_of front ≡ calls_of r.0 ++ Sync ∷ calls_of behind.0 = ap calls_of behind.1
              ∙ calls-append r.0 (mine Sync ∷ behind.0) in
              let P : List Call → Type 0 = λ l. Stop sector (settled image l) (pending l) new in
              inr (stages blocks r.1 behind.0 rest (all_done image (calls_of r.0)) new inner.1 r.4
              (Each-right O (others r.0) (others r.1) each_parts) behind.2
              (block_stop (calls_of r.0) (calls_of behind.0) image new (subst P calls stop)))
        ],
      )
