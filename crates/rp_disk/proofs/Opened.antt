-- The law for a run that begins with a sync: what was pending before may be left until that sync has answered Ok.
use Rattle.std.proofs.Common.{ℕ, List, [], ◌∷◌, ◌++◌, ◌≡◌, ◌⊎◌, ◌+◌, ◌≤◌, refl, sym, ◌∙◌, ap, subst, inl, inr, ⊎_elim, arith}
use Rattle.rp_disk.specs.declared.call.Call.{Call}
use Rattle.rp_disk.specs.declared.call.Call.TheVariants.{Write, Sync, SetLen}
use Rattle.rp_disk.specs.Stops.{Leaves, IsFrontOf}
use Rattle.rp_disk.specs.History.{History, Did, Failed, held, moment, and_failed, made_since, MayLeave, LeftSince, all_did}
use Rattle.rp_disk.specs.Runs.{Went}
use Rattle.rp_disk.proofs.Law.{law, only_now, synced, since_later, made_since-now, front_of_front}

-- after a sync that answered Ok: an image since the start could have been left at the start, or since that sync
record Behind (start now : History) : Type 0 where
  later : moment start + 1 ≤ moment now
  since : made_since now (moment start) ≡ Sync ∷ made_since now (moment start + 1)
  splits : (made : List Call) (image : List ℕ) → LeftSince now (moment start) made image
      → MayLeave start image ⊎ ((more : List Call) × (made ≡ Sync ∷ more) × LeftSince now (moment start + 1) more image)

at_once : (start : History) → Behind start (Did start Sync)
at_once start =
    let none : made_since (Did start Sync) (moment start + 1) ≡ [] = made_since-now (Did start Sync) in
    let one : made_since (Did start Sync) (moment start) ≡ Sync ∷ [] =
    since_later (moment start) (moment start) (made_since start (moment start) ++ Sync ∷ []) [] (omega arith)
    ∙ ap (λ l. l ++ Sync ∷ []) (made_since-now start) in
    record {
      later = omega arith;
      since = one ∙ ap (λ l. Sync ∷ l) (sym none);
      splits = λ made image left. ⊎_elim
          (λ at. inr ([], at.0 ∙ one, inl (sym none, at.1)))
          (λ older. inl ((only_now start made image older.1).1)) left;
    }

behind_did : (start now : History) (call : Call) → Behind start now → Behind start (Did now call)
behind_did start now call behind =
    let since : made_since (Did now call) (moment start) ≡ Sync ∷ made_since (Did now call) (moment start + 1) =
    since_later (moment start) (moment now) (made_since now (moment start) ++ call ∷ []) [] (omega (arith, behind.later))
    ∙ ap (λ l. l ++ call ∷ []) behind.since
    ∙ ap (λ l. Sync ∷ l) (sym (since_later (moment start + 1) (moment now) (made_since now (moment start + 1) ++ call ∷ []) [] behind.later)) in
    record {
      later = omega (arith, behind.later);
      since = since;
      splits = λ made image left. ⊎_elim
          (λ at. inr (made_since (Did now call) (moment start + 1), at.0 ∙ since, inl (refl, at.1)))
          (λ older. ⊎_elim (λ old. inl old) (λ more. inr (more.0, more.1, inr (behind.later, more.2))) (behind.splits made image older.1)) left;
    }

cons_failed : (calls : List Call) (call : Call) → and_failed (Sync ∷ calls) call ≡ Sync ∷ and_failed calls call
cons_failed calls (Write at bytes) = refl
cons_failed calls Sync = refl
cons_failed calls (SetLen len) = refl

behind_failed : (start now : History) (call : Call) (after : List ℕ) → Behind start now → Behind start (Failed now call after)
behind_failed start now call after behind =
    let since : made_since (Failed now call after) (moment start) ≡ Sync ∷ made_since (Failed now call after) (moment start + 1) =
    since_later (moment start) (moment now) (and_failed (made_since now (moment start)) call) [] (omega (arith, behind.later))
    ∙ ap (λ l. and_failed l call) behind.since
    ∙ cons_failed (made_since now (moment start + 1)) call
    ∙ ap (λ l. Sync ∷ l) (sym (since_later (moment start + 1) (moment now) (and_failed (made_since now (moment start + 1)) call) [] behind.later)) in
    record {
      later = omega (arith, behind.later);
      since = since;
      splits = λ made image left. ⊎_elim
          (λ at. inr (made_since (Failed now call after) (moment start + 1), at.0 ∙ since, inl (refl, at.1)))
          (λ older. ⊎_elim (λ old. inl old) (λ more. inr (more.0, more.1, inr (behind.later, more.2))) (behind.splits made image older.1)) left;
    }

behind_all : (start now : History) (calls : List Call) → Behind start now → Behind start (all_did now calls)
behind_all start now [] behind = behind
behind_all start now (call ∷ calls) behind = behind_all start (Did now call) calls (behind_did start now call behind)

went_behind : (start now : History) (calls : List Call) → Went (Did start Sync) calls now → Behind start now
went_behind start now calls (inl all) = let P : History → Type 0 = Behind start in
    subst P (sym all) (behind_all start (Did start Sync) calls (at_once start))
went_behind start now calls (inr failed) = let P : History → Type 0 = Behind start in
    subst P (sym failed.4) (behind_failed start (all_did (Did start Sync) failed.0) failed.1 failed.2 (behind_all start (Did start Sync) failed.0 (at_once start)))

-- once the sync has answered Ok
opened : (start now : History) (calls made : List Call) (image : List ℕ) → Went (Did start Sync) calls now
    → LeftSince now (moment start) made image
    → MayLeave start image ⊎ ((more : List Call) × (made ≡ Sync ∷ more) × IsFrontOf more calls × Leaves (held start) more image)
opened start now calls made image went left = ⊎_elim (λ old. inl old)
    (λ more. let is = law (Did start Sync) now calls (synced start) went more.0 image more.2 in inr (more.0, more.1, is.0, is.1))
    ((went_behind start now calls went).splits made image left)

-- the sync failed
sync_failed : (start : History) (after : List ℕ) (made : List Call) (image : List ℕ)
    → LeftSince (Failed start Sync after) (moment start) made image → MayLeave start image
sync_failed start after made image left = ⊎_elim (λ at. at.1) (λ older. (only_now start made image older.1).1) left

no_calls : (calls : List Call) (call : Call) → and_failed calls call ≡ [] → (calls ≡ []) × (call ≡ Sync)
no_calls [] (Write at bytes) none = absurd (cc)
no_calls [] Sync none = (refl, refl)
no_calls [] (SetLen len) none = absurd (cc)
no_calls (first ∷ calls) (Write at bytes) none = absurd (cc)
no_calls (first ∷ calls) Sync none = absurd (cc)
no_calls (first ∷ calls) (SetLen len) none = absurd (cc)

tail_failed : (made before : List Call) (last : Call) → Sync ∷ made ≡ and_failed before last
    → (more : List Call) × (before ≡ Sync ∷ more) × (made ≡ and_failed more last)
tail_failed made [] (Write at bytes) is = absurd (cc)
tail_failed made [] Sync is = absurd (cc)
tail_failed made [] (SetLen len) is = absurd (cc)
tail_failed made (first ∷ before) (Write at bytes) is = (before, (cc), (cc))
tail_failed made (first ∷ before) Sync is = (before, (cc), (cc))
tail_failed made (first ∷ before) (SetLen len) is = (before, (cc), (cc))

-- what went from a start, sync first, went from behind that sync
behind_first : (start now : History) (made : List Call) → Went start (Sync ∷ made) now → Went (Did start Sync) made now
behind_first start now made (inl all) = inl all
behind_first start now made (inr failed) =
    let tail = tail_failed made failed.0 failed.1 failed.3 in
    inr (tail.0, failed.1, failed.2, tail.2, failed.4 ∙ ap (λ l. Failed (all_did start l) failed.1 failed.2) tail.1)

-- The second form of the law. Let a run begin with a sync, at any start, and let each call since but the last have
-- answered Ok. Then each image that a stop since might have left could have been left at the start already, or the sync
-- was done and the image is in `Leaves` of the bytes shown at the start and the calls made by then behind the sync.
pub law_behind_sync : (start now : History) (calls made : List Call) → IsFrontOf made (Sync ∷ calls) → Went start made now
    → (by_then : List Call) (image : List ℕ) → LeftSince now (moment start) by_then image
    → MayLeave start image ⊎ ((more : List Call) × (by_then ≡ Sync ∷ more) × IsFrontOf more calls × Leaves (held start) more image)
law_behind_sync start now calls [] front (inl same) by_then image left =
    inl ((only_now start by_then image (subst (λ (h : History). LeftSince h (moment start) by_then image) same left)).1)
law_behind_sync start now calls [] front (inr failed) by_then image left =
    let none = no_calls failed.0 failed.1 (sym failed.3) in
    let is : now ≡ Failed start Sync failed.2 = failed.4 ∙ ap (λ l. Failed (all_did start l) failed.1 failed.2) none.0
    ∙ ap (λ c. Failed start c failed.2) none.1 in
    inl (sync_failed start failed.2 by_then image (subst (λ (h : History). LeftSince h (moment start) by_then image) is left))
law_behind_sync start now calls (first ∷ made) front went by_then image left =
    let first_is : first ≡ Sync = cc front.1 in
    let rest_is : made ++ front.0 ≡ calls = cc front.1 in
    ⊎_elim (λ old. inl old) (λ more. inr (more.0, more.1, front_of_front more.0 made calls more.2 (front.0, rest_is), more.3))
    (opened start now made by_then image (behind_first start now made (subst (λ (c : Call). Went start (c ∷ made) now) first_is went)) left)
