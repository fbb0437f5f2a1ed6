-- The law over a disk at any moment, and over two plans, one after the other.
use Rattle.std.proofs.Common.{◌≡◌, ℕ, ◌⊎◌, List, [], ◌∷◌, ◌++◌, refl, sym, ap, ◌∙◌, subst, inl, inr, append_assoc}
use Rattle.rp_base.specs.declared.plan.Plan.{Plan}
use Rattle.rp_base.specs.declared.seen.Seen.{Seen}
use Rattle.rp_disk.specs.declared.call.Call.{Call}
use Rattle.rp_disk.specs.declared.call.Call.TheVariants.{Sync}
use Rattle.rp_disk.specs.Blocks.{blocks_done, flat}
use Rattle.rp_disk.specs.Calls.{all_done, pending, settled}
use Rattle.rp_disk.specs.History.{IsSettled, LeftSince, MayLeave, moment}
use Rattle.rp_disk.specs.History as history
use Rattle.rp_disk.specs.Made.{Made, Past, history_of}
use Rattle.rp_disk.specs.Runs.{AtAnyMoment, AtAnyMomentBehindSync}
use Rattle.rp_disk.specs.Stops.{Agrees, IsFrontOf, Leaves}
use Rattle.rp_disk.proofs.Blocks.{all_done-flat, pending-block, settled-block}
use Rattle.rp_gpt.specs.declared.table_fault.Empty.{Empty}
use Rattle.rp_stops.specs.Honest.{IsTornHonest}
use Rattle.rp_stops.specs.Order.{AreCallsOf, contents_blocks, copies, growth}
use Rattle.rp_stops.specs.Plans.{IsPlanFor, StopsAlone}
use Rattle.rp_stops.proofs.Carried.{alone}
use Rattle.rp_stops.proofs.Stages.{Honest}

-- where nothing was pending at the start
pub any_moment : (sector : ℕ) (past : Past) (empty : Empty) (seen : Seen) (plan : Plan) (body calls : List Call) (old now : List Made)
    → AtAnyMoment old calls now → IsSettled (history_of past old)
    → IsPlanFor sector (history.held (history_of past old)) empty seen plan → AreCallsOf seen plan body calls
    → (made : List Call) (image : List ℕ) → LeftSince (history_of past now) (moment (history_of past old)) made image
    → IsTornHonest sector (history.held (history_of past old)) made image
    → StopsAlone sector (history.held (history_of past old)) seen plan body image
any_moment sector past empty seen plan body calls old now at_any settled_start is are made image since honest =
    let made_so = at_any past settled_start made image since in
    alone sector (history.held (history_of past old)) empty seen plan body calls made image is are made_so.0 made_so.1 honest

-- behind a sync, from any start
pub behind_sync : (sector : ℕ) (past : Past) (empty : Empty) (seen : Seen) (plan : Plan) (body calls : List Call) (old now : List Made)
    → AtAnyMomentBehindSync old calls now
    → IsPlanFor sector (history.held (history_of past old)) empty seen plan → AreCallsOf seen plan body calls
    → (made : List Call) (image : List ℕ) → LeftSince (history_of past now) (moment (history_of past old)) made image
    → MayLeave (history_of past old) image
    ⊎ ((more : List Call) × (made ≡ Sync ∷ more) × (IsTornHonest sector (history.held (history_of past old)) more image
    → StopsAlone sector (history.held (history_of past old)) seen plan body image))
behind_sync sector past empty seen plan body calls old now at_any is are made image since = elim (at_any past made image since) [
  | inl before ↦ inl before
  | inr behind ↦
      inr (
        behind.0,
        behind.1,
        λ honest.
            alone sector (history.held (history_of past old)) empty seen plan body calls behind.0 image is are behind.2 behind.3 honest,
      )
]

-- the first of two lists, one behind the other
front_of_both : (made rest xs ys : List Call) → made ++ rest ≡ xs ++ ys
    → ((more : List Call) × (made ++ more ≡ xs)) ⊎ ((more : List Call) × (made ≡ xs ++ more) × (more ++ rest ≡ ys))
front_of_both [] rest xs ys e = inl (xs, refl)
front_of_both (call ∷ made) rest [] ys e = inr (call ∷ made, refl, e)
front_of_both (call ∷ made) rest (x ∷ xs) ys e = elim (front_of_both made rest xs ys (cc)) [
  | inl within ↦ let same : made ++ within.0 ≡ xs = within.1 in inl (within.0, (cc))
  | inr behind ↦ let same : made ≡ xs ++ behind.0 = behind.1 in inr (behind.0, (cc), behind.2)
]

-- what is settled and what is pending behind blocks
settled-blocks : (image : List ℕ) (blocks : List (List Call)) (more : List Call)
    → settled image (flat blocks ++ more) ≡ settled (blocks_done image blocks) more
settled-blocks image [] more = refl
settled-blocks image (block ∷ blocks) more =
    ap (settled image) (append_assoc block (Sync ∷ flat blocks) more) ∙ settled-block image block (flat blocks ++ more)
    ∙ settled-blocks (all_done image block) blocks more

pending-blocks : (blocks : List (List Call)) (more : List Call) → pending (flat blocks ++ more) ≡ pending more
pending-blocks [] more = refl
pending-blocks (block ∷ blocks) more =
    ap pending (append_assoc block (Sync ∷ flat blocks) more) ∙ pending-block block (flat blocks ++ more) ∙ pending-blocks blocks more

module _ (old : List ℕ) (seen : Seen) (plan : Plan) (body calls : List Call) (are : AreCallsOf seen plan body calls)
    (more : List Call) where
  abbrev blocks : List (List Call)
  blocks = growth seen plan ++ (contents_blocks body ++ (copies plan are.order ++ are.mbr))

  -- behind all calls of a plan, each of which is settled
  settled_behind : settled old (calls ++ more) ≡ settled (all_done old calls) more
  settled_behind =
      ap (λ l. settled old (l ++ more)) are.are
      ∙ settled-blocks old (growth seen plan ++ (contents_blocks body ++ (copies plan are.order ++ are.mbr))) more
      ∙ ap (λ i. settled i more) (sym (all_done-flat old
      (growth seen plan ++ (contents_blocks body ++ (copies plan are.order ++ are.mbr)))) ∙ ap (all_done old) (sym are.are))

  pending_behind : pending (calls ++ more) ≡ pending more
  pending_behind =
      ap (λ l. pending (l ++ more)) are.are
      ∙ pending-blocks (growth seen plan ++ (contents_blocks body ++ (copies plan are.order ++ are.mbr))) more

  leaves_behind : (image : List ℕ) → Leaves old (calls ++ more) image → Leaves (all_done old calls) more image
  leaves_behind image left =
      subst (λ s. Agrees s (pending more) image) settled_behind
      (subst (λ l. Agrees (settled old (calls ++ more)) l image) pending_behind left)

  honest_behind : (sector : ℕ) (image : List ℕ) → IsTornHonest sector old (calls ++ more) image
      → IsTornHonest sector (all_done old calls) more image
  honest_behind sector image honest =
      subst (λ s. Honest sector s (pending more) image) settled_behind
      (subst (λ l. Honest sector (settled old (calls ++ more)) l image) pending_behind honest)

-- two plans: a stop is one in the first, or one in the second on the image that the first gave
pub two_plans : (sector : ℕ) (old : List ℕ) (empty then : Empty) (seen next : Seen) (plan second : Plan)
    (body calls other others made : List Call) (image : List ℕ)
    → IsPlanFor sector old empty seen plan → AreCallsOf seen plan body calls
    → IsPlanFor sector (all_done old calls) then next second → AreCallsOf next second other others
    → IsFrontOf made (calls ++ others) → Leaves old made image → IsTornHonest sector old made image
    → StopsAlone sector old seen plan body image ⊎ StopsAlone sector (all_done old calls) next second other image
two_plans sector old empty then seen next plan second body calls other others made image is are is_second are_second front left honest =
    elim (front_of_both made front.0 calls others front.1) [
      | inl within ↦ inl (alone sector old empty seen plan body calls made image is are (within.0, within.1) left honest)
      | inr behind ↦
          inr (alone sector (all_done old calls) then next second other others behind.0 image is_second are_second (front.0, behind.2)
          (leaves_behind old seen plan body calls are behind.0 image (subst (λ l. Leaves old l image) behind.1 left))
          (honest_behind old seen plan body calls are behind.0 sector image
          (subst (λ l. IsTornHonest sector old l image) behind.1 honest)))
    ]
