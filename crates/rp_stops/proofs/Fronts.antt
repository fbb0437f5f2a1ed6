-- The first of a plan's calls change their own ranges alone.
use Rattle.std.proofs.Common.{◌≡◌, ℕ, ◌+◌, ◌-◌, ◌*◌, ◌<◌, ◌≤◌, ◌⊎◌, Bool, true, false, cond, List, [], ◌∷◌, ◌++◌, length, get_or, refl, sym, ap, ◌∙◌, subst, inl, inr, arith}
use Rattle.std.specs.Prelude.{nat_lt}
use Rattle.std.proofs.lemmas.Bool.{ltb-false}
use Rattle.std.proofs.lemmas.List.{get_or_default}
use Rattle.rp_base.specs.declared.plan.Plan.{Plan}
use Rattle.rp_base.specs.declared.seen.Seen.{Seen}
use Rattle.rp_disk.specs.declared.call.Call.{Call}
use Rattle.rp_disk.specs.declared.call.Call.TheVariants.{Sync, SetLen}
use Rattle.rp_disk.specs.Blocks.{flat}
use Rattle.rp_disk.specs.Calls.{all_done, done, resized}
use Rattle.rp_disk.specs.Ranges.{Inside, Misses}
use Rattle.rp_disk.specs.Stops.{Each, IsFrontOf}
use Rattle.rp_disk.proofs.Agreeing.{Each-left, length-resized}
use Rattle.rp_disk.proofs.Blocks.{each_flat}
use Rattle.rp_disk.proofs.Ranges.{length-all_done, same_bytes}
use Rattle.rp_stops.specs.Final.{ChangesItsOwn, IsElsewhere}
use Rattle.rp_stops.specs.Order.{AreCallsOf, contents_blocks, copies, growth}
use Rattle.rp_stops.specs.Safe.{KeepsRows}
use Rattle.rp_stops.proofs.Bytes.{append_zeros}
use Rattle.rp_stops.proofs.Final.{elsewhere_misses}
use Rattle.rp_stops.proofs.Given.{Given, grows}
use Rattle.rp_stops.proofs.Missing.{behind_inside, calls_grow, calls_miss}
use Rattle.rp_stops.proofs.Surviving.{Grows, grows-left, grows_missed}
use Rattle.rp_stops.proofs.Writes.{old_rows}

module _ (old : List ℕ) (seen : Seen) (plan : Plan) (g : Given old seen plan) (body calls : List Call)
    (are : AreCallsOf seen plan body calls)
    (made : List Call) (front : IsFrontOf made calls) where
  abbrev rest : List Call
  rest = front.0

  is : made ++ front.0 ≡ flat (growth seen plan ++ (contents_blocks body ++ (copies plan are.order ++ are.mbr)))
  is = front.1 ∙ are.are

  inside : Each (Inside (512 * plan.target)) (flat (contents_blocks body ++ (copies plan are.order ++ are.mbr)))
  inside = each_flat (Inside (512 * plan.target)) tt (contents_blocks body ++ (copies plan are.order ++ are.mbr))
      (behind_inside old seen plan g body are.order are.mbr are.inside are.mbr_part)

  -- the old length, or the target's once it is set
  front_length : (length (all_done old made) ≡ length old) ⊎ (length (all_done old made) ≡ 512 * plan.target)
  front_length = by_growth (nat_lt seen.sectors plan.target) refl is where
    behind_growth : (made : List Call) → made ++ front.0 ≡ SetLen (512 * plan.target) ∷ Sync ∷ flat
        (contents_blocks body ++ (copies plan are.order ++ are.mbr))
        → (length (all_done old made) ≡ length old) ⊎ (length (all_done old made) ≡ 512 * plan.target)
    behind_growth [] e = inl refl
    behind_growth (call ∷ more) e =
        let first : call ≡ SetLen (512 * plan.target) = cc in
        let then : more ++ front.0 ≡ Sync ∷ flat (contents_blocks body ++ (copies plan are.order ++ are.mbr)) = cc in
        let each : Each (Inside (512 * plan.target)) more =
        Each-left (Inside (512 * plan.target)) more front.0 (subst (Each (Inside (512 * plan.target))) (sym then) (tt, inside)) in
        inr (ap (λ c. length (all_done (done old c) more)) first
        ∙ length-all_done more (resized old (512 * plan.target)) (512 * plan.target) (length-resized old (512 * plan.target)) each)

    by_growth : (b : Bool) → nat_lt seen.sectors plan.target ≡ b
        → made ++ front.0 ≡ flat (cond b ((SetLen (512 * plan.target) ∷ []) ∷ []) [] ++
        (contents_blocks body ++ (copies plan are.order ++ are.mbr)))
        → (length (all_done old made) ≡ length old) ⊎ (length (all_done old made) ≡ 512 * plan.target)
    by_growth true less e = behind_growth made e
    by_growth false more e =
        let more_is : plan.target ≤ seen.sectors = ltb-false seen.sectors plan.target more in
        let le = g.fits.well_formed.target.least in
        let same : length old ≡ 512 * plan.target = omega (arith, g.seen_of.len) in
        inr (length-all_done made old (512 * plan.target) same
        (Each-left (Inside (512 * plan.target)) made front.0 (subst (Each (Inside (512 * plan.target))) (sym e) inside)))

  front_grows : Grows (length old) made
  front_grows = grows-left (length old) made front.0
      (subst (Grows (length old)) (sym is) (calls_grow old seen plan g body are.order are.mbr are.inside are.mbr_part))

  missed : (k : ℕ) → Each (Misses k) (flat (growth seen plan ++ (contents_blocks body ++ (copies plan are.order ++ are.mbr))))
      → get_or (all_done old made) k 0 ≡ get_or old k 0
  missed k misses = grows_missed (length old) made old k refl front_grows
      (Each-left (Misses k) made front.0 (subst (Each (Misses k)) (sym is) misses))

  kept_rows : KeepsRows old seen (all_done old made)
  kept_rows i d lt =
      let row = get_or seen.shown.rows i d in
      let kept = old_rows old seen plan g i d lt in
      let within = kept.inside in
      let le = grows old seen plan g in
      let enough : 512 * row.start + 512 * row.size ≤ length (all_done old made) =
      elim front_length [ inl e ↦ omega arith | inr e ↦ omega arith ] in
      same_bytes (512 * row.start) (512 * row.size) (all_done old made) old enough (omega arith)
      (λ k low high.
      missed k (calls_miss old seen plan g body are.order are.mbr are.inside are.mbr_part k (get_or seen.shown.rows i d) i lt
      (get_or_default seen.shown.rows i (get_or seen.shown.rows i d) d lt) (low, omega arith)))

  elsewhere : (k : ℕ) → k < 512 * plan.target → IsElsewhere seen plan k
      → Each (Misses k) (flat (growth seen plan ++ (contents_blocks body ++ (copies plan are.order ++ are.mbr))))
  elsewhere k lt e = by_growth (nat_lt seen.sectors plan.target) where
    behind : Each (Misses k) (flat (contents_blocks body ++ (copies plan are.order ++ are.mbr)))
    behind = each_flat (Misses k) tt (contents_blocks body ++ (copies plan are.order ++ are.mbr))
        (elsewhere_misses old seen plan g body calls are k e)

    by_growth : (b : Bool) → Each (Misses k) (flat (cond b ((SetLen (512 * plan.target) ∷ []) ∷ []) [] ++
        (contents_blocks body ++ (copies plan are.order ++ are.mbr))))
    by_growth true = (lt, (tt, behind))
    by_growth false = behind

  pub own_ranges : ChangesItsOwn old seen plan (all_done old made)
  own_ranges = record {
    len = front_length;
    rows = kept_rows;
    kept = λ k lt e. missed k (elsewhere k lt e) ∙ sym (append_zeros old (512 * plan.target - length old) k);
  }
