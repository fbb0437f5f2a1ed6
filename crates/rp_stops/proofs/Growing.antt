-- The growth of an image, with writes of others.
use Rattle.std.proofs.Common.{◌≡◌, ℕ, ◌+◌, ◌-◌, ◌*◌, ◌<◌, ◌≤◌, ◌⊎◌, Bool, true, false, cond, List, [], ◌∷◌, ◌++◌, length, get_or, replicate, refl, sym, ap, ◌∙◌, subst, inl, inr, arith}
use Rattle.std.specs.Prelude.{nat_lt}
use Rattle.std.proofs.lemmas.Bool.{ltb-false}
use Rattle.std.proofs.lemmas.Bool.Decides.{nat_tests}
use Rattle.std.proofs.lemmas.List.{length-append, length-replicate}
use Rattle.rp_base.specs.Geometry.{array_sectors}
use Rattle.rp_base.specs.Image.{bytes_at}
use Rattle.rp_base.specs.declared.geometry.Which.TheVariants.{Primary}
use Rattle.rp_base.specs.declared.plan.Plan.{Plan}
use Rattle.rp_base.specs.declared.seen.Origin.TheVariants as origins
use Rattle.rp_base.specs.declared.seen.Seen.{Seen}
use Rattle.rp_disk.specs.declared.call.Call.{Call}
use Rattle.rp_disk.specs.declared.call.Call.TheVariants.{Write, Sync, SetLen}
use Rattle.rp_disk.specs.Calls.{all_done, resized}
use Rattle.rp_disk.specs.Ranges.{Apart, Inside, Misses}
use Rattle.rp_disk.specs.Stops.{Each, SetsLength}
use Rattle.rp_disk.proofs.Agreeing.{length-resized}
use Rattle.rp_disk.proofs.Blocks.{Each-append, Each-imp, all_done-append}
use Rattle.rp_disk.proofs.Ranges.{bytes_at-agrees, length-all_done, misses-apart, no_length, same_bytes}
use Rattle.rp_gpt.specs.Shown.{shows, told_at}
use Rattle.rp_stops.specs.Order.{array_offset, growth, header_offset, target_sectors}
use Rattle.rp_stops.specs.Rows.{IsInOldRow, grown}
use Rattle.rp_stops.specs.Writers.{calls_of}
use Rattle.rp_stops.proofs.Bytes.{append_zeros, get_or-all_done, get_or-grown}
use Rattle.rp_stops.proofs.Cells.{Same, SameNews}
use Rattle.rp_stops.proofs.Cuts.{Around, around}
use Rattle.rp_stops.proofs.Given.{Given, grows, in_order, layout, old_long, old_room, old_sectors, order, room, target_long}
use Rattle.rp_stops.proofs.Known.{Still, primary_here, still_long}
use Rattle.rp_stops.proofs.Stages.{Stop, Stages}
use Rattle.rp_stops.proofs.Writes.{others_calm, others_inside}

pub length-grown : (old : List ℕ) (plan : Plan) → length old ≤ 512 * plan.target → length (grown old plan) ≡ 512 * plan.target
length-grown old plan le = length-append old (replicate (512 * plan.target - length old) 0)
    ∙ (let zeros = length-replicate {A = ℕ} (512 * plan.target - length old) 0 in omega arith)

-- only one of these calls sets a length
sets_around : (len m n : ℕ) (front back : List Call) → Each (Inside len) front → Each (Inside len) back
    → SetsLength (front ++ SetLen m ∷ back) n → n ≡ m
sets_around len m n [] back inside inside' (inl is) = is
sets_around len m n [] back inside inside' (inr sets) = absurd (no_length len back n inside' sets)
sets_around len m n (Write at bytes ∷ front) back inside inside' sets = sets_around len m n front back inside.1 inside' sets
sets_around len m n (Sync ∷ front) back inside inside' sets = sets_around len m n front back inside.1 inside' sets
sets_around len m n (SetLen l ∷ front) back inside inside' sets = absurd inside.0

module _ (old : List ℕ) (seen : Seen) (plan : Plan) (g : Given old seen plan) where
  -- the image from which the contents are written
  pub record IsBase (base : List ℕ) : Type 0 where
    pub len : length base ≡ 512 * plan.target
    pub primary : Same (layout old seen plan g) Primary old base
    pub news : SameNews (layout old seen plan g) (grown old plan) base
    pub still : Still old seen plan g → base ≡ old

  -- what a stop in the growth leaves
  pub record InGrowth (new : List ℕ) : Type 0 where
    pub len : (length new ≡ length old) ⊎ (length new ≡ 512 * plan.target)
    pub before : told_at plan.goal.sector old Primary ≡ shows seen.shown
    pub tells : told_at plan.goal.sector new Primary ≡ shows seen.shown

  -- the primary lies within the old image
  primary_fits : array_offset plan.goal.sector plan.goal.entries
      (target_sectors plan) Primary + plan.goal.sector * array_sectors plan.goal.sector plan.goal.entries ≤ length old
  primary_fits =
      let places = in_order plan.goal.entries (old_sectors old seen plan g) plan.goal.sector g.is_sector (old_room old seen plan g) in
      let middle = places.middle in
      let backup = places.backup in
      let end = places.end in
      omega (arith, old_long old seen plan g)

  grown_same : (at n : ℕ) → at + n ≤ length old → bytes_at (grown old plan) at n ≡ bytes_at old at n
  grown_same at n fits =
      let le = grows old seen plan g in
      same_bytes at n (grown old plan) old (omega (arith, length-grown old plan le)) fits
      (λ k low high. append_zeros old (512 * plan.target - length old) k)

  pub still_base : Still old seen plan g → IsBase old
  still_base still = record {
    len = still_long old seen plan g still;
    primary = record { head = refl; array = refl };
    news = λ at n range. let between = (layout old seen plan g).news at n range in
        let high = between.1 in
        let backup = (order old seen plan g).backup in
        let end = (order old seen plan g).end in
        let long = still_long old seen plan g still in
        sym (grown_same at n (omega (arith, target_long old seen plan g)));
    still = λ still. refl;
  }

  module _ (calls : List Call) (a : Around (IsInOldRow seen) (SetLen (512 * plan.target)) calls) where
    inside_old : (xs : List Call) → Each (IsInOldRow seen) xs → Each (Inside (length old)) xs
    inside_old xs each = Each-imp (IsInOldRow seen) (Inside (length old)) (λ c o. others_inside old seen plan g c o) xs each

    inside_new : (xs : List Call) → Each (IsInOldRow seen) xs → Each (Inside (512 * plan.target)) xs
    inside_new xs each = Each-imp (IsInOldRow seen) (Inside (512 * plan.target))
        (λ c o. (others_calm old seen plan g c o).steady.inside) xs each

    front_done : List ℕ
    front_done = all_done old a.front

    front_long : length (all_done old a.front) ≡ length old
    front_long = length-all_done a.front old (length old) refl (inside_old a.front a.front_others)

    done_is : all_done old calls ≡ all_done (resized (all_done old a.front) (512 * plan.target)) a.back
    done_is = ap (all_done old) a.are ∙ all_done-append old a.front (SetLen (512 * plan.target) ∷ a.back)

    done_long : length (all_done old calls) ≡ 512 * plan.target
    done_long = ap length done_is ∙ length-all_done a.back (resized (all_done old a.front) (512 * plan.target)) (512 * plan.target)
        (length-resized (all_done old a.front) (512 * plan.target)) (inside_new a.back a.back_others)

    -- a range that others leave alone
    grown_range : (at n : ℕ) → at + n ≤ 512 * plan.target → ((call : Call) → IsInOldRow seen call → Apart at n call)
        → bytes_at (all_done old calls) at n ≡ bytes_at (grown old plan) at n
    grown_range at n fits apart =
        let le = grows old seen plan g in
        let misses : (k : ℕ) → at ≤ k → k < at + n → (xs : List Call) → Each (IsInOldRow seen) xs → Each (Misses k) xs =
        λ k low high xs each. Each-imp (IsInOldRow seen) (Misses k) (λ c o. misses-apart at n c k (apart c o) low high) xs each in
        same_bytes at n (all_done old calls) (grown old plan) (omega (arith, done_long)) (omega (arith, length-grown old plan le))
        (λ k low high.
        ap (λ (xs : List ℕ). get_or xs k 0) done_is
        ∙ get_or-all_done (512 * plan.target) a.back (resized (all_done old a.front) (512 * plan.target)) k
        (length-resized (all_done old a.front) (512 * plan.target)) (inside_new a.back a.back_others)
        (misses k low high a.back a.back_others)
        ∙ get_or-grown (all_done old a.front) (512 * plan.target) k (omega (arith, front_long))
        ∙ get_or-all_done (length old) a.front old k refl (inside_old a.front a.front_others) (misses k low high a.front a.front_others)
        ∙ sym (append_zeros old (512 * plan.target - length old) k))

    pub grown_base : length old < 512 * plan.target → IsBase (all_done old calls)
    grown_base less =
        let fits = primary_fits in
        let le = grows old seen plan g in
        record {
          len = done_long;
          primary = record {
            head = grown_range (header_offset plan.goal.sector (target_sectors plan) Primary) plan.goal.sector (omega arith)
                (λ c o. (others_calm old seen plan g c o).steady.heads Primary)
                ∙ grown_same (header_offset plan.goal.sector (target_sectors plan) Primary) plan.goal.sector (omega arith);
            array = grown_range (array_offset plan.goal.sector plan.goal.entries (target_sectors plan) Primary)
                (plan.goal.sector * array_sectors plan.goal.sector plan.goal.entries) (omega arith)
                (λ c o. (others_calm old seen plan g c o).steady.arrays Primary)
                ∙ grown_same (array_offset plan.goal.sector plan.goal.entries (target_sectors plan) Primary)
                (plan.goal.sector * array_sectors plan.goal.sector plan.goal.entries) (omega arith);
          };
          news = λ at n range.
              let between = (layout old seen plan g).news at n range in
              let high = between.1 in
              let backup = (order old seen plan g).backup in
              let end = (order old seen plan g).end in
              grown_range at n (omega (arith, target_long old seen plan g)) (λ c o. (others_calm old seen plan g c o).news at n range);
          still = λ still. let same = still_long old seen plan g still in absurd (omega arith);
        }

    each_apart : (at n : ℕ) → at + n ≤ 512 * plan.target → ((call : Call) → IsInOldRow seen call → Apart at n call)
        → Each (Apart at n) calls
    each_apart at n fits apart =
        subst (Each (Apart at n)) (sym a.are) (Each-append (Apart at n) a.front (SetLen (512 * plan.target) ∷ a.back)
        (Each-imp (IsInOldRow seen) (Apart at n) apart a.front a.front_others)
        (fits, Each-imp (IsInOldRow seen) (Apart at n) apart a.back a.back_others))

    pub in_growth : told_at plan.goal.sector old Primary ≡ shows seen.shown → (new : List ℕ) → Stop plan.goal.sector old calls new
        → InGrowth new
    in_growth tells new stop =
        let agrees = stop.agrees in
        let le = grows old seen plan g in
        let fits = primary_fits in
        let lengths : (length new ≡ length old) ⊎ (length new ≡ 512 * plan.target) =
        elim agrees.size [
          | inl same ↦ inl same
          | inr sets ↦ inr (sets_around (512 * plan.target) (512 * plan.target) (length new) a.front a.back
              (inside_new a.front a.front_others) (inside_new a.back a.back_others) (subst (λ l. SetsLength l (length new)) a.are sets))
        ] in
        let enough : length old ≤ length new = elim lengths [ inl same ↦ omega arith | inr same ↦ omega arith ] in
        let here : Same (layout old seen plan g) Primary old new = record {
          head = bytes_at-agrees (header_offset plan.goal.sector
              (target_sectors plan) Primary) plan.goal.sector old calls new stop.agrees (omega arith) (omega arith)
              (each_apart (header_offset plan.goal.sector (target_sectors plan) Primary) plan.goal.sector (omega arith)
              (λ c o. (others_calm old seen plan g c o).steady.heads Primary));
          array = bytes_at-agrees (array_offset plan.goal.sector plan.goal.entries (target_sectors plan) Primary)
              (plan.goal.sector * array_sectors plan.goal.sector plan.goal.entries) old calls new stop.agrees (omega arith) (omega arith)
              (each_apart (array_offset plan.goal.sector plan.goal.entries (target_sectors plan) Primary)
              (plan.goal.sector * array_sectors plan.goal.sector plan.goal.entries) (omega arith)
              (λ c o. (others_calm old seen plan g c o).steady.arrays Primary));
        } in
        record {
          len = lengths;
          before = tells;
          tells = elim lengths [
            | inl same ↦ primary_here old seen plan g tells new (old_sectors old seen plan g) (same ∙ old_long old seen plan g)
                (old_room old seen plan g) here
            | inr same ↦ primary_here old seen plan g tells new (target_sectors plan) (same ∙ target_long old seen plan g)
                (room old seen plan g) here
          ];
        }

  -- a stop in the growth, or behind it
  pub growth_stages : (seen.origin ≡ origins.Primary → told_at plan.goal.sector old Primary ≡ shows seen.shown)
      → (rest : List (List Call)) (new : List ℕ)
      → Stages plan.goal.sector (IsInOldRow seen) old (growth seen plan ++ rest) new
      → InGrowth new ⊎ ((base : List ℕ) × IsBase base × Stages plan.goal.sector (IsInOldRow seen) base rest new)
  growth_stages tells rest new stages = by_growth (nat_lt seen.sectors plan.target) refl stages where
    by_growth : (b : Bool) → nat_lt seen.sectors plan.target ≡ b
        → Stages plan.goal.sector (IsInOldRow seen) old (cond b ((SetLen (512 * plan.target) ∷ []) ∷ []) [] ++ rest) new
        → InGrowth new ⊎ ((base : List ℕ) × IsBase base × Stages plan.goal.sector (IsInOldRow seen) base rest new)
    by_growth true is (part, are, each, stage) =
        let less : seen.sectors < plan.target = grind (arith, nat_tests) in
        let a = around (IsInOldRow seen) part (SetLen (512 * plan.target)) are each in
        let origin : seen.origin ≡ origins.Primary = elim g.fits.grows [ inl same ↦ absurd (omega arith) | inr origin ↦ origin ] in
        elim stage [
          | inl stop ↦ inl (in_growth (calls_of part) a (tells origin) new stop)
          | inr later ↦ inr (all_done old (calls_of part), grown_base (calls_of part) a (omega (arith, g.seen_of.len)), later)
        ]
    by_growth false is stages =
        let more : plan.target ≤ seen.sectors = ltb-false seen.sectors plan.target is in
        let le = g.fits.well_formed.target.least in
        let still : plan.target ≡ seen.sectors = omega arith in
        inr (old, still_base still, stages)
