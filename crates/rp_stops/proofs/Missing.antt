-- What all of a plan's calls leave alone.
use Rattle.std.proofs.Common.{◌≡◌, ℕ, ◌+◌, ◌*◌, ◌<◌, ◌≤◌, ◌⊎◌, Bool, true, false, cond, List, [], ◌∷◌, ◌++◌, length, get_or, replicate, refl, sym, subst, inl, inr, arith}
use Rattle.std.specs.Prelude.{nat_lt}
use Rattle.std.proofs.lemmas.Bool.{ltb-false}
use Rattle.std.proofs.lemmas.List.{length-replicate}
use Rattle.rp_base.specs.Geometry.{array_sectors}
use Rattle.rp_base.specs.Plan.{Noted, noted_of}
use Rattle.rp_base.specs.Table.{AreApart}
use Rattle.rp_base.specs.declared.geometry.Which.{Which}
use Rattle.rp_base.specs.declared.geometry.Which.TheVariants.{Primary, Backup}
use Rattle.rp_base.specs.declared.plan.Change.TheVariants.{New}
use Rattle.rp_base.specs.declared.plan.Plan.{Plan}
use Rattle.rp_base.specs.declared.seen.Seen.{Seen}
use Rattle.rp_base.specs.declared.table.Row.{Row}
use Rattle.rp_disk.specs.declared.call.Call.{Call}
use Rattle.rp_disk.specs.declared.call.Call.TheVariants.{Write, Sync, SetLen}
use Rattle.rp_disk.specs.Blocks.{EachBlock, flat}
use Rattle.rp_disk.specs.Ranges.{Inside, Misses}
use Rattle.rp_disk.specs.Stops.{Each}
use Rattle.rp_disk.proofs.Blocks.{Each-imp, EachBlock-append, each_flat}
use Rattle.rp_gpt.proofs.Sectors.{sector_least}
use Rattle.rp_stops.specs.Order.{IsMbrPart, written, left, array_call, array_offset, close_call, contents_blocks, copies, growth, header_call, header_offset, mbr_call, target_sectors}
use Rattle.rp_stops.specs.Rows.{IsByteOf, IsInNewRow, IsInside}
use Rattle.rp_stops.proofs.Cells.{head_fits, array_fits}
use Rattle.rp_stops.proofs.Given.{Given, grows, layout, length-mbr, order}
use Rattle.rp_stops.proofs.Surviving.{Grows, grows-inside}
use Rattle.rp_stops.proofs.Writes.{IsKeptRow, apart_rows, body_steady, mbr_calm, old_rows}

-- what holds of the three writes of each copy
pub record OfCopies (P : Call → Type 0) (plan : Plan) : Type 0 where
  pub closes : (which : Which) → P (close_call plan which)
  pub fills : (which : Which) → P (array_call plan which)
  pub opens : (which : Which) → P (header_call plan which)

-- what holds of each call behind the growth
each_copies : (P : Call → Type 0) (plan : Plan) → OfCopies P plan → (order : List Which) → EachBlock P (copies plan order)
each_copies P plan of [] = tt
each_copies P plan of (which ∷ rest) = ((of.closes which, tt), ((of.fills which, tt), ((of.opens which, tt), each_copies P plan of rest)))

pub each_mbr : (P : Call → Type 0) (seen : Seen) (plan : Plan) → P (mbr_call plan) → (blocks : List (List Call))
    → IsMbrPart seen plan blocks → EachBlock P blocks
each_mbr P seen plan p blocks (written foreign is) = subst (EachBlock P) (sym is) ((p, tt), tt)
each_mbr P seen plan p blocks (left right is) = subst (EachBlock P) (sym is) tt

each_contents : (P : Call → Type 0) (body : List Call) → Each P body → EachBlock P (contents_blocks body)
each_contents P [] each = tt
each_contents P (call ∷ body) each = (each, tt)

pub each_behind : (P : Call → Type 0) (plan : Plan) (body : List Call) (order : List Which) (mbr : List (List Call)) → Each P body
    → OfCopies P plan → EachBlock P mbr
    → EachBlock P (contents_blocks body ++ (copies plan order ++ mbr))
each_behind P plan body order mbr each of late =
    EachBlock-append P (contents_blocks body) (copies plan order ++ mbr) (each_contents P body each)
    (EachBlock-append P (copies plan order) mbr (each_copies P plan of order) late)

module _ (old : List ℕ) (seen : Seen) (plan : Plan) (g : Given old seen plan) (body : List Call) (places : List Which)
    (mbr : List (List Call))
    (each : Each (IsInNewRow plan) body) (part : IsMbrPart seen plan mbr) where
  abbrev behind_growth : List (List Call)
  behind_growth = contents_blocks body ++ (copies plan places ++ mbr)

  pub zeros_long : length {A = ℕ} (replicate plan.goal.sector 0) ≡ plan.goal.sector
  zeros_long = length-replicate {A = ℕ} plan.goal.sector 0

  copies_inside : OfCopies (Inside (512 * plan.target)) plan
  copies_inside = record {
    closes = λ which. let fits = head_fits (layout old seen plan g) which in let long = zeros_long in omega arith;
    fills = λ which. let fits = array_fits (layout old seen plan g) which in let long =
        (layout old seen plan g).array_long which in omega arith;
    opens = λ which. let fits = head_fits (layout old seen plan g) which in let long =
        (layout old seen plan g).head_long which in omega arith;
  }

  pub behind_inside : EachBlock (Inside (512 * plan.target)) (contents_blocks body ++ (copies plan places ++ mbr))
  behind_inside =
      each_behind (Inside (512 * plan.target)) plan body places mbr
      (Each-imp (IsInNewRow plan) (Inside (512 * plan.target)) (λ c o. (body_steady old seen plan g c o).inside) body each)
      copies_inside (each_mbr (Inside (512 * plan.target)) seen plan (mbr_calm old seen plan g).steady.inside mbr part)

  -- the calls only grow the image, and lie within it
  pub calls_grow : Grows (length old) (flat (growth seen plan ++ (contents_blocks body ++ (copies plan places ++ mbr))))
  calls_grow = by_growth (nat_lt seen.sectors plan.target) refl where
    inside : Each (Inside (512 * plan.target)) (flat (contents_blocks body ++ (copies plan places ++ mbr)))
    inside = each_flat (Inside (512 * plan.target)) tt (contents_blocks body ++ (copies plan places ++ mbr)) behind_inside

    by_growth : (b : Bool) → nat_lt seen.sectors plan.target ≡ b
        → Grows (length old) (flat (cond b ((SetLen (512 * plan.target) ∷ []) ∷ []) [] ++
        (contents_blocks body ++ (copies plan places ++ mbr))))
    by_growth true is = (
      grows old seen plan g,
      grows-inside (512 * plan.target)
          (flat (contents_blocks body ++ (copies plan places ++ mbr))) inside,
    )
    by_growth false is =
        let more : plan.target ≤ seen.sectors = ltb-false seen.sectors plan.target is in
        let le = g.fits.well_formed.target.least in
        let same : 512 * plan.target ≡ length old = omega (arith, g.seen_of.len) in
        subst (λ n. Grows n (flat (contents_blocks body ++ (copies plan places ++ mbr)))) same
        (grows-inside (512 * plan.target) (flat (contents_blocks body ++ (copies plan places ++ mbr))) inside)

  -- a byte of an old row is missed by all calls
  module _ (k : ℕ) (row : Row) (i : ℕ) (lt : i < length seen.shown.rows) (is : get_or seen.shown.rows i row ≡ row)
      (byte : IsByteOf row k) where
    kept : IsKeptRow old seen plan g row
    kept = subst (λ r. IsKeptRow old seen plan g r) is (old_rows old seen plan g i row lt)

    body_misses : (call : Call) → IsInNewRow plan call → Misses k call
    body_misses (Write at bytes) (j, noted, below, same, inside) =
        let apart : AreApart (get_or (noted_of plan) j noted).0 (get_or seen.shown.rows i row) =
        apart_rows old seen plan g j noted below (subst (λ (x : Noted). x.1.change ≡ New) (sym same) inside.0) i row lt in
        let P : Noted → Row → Type 0 = λ x r. AreApart x.0 r in
        beside noted (subst (λ r. P noted r) is (subst (λ x. P x (get_or seen.shown.rows i row)) same apart)) inside.1
      where
        beside : (noted : Noted) → AreApart noted.0 row → IsInside noted.0 (Write at bytes) → (k < at) ⊎ (at + length bytes ≤ k)
        beside noted (inl before) inside = let to = inside.1 in let from = byte.0 in inr (omega arith)
        beside noted (inr behind) inside = let from = inside.0 in let to = byte.1 in inl (omega arith)
    body_misses Sync (j, noted, below, same, inside) = absurd inside.1
    body_misses (SetLen len) (j, noted, below, same, inside) = absurd inside.1

    head_misses : (which : Which) (bytes : List ℕ) → length bytes ≡ plan.goal.sector
        → Misses k (Write (header_offset plan.goal.sector (target_sectors plan) which) bytes)
    head_misses Primary bytes long = let low = kept.low in let from = byte.0 in inr (omega arith)
    head_misses Backup bytes long = let high = kept.high in let to =
        byte.1 in let backup = (order old seen plan g).backup in inl (omega arith)

    array_misses : (which : Which) (bytes : List ℕ) → length bytes ≡ plan.goal.sector * array_sectors plan.goal.sector plan.goal.entries
        → Misses k (Write (array_offset plan.goal.sector plan.goal.entries (target_sectors plan) which) bytes)
    array_misses Primary bytes long = let low = kept.low in let from = byte.0 in inr (omega arith)
    array_misses Backup bytes long = let high = kept.high in let to = byte.1 in inl (omega arith)

    mbr_misses : Misses k (mbr_call plan)
    mbr_misses =
        let low = kept.low in
        let from = byte.0 in
        let large = sector_least plan.goal.sector g.is_sector in
        let size = length-mbr (target_sectors plan) in
        inr (omega arith)

    misses_behind : EachBlock (Misses k) (contents_blocks body ++ (copies plan places ++ mbr))
    misses_behind =
        each_behind (Misses k) plan body places mbr (Each-imp (IsInNewRow plan) (Misses k) body_misses body each)
        (record {
          closes = λ which. head_misses which (replicate plan.goal.sector 0) zeros_long;
          fills = λ which. array_misses which _ ((layout old seen plan g).array_long which);
          opens = λ which. head_misses which _ ((layout old seen plan g).head_long which);
        }) (each_mbr (Misses k) seen plan mbr_misses mbr part)

    pub calls_miss : Each (Misses k) (flat (growth seen plan ++ (contents_blocks body ++ (copies plan places ++ mbr))))
    calls_miss = by_growth (nat_lt seen.sectors plan.target) where
      rest : Each (Misses k) (flat (contents_blocks body ++ (copies plan places ++ mbr)))
      rest = each_flat (Misses k) tt (contents_blocks body ++ (copies plan places ++ mbr)) misses_behind

      by_growth : (b : Bool) → Each (Misses k) (flat (cond b ((SetLen (512 * plan.target) ∷ []) ∷ []) [] ++
          (contents_blocks body ++ (copies plan places ++ mbr))))
      by_growth true =
          let inside = kept.inside in
          let to = byte.1 in
          (omega (arith, grows old seen plan g), (tt, rest))
      by_growth false = rest
