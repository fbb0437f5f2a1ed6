use Rattle.std.proofs.Common.{◌≡◌, ℕ, ◌≤◌, List, length, take, refl, ◌∙◌, arith, rules, Err}
use Rattle.std.proofs.lemmas.List.{length-take}
use Rattle.rp_disk.proofs.Noting.{earlier_same, earlier_then}
use Rattle.rp_fill.proofs.Copying.{copied_all, copied_more, copied_none, copied_part_of, has_all, has_more, has_none, not_ok, reaches, reaches_more, reaches_none, reaches_says, run_ended, stays_copied, stays_in, stays_none, stays_says}
use Rattle.rp_fill.proofs.copy.copy_source.Goals as goal

pub loop-k-init : goal.loop-k-init
loop-k-init g c = record {
  earlier = earlier_same _;
  told = refl;
  copied = copied_none _ _ _ _ _;
  whole = has_none _ _ _;
  disk_faults = refl;
  source_faults = refl;
  disk_inside = stays_none _ _;
  source_strays = reaches_none _ _ _ _;
}

-- what a piece has, of a room with at least as many bytes
part_size : (size : ℕ) (room : List ℕ) → size ≤ length room → length (take size room) ≡ size
part_size size room fits = let e = length-take size room in omega arith

pub loop-k-preserved : goal.loop-k-preserved
loop-k-preserved g c =
    let i = c.loop-k.invariant in
    let h = c.in_ok-copy_piece.ensures.ran in
    let room : length c.loop-k.room ≡ length c.args.room.now = c.loop-k.auto.room in
    let long = part_size c.size_of.result c.loop-k.room (omega (arith, room, c.size_of.ensures.most, c.requires.room)) in
    record {
      earlier = earlier_then i.earlier c.in_ok-copy_piece.ensures.earlier;
      told = search rules;
      copied = copied_more _ _ c.args.len _ c.loop-k.k _ _ _ c.copy_piece.new.part i.copied c.size_of.ensures.fits
          (c.copy_piece.auto.part ∙ long ∙ c.size_of.ensures.size) (rw i.told at h.0) h.1;
      whole = has_more _ _ _ _ c.loop-k.k c.copy_piece.new.part i.told c.size_of.ensures.fits
          (c.copy_piece.auto.part ∙ long ∙ c.size_of.ensures.size) h.0;
      disk_faults = search rules;
      source_faults = search rules;
      disk_inside = stays_copied _ _ _ _ _ c.args.at c.args.len c.loop-k.k _ (omega (arith, c.pieces-k-end.ensures, c.loop-k-test.true)) i.copied
          (omega (arith, long, c.size_of.ensures.size, c.size_of.ensures.fits)) i.disk_inside (stays_in (g.D.Disk.device c.loop-k.disk) (g.D.Disk.device c.copy_piece.new.disk) _ c.copy_piece.ensures.disk_inside);
      source_strays = reaches_more _ _ _ _ _ _ _ _ i.told (omega (arith, long, c.size_of.ensures.size, c.size_of.ensures.fits)) i.source_strays
          (reaches _ _ _ _ _ c.copy_piece.ensures.source_strays);
    }

pub returns-in_err-copy_piece-clause-ran : goal.returns-in_err-copy_piece-clause-ran
returns-in_err-copy_piece-clause-ran g c =
    let i = c.loop-k.invariant in
    let room : length c.loop-k.room ≡ length c.args.room.now = c.loop-k.auto.room in
    let long = part_size c.size_of.result c.loop-k.room (omega (arith, room, c.size_of.ensures.most, c.requires.room)) in
    run_ended _ _ _ _ _ _ _ c.from_residual.ensures.0
    (copied_part_of {T = Unit {0}} (Err c.in_err-copy_piece.field-0.0) _ _ _ c.args.len _ c.loop-k.k _ _ _ c.copy_piece.new.part i.told i.copied
    (omega (arith, c.pieces-k-end.ensures, c.loop-k-test.true)) (c.copy_piece.auto.part ∙ long ∙ c.size_of.ensures.size)
    c.in_err-copy_piece.ensures.ran)

pub returns-in_err-copy_piece-clause-whole : goal.returns-in_err-copy_piece-clause-whole
returns-in_err-copy_piece-clause-whole g c = not_ok _ _ _ _ c.from_residual.ensures.0

pub returns-in_err-copy_piece-clause-disk_inside : goal.returns-in_err-copy_piece-clause-disk_inside
returns-in_err-copy_piece-clause-disk_inside g c =
    let i = c.loop-k.invariant in
    let room : length c.loop-k.room ≡ length c.args.room.now = c.loop-k.auto.room in
    let long = part_size c.size_of.result c.loop-k.room (omega (arith, room, c.size_of.ensures.most, c.requires.room)) in
    stays_says _ _ _ (stays_copied _ _ _ _ _ c.args.at c.args.len c.loop-k.k _ (omega (arith, c.pieces-k-end.ensures, c.loop-k-test.true)) i.copied
    (omega (arith, long, c.size_of.ensures.size, c.size_of.ensures.fits)) i.disk_inside (stays_in (g.D.Disk.device c.loop-k.disk) (g.D.Disk.device c.copy_piece.new.disk) _ c.copy_piece.ensures.disk_inside))

pub returns-in_err-copy_piece-clause-source_strays : goal.returns-in_err-copy_piece-clause-source_strays
returns-in_err-copy_piece-clause-source_strays g c =
    let i = c.loop-k.invariant in
    let room : length c.loop-k.room ≡ length c.args.room.now = c.loop-k.auto.room in
    let long = part_size c.size_of.result c.loop-k.room (omega (arith, room, c.size_of.ensures.most, c.requires.room)) in
    reaches_says _ _ _ _ _ (reaches_more _ _ _ _ _ _ _ _ i.told (omega (arith, long, c.size_of.ensures.size, c.size_of.ensures.fits)) i.source_strays
    (reaches _ _ _ _ _ c.copy_piece.ensures.source_strays))

pub returns-clause-ran : goal.returns-clause-ran
returns-clause-ran g c = let h = copied_all _ _ _ _ _ _ _ c.loop-k.invariant.copied (omega (arith, c.pieces-k-end.ensures, c.loop-k-test.false, c.loop-k.auto.k-end)) in
    (h.0, h.1, record { ok = h.2; err = tt })

pub returns-clause-whole : goal.returns-clause-whole
returns-clause-whole g c =
    has_all _ _ _ c.loop-k.k c.loop-k.invariant.whole
    (omega (arith, c.pieces-k-end.ensures, c.loop-k-test.false, c.loop-k.auto.k-end))

pub returns-clause-disk_inside : goal.returns-clause-disk_inside
returns-clause-disk_inside g c = stays_says _ _ _ c.loop-k.invariant.disk_inside

pub returns-clause-source_strays : goal.returns-clause-source_strays
returns-clause-source_strays g c = reaches_says _ _ _ _ _ c.loop-k.invariant.source_strays
