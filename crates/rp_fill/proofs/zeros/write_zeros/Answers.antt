use Rattle.std.proofs.Common.{◌≡◌, ℕ, length, replicate, refl, arith, rules, append-nil, sym}
use Rattle.std.proofs.lemmas.List.{length-replicate, length-take}
use Rattle.rp_disk.proofs.Noting.{earlier_same, earlier_then}
use Rattle.rp_disk.proofs.Runs.{on_err}
use Rattle.rp_fill.proofs.Copying.{stays_in, stays_none, stays_pieces, stays_says}
use Rattle.rp_fill.proofs.Zeroing.{zeros_all, zeros_more, zeros_part}
use Rattle.rp_fill.proofs.zeros.write_zeros.Goals as goal

pub loop-k-init : goal.loop-k-init
loop-k-init g c = record { earlier = earlier_same _; so_far = sym (append-nil _); faults = refl; inside = stays_none _ _ }

pub loop-k-preserved : goal.loop-k-preserved
loop-k-preserved g c =
    let zeros : c.fill.new.self ≡ replicate (length c.fill.new.self) 0 = search (rules, c.fill.ensures.after) in
    let long : length c.fill.new.self ≡ length c.args.room.now = c.fill.ensures.len in
    record {
      earlier = earlier_then c.loop-k.invariant.earlier c.in_ok-write.ensures.earlier;
      so_far = zeros_more _ _ _ c.fill.new.self _ _ _ _ c.loop-k.invariant.so_far zeros
          (c.size_of.result, c.size_of.ensures.size, omega (arith, long, c.size_of.ensures.most, c.requires.room), refl) c.in_ok-write.ensures.calls.ok;
      faults = search rules;
      inside = stays_pieces _ _ _ c.args.at c.args.len c.loop-k.k _ (replicate c.args.len 0) (length-replicate {A = ℕ} c.args.len 0)
          (omega (arith, c.pieces-k-end.ensures, c.loop-k-test.true)) c.loop-k.invariant.so_far
          (omega (arith, length-take c.size_of.result c.fill.new.self, c.size_of.ensures.size, c.size_of.ensures.fits)) c.loop-k.invariant.inside
          (stays_in (g.D.Disk.device c.loop-k.disk) (g.D.Disk.device c.write.new.self) _ c.write.ensures.inside);
    }

pub returns-in_err-write-clause-ran : goal.returns-in_err-write-clause-ran
returns-in_err-write-clause-ran g c =
    let zeros : c.fill.new.self ≡ replicate (length c.fill.new.self) 0 = search (rules, c.fill.ensures.after) in
    let long : length c.fill.new.self ≡ length c.args.room.now = c.fill.ensures.len in
    record {
      ok = search rules;
      err = on_err c.from_residual.result (zeros_part c.args.at c.args.len c.loop-k.k c.fill.new.self _ _ _ _ c.loop-k.invariant.so_far zeros
          (c.size_of.result, c.size_of.ensures.size, omega (arith, long, c.size_of.ensures.most, c.requires.room), refl)
          (omega (arith, c.pieces-k-end.ensures, c.loop-k-test.true)) c.in_err-write.ensures.calls.err);
    }

pub returns-in_err-write-clause-inside : goal.returns-in_err-write-clause-inside
returns-in_err-write-clause-inside g c =
    stays_says _ _ _ (stays_pieces _ _ _ c.args.at c.args.len c.loop-k.k _ (replicate c.args.len 0) (length-replicate {A = ℕ} c.args.len 0)
    (omega (arith, c.pieces-k-end.ensures, c.loop-k-test.true)) c.loop-k.invariant.so_far
    (omega (arith, length-take c.size_of.result c.fill.new.self, c.size_of.ensures.size, c.size_of.ensures.fits)) c.loop-k.invariant.inside
    (stays_in (g.D.Disk.device c.loop-k.disk) (g.D.Disk.device c.write.new.self) _ c.write.ensures.inside))

pub returns-clause-ran : goal.returns-clause-ran
returns-clause-ran g c =
    record { ok = zeros_all _ _ _ _ _ c.loop-k.invariant.so_far (omega (arith, c.pieces-k-end.ensures, c.loop-k-test.false, c.loop-k.auto.k-end)); err = tt }

pub returns-clause-inside : goal.returns-clause-inside
returns-clause-inside g c = stays_says _ _ _ c.loop-k.invariant.inside
