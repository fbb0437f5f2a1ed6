use Rattle.std.proofs.Common.{◌<◌, add-one, arith, rules}
use Rattle.rp_disk.proofs.Noting.{earlier_same, earlier_then}
use Rattle.rp_disk.proofs.Runs.{broke_off_in, on_err, one_more}
use Rattle.rp_disk_example.specs.Copies.{row_of}
use Rattle.rp_disk_example.proofs.RowLemmas.{row_split}
use Rattle.rp_disk_example.proofs.copies.write_row.Goals as goal

pub returns-in_err-write-clause-ran : goal.returns-in_err-write-clause-ran
returns-in_err-write-clause-ran g c =
    let below : c.loop-i.i < c.args.count = omega arith in
    let split = row_split c.args.at c.args.count c.loop-i.i c.args.bytes.now below in
    let so_far = c.loop-i.invariant.so_far in
    let row = row_of c.args.at c.loop-i.i c.args.bytes.now in
    record { ok = search rules; err = on_err c.from_residual.result (broke_off_in _ _ _ row _ split.0 _ split.1 so_far c.in_err-write.ensures.calls.err) }

pub loop-i-init : goal.loop-i-init
loop-i-init g c = record { earlier = earlier_same _; so_far = search rules; faults = search rules }

pub loop-i-preserved : goal.loop-i-preserved
loop-i-preserved g c = record { earlier = earlier_then c.loop-i.invariant.earlier c.in_ok-write.ensures.earlier; so_far = rw add-one (one_more _ _ _ (row_of c.args.at c.loop-i.i c.args.bytes.now) _ c.loop-i.invariant.so_far c.in_ok-write.ensures.calls.ok); faults = search rules }
