use Rattle.std.proofs.Common.{◌≡◌, true, false, arith}
use Rattle.std.proofs.lemmas.List.Elements.{All-nil, All-push}
use Rattle.rp_base.specs.Table.{RowFits}
use Rattle.rp_gpt.specs.Copy.{entry_of, is_used}
use Rattle.rp_gpt.proofs.Slots.{ordered_at, rows_of-zero, rows_of-used, rows_of-unused}
use Rattle.rp_gpt.proofs.decode.read_rows.Goals as goal
use Rattle.rp_gpt.proofs.decode.read_rows.Goals.{then-is_used+in_ok-push, else-is_used}

pub loop-slot-init : goal.loop-slot-init
loop-slot-init c = record { rows = rw (rows_of-zero c.args.sector c.args.array.now) c.new-rows.ensures; fits = rw (c.new-rows.ensures) (All-nil RowFits) }

pub read_row-requires-clause-ordered : goal.read_row-requires-clause-ordered
unfolding entry_of
read_row-requires-clause-ordered c =
    let array = c.args.array.now in
    let slot = c.loop-slot.slot in
    let used : is_used (entry_of array slot) ≡ true = cc in
    ordered_at c.args.sector array slot c.args.entries (omega arith) c.requires.ordered used

pub loop-slot-preserved : goal.loop-slot-preserved
unfolding entry_of
loop-slot-preserved c =
    let array = c.args.array.now in
    let slot = c.loop-slot.slot in
    elim c.if-is_used.branch [
      | then-is_used+in_ok-push w ↦
          let used : is_used (entry_of array slot) ≡ true = cc in
          let more = rows_of-used c.args.sector array slot used in
          let pushed = w.in_ok-push.ensures.ok in
          let row = w.read_row.ensures.value in
          record {
            rows = cc;
            fits = rw (w.rows-is, w.in_ok-push.ensures.ok) (All-push RowFits c.loop-slot.rows w.read_row.result c.loop-slot.invariant.fits w.read_row.ensures.fits);
          }
      | else-is_used w ↦
          let unused : is_used (entry_of array slot) ≡ false = cc in
          let same = rows_of-unused c.args.sector array slot unused in
          record { rows = cc; fits = rw (w.rows-is) c.loop-slot.invariant.fits }
    ]
