use Rattle.std.proofs.Common.{◌≡◌, ◌+◌, ◌*◌, take, length, find, eqb, IfSome, ap, sym, ◌∙◌, arith, below_more}
use Rattle.std.proofs.lemmas.List.{take_all}
use Rattle.rp_base.specs.Table.{RowFits}
use Rattle.rp_base.specs.declared.table.Row.{Row}
use Rattle.rp_gpt.specs.Copy.{array_bytes}
use Rattle.rp_gpt.proofs.Entries.{array_bytes-none, array_bytes-more, rows_fit}
use Rattle.rp_gpt.proofs.Rising.{Rising-from, none_below}
use Rattle.rp_gpt.proofs.encode.write_entries.Goals as goal

pub loop-slot-init : goal.loop-slot-init
loop-slot-init c = record {
  next = sym (none_below c.args.table.now.rows c.requires.writable.rows.rising);
  front = sym (array_bytes-none c.args.table.now.sector c.args.table.now.rows);
  fits = λ slot h. absurd (omega arith);
}

pub loop-slot-preserved : goal.loop-slot-preserved
loop-slot-preserved c =
    let rows = c.args.table.now.rows in
    let slot = c.loop-slot.slot in
    let next : 128 * (slot + 1) ≡ 128 * slot + length c.entry_at-after.result.0 = omega arith in
    record {
      next = c.entry_at-after.ensures.next;
      front =
          ap (λ n. take n c.put_bytes.new.out) next ∙ c.put_bytes.ensures
          ∙ rw (c.loop-slot.invariant.front, c.entry_at-after.ensures.entry) (array_bytes-more c.args.table.now.sector rows slot);
      fits = below_more (λ k. IfSome (find (λ (row : Row). eqb row.slot k) rows) RowFits) slot c.loop-slot.invariant.fits c.entry_at-after.ensures.fits;
    }

pub returns-clause-value : goal.returns-clause-value
returns-clause-value c =
    let all : c.loop-slot.slot ≡ c.args.table.now.entries = omega arith in
    sym (take_all (128 * c.loop-slot.slot) c.loop-slot.out (omega arith)) ∙ c.loop-slot.invariant.front
    ∙ ap (array_bytes c.args.table.now.sector c.args.table.now.rows) all

pub returns-clause-fits : goal.returns-clause-fits
returns-clause-fits c =
    let rows = c.args.table.now.rows in
    rows_fit 0 c.args.table.now.entries rows (Rising-from 0 rows (λ k d h. omega arith) c.requires.writable.rows.rising)
    (λ k d h. (c.requires.writable.rows.rows k d h).slot)
    (λ slot inside. c.loop-slot.invariant.fits slot (omega arith))
