use Rattle.std.proofs.Common.{◌≡◌, ◌*◌, length, sym, refl, ◌∙◌, ap, take_all, arith}
use Rattle.std.proofs.lemmas.Bool.{false≢true}
use Rattle.rp_gpt.specs.Copy.{array_bytes}
use Rattle.rp_gpt.proofs.Entries.{array_bytes-none, agrees-more, agrees-entry}
use Rattle.rp_gpt.proofs.Rising.{none_below}
use Rattle.rp_gpt.proofs.exact.is_entries.Goals as goal

pub loop-slot-init : goal.loop-slot-init
loop-slot-init c = record {
  next = sym (none_below c.args.table.now.rows c.requires.writable.rows.rising);
  front = sym (array_bytes-none c.args.table.now.sector c.args.table.now.rows);
}

pub returns-then-not-is_same : goal.returns-then-not-is_same
returns-then-not-is_same c = (
  λ h. absurd (false≢true h),
  λ e. sym c.if-not-is_same.true ∙ c.is_same.ensures.1
      (agrees-entry c.args.table.now.sector c.args.table.now.rows c.args.entries.now c.loop-slot.slot c.loop-slot.invariant.front c.args.table.now.entries (omega arith) (omega arith) (ap length (sym c.entry_at-after.ensures.entry) ∙ c.entry_at-after.ensures.len) e ∙ sym c.entry_at-after.ensures.entry),
)

pub loop-slot-preserved : goal.loop-slot-preserved
loop-slot-preserved c = record {
  next = c.entry_at-after.ensures.next;
  front = agrees-more c.args.table.now.sector c.args.table.now.rows c.args.entries.now c.loop-slot.slot c.loop-slot.invariant.front (c.is_same.ensures.0 c.if-not-is_same.false ∙ c.entry_at-after.ensures.entry);
}

pub returns : goal.returns
returns c =
    let all : c.loop-slot.slot ≡ c.args.table.now.entries = omega arith in (
      λ h. sym (take_all (128 * c.loop-slot.slot) c.args.entries.now (omega arith)) ∙ c.loop-slot.invariant.front ∙ ap (array_bytes c.args.table.now.sector c.args.table.now.rows) all,
      λ e. refl,
    )
