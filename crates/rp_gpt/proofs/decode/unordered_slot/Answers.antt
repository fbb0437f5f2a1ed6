use Rattle.std.proofs.Common.{◌≡◌, true, false, sym, arith}
use Rattle.rp_gpt.specs.Copy.{entry_of, is_used, is_ordered}
use Rattle.rp_gpt.proofs.Slots.{unordered-zero, unordered-used, unordered-unused, unordered-found}
use Rattle.rp_gpt.proofs.decode.unordered_slot.Goals as goal
use Rattle.rp_gpt.proofs.decode.unordered_slot.Goals.{else-is_used-via-then-is_used+else-not-is_ordered, else-is_used-via-else-is_used}

pub loop-slot-init : goal.loop-slot-init
loop-slot-init c = unordered-zero c.args.sector c.args.array.now

pub returns-then-not-is_ordered : goal.returns-then-not-is_ordered
unfolding entry_of
returns-then-not-is_ordered c =
    let array = c.args.array.now in
    let slot = c.loop-slot.slot in
    let used : is_used (entry_of array slot) ≡ true = cc in
    let unordered : is_ordered c.args.sector (entry_of array slot) ≡ false = cc in
    sym (unordered-found c.args.sector array slot c.args.entries (omega arith) used unordered c.loop-slot.invariant)

pub loop-slot-preserved : goal.loop-slot-preserved
unfolding entry_of
loop-slot-preserved c =
    let array = c.args.array.now in
    let slot = c.loop-slot.slot in
    elim c.else-is_used.branch [
      | else-is_used-via-then-is_used+else-not-is_ordered w ↦
          let used : is_used (entry_of array slot) ≡ true = cc in
          let ordered : is_ordered c.args.sector (entry_of array slot) ≡ true = cc in
          unordered-used c.args.sector array slot used ordered c.loop-slot.invariant
      | else-is_used-via-else-is_used w ↦
          let unused : is_used (entry_of array slot) ≡ false = cc in
          unordered-unused c.args.sector array slot unused c.loop-slot.invariant
    ]
