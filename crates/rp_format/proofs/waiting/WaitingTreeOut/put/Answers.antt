-- The block stands behind those that were kept.
use Rattle.std.proofs.Common.{◌≡◌, ◌+◌, ◌-◌, ◌*◌, ◌<◌, ◌≤◌, ℕ, List, length, ap, ◌∙◌, arith}
use Rattle.std.specs.Prelude.{Some, slice_set}
use borrow.Rule.Slice.PartMut.{put_mid}
use Rattle.rp_format.specs.Puts.{kept_puts}
use Rattle.rp_format.proofs.Kept.{kept-put, put_mid-overwritten}
use Rattle.rp_format.proofs.waiting.WaitingTreeOut.put.Goals as goal

pub returns-clause-done : goal.returns-clause-done
returns-clause-done c =
    let k : ℕ = c.args.self.now.count in
    let places : List ℕ = c.args.self.now.places in
    let blocks : List ℕ = c.args.self.now.blocks in
    let block : List ℕ = c.args.block.now in
    let below : k < length places = omega arith in
    let fits : 4096 * k + 4096 ≤ length blocks = omega arith in
    let copied : c.copy_from_slice.new.self ≡ block = c.copy_from_slice.ensures.after in
    let into : ℕ = 4096 * k + 4096 - 4096 * k in
    ap Some (ap (λ (l : List ℕ). kept_puts (k + 1) (slice_set places k c.args.index) (put_mid (4096 * k) into blocks l)) copied
    ∙ ap (λ (l : List ℕ). kept_puts (k + 1) (slice_set places k c.args.index) l)
    (put_mid-overwritten (4096 * k) into blocks block (omega (arith, c.requires.block)))
    ∙ kept-put k c.args.index places blocks block below fits c.requires.block)
