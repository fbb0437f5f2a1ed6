-- One hash block of the lowest level after another, with the data blocks under it.
use Rattle.std.proofs.Common.{◌≡◌, ◌*◌, ℕ, List, Ok, length, take, min, refl, sym, ◌∙◌, ap, arith}
use Rattle.rp_disk.specs.History.{held}
use Rattle.rp_disk.specs.Made.{history_of}
use Rattle.rp_disk.proofs.Noting.{can_before}
use Rattle.rp_verity.specs.Tree.{runs}
use Rattle.rp_tree.specs.Checked.{salt_of, wrong_block}
use Rattle.rp_tree.specs.Reads.{end_of, ends_of}
use Rattle.rp_tree.proofs.BlockLemmas.{Found, both-more}
use Rattle.rp_tree.proofs.NextLemmas.{NextGoes}
use Rattle.rp_tree.proofs.ReadsLemmas.{as_before, reads-farther, reads-fault, reads-none, reads-then, reads-value}
use Rattle.rp_tree.proofs.RootLemmas.{block-bad}
use Rattle.rp_tree.proofs.StandingLemmas.{stands-first}
use Rattle.rp_tree.proofs.check.check_blocks.Goals as goal

pub loop-index-init : goal.loop-index-init
loop-index-init g c =
    let salt : List ℕ = c.salt-salt.result.now in
    let zero : min (128 * 0) c.args.tree.now.said.blocks ≡ 0 = omega arith in
    record {
      notes = refl;
      reads = reads-none _ _ tt;
      stands = λ past can top. (
        stands-first (held (history_of past (g.D.Disk.device c.args.disk.now).calls)) salt c.args.hash.now c.args.count c.args.tree.now.said.blocks 5
            c.args.standing.now c.requires.shape.some c.requires.standing top,
        rw zero refl,
      );
    }

pub loop-index-preserved : goal.loop-index-preserved
loop-index-preserved g c =
    let payload = c.args.payload.now in
    let hash = c.args.hash.now in
    let salt : List ℕ = c.salt-salt.result.now in
    let blocks : ℕ = c.args.tree.now.said.blocks in
    let end : ℕ = ends_of payload hash in
    let next = reads-then end _ _ c.loop-index.invariant.reads (reads-farther (end_of hash) end _ (omega arith) c.in_ok-next_block.ensures.reads) in
    let whole : take 4096 c.next_block.new.room ≡ c.split_at.result.0.now = sym c.split_at.ensures.front in
    record {
      notes = omega (arith, c.next_block.auto.notes, c.loop-index.invariant.notes);
      reads = reads-value end _ tt (reads-then end _ _ next (reads-farther (end_of payload) end _ (omega arith) c.in_ok-now.ensures.reads));
      stands = λ past can.
          let image = held (history_of past (g.D.Disk.device c.args.disk.now).calls) in
          let can_next = can_before c.in_ok-now.ensures.reads.earlier can in
          let goes : NextGoes image salt hash c.args.count blocks c.loop-index.index c.loop-index.standing c.loop-index.notes
          (Ok c.in_ok-next_block.field-0) c.next_block.new.room c.next_block.new.notes =
          as_before (λ h. NextGoes (held h) salt hash c.args.count blocks c.loop-index.index c.loop-index.standing c.loop-index.notes
          (Ok c.in_ok-next_block.field-0) c.next_block.new.room c.next_block.new.notes)
          past (g.D.Disk.device c.args.disk.now) (g.D.Disk.device c.loop-index.disk) c.loop-index.invariant.reads.calls (c.in_ok-next_block.ensures.stands past can_next) in
          let found : Found image salt payload blocks c.loop-index.index c.split_at.result.0.now c.loop-index.found c.in_ok-now.now =
          as_before (λ h. Found (held h) salt payload blocks c.loop-index.index c.split_at.result.0.now c.loop-index.found c.in_ok-now.now)
          past (g.D.Disk.device c.args.disk.now) (g.D.Disk.device c.next_block.new.disk) next.calls (c.in_ok-now.ensures.found past can) in
          both-more image salt payload hash c.args.count blocks (length c.args.standing.now) 5 c.args.standing.now
          c.loop-index.index c.loop-index.standing c.loop-index.notes c.loop-index.found c.in_ok-next_block.field-0 c.next_block.new.room
          c.next_block.new.notes c.in_ok-now.now c.requires.shape (omega arith)
          (c.loop-index.invariant.stands past (can_before c.in_ok-next_block.ensures.reads.earlier can_next)) goes (rw whole found);
    }

pub returns-in_err-next_block-clause-reads : goal.returns-in_err-next_block-clause-reads
returns-in_err-next_block-clause-reads g c =
    let end : ℕ = ends_of c.args.payload.now c.args.hash.now in
    reads-fault end _ c.from_residual.result c.from_residual.ensures.0
    (reads-then end _ _ c.loop-index.invariant.reads (reads-farther (end_of c.args.hash.now) end _ (omega arith) c.in_err-next_block.ensures.reads))

pub returns-in_err-now-clause-reads : goal.returns-in_err-now-clause-reads
returns-in_err-now-clause-reads g c =
    let end : ℕ = ends_of c.args.payload.now c.args.hash.now in
    let next = reads-then end _ _ c.loop-index.invariant.reads
    (reads-farther (end_of c.args.hash.now) end _ (omega arith) c.in_ok-next_block.ensures.reads) in
    reads-fault end _ c.from_residual-in_err-now.result c.from_residual-in_err-now.ensures.0
    (reads-then end _ _ next (reads-farther (end_of c.args.payload.now) end _ (omega arith) c.in_err-now.ensures.reads))

pub returns-clause-bad : goal.returns-clause-bad
returns-clause-bad g c past can is top =
    let payload = c.args.payload.now in
    let hash = c.args.hash.now in
    let image = held (history_of past (g.D.Disk.device c.args.disk.now).calls) in
    let salt : List ℕ = c.salt-salt.result.now in
    let said = c.args.tree.now.said in
    let blocks : ℕ = said.blocks in
    let all : c.loop-index.index ≡ runs blocks = omega (arith, c.runs-index-end.ensures) in
    let whole : min (128 * c.loop-index.index) blocks ≡ blocks = omega (arith, c.requires.fits.some) in
    let kept : salt ≡ salt_of image hash said = c.salt-salt.ensures.salt ∙ is.salt in
    let last = c.loop-index.invariant.stands past can top in
    block-bad image salt payload hash blocks c.args.count c.first_noted.result c.loop-index.found c.block_bad.result
    c.requires.more c.requires.count
    (c.first_noted.ensures image salt hash blocks c.loop-index.standing (rw all at last.0)) (rw whole at last.1)
    c.block_bad.ensures
    ∙ ap (λ (s : List ℕ). wrong_block image s payload hash blocks) kept
