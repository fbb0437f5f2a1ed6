-- The topmost level alone; a block whose parent stands; a block whose parent is read first.
use Rattle.std.proofs.Common.{◌≡◌, ◌+◌, ◌-◌, ◌/◌, ◌%◌, ◌≤◌, ℕ, List, ◌++◌, Option, Ok, length, arith}
use Rattle.rp_disk.specs.History.{held}
use Rattle.rp_disk.specs.Made.{history_of}
use Rattle.rp_disk.proofs.Noting.{can_before}
use Rattle.rp_tree.specs.Reads.{end_of}
use Rattle.rp_tree.proofs.NextLemmas.{NextGoes, OwnGoes, next-long, next-short, shape-call}
use Rattle.rp_tree.proofs.ReadsLemmas.{as_before, reads-none, reads-then}
use Rattle.rp_tree.proofs.StandingLemmas.{stands-top}
use Rattle.rp_tree.proofs.level.+next_block.Goals as goal

pub returns-then-levels-eq1-clause-reads : goal.returns-then-levels-eq1-clause-reads
returns-then-levels-eq1-clause-reads g t c = reads-none (end_of c.args.hash.now) _ tt

pub returns-then-levels-eq1-clause-stands : goal.returns-then-levels-eq1-clause-stands
returns-then-levels-eq1-clause-stands g t c past can stands =
    stands-top (held (history_of past (g.D.Disk.device c.args.disk.now).calls)) c.args.salt.now c.args.hash.now c.args.levels c.args.total c.args.index
    (c.args.index + 1) c.args.room.now c.args.notes.now c.if-levels-eq1.true stands

pub returns-then-index-ne0-clause-stands : goal.returns-then-index-ne0-clause-stands
returns-then-index-ne0-clause-stands g t c past can =
    let more : 2 ≤ c.args.levels = omega (arith, c.if-levels-eq1.false, c.requires.shape.some) in
    next-short (held (history_of past (g.D.Disk.device c.args.disk.now).calls)) c.args.salt.now c.args.hash.now c.args.levels c.args.total c.args.index
    c.args.room.now c.args.notes.now c.own_block.result c.own_block.new.room c.own_block.new.notes more c.if-index-ne0.true
    (c.own_block.ensures.stands past can)

pub next_block-requires : goal.next_block-requires
next_block-requires g t c κs alive =
    let more : 2 ≤ c.args.levels = omega (arith, c.if-levels-eq1.false, c.requires.shape.some) in (
      omega (arith, c.decreases, more),
      (
        alive,
        (
          c.requires.salt,
          (
            shape-call c.args.hash.now c.args.levels c.args.total c.runs.result (length c.args.room.now) (length c.args.notes.now)
                (length c.split_at_mut-above.result.1.now) (length c.split_at_mut-higher.result.1.now) more c.runs.ensures
                (omega (arith, c.split_at_mut-above.ensures.back_len)) (omega (arith, c.split_at_mut-higher.ensures.back_len)) c.requires.shape,
            omega (arith, c.requires.index, c.runs.ensures),
          ),
        ),
      ),
    )

pub returns-clause-reads : goal.returns-clause-reads
returns-clause-reads g t c = reads-then (end_of c.args.hash.now) _ _ c.in_ok-next_block.ensures.reads c.own_block-2.ensures.reads

pub returns-clause-stands : goal.returns-clause-stands
returns-clause-stands g t c past can =
    let image = held (history_of past (g.D.Disk.device c.args.disk.now).calls) in
    let block : List ℕ = c.split_at_mut-above.result.0.now in
    let below : List ℕ = c.split_at_mut-above.result.1.now in
    let mine : List (Option ℕ) = c.split_at_mut-higher.result.0.now in
    let lower : List (Option ℕ) = c.split_at_mut-higher.result.1.now in
    let above : List ℕ = c.next_block.new.room in
    let higher : List (Option ℕ) = c.next_block.new.notes in
    let more : 2 ≤ c.args.levels = omega (arith, c.if-levels-eq1.false, c.requires.shape.some) in
    let full : c.args.index % 128 ≡ 0 = omega arith in
    let inner : NextGoes image c.args.salt.now c.args.hash.now (c.args.levels - 1) c.runs.result (c.args.index / 128)
    below lower (Ok c.in_ok-next_block.field-0) above higher =
    c.in_ok-next_block.ensures.stands past (can_before c.own_block-2.ensures.reads.earlier can) in
    let own : OwnGoes image c.args.salt.now c.args.hash.now c.args.levels c.args.total c.args.index (block ++ above)
    (mine ++ higher) c.own_block-2.result c.own_block-2.new.room c.own_block-2.new.notes =
    as_before (λ h. OwnGoes (held h) c.args.salt.now c.args.hash.now c.args.levels c.args.total c.args.index (block ++ above)
    (mine ++ higher) c.own_block-2.result c.own_block-2.new.room c.own_block-2.new.notes)
    past (g.D.Disk.device c.args.disk.now) (g.D.Disk.device c.next_block.new.disk) c.in_ok-next_block.ensures.reads.calls (c.own_block-2.ensures.stands past can) in
    rw (c.split_at_mut-above.ensures.value, c.split_at_mut-higher.ensures.value)
    (next-long image c.args.salt.now c.args.hash.now c.args.levels c.args.total c.args.index block below above mine lower higher
    c.in_ok-next_block.field-0 c.own_block-2.result c.own_block-2.new.room c.own_block-2.new.notes more
    c.split_at_mut-above.ensures.front_len c.split_at_mut-higher.ensures.front_len full (rw c.runs.ensures at inner) own)
