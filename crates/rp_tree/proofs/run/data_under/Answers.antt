-- What was found before stays; else what is found under this hash block.
use Rattle.std.proofs.Common.{◌≡◌, ◌+◌, ◌*◌, true, None, min, sym, ◌∙◌, arith}
use Rattle.std.specs.Prelude.{is_some}
use Rattle.rp_disk.specs.History.{held}
use Rattle.rp_disk.specs.Made.{history_of}
use Rattle.rp_tree.specs.Reads.{end_of}
use Rattle.rp_tree.proofs.ReadsLemmas.{reads-none}
use Rattle.rp_tree.proofs.PieceLemmas.{none-found, under-found, under-kept}
use Rattle.rp_tree.proofs.run.data_under.Goals as goal

pub returns-then-is_some-clause-reads : goal.returns-then-is_some-clause-reads
returns-then-is_some-clause-reads g c = reads-none (end_of c.args.payload.now) _ c.args.found

pub returns-then-is_some-clause-found : goal.returns-then-is_some-clause-found
returns-then-is_some-clause-found g c past can hash begin stands is =
    let some : is_some c.args.found ≡ true = (cc) in
    under-kept (held (history_of past (g.D.Disk.device c.args.disk.now).calls)) c.args.salt.now c.args.payload.now hash begin c.args.index c.args.blocks
    c.args.found some (omega (arith, c.requires.index)) is

pub returns-clause-found : goal.returns-clause-found
returns-clause-found g c past can hash begin stands is =
    let none : c.args.found ≡ None = none-found c.args.found (cc) in
    let all : min (128 * c.args.index + 128) c.args.blocks ≡ 128 * c.args.index + c.min-count.result = omega (arith, c.requires.index) in
    c.shifted.ensures
    ∙ under-found (held (history_of past (g.D.Disk.device c.args.disk.now).calls)) c.args.salt.now c.args.payload.now hash begin c.args.index
    c.min-count.result c.args.blocks c.args.digests.now c.in_ok-wrong.wrong stands (omega arith) all (sym is ∙ none) (c.in_ok-wrong.ensures.found past can)
