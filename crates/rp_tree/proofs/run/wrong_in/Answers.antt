-- One piece after another.
use Rattle.std.proofs.Common.{◌≡◌, ◌+◌, ◌-◌, ◌*◌, ℕ, List, None, length, take, drop, refl, arith, rules, length-append, length-drop}
use Rattle.std.specs.Prelude.{find}
use Rattle.std.specs.List.{range_with_len}
use Rattle.std.proofs.lemmas.List.{length-take-le, take_all}
use Rattle.rp_base.specs.Image.{bytes_at}
use Rattle.rp_disk.specs.History.{held}
use Rattle.rp_disk.specs.Made.{history_of}
use Rattle.rp_disk.proofs.Noting.{can_before}
use Rattle.rp_tree.specs.Reads.{end_of}
use Rattle.rp_tree.proofs.PieceLemmas.{differs_from, piece-first, piece-found}
use Rattle.rp_tree.proofs.ReadsLemmas.{as_before, reads-fault, reads-none, reads-then, reads-value}
use Rattle.rp_tree.proofs.run.wrong_in.Goals as goal

pub pieces-init : goal.pieces-init
pieces-init g c = record {
  within = omega arith;
  some = search rules;
  most = omega arith;
  reads = reads-none (end_of c.args.payload.now) _ tt;
  found = λ past can. refl;
}

pub returns-in_err-read_blocks-clause-reads : goal.returns-in_err-read_blocks-clause-reads
returns-in_err-read_blocks-clause-reads g c =
    let end : ℕ = end_of c.args.payload.now in
    reads-fault end _ c.from_residual.result c.from_residual.ensures.0
    (reads-then end _ _ c.pieces.invariant.reads c.in_err-read_blocks.ensures.reads)

pub returns-in-Some-clause-reads : goal.returns-in-Some-clause-reads
returns-in-Some-clause-reads g c =
    let end : ℕ = end_of c.args.payload.now in
    reads-value end tt _ (reads-then end _ _ c.pieces.invariant.reads c.in_ok-read_blocks.ensures.reads)

pub returns-in-Some-clause-found : goal.returns-in-Some-clause-found
returns-in-Some-clause-found g c past can =
    let image = held (history_of past (g.D.Disk.device c.args.disk.now).calls) in
    let payload = c.args.payload.now in
    let salt : List ℕ = c.args.salt.now in
    let digests : List ℕ = c.args.digests.now in
    let done : ℕ = c.pieces.done in
    let step : ℕ = c.min-step.result in
    let buf : List ℕ = c.read_blocks.new.buf in
    let size : length (take (4096 * step) c.pieces.buffer) ≡ 4096 * step = length-take-le (4096 * step) c.pieces.buffer (omega (arith, c.pieces.invariant.most)) in
    let rest : take (length digests - 32 * done) (drop (32 * done) digests) ≡ drop (32 * done) digests =
    take_all (length digests - 32 * done) (drop (32 * done) digests) (omega (arith, length-drop (32 * done) digests)) in
    let none : find (differs_from image salt payload c.args.first digests) (range_with_len 0 done) ≡ None =
    c.pieces.invariant.found past (can_before c.in_ok-read_blocks.ensures.reads.earlier can) in
    let read : buf ≡ bytes_at image (512 * payload.start + 4096 * (c.args.first + done)) (length (take (4096 * step) c.pieces.buffer)) =
    as_before (λ h. buf ≡ bytes_at (held h) (512 * payload.start + 4096 * (c.args.first + done)) (length (take (4096 * step) c.pieces.buffer)))
    past (g.D.Disk.device c.args.disk.now) (g.D.Disk.device c.pieces.disk) c.pieces.invariant.reads.calls (c.in_ok-read_blocks.ensures.bytes past can) in
    piece-first image salt payload c.args.first done step c.args.count c.in-Some.k digests buf (omega arith) (rw size at read) none
    (rw rest at c.in-Some.ensures.found)

pub pieces-preserved : goal.pieces-preserved
pieces-preserved g c =
    let payload = c.args.payload.now in
    let salt : List ℕ = c.args.salt.now in
    let digests : List ℕ = c.args.digests.now in
    let done : ℕ = c.pieces.done in
    let step : ℕ = c.min-step.result in
    let buf : List ℕ = c.read_blocks.new.buf in
    let size : length (take (4096 * step) c.pieces.buffer) ≡ 4096 * step = length-take-le (4096 * step) c.pieces.buffer (omega (arith, c.pieces.invariant.most)) in
    let rest : take (length digests - 32 * done) (drop (32 * done) digests) ≡ drop (32 * done) digests =
    take_all (length digests - 32 * done) (drop (32 * done) digests) (omega (arith, length-drop (32 * done) digests)) in
    let nothing : c.first_wrong.result ≡ None = c.in_default.is in
    record {
      within = omega arith;
      some = c.pieces.invariant.some;
      most = omega (
        arith,
        c.pieces.invariant.most,
        c.read_blocks.auto.buf,
        length-append buf (drop (4096 * step) c.pieces.buffer),
        length-drop (4096 * step) c.pieces.buffer,
      );
      reads = reads-then (end_of payload) _ _ c.pieces.invariant.reads c.in_ok-read_blocks.ensures.reads;
      found = λ past can.
          let image = held (history_of past (g.D.Disk.device c.args.disk.now).calls) in
          let none : find (differs_from image salt payload c.args.first digests) (range_with_len 0 done) ≡ None =
          c.pieces.invariant.found past (can_before c.in_ok-read_blocks.ensures.reads.earlier can) in
          let read : buf ≡ bytes_at image (512 * payload.start + 4096 * (c.args.first + done)) (length (take (4096 * step) c.pieces.buffer)) =
          as_before (λ h. buf ≡ bytes_at (held h) (512 * payload.start + 4096 * (c.args.first + done)) (length (take (4096 * step) c.pieces.buffer)))
          past (g.D.Disk.device c.args.disk.now) (g.D.Disk.device c.pieces.disk) c.pieces.invariant.reads.calls (c.in_ok-read_blocks.ensures.bytes past can) in
          piece-found image salt payload c.args.first done step digests buf None (rw size at read) none
          (rw (nothing, rest) at c.first_wrong.ensures.found);
    }
