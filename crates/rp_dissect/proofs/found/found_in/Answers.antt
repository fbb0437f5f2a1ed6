-- What is found of each designator, behind what was found of those before it.
use Rattle.std.proofs.Common.{◌≡◌, ◌∙◌, get_or, refl}
use Rattle.std.proofs.lemmas.List.{length-set}
use Rattle.rp_disk.specs.History.{held}
use Rattle.rp_disk.specs.Made.{history_of}
use Rattle.rp_disk.proofs.Noting.{can_before}
use Rattle.rp_policy.specs.Reading.{designators}
use Rattle.rp_tree.proofs.ReadsLemmas.{as_before, reads-fault, reads-none, reads-then, reads-value}
use Rattle.rp_types.specs.declared.arch.Designator.TheVariants.{Root}
use Rattle.rp_dissect.specs.Kinds.{found_of}
use Rattle.rp_dissect.specs.Reach.{farthest}
use Rattle.rp_dissect.proofs.Finding.{one_more}
use Rattle.rp_dissect.proofs.found.found_in.Goals as goal

pub loop-place-init : goal.loop-place-init
loop-place-init g c = record { reads = reads-none _ (g.D.Disk.device c.args.disk.now) tt; size = refl; found = λ past can. refl }

pub returns-in_err-found-clause-reads : goal.returns-in_err-found-clause-reads
returns-in_err-found-clause-reads g c =
    reads-fault (farthest c.args.rows.now) _ c.from_residual.result c.from_residual.ensures.0
    (reads-then (farthest c.args.rows.now) _ _ c.loop-place.invariant.reads c.in_err-found.ensures.reads)

pub loop-place-preserved : goal.loop-place-preserved
loop-place-preserved g c =
    let end = farthest c.args.rows.now in
    record {
      reads = reads-value end c.in_ok-found.field-0 tt (reads-then end _ _ c.loop-place.invariant.reads c.in_ok-found.ensures.reads);
      size = length-set c.loop-place.found c.loop-place.place c.in_ok-found.field-0 ∙ c.loop-place.invariant.size;
      found = λ past can.
          one_more (found_of (held (history_of past (g.D.Disk.device c.args.disk.now).calls)) c.args.arch c.args.rows.now) designators
          c.loop-place.found c.loop-place.place c.in_ok-found.field-0 _ c.loop-place-test.true (rw c.loop-place.invariant.size c.loop-place-test.true)
          (c.loop-place.invariant.found past (can_before c.in_ok-found.ensures.reads.earlier can))
          (as_before (λ h. c.in_ok-found.field-0 ≡ found_of (held h) c.args.arch c.args.rows.now (get_or designators c.loop-place.place Root))
          past (g.D.Disk.device c.args.disk.now) (g.D.Disk.device c.loop-place.disk) c.loop-place.invariant.reads.calls
          (c.in_ok-found.ensures.found past can));
    }
