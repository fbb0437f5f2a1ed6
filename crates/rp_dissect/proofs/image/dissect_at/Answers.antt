-- The table, then what is found of each designator, then the verdicts.
use Rattle.std.proofs.Common.{◌≡◌, ℕ, List, length, refl, ◌∙◌, inl, inr, subst}
use Rattle.std.specs.Prelude.{map}
use Rattle.rp_base.specs.Answers.{Gives}
use Rattle.rp_base.specs.Faults.{Rose}
use Rattle.rp_base.specs.declared.table.Row.{Row}
use Rattle.rp_disk.specs.History.{held}
use Rattle.rp_disk.specs.Made.{history_of}
use Rattle.rp_disk.proofs.Noting.{can_before, earlier_then}
use Rattle.rp_policy.specs.Reading.{designators}
use Rattle.rp_tree.proofs.ReadsLemmas.{as_before}
use Rattle.rp_verdict.specs.Verdicts.{listed, whole}
use Rattle.rp_verdict.specs.declared.verdict.DissectFault.TheVariants as faults
use Rattle.rp_dissect.specs.Kinds.{found_of}
use Rattle.rp_dissect.specs.Reach.{farthest}
use Rattle.rp_dissect.proofs.Reading.{err_answer, kept_of, ok_answer, rows_in, stays_inside}
use Rattle.rp_dissect.proofs.image.dissect_at.Goals as goal

pub returns-in-Err-clause-answer : goal.returns-in-Err-clause-answer
returns-in-Err-clause-answer g c past can =
    err_answer c.args.sector c.args.arch c.args.policy.now (held (history_of past (g.D.Disk.device c.args.disk.now).calls)) c.in-Err.fault c.of_table.result
    c.of_table.ensures.value (c.in-Err.ensures.answer past can)

pub returns-in_default-found_in-clause-inside : goal.returns-in_default-found_in-clause-inside
returns-in_default-found_in-clause-inside g c =
    stays_inside (g.D.Disk.device c.args.disk.now) (g.D.Disk.device c.read_at.new.disk) (g.D.Disk.device c.found_in.new.disk)
    (farthest c.as_slice-rows.result.now) c.in-Ok.ensures.calls c.in_default-found_in.ensures.reads.earlier c.in-Ok.ensures.inside
    (λ past can. rows_in c.args.sector c.in-Ok.seen c.as_slice-rows.result.now (length (held (history_of past (g.D.Disk.device c.args.disk.now).calls)))
    c.in-Ok.ensures.seen c.as_slice-rows.ensures (c.in-Ok.ensures.len past can))
    c.in_default-found_in.ensures.reads.inside

pub returns-in_default-found_in-clause-answer : goal.returns-in_default-found_in-clause-answer
returns-in_default-found_in-clause-answer g c past can = inl refl

pub returns-in_default-found_in-clause-fault : goal.returns-in_default-found_in-clause-fault
returns-in_default-found_in-clause-fault g c = λ e.
    subst (λ (n : ℕ). Rose n (g.D.Disk.device c.found_in.new.disk).faults) (kept_of c.in-Ok.seen _ _ c.in-Ok.ensures.kept)
    c.in_default-found_in.ensures.reads.cause.failed

pub returns-clause-inside : goal.returns-clause-inside
returns-clause-inside g c =
    stays_inside (g.D.Disk.device c.args.disk.now) (g.D.Disk.device c.read_at.new.disk) (g.D.Disk.device c.found_in.new.disk)
    (farthest c.as_slice-rows.result.now) c.in-Ok.ensures.calls c.in-Ok-found_in.ensures.reads.earlier c.in-Ok.ensures.inside
    (λ past can. rows_in c.args.sector c.in-Ok.seen c.as_slice-rows.result.now (length (held (history_of past (g.D.Disk.device c.args.disk.now).calls)))
    c.in-Ok.ensures.seen c.as_slice-rows.ensures (c.in-Ok.ensures.len past can))
    c.in-Ok-found_in.ensures.reads.inside

pub returns-clause-answer : goal.returns-clause-answer
returns-clause-answer g c past can =
    let arch = c.args.arch in
    let policy = c.args.policy.now in
    let image = held (history_of past (g.D.Disk.device c.args.disk.now).calls) in
    let found : c.in-Ok-found_in.found ≡ map (found_of image arch c.as_slice-rows.result.now) designators =
    as_before (λ h. c.in-Ok-found_in.found ≡ map (found_of (held h) arch c.as_slice-rows.result.now) designators) past (g.D.Disk.device c.args.disk.now)
    (g.D.Disk.device c.read_at.new.disk) c.in-Ok.ensures.calls
    (c.in-Ok-found_in.ensures.found past can) in
    ok_answer c.args.sector arch policy image c.in-Ok.seen c.verdicts_by.result
    (subst (λ (rows : List Row). Gives faults.Memory (whole arch rows (listed policy arch rows (found_of image arch rows))) c.verdicts_by.result)
    c.as_slice-rows.ensures (c.verdicts_by.ensures.gives (found_of image arch c.as_slice-rows.result.now) found))
    (c.in-Ok.ensures.answer past (can_before c.in-Ok-found_in.ensures.reads.earlier can))

pub returns-clause-kept : goal.returns-clause-kept
returns-clause-kept g c = inr (c.in-Ok-found_in.ensures.reads.cause.kept ∙ kept_of c.in-Ok.seen _ _ c.in-Ok.ensures.kept)

pub returns-in_default-found_in-clause-earlier : goal.returns-in_default-found_in-clause-earlier
returns-in_default-found_in-clause-earlier g c = earlier_then c.in-Ok.ensures.earlier c.in_default-found_in.ensures.reads.earlier

pub returns-clause-earlier : goal.returns-clause-earlier
returns-clause-earlier g c = earlier_then c.in-Ok.ensures.earlier c.in-Ok-found_in.ensures.reads.earlier
