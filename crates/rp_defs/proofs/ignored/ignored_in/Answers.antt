use Rattle.std.proofs.Common.{◌≡◌, List, ap, ◌∙◌, arith, take_all}
use Rattle.std.specs.Prelude.{sum_by}
use Rattle.rp_ini.specs.Lines.{assigns_of}
use Rattle.rp_ini.specs.declared.assign.Assign.{Assign}
use Rattle.rp_defs.specs.Settings.{ignored_in}
use Rattle.rp_defs.proofs.IgnoredLemmas.{found, few_assigns, few_ignored, one_more, sum_names}
use Rattle.rp_defs.proofs.ignored.ignored_in.Goals as goal

pub ignored_of-ignored-requires : goal.ignored_of-ignored-requires
ignored_of-ignored-requires c =
    rw c.section.ensures (let few = few_assigns c.args.file.now c.as_str-in-loop-name.result.now c.requires in omega (arith, few))

pub overflow_add-ignored : goal.overflow_add-ignored
overflow_add-ignored c =
    let file = c.args.file.now in
    let one : c.ignored_of-ignored.result ≡ ignored_in (found file c.name-item.result) =
    c.ignored_of-ignored.ensures
    ∙ ap (λ (assigns : List Assign). ignored_in (record { name = c.as_str.result.now; assigns = assigns }))
    (c.section.ensures ∙ ap (assigns_of file) c.as_str-in-loop-name.ensures)
    ∙ ap (λ name. ignored_in (record { name = name; assigns = assigns_of file c.name-item.result })) c.as_str.ensures in
    let more = one_more file c.names-name-items.result.now c.loop-name.name-index c.name-item.result c.requires c.names-name-items.ensures
    c.loop-name-test.true c.name-item.is in
    omega (arith, one, more, c.loop-name.invariant)

pub returns-clause-count : goal.returns-clause-count
returns-clause-count c =
    c.loop-name.invariant
    ∙ ap (sum_by (λ name. ignored_in (found c.args.file.now name))) (take_all _ c.names-name-items.result.now (omega arith))
    ∙ sum_names c.args.file.now c.names-name-items.result.now c.requires c.names-name-items.ensures

pub returns-clause-few : goal.returns-clause-few
returns-clause-few c = let count = returns-clause-count c in rw count (few_ignored c.args.file.now c.requires)
