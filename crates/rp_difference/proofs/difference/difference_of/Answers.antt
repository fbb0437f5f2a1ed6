-- What differs of the table is first.
use Rattle.std.proofs.Common.{◌∙◌, Some, IfOk, refl, sym, subst}
use Rattle.rp_disk.specs.History.{held}
use Rattle.rp_disk.specs.Made.{history_of}
use Rattle.rp_disk.proofs.Noting.{earlier_same}
use Rattle.rp_tree.proofs.ReadsLemmas.{ok-map}
use Rattle.rp_difference.specs.Difference.{BeginsWith}
use Rattle.rp_difference.proofs.Differing.{by_table, by_trees}
use Rattle.rp_difference.proofs.difference.difference_of.Goals as goal

pub returns-in-Some-clause-answer : goal.returns-in-Some-clause-answer
returns-in-Some-clause-answer g c past can =
    by_table (held (history_of past (g.D.Disk.device c.args.disk.now).calls)) c.args.arch c.args.seen.now c.args.plan.now c.in-Some.found
    (sym c.table_difference.ensures ∙ c.in-Some.is)

pub returns-clause-answer : goal.returns-clause-answer
returns-clause-answer g c past can =
    ok-map c.trees_difference.result
    (λ found. by_trees (held (history_of past (g.D.Disk.device c.args.disk.now).calls)) c.args.arch c.args.seen.now c.args.plan.now found
    (sym c.table_difference.ensures ∙ c.in_default.is))
    (c.trees_difference.ensures.found past can)

pub returns-in-Some-clause-table : goal.returns-in-Some-clause-table
returns-in-Some-clause-table g c =
    subst (λ first. BeginsWith first (Some c.in-Some.found)) (sym (sym c.table_difference.ensures ∙ c.in-Some.is)) refl

pub returns-clause-table : goal.returns-clause-table
returns-clause-table g c =
    subst (λ first. IfOk c.trees_difference.result (BeginsWith first)) (sym (sym c.table_difference.ensures ∙ c.in_default.is))
    c.trees_difference.ensures.tree

pub returns-in-Some-clause-earlier : goal.returns-in-Some-clause-earlier
returns-in-Some-clause-earlier g c = earlier_same (g.D.Disk.device c.args.disk.now)
