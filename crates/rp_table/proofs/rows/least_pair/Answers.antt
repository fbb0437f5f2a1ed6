use Rattle.std.proofs.Common.{ℕ, ◌+◌, ◌∙◌, sym, ap, option_map, arith}
use Rattle.std.proofs.lemmas.List.{take_rest}
use Rattle.rp_table.proofs.FromPlace.{overlap_past, overlap_here, overlap_end}
use Rattle.rp_table.proofs.rows.least_pair.Goals as goal

pub returns-in-Some : goal.returns-in-Some
returns-in-Some c =
    let e = take_rest c.args.rows.now (c.loop-i.i + 1) in
    sym (ap (option_map {U = ℕ × ℕ} (λ pair. (pair.0.slot, pair.1.slot))) c.loop-i.invariant
    ∙ overlap_here c.args.rows.now c.loop-i.i _ (omega arith) c.in-Some.later (rw e at (sym c.in-Some.ensures)))

pub loop-i-preserved : goal.loop-i-preserved
loop-i-preserved c =
    let e = take_rest c.args.rows.now (c.loop-i.i + 1) in
    c.loop-i.invariant ∙ overlap_past c.args.rows.now c.loop-i.i _ (omega arith) (rw e at (sym c.in_default.ensures))

pub returns : goal.returns
returns c = sym (ap (option_map {U = ℕ × ℕ} (λ pair. (pair.0.slot, pair.1.slot))) (c.loop-i.invariant ∙ overlap_end c.args.rows.now c.loop-i.i (omega arith)))
