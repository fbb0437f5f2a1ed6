use Rattle.rp_apply.proofs.carrying.carry_out.Goals as goal

pub returns-clause-made : goal.returns-clause-made
returns-clause-made g c = λ o can.
    let m = c.in_ok-make_all.ensures.made o can in
    (m.0, record { found_are = m.1.found_are; ran = record { ok = m.1.ran.ok; err = tt }; roots = m.1.roots; changed = tt })
