use Rattle.std.proofs.Common.{length, ap, sym, ◌∙◌, arith}
use Rattle.std.proofs.Math.ListN.{length-set}
use Rattle.rp_ini.specs.Parser.{with_assign}
use Rattle.rp_ini.proofs.FileLemmas.{length-sections_of, sections_of-set}
use Rattle.rp_ini.proofs.file.File.with_assign.Goals as goal

pub index_mut-requires : goal.index_mut-requires
index_mut-requires c =
    let n = length-sections_of c.self.inside.names c.self.inside.assigns.items c.self.invariant.paired in
    let v = ap length c.self.view_is in
    omega (arith, n, v, c.requires, c.self.inside.assigns.ok)

pub returns-clause-file : goal.returns-clause-file
returns-clause-file c =
    let n = length-sections_of c.self.inside.names c.self.inside.assigns.items c.self.invariant.paired in
    let v = ap length c.self.view_is in
    sections_of-set c.args.place c.self.inside.names c.self.inside.assigns.items c.args.assign c.index_mut.result.now c.push.new.self
    c.self.invariant.paired (omega (arith, n, v, c.requires)) c.index_mut.ensures.value c.in_ok-push.ensures.items
    ∙ ap (λ ss. with_assign c.args.place c.args.assign ss) c.self.view_is

pub returns-clause-len : goal.returns-clause-len
returns-clause-len c =
    length-sections_of c.self.inside.names _ (c.self.invariant.paired ∙ sym (length-set c.self.inside.assigns.items c.args.place c.push.new.self))
    ∙ length-set c.self.inside.assigns.items c.args.place c.push.new.self
    ∙ sym (length-sections_of c.self.inside.names c.self.inside.assigns.items c.self.invariant.paired) ∙ ap length c.self.view_is
