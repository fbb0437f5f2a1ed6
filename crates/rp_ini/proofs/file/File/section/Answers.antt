use Rattle.std.proofs.Common.{ap, ◌∙◌}
use Rattle.rp_ini.specs.Lines.{assigns_of}
use Rattle.rp_ini.proofs.FileLemmas.{section_found, section_missing}
use Rattle.rp_ini.proofs.file.File.section.Goals as goal

pub returns-in-Some : goal.returns-in-Some
returns-in-Some c =
    c.as_slice.ensures.value
    ∙ section_found c.args.name.now c.self.inside.index.keys c.self.inside.names c.self.inside.assigns.items c.in-Some.place c.index.result.now
    c.self.invariant.keyed c.self.invariant.paired c.in-Some.ensures.index c.index.ensures
    ∙ ap (λ ss. assigns_of ss c.args.name.now) c.self.view_is

pub returns-in-None : goal.returns-in-None
returns-in-None c =
    section_missing c.args.name.now c.self.inside.index.keys c.self.inside.names c.self.inside.assigns.items c.self.invariant.keyed c.in-None.ensures.index
    ∙ ap (λ ss. assigns_of ss c.args.name.now) c.self.view_is
