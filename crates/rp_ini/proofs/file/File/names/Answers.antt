use Rattle.std.proofs.Common.{map, ap, sym, ◌∙◌}
use Rattle.rp_ini.specs.Lines.{Section}
use Rattle.rp_ini.proofs.FileLemmas.{names_of-sections}
use Rattle.rp_ini.proofs.file.File.names.Goals as goal

pub returns : goal.returns
returns c = c.as_slice.ensures ∙ sym (names_of-sections _ _ c.self.invariant.paired) ∙ ap (λ ss. map (λ (s : Section). s.name) ss) c.self.view_is
