use Rattle.std.proofs.Common.{Some, sym, ap, ◌∙◌}
use Rattle.rp_files.proofs.FoundLemmas.{both_known, listed}
use Rattle.rp_files.proofs.found.add_folder.Goals as goal

pub returns-in-Some-clause-found : goal.returns-in-Some-clause-found
returns-in-Some-clause-found g c =
    both_known (g.F.Folders.told c.args.folders.now) c.add_names.result _ _ _ c.in_ok-names.ensures.names c.add_names.ensures.found
    (λ tree listing adds. listed c.args.dir.now c.as_slice.result.now c.args.found.now.entries c.add_names.new.found.entries tree
    c.in_ok-names.field-0
    (c.in-Some.is ∙ ap Some (sym c.as_slice.ensures)) listing adds)
