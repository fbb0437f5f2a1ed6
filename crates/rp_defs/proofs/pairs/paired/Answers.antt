use Rattle.std.proofs.Common.{◌≡◌, Ok, map, subst, List}
use Rattle.rp_defs.specs.declared.draft.Draft.{Draft}
use Rattle.rp_defs.specs.Pairs.{paired, definition_of}
use Rattle.rp_defs.proofs.Partners.{gives_paired, gives_well_formed}
use Rattle.rp_defs.proofs.pairs.paired.Goals as goal

pub returns-clause-well_formed : goal.returns-clause-well_formed
returns-clause-well_formed c =
    let all = subst (λ (drafts : List Draft). paired drafts ≡ Ok
    (map (definition_of drafts) drafts)) c.as_slice.ensures c.in_ok-joints.ensures.all in
    gives_well_formed c.args.drafts c.with_joints.result c.requires.few c.requires.sound
    (gives_paired c.args.drafts _ c.with_joints.result all c.with_joints.ensures.answer)
