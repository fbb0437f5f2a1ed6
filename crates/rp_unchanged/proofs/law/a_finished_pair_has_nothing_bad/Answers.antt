use Rattle.rp_unchanged.proofs.Nothing.{final_trees}
use Rattle.rp_unchanged.proofs.Sealed.{trees_right}
use Rattle.rp_unchanged.proofs.law.a_finished_pair_has_nothing_bad.Goals as goal

pub returns-clause-held : goal.returns-clause-held
returns-clause-held c = trees_right

pub returns-clause-final_image : goal.returns-clause-final_image
returns-clause-final_image c sector old empty seen target defs files seed plan image is fit takes final =
    final_trees sector old empty seen target defs files seed plan is image fit takes final
