use Rattle.rp_unchanged.proofs.Nothing.{final_unchanged, unchanged}
use Rattle.rp_unchanged.proofs.law.a_finished_image_differs_in_nothing.Goals as goal

pub returns-clause-shown : goal.returns-clause-shown
returns-clause-shown c sector old empty seen target defs known seed plan image arch is whole shows right has =
    unchanged sector old empty seen target defs known seed plan is image arch whole shows right has

pub returns-clause-final_image : goal.returns-clause-final_image
returns-clause-final_image c sector old empty seen target defs files seed plan image arch is whole fit takes final has =
    final_unchanged sector old empty seen target defs files seed plan is image arch whole fit takes final has
