use Rattle.std.proofs.Common.{ap, ◌∙◌, refl}
use Rattle.std.specs.Prelude.{not}
use Rattle.rp_gpt.specs.Copy.{is_used}
use Rattle.rp_gpt.proofs.Parts.{all_is}
use Rattle.rp_gpt.proofs.decode.is_used.Goals as goal

pub returns : goal.returns
unfolding is_used
returns c = ap not (all_is _ 16 c.is_zero.result c.guid_at.ensures.len c.is_zero.ensures) ∙ rw c.guid_at.ensures.value refl
