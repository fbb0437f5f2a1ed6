-- The digest of the top, behind the salt.
use Rattle.std.proofs.Common.{◌≡◌, ◌++◌, refl, ◌∙◌, arith}
use Rattle.std.proofs.lemmas.List.{take_all}
use Rattle.rp_base.specs.Image.{bytes_at}
use Rattle.rp_tree.proofs.check.is_rooted.Goals as goal

pub returns-clause-root : goal.returns-clause-root
returns-clause-root g c past can is =
    let payload = c.args.payload.now in
    let hash = c.args.hash.now in
    let whole : bytes_at c.root_of.result 0 32 ≡ payload.id.0 ++ hash.id.0 =
    take_all 32 c.root_of.result (omega (arith, c.root_of.ensures.len)) ∙ c.root_of.ensures.value in
    c.is_right.ensures ∙ rw (c.salt.ensures.salt, is.salt, c.in_ok-read_top.ensures.block past can, whole) refl
