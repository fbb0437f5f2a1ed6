-- The block is taken by its digest.
use Rattle.std.proofs.Common.{◌≡◌, ◌∙◌, ap}
use Rattle.rp_verity.specs.Tree.{digest}
use Rattle.rp_verity.proofs.builder.Builder.push.Goals as goal

pub returns-clause-taken : goal.returns-clause-taken
returns-clause-taken g c salt taken has =
    c.push_digest.ensures.taken salt c.args.self.now.next.items taken has
    (c.digest_of-digest.ensures salt has.salted ∙ ap (digest salt) c.as_slice.ensures.value)

pub returns-clause-puts : goal.returns-clause-puts
returns-clause-puts g c salt taken rest has all =
    c.push_digest.ensures.puts salt c.args.self.now.next.items taken rest has
    (c.digest_of-digest.ensures salt has.salted ∙ ap (digest salt) c.as_slice.ensures.value) all

pub returns-clause-cut : goal.returns-clause-cut
returns-clause-cut g c salt taken rest has all =
    c.push_digest.ensures.cut salt c.args.self.now.next.items taken rest has
    (c.digest_of-digest.ensures salt has.salted ∙ ap (digest salt) c.as_slice.ensures.value) all
