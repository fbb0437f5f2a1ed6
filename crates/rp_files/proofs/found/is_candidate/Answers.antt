use Rattle.std.specs.Prelude.{codes}
use Rattle.std.proofs.lemmas.Str.Pattern.{ends_text}
use Rattle.rp_files.proofs.FoundLemmas.{no_conf}
use Rattle.rp_files.proofs.found.is_candidate.Goals as goal

pub returns-else-ends_with : goal.returns-else-ends_with
returns-else-ends_with c =
    no_conf c.args.name.now c.ends_with.result
    (ends_text c.ends_with.result (codes ".conf") c.args.name.now c.ends_with.ensures.cases) c.if-ends_with.false
