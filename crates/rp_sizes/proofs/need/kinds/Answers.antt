use Rattle.std.proofs.Common.{◌∷◌, ◌++◌, [], ◌∙◌, ap, sym, arith, take}
use Rattle.std.proofs.lemmas.List.{map_more, take_all}
use Rattle.rp_defs.specs.declared.definition.Definition.{Definition}
use Rattle.rp_sizes.specs.Needs.{kinds_of}
use Rattle.rp_sizes.proofs.need.kinds.Goals as goal

pub loop-def-preserved : goal.loop-def-preserved
loop-def-preserved c =
    let defs = c.args.defs.now in
    let kind = λ (def : Definition). def.kind in
    c.in_ok-push.ensures.ok ∙ ap (λ kinds. kinds ++ c.def-item.result.kind ∷ []) c.loop-def.invariant
    ∙ ap (λ def. kinds_of (take c.loop-def.def-index defs) ++ kind def ∷ []) c.def-item.is
    ∙ sym (map_more kind defs c.loop-def.def-index c.def-item.result (omega arith))

pub returns : goal.returns
returns c = c.loop-def.invariant ∙ ap kinds_of (take_all c.loop-def.def-index c.args.defs.now (omega arith))
