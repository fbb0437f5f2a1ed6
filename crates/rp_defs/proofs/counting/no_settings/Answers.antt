use Rattle.std.proofs.Common.{◌≡◌, ap, ◌∙◌, replicate, Option, None, arith}
use Rattle.rp_defs.specs.Kept.{counting_of}
use Rattle.rp_defs.specs.declared.setting.Setting.{Setting}
use Rattle.rp_defs.proofs.counting.no_settings.Goals as goal

pub returns : goal.returns
unfolding counting_of
returns c =
    let all : c.loop.counter ≡ 26 = omega arith in let none : Option Setting = None in
    c.loop.invariant ∙ ap (λ n. replicate n none) all
