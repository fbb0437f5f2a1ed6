use Rattle.std.proofs.Common.{◌≡◌, drop}
use Rattle.std.specs.List.{enumerate_from}
use Rattle.rp_sizes.specs.Sizes.{first_of}
use Rattle.rp_reset.specs.Mix.{mix, mix_of}
use Rattle.rp_reset.proofs.mix.mix.Given as goal

abbrev pub invariant-loop-file : goal.invariant-loop-file
invariant-loop-file l = first_of (mix_of l.defs) (enumerate_from l.file (drop l.file l.defs)) ≡ mix l.defs
