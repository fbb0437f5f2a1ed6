use Rattle.std.proofs.Common.{◌≡◌, ◌<◌, ℕ, false, get_or}
use Rattle.std.specs.Prelude.{◌==◌, Option}
use Rattle.std.specs.Option.{option_map_or}
use Rattle.rp_plan.proofs.rows.file_of.Given as goal

abbrev pub invariant-loop-file : goal.invariant-loop-file
invariant-loop-file l = (k : ℕ) (d : Option ℕ) → k < l.file → option_map_or (λ p. p == l.place) (get_or l.matched k d) false ≡ false
