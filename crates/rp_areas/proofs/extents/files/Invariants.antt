use Rattle.std.proofs.Common.{◌≡◌, ◌==◌, ◌<◌, ℕ, length, drop, get_or, None, false}
use Rattle.std.specs.List.{position_from}
use Rattle.std.specs.Option.{option_map_or}
use Rattle.rp_areas.proofs.extents.files.Given as goal

abbrev pub invariant-loop-file : goal.invariant-loop-file
invariant-loop-file l = (length l.files.items ≡ l.rows) × ((p : ℕ) → p < l.rows
    → get_or l.files.items p None ≡ position_from (λ m. option_map_or (λ q. q == p) m false) l.file (drop l.file l.matched))
