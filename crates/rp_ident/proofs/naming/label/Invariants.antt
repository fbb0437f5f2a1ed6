use Rattle.std.proofs.Common.{◌≡◌, drop, length}
use Rattle.std.specs.Prelude.{fold}
use Rattle.rp_ident.specs.Naming.{labeled}
use Rattle.rp_ident.proofs.naming.label.Given as goal

abbrev pub invariant-loop-naming : goal.invariant-loop-naming
invariant-loop-naming l =
    (length l.rows ≡ length l.initial.rows) × (fold labeled l.initial.rows l.namings ≡ fold labeled l.rows (drop l.naming-index l.namings))
