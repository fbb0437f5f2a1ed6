use Rattle.std.proofs.Common.{◌≡◌, drop, length}
use Rattle.rp_ident.specs.Kept.{AreKept}
use Rattle.rp_ident.specs.Naming.{derived_one, in_turn}
use Rattle.rp_ident.specs.Tried.{AreTried}
use Rattle.rp_ident.proofs.given.give_derived.Given as goal

abbrev pub invariant-loop-naming : goal.invariant-loop-naming
invariant-loop-naming l = record {
  len : length l.rows ≡ length l.initial.rows;
  rest : in_turn (derived_one l.seed) l.initial.rows l.namings ≡ in_turn (derived_one l.seed) l.rows (drop l.naming-index l.namings);
  kept : AreKept l.rows l.used;
  tried : AreTried l.seed l.rows l.tried;
}
