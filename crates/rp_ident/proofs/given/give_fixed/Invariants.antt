use Rattle.std.proofs.Common.{◌≡◌, drop, length}
use Rattle.rp_ident.specs.Kept.{AreKept}
use Rattle.rp_ident.specs.Naming.{fixed_one, in_turn}
use Rattle.rp_ident.proofs.given.give_fixed.Given as goal

abbrev pub invariant-loop-naming : goal.invariant-loop-naming
invariant-loop-naming l = record {
  len : length l.rows ≡ length l.initial.rows;
  rest : in_turn fixed_one l.initial.rows l.namings ≡ in_turn fixed_one l.rows (drop l.naming-index l.namings);
  kept : AreKept l.rows l.used;
}
