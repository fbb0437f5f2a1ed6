-- The pieces so far are set.
use Rattle.std.proofs.Common.{◌≡◌, ◌*◌, ◌≤◌, take, Ok}
use Rattle.rp_defs.proofs.SectionLemmas.{set_by}
use Rattle.rp_defs.proofs.sections.settings_of.Given as goal

abbrev pub invariant-loop-piece : goal.invariant-loop-piece
invariant-loop-piece l = record {
  so_far : set_by (take l.piece-index l.pieces) ≡ Ok l.settings;
  bound : l.settings.ignored ≤ 65536 * l.piece-index;
}
