-- The lemmas that crates above cite; src/law.rt states each of them.
pub use Rattle.rp_roots.proofs.Known.{facts_are_on}
pub use Rattle.rp_roots.proofs.Planned.{goal_has_roots, goal_is_whole}
