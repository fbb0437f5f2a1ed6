-- The lemmas that crates above cite; src/law.rt states each of them.
pub use Rattle.rp_place.proofs.Keeps.{no_slot, placement_at}
pub use Rattle.rp_place.proofs.Least.{places_are_least}
pub use Rattle.rp_place.proofs.Minima.{minima_fit, nothing_new}
pub use Rattle.rp_place.proofs.Settled.{few_settled, kept_settled, placed_settled, refused_settled}
