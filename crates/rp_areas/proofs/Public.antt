-- The lemmas that crates above cite; src/law.rt states each of them.
pub use Rattle.rp_areas.proofs.Laid.{anchors_differ, areas_anchored, areas_apart, areas_clear, areas_count, areas_used, areas_within}
pub use Rattle.rp_areas.proofs.Matched.{matched_both, matched_distinct, matched_len, matched_places}
pub use Rattle.rp_areas.proofs.Owners.{owner_new, owner_old}
pub use Rattle.rp_areas.proofs.Rematched.{matched_new, matched_old}
pub use Rattle.rp_areas.proofs.Woven.{areas_of_again, by_start_is}
