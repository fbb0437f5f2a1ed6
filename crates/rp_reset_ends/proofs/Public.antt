-- The lemmas that crates above cite; src/law.rt states each of them.
pub use Rattle.rp_reset_ends.proofs.Alike.{calls_are_for}
pub use Rattle.rp_reset_ends.proofs.Carried.{all_of_both, broken_off, some_of_both}
