-- The lemmas that crates above cite; src/law.rt states each of them.
pub use Rattle.rp_layout.proofs.After.{laid_out_again}
pub use Rattle.rp_layout.proofs.Apart.{anchor_lies, dropped_lies, placed_lies, rows_apart}
pub use Rattle.rp_layout.proofs.Filled.{areas_of_own, filled_again}
pub use Rattle.rp_layout.proofs.Idle.{idle_here, seat_again}
pub use Rattle.rp_layout.proofs.Laid.{all_differ, length-answer, spot_is, spots_apart}
pub use Rattle.rp_layout.proofs.Stacks.{piece_of_less, stacks_are}
pub use Rattle.rp_layout.proofs.Woven.{woven_after}
