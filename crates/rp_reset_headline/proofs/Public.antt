-- The lemmas that crates above cite; src/law.rt states each of them.
pub use Rattle.rp_reset_headline.proofs.Given.{calls_behind, calls_of_reset, no_contents, notes_fit, plan_fits, planned_anew, reset_for}
pub use Rattle.rp_reset_headline.proofs.Left.{done_anew, done_nothing_left, goal_anew, part_honest, part_whole}
pub use Rattle.rp_reset_headline.proofs.Moments.{ends_any, ends_exact, ends_nothing_left, left_any, left_any_whole, left_honest, left_whole}
