-- The lemmas that crates above cite; src/law.rt states each of them.
pub use Rattle.rp_headline.proofs.Kept.{places_kept}
pub use Rattle.rp_headline.proofs.Left.{are_calls_of, done_with, ends_any, ends_with, has_goal, idle_then, is_final}
pub use Rattle.rp_headline.proofs.Left.{is_left, is_left_any, is_left_whole, is_untouched, left_with, rows_filled, rows_hold, rows_kept}
pub use Rattle.rp_headline.proofs.Shown.{shows_goal}
