-- The lemmas that crates above cite; src/law.rt states each of them.
pub use Rattle.rp_reset_stops.proofs.Given.{done_both, middle_rows, middle_seen, plan_behind}
pub use Rattle.rp_reset_stops.proofs.Through.{final_last, moment_honest, moment_whole, rows_last, seen_last, stops_honest, stops_whole}
