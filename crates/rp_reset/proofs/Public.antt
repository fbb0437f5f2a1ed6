-- The lemmas that crates above cite; src/law.rt states each of them.
pub use Rattle.rp_reset.proofs.Fitting.{all_same, plannable_after, reset_fits, reset_is, reset_writes, row_gone, row_stays, rows_old}
