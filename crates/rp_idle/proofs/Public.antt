-- The lemmas that crates above cite; src/law.rt states each of them.
pub use Rattle.rp_idle.proofs.Idle.{each_matched, goal_stays, idle_after, idle_final, plan_for}
pub use Rattle.rp_idle.proofs.Stepless.{no_calls, nothing_left}
pub use Rattle.rp_idle.proofs.Accepted.{plannable}
