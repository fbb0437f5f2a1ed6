-- The lemmas that crates above cite; src/law.rt states each of them.
pub use Rattle.rp_share.proofs.AgainLemmas.{again_of_exact, again_of_new, again_of_row, rest_share, share_part, shares_again}
pub use Rattle.rp_share.proofs.LawLemmas.{one_share}
pub use Rattle.rp_share.proofs.ValueLemmas.{share_is, value_of_share}
