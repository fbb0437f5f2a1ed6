-- The candidates before this one are some row's.
use Rattle.std.proofs.Common.{◌≡◌, ◌<◌, ◌-◌, ℕ, true, map}
use Rattle.std.specs.Prelude.{find, not}
use Rattle.std.specs.List.{range_with_len}
use Rattle.rp_hmac.specs.Derived.{derived}
use Rattle.rp_ident.specs.Naming.{first_unused, is_used}
use Rattle.rp_ident.proofs.given.first_unused.Given as goal

abbrev pub invariant-loop-k : goal.invariant-loop-k
invariant-loop-k l = record {
  rest : first_unused l.seed l.rows l.kind
      ≡ find (λ id. not (is_used l.rows id)) (map (derived l.seed l.kind.0) (range_with_len l.k (256 - l.k)));
  tried : (j : ℕ) → j < l.k → is_used l.rows (derived l.seed l.kind.0 j) ≡ true;
}
