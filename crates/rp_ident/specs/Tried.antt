-- Which identifiers were tried for types: serves this crate's proofs.
use Rattle.std.specs.Prelude.{ℕ, ◌≡◌, ◌<◌, ◌≤◌, true, List, All}
use Rattle.rp_base.specs.declared.guid.Guid.{Guid}
use Rattle.rp_base.specs.declared.table.Row.{Row}
use Rattle.rp_hmac.specs.Derived.{derived}
use Rattle.rp_ident.specs.Naming.{is_used}
use Rattle.rp_ident.specs.declared.tried.Tried.{Tried}

-- each identifier derived for a type with a number before this one is some row's
pub record IsTried (seed : Guid) (rows : List Row) (kind : Guid) (next : ℕ) : Type 0 where
  pub few : next ≤ 256
  pub used : (k : ℕ) → k < next → is_used rows (derived seed kind.0 k) ≡ true

-- the same of each type that is remembered
abbrev pub AreTried : Guid → List Row → List Tried → Type 0
AreTried seed rows tried = All (λ (each : Tried). IsTried seed rows each.kind each.next) tried
