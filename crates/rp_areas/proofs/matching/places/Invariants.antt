use Rattle.std.proofs.Common.{◌≡◌, ℕ, length, slice_get}
use Rattle.std.specs.Option.{option_map}
use Rattle.rp_base.specs.declared.guid.Guid.{Guid}
use Rattle.rp_areas.specs.Counting.{seen_of, place_in}
use Rattle.rp_areas.proofs.Ranks.{first_of}
use Rattle.rp_areas.proofs.matching.places.Given as goal

abbrev pub invariant-loop-place : goal.invariant-loop-place
invariant-loop-place l = ((kind : Guid) → seen_of l.seen kind ≡ length (first_of l.rows l.place kind))
    × ((kind : Guid) → (rank : ℕ) → place_in l.places kind rank ≡ option_map (λ p. p.0) (slice_get (first_of l.rows l.place kind) rank))
