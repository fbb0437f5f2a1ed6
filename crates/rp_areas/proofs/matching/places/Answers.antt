use Rattle.std.proofs.Common.{◌≡◌, ◌∙◌, ◌≤◌, ◌<◌, ℕ, ◌+◌, ap, arith, length, slice_get}
use Rattle.std.specs.Option.{option_map}
use Rattle.rp_areas.proofs.Ranks.{first_all, length-first_more, length-first_of, place_more}
use Rattle.rp_areas.proofs.Rows.{no_row}
use Rattle.rp_areas.proofs.matching.places.Goals as goal

below_bound : {a b n : ℕ} → a ≡ b → b ≤ n → n ≤ 65535 → a < 18446744073709551615
below_bound e l k = omega arith

pub next_rank-requires : goal.next_rank-requires
next_rank-requires c = below_bound (c.loop-place.invariant.0 _) (length-first_of _ _ _) c.requires

one_more : {a b m n : ℕ} (k : ℕ) → a ≡ b + k → b ≡ n → m ≡ n + k → a ≡ m
one_more k e f g = omega arith

pub loop-place-preserved : goal.loop-place-preserved
loop-place-preserved c =
    let below : c.loop-place.place < length c.args.rows.now = omega arith in (
      (λ kind. one_more _ (c.in_ok-rank.ensures.seen kind) (c.loop-place.invariant.0 kind)
          (length-first_more c.args.rows.now c.loop-place.place no_row kind below)),
      (λ kind rank. place_more c.args.rows.now c.loop-place.place no_row kind rank c.in_ok-rank.rank _ _ below
          (c.in_ok-rank.ensures.rank ∙ c.loop-place.invariant.0 _) (c.loop-place.invariant.1 kind rank)
          (c.in_ok-insert.ensures.updates.0 (kind.0, rank))),
    )

pub returns : goal.returns
returns c kind rank =
    let all : length c.args.rows.now ≤ c.loop-place.place = omega arith in
    c.loop-place.invariant.1 kind rank ∙ ap (λ ps. option_map (λ p. p.0) (slice_get ps rank))
    (first_all c.args.rows.now c.loop-place.place kind all)
