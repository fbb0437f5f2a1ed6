use Rattle.std.proofs.Common.{◌≡◌, ◌∙◌, ◌≤◌, ◌<◌, ◌+◌, ℕ, [], rules, ap, sym, arith, length, length-take, slice_get, take, map, cond, Option, get_or, List}
use Rattle.std.specs.List.{enumerate_from}
use Rattle.std.specs.Option.{option_map}
use Rattle.std.proofs.lemmas.List.{take_all}
use Rattle.std.proofs.lemmas.List.FromFn.{length-enumerate_from}
use Rattle.std.proofs.lemmas.List.Sums.{count_by-le-length, fold_more}
use Rattle.rp_base.specs.declared.guid.Guid.{Guid}
use Rattle.rp_base.specs.declared.table.Row.{Row}
use Rattle.rp_areas.specs.Counting.{place_in}
use Rattle.rp_areas.specs.Matching.{is_kind, match_of, matches_of, rank_of, rows_of}
use Rattle.rp_areas.proofs.Matched.{matched_len, matched_places}
use Rattle.rp_areas.proofs.Places.{map-enumerate_more}
use Rattle.rp_areas.proofs.matching.assign.Goals as goal

below_bound : {a b n i : ℕ} → a ≡ b → b ≤ n → n ≤ i → i < 18446744073709551615 → a < 18446744073709551615
below_bound e l k h = omega arith

one_more : {a b m n : ℕ} (k : ℕ) → a ≡ b + k → b ≡ n → m ≡ n + k → a ≡ m
one_more k e f g = omega arith

abbrev no_kind : Guid
no_kind = record { 0 = [] }

pub next_rank-requires : goal.next_rank-requires
next_rank-requires c =
    let few : length (take c.loop-kind.kind-index c.args.kinds.now) ≤ c.loop-kind.kind-index = omega
    (arith, length-take c.loop-kind.kind-index c.args.kinds.now) in
    below_bound (c.loop-kind.invariant.0 _) (count_by-le-length _ (take c.loop-kind.kind-index c.args.kinds.now)) few (omega arith)

pub loop-kind-preserved : goal.loop-kind-preserved
loop-kind-preserved c =
    let below : c.loop-kind.kind-index < length c.args.kinds.now = omega arith in
    let kind : Guid = get_or c.args.kinds.now c.loop-kind.kind-index no_kind in
    let got : c.copied.result ≡ place_in c.in_ok-places.places kind c.in_ok-rank.rank = search rules in
    let rank : c.in_ok-rank.rank ≡ rank_of c.args.kinds.now c.loop-kind.kind-index kind = c.in_ok-rank.ensures.rank
    ∙ c.loop-kind.invariant.0 kind in
    let place : c.copied.result ≡ match_of c.args.table.now.rows c.args.kinds.now (c.loop-kind.kind-index, kind) =
    got ∙ c.in_ok-places.ensures kind c.in_ok-rank.rank ∙ ap (λ rows. option_map (λ (p : ℕ × Row). p.0)
    (slice_get (rows_of rows kind) c.in_ok-rank.rank)) c.as_slice.ensures
    ∙ ap (λ r. option_map (λ (p : ℕ × Row). p.0) (slice_get (rows_of c.args.table.now.rows kind) r)) rank in (
      (λ other. one_more _ (c.in_ok-rank.ensures.seen other) (c.loop-kind.invariant.0 other)
          (fold_more (λ n k. n + cond (is_kind k other) 1 0) 0 c.args.kinds.now c.loop-kind.kind-index no_kind below)),
      (c.in_ok-push.ensures.ok ∙ rw (c.loop-kind.invariant.1, place) (sym
          (map-enumerate_more (match_of c.args.table.now.rows c.args.kinds.now) c.args.kinds.now c.loop-kind.kind-index no_kind below))),
    )

-- the matches, as the loop leaves them
made : (rows : List Row) (kinds : List Guid) (n : ℕ) (matched : List (Option ℕ)) → length kinds ≤ n
    → matched ≡ map (match_of rows kinds) (take n (enumerate_from 0 kinds)) → matched ≡ matches_of rows kinds
made rows kinds n matched all is = is ∙ ap (map (match_of rows kinds)) (take_all n (enumerate_from 0 kinds) (rw length-enumerate_from all))

pub returns-clause-matches : goal.returns-clause-matches
returns-clause-matches c = made c.args.table.now.rows c.args.kinds.now c.loop-kind.kind-index c.loop-kind.matched (omega arith)
    c.loop-kind.invariant.1

pub returns-clause-len : goal.returns-clause-len
returns-clause-len c = rw (made c.args.table.now.rows c.args.kinds.now c.loop-kind.kind-index c.loop-kind.matched (omega arith)
    c.loop-kind.invariant.1) (matched_len c.args.table.now.rows c.args.kinds.now)

pub returns-clause-places : goal.returns-clause-places
returns-clause-places c = rw (made c.args.table.now.rows c.args.kinds.now c.loop-kind.kind-index c.loop-kind.matched (omega arith)
    c.loop-kind.invariant.1) (matched_places c.args.table.now.rows c.args.kinds.now)
