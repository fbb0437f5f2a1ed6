use Rattle.std.proofs.Common.{◌≡◌, map, take}
use Rattle.std.specs.List.{enumerate_from}
use Rattle.rp_base.specs.declared.guid.Guid.{Guid}
use Rattle.rp_areas.specs.Counting.{seen_of}
use Rattle.rp_areas.specs.Matching.{match_of, rank_of}
use Rattle.rp_areas.proofs.matching.assign.Given as goal

abbrev pub invariant-loop-kind : goal.invariant-loop-kind
invariant-loop-kind l = ((kind : Guid) → seen_of l.seen kind ≡ rank_of l.kinds l.kind-index kind)
    × (l.matched ≡ map (match_of l.fn.table.rows l.kinds) (take l.kind-index (enumerate_from 0 l.kinds)))
