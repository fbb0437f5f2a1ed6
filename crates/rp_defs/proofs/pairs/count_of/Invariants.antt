-- The halves so far are counted.
use Rattle.std.proofs.Common.{◌≡◌, ◌≤◌, count_by, take}
use Rattle.rp_defs.specs.Pairs.{is_half}
use Rattle.rp_defs.proofs.pairs.count_of.Given as goal

abbrev pub invariant-loop-draft : goal.invariant-loop-draft
invariant-loop-draft l = (l.count ≡ count_by (is_half l.half l.key) (take l.draft-index l.drafts)) × (l.count ≤ l.draft-index)
