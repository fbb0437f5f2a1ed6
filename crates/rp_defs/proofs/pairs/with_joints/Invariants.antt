-- The definitions of the drafts so far.
use Rattle.std.proofs.Common.{◌≡◌, length, map, take}
use Rattle.rp_defs.specs.Pairs.{definition_of}
use Rattle.rp_defs.proofs.pairs.with_joints.Given as goal

abbrev pub invariant-loop-draft : goal.invariant-loop-draft
invariant-loop-draft l = l.list ≡ map (definition_of l.fn.drafts) (take (length l.yielded) l.fn.drafts)
