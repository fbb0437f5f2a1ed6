-- The drafts so far are joined.
use Rattle.std.proofs.Common.{◌≡◌, map, take, None}
use Rattle.std.specs.Prelude.{find}
use Rattle.rp_defs.specs.Joints.{joint_of}
use Rattle.rp_defs.proofs.PairLemmas.{is_unjoined}
use Rattle.rp_defs.proofs.pairs.joints_of.Given as goal

abbrev pub invariant-loop-draft : goal.invariant-loop-draft
invariant-loop-draft l = record {
  joints : l.joints ≡ map (joint_of l.drafts) (take l.draft-index l.drafts);
  all : find (is_unjoined l.drafts) (take l.draft-index l.drafts) ≡ None;
}
