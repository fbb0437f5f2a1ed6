-- The pieces before the next group have their drafts, and those left give the answer.
use Rattle.std.proofs.Common.{◌≡◌, ◌≤◌, ◌-◌, ◌*◌, length, drop}
use Rattle.std.specs.Prelude.{All}
use Rattle.rp_defs.specs.Drafting.{drafts_of}
use Rattle.rp_defs.specs.SoundDraft.{IsSoundDraft}
use Rattle.rp_defs.proofs.DraftLemmas.{with_rest}
use Rattle.rp_defs.proofs.reader.drafts_of.Given as goal

abbrev pub invariant-loop-start : goal.invariant-loop-start
invariant-loop-start l = record {
  within : l.start ≤ length l.pieces;
  answer : drafts_of l.arch l.pieces ≡ with_rest l.arch l.drafts (drop l.start l.pieces);
  count : length l.drafts.list ≤ l.start;
  bound : l.drafts.ignored ≤ 65536 * l.start;
  sound : All IsSoundDraft l.drafts.list;
}

abbrev pub decreases-loop-start : goal.decreases-loop-start
decreases-loop-start l = length l.pieces - l.start
