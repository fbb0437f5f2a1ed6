-- No draft so far is the half.
use Rattle.std.proofs.Common.{◌≡◌, ◌<◌, ℕ, false, get_or}
use Rattle.rp_defs.specs.declared.draft.Draft.{Draft}
use Rattle.rp_defs.specs.Pairs.{is_half}
use Rattle.rp_defs.proofs.pairs.first_of.Given as goal

abbrev pub invariant-loop-place : goal.invariant-loop-place
invariant-loop-place l = (k : ℕ) (d : Draft) → k < l.place → is_half l.half l.key (get_or l.drafts k d) ≡ false
