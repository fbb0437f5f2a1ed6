-- None of the digests before is another.
use Rattle.std.proofs.Common.{◌≡◌, None}
use Rattle.std.specs.Prelude.{find}
use Rattle.std.specs.List.{range_with_len}
use Rattle.rp_tree.proofs.PieceLemmas.{other}
use Rattle.rp_tree.proofs.right.first_other.Given as goal

abbrev pub invariant-loop-k : goal.invariant-loop-k
invariant-loop-k l = find (other l.own l.digests) (range_with_len 0 l.k) ≡ None
