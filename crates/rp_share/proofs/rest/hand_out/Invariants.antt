use Rattle.std.proofs.Common.{◌≡◌, ◌+◌, sum}
use Rattle.rp_share.specs.Share.{IsFair}
use Rattle.rp_share.proofs.rest.hand_out.Given as goal

abbrev pub invariant-loop : goal.invariant-loop
invariant-loop l = record {
  fair : IsFair l.items l.shares;
  given : sum l.shares ≡ sum l.fn.shares + l.counter;
}
