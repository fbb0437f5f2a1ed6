use Rattle.std.proofs.Common.{rules, ◌+◌, List, ℕ, true, arith, subst}
use Rattle.std.specs.Prelude.{string_bytes}
use Rattle.rp_policy.specs.Written.{listed_entries}
use Rattle.rp_policy.proofs.Joined.{Grows, grows_by, listed_from, listed_step}
use Rattle.rp_policy.proofs.writing.push_listed.Goals as goal

pub loop-place-preserved : goal.loop-place-preserved
loop-place-preserved c =
    let policy = c.args.policy.now in
    grows_by 58 true (string_bytes c.args.text.now) (listed_entries policy) c.loop-place.first c.in_ok-first.first
    (string_bytes c.loop-place.text) (string_bytes c.push_listed_one.new.text) _ (listed_from policy (c.loop-place.place + 1))
    (subst (λ (e : List (List ℕ)). Grows 58 true (string_bytes c.args.text.now) (listed_entries c.args.policy.now) c.loop-place.first
    (string_bytes c.loop-place.text) e)
    (listed_step policy c.loop-place.place _ _ (omega arith) (first_of (omega arith, search rules, grind arith))) c.loop-place.invariant)
    c.in_ok-first.ensures.text c.in_ok-first.ensures.none
