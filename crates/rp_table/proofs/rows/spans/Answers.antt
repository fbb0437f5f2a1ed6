use Rattle.std.proofs.Common.{ℕ, ap, sym, subst, ◌∙◌, rules, length}
use Rattle.std.specs.List.Sorted.{IsNonDecreasingBy}
use Rattle.std.proofs.lemmas.List.Sorted.{IsNonDecreasingBy-from_sort_by_key}
use Rattle.rp_table.proofs.Shared.{refilled}
use Rattle.rp_table.proofs.rows.spans.Goals as goal

pub returns-clause-rising : goal.returns-clause-rising
returns-clause-rising c =
    subst (IsNonDecreasingBy (λ (s : ℕ × ℕ). s.0)) (sym (refilled c.loop-row.spans.items c.sort_unstable_by_key.new.self (c.sort_unstable_by_key.ensures.len ∙ ap length c.deref_mut.ensures.value)))
    (IsNonDecreasingBy-from_sort_by_key (λ (s : ℕ × ℕ). s.0) c.sort_unstable_by_key.new.self c.sort_unstable_by_key.ensures.sorted (λ a r q k. search rules))
