use Rattle.std.proofs.Common.{◌≡◌, ◌≤◌, ◌+◌, ◌*◌, ℕ, List, length, set, Some, sym, ◌∙◌, ap, arith, length-set}
use Rattle.rp_pool.specs.Region.{AreDisjoint, IsFree, first_fit}
use Rattle.rp_pool.proofs.Fit.{run_of}
use Rattle.rp_pool.proofs.Free.{fit_lent, lent_of_free}
use Rattle.rp_pool.proofs.pool.Pool.lease.Goals as goal

-- the run that is found lies in the region, and stays apart from the others
lent : (out lent_in : List ℕ) (n f : ℕ) → 1 ≤ n → AreDisjoint out → lent_in ≡ out → Some (run_of f n) ≡ first_fit lent_in n
    → (f + n ≤ length out) × AreDisjoint (set out f n) × IsFree out (run_of f n)
lent out lent_in n f some d same is = fit_lent out n f some d (is ∙ ap (λ o. first_fit o n) same)

pub overflow_cast-blocks : goal.overflow_cast-blocks
overflow_cast-blocks c =
    let few = c.self.invariant.few in
    let fit = lent c.self.inside.out.items _ c.args.blocks c.in_ok-first.first c.requires c.self.invariant.disjoint c.deref.ensures.value
    c.in_ok-first.ensures in
    let within = fit.0 in
    omega arith

pub index_mut-requires : goal.index_mut-requires
index_mut-requires c =
    let some = c.requires in
    let fit = lent c.self.inside.out.items _ c.args.blocks c.in_ok-first.first c.requires c.self.invariant.disjoint c.deref.ensures.value
    c.in_ok-first.ensures in
    let within = fit.0 in
    omega (arith, c.self.inside.out.ok.0)

pub invariant_of-self : goal.invariant_of-self
invariant_of-self c = record {
  bytes = c.self.invariant.bytes ∙ ap (λ n. 4096 * n) (sym (length-set c.self.inside.out.items c.in_ok-first.first c.args.blocks));
  few = rw length-set c.self.invariant.few;
  disjoint = (lent c.self.inside.out.items _ c.args.blocks c.in_ok-first.first c.requires c.self.invariant.disjoint c.deref.ensures.value
      c.in_ok-first.ensures).1;
}

pub returns-clause-sound : goal.returns-clause-sound
returns-clause-sound c = record {
  bytes = c.self.invariant.bytes ∙ ap (λ n. 4096 * n) (sym (length-set c.self.inside.out.items c.in_ok-first.first c.args.blocks));
  few = rw length-set c.self.invariant.few;
  disjoint = (lent c.self.inside.out.items _ c.args.blocks c.in_ok-first.first c.requires c.self.invariant.disjoint c.deref.ensures.value
      c.in_ok-first.ensures).1;
}

pub returns-clause-out : goal.returns-clause-out
returns-clause-out c = rw (← c.self.view_is) (lent_of_free c.self.inside.bytes.items c.self.inside.out.items c.in_ok-first.first c.args.blocks
    c.requires (lent c.self.inside.out.items _ c.args.blocks c.in_ok-first.first c.requires c.self.invariant.disjoint c.deref.ensures.value
    c.in_ok-first.ensures).2)
