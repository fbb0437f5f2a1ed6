-- One candidate after another.
use Rattle.std.proofs.Common.{◌≡◌, ◌<◌, ◌-◌, ℕ, true, false, refl, sym, ◌∙◌, ap, below_more, arith}
use Rattle.std.specs.Prelude.{Some, not}
use Rattle.rp_base.specs.declared.guid.Guid.{Guid}
use Rattle.rp_hmac.specs.Derived.{derived}
use Rattle.rp_ident.specs.Naming.{first_unused, is_used}
use Rattle.rp_ident.proofs.KeptLemmas.{not-false, not-true}
use Rattle.rp_ident.proofs.NamingLemmas.{find-here, find-next}
use Rattle.rp_ident.proofs.TriedLemmas.{find-from}
use Rattle.rp_ident.proofs.given.first_unused.Goals as goal

pub loop-k-init : goal.loop-k-init
unfolding first_unused
loop-k-init c = record {
  rest = find-from (λ (id : Guid). not (is_used c.args.rows.now id)) (derived c.args.seed c.args.kind.0) 256 c.args.from c.requires.few
      (λ k below. ap not (c.requires.tried k below));
  tried = c.requires.tried;
}

pub loop-k-preserved : goal.loop-k-preserved
loop-k-preserved c =
    let fails : not (is_used c.args.rows.now (derived c.args.seed c.args.kind.0 c.loop-k.k)) ≡ false =
    rw (← c.derived.ensures.value, ← c.is_used.ensures, c.if-not-is_used.false) refl in
    record {
      rest = c.loop-k.invariant.rest
          ∙ find-next (λ (id : Guid). not (is_used c.args.rows.now id)) (derived c.args.seed c.args.kind.0) c.loop-k.k 256
          c.loop-k-test.true fails;
      tried = below_more _ _ c.loop-k.invariant.tried (not-false _ fails);
    }

pub returns-then-not-is_used-clause-id : goal.returns-then-not-is_used-clause-id
returns-then-not-is_used-clause-id c =
    let passes : not (is_used c.args.rows.now (derived c.args.seed c.args.kind.0 c.loop-k.k)) ≡ true =
    rw (← c.derived.ensures.value, ← c.is_used.ensures, c.if-not-is_used.true) refl in
    sym (c.loop-k.invariant.rest
    ∙ find-here (λ (id : Guid). not (is_used c.args.rows.now id)) (derived c.args.seed c.args.kind.0) c.loop-k.k 256
    c.loop-k-test.true passes)
