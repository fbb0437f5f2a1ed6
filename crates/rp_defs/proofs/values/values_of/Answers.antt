use Rattle.std.proofs.Common.{◌≡◌, ◌∙◌, Option, Ok, ap, sym, inl, arith}
use Rattle.std.specs.Prelude.{IfSome}
use Rattle.std.specs.List.{range_with_len}
use Rattle.std.proofs.lemmas.List.Elements.{All-nil, All-push, All-same}
use Rattle.std.proofs.lemmas.Result.{err_from_is_err_and}
use Rattle.rp_defs.specs.declared.value.Value.{Value}
use Rattle.rp_defs.specs.Answers.{each}
use Rattle.rp_defs.specs.Value.{IsBounded}
use Rattle.rp_defs.specs.Values.{value_at, values_of}
use Rattle.rp_defs.proofs.PairLemmas.{pushed_ok}
use Rattle.rp_defs.proofs.ValueLemmas.{values_more, values_faulty}
use Rattle.rp_defs.proofs.values.values_of.Goals as goal

IsGood : Option Value → Type 0
IsGood value = IfSome value IsBounded

pub loop-key-init : goal.loop-key-init
unfolding IsGood
loop-key-init c = record {
  so_far = ap Ok (sym c.new-values.ensures);
  bounded = All-same IsGood _ _ c.new-values.ensures (All-nil IsGood);
}

pub loop-key-preserved : goal.loop-key-preserved
unfolding IsGood
loop-key-preserved c =
    let pushed = pushed_ok c.push.result _ (sym c.is_err.ensures.value ∙ c.if-is_err.false) c.push.ensures.ok in record {
      so_far = values_more (value_at c.args.arch c.args.file.now c.args.counting.now) c.loop-key.key c.loop-key.values c.in_ok-value.value
          c.loop-key.invariant.so_far c.in_ok-value.ensures.answer ∙ ap Ok (sym pushed);
      bounded = All-same IsGood _ _ pushed
          (All-push IsGood c.loop-key.values c.in_ok-value.value c.loop-key.invariant.bounded c.in_ok-value.ensures.bounded);
    }

pub returns-in_err-value-clause-answer : goal.returns-in_err-value-clause-answer
unfolding values_of
returns-in_err-value-clause-answer c =
    let p = err_from_is_err_and c.from_residual.result c.from_residual.ensures.1 in
    rw (p.1, p.2) (values_faulty (value_at c.args.arch c.args.file.now c.args.counting.now) 26 c.loop-key.key c.loop-key.values _
    (omega arith)
    c.loop-key.invariant.so_far c.in_err-value.ensures.answer)

pub returns-clause-answer : goal.returns-clause-answer
unfolding values_of
returns-clause-answer c =
    let all : c.loop-key.key ≡ 26 = omega arith in
    inl (sym c.loop-key.invariant.so_far
    ∙ ap (λ n. each (value_at c.args.arch c.args.file.now c.args.counting.now) (range_with_len 0 n)) all)
