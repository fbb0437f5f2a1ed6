-- The hash blocks that are left over wait, and are written.
use Rattle.std.proofs.Common.{◌≡◌, ℕ, ◌≤◌, List, ◌++◌, length, sym, subst, ◌∙◌, ap, arith}
use Rattle.rp_base.specs.Trees.{levels}
use Rattle.rp_disk.proofs.Runs.{on_err}
use Rattle.rp_disk.specs.Made.{dones}
use Rattle.rp_disk.specs.Runs.{MadeFirst}
use Rattle.rp_verity.specs.Builder.{HasTaken}
use Rattle.rp_verity.specs.Order.{left_over}
use Rattle.rp_verity.specs.Tree.{stored_tree}
use Rattle.rp_format.specs.Puts.{EndBy, writes_of}
use Rattle.rp_format.specs.Taking.{left_puts}
use Rattle.rp_format.specs.Waiting.{puts_of}
use Rattle.rp_format.specs.Written.{LieIn}
use Rattle.rp_format.proofs.Pushed.{finished_puts, left_ends, length-left_over, length-placed, not_refused}
use Rattle.rp_disk.proofs.Noting.{earlier_same}
use Rattle.rp_format.proofs.Steps.{broke_first}
use Rattle.rp_format.proofs.Told.{stays_of, stays_says, stays_weaker}
use Rattle.rp_format.proofs.format.finish.Goals as goal

pub returns-in_err-root-clause-cause : goal.returns-in_err-root-clause-cause
returns-in_err-root-clause-cause g c =
    let taken : List (List ℕ) = c.requires.taken.0 in
    let has : HasTaken c.args.builder c.args.tree.now.salt taken = c.requires.taken.1 in
    let count : length taken ≡ c.args.tree.now.blocks = sym has.pushed ∙ c.requires.builder.pushed in
    let sound = c.requires.builder.sound in
    let low : c.args.builder.count ≤ 5 = sound.low in
    let over : levels (length taken) ≡ c.args.builder.count = ap levels (count ∙ sym c.requires.builder.blocks) ∙ sym sound.count in
    let few : levels (length taken) ≤ 5 = omega (arith, over, low) in
    absurd (not_refused c.finish.new.out _ _ _ c.requires.waiting.faults c.requires.waiting.puts
    (c.in_err-root.ensures.cut c.args.tree.now.salt taken
    (record { salted = has.salted; pushed = has.pushed; room = has.room; root = has.root }))
    (omega (
      arith,
      length-placed (stored_tree c.args.tree.now.salt taken)
          (left_over (levels (length taken)) (length taken)),
      length-left_over (levels (length taken)) (length taken),
    ))
    c.in_err-root.ensures.cause.failed)

pub write_to-requires : goal.write_to-requires
write_to-requires g c =
    let taken : List (List ℕ) = c.requires.taken.0 in
    let has : HasTaken c.args.builder c.args.tree.now.salt taken = c.requires.taken.1 in
    let count : length taken ≡ c.args.tree.now.blocks = sym has.pushed ∙ c.requires.builder.pushed in
    let are : puts_of c.finish.new.out ≡ left_puts c.args.tree.now taken =
    finished_puts c.args.tree.now taken _ _ count c.requires.waiting.puts
    (c.in_ok-root.ensures.puts c.args.tree.now.salt taken
    (record { salted = has.salted; pushed = has.pushed; room = has.room; root = has.root })) in
    let ends : EndBy c.args.tree.now.hash_at 18446744073709551615 (left_puts c.args.tree.now taken) =
    left_ends c.args.tree.now c.requires.plan taken 18446744073709551615 (let fits = c.requires.plan.hash_fits in omega arith) in
    record { ends = subst (EndBy c.args.tree.now.hash_at 18446744073709551615) (sym are) ends }

pub returns-in_err-write_to-clause-failed : goal.returns-in_err-write_to-clause-failed
returns-in_err-write_to-clause-failed g c = λ taken has.
    let count : length taken ≡ c.args.tree.now.blocks = sym has.pushed ∙ c.requires.builder.pushed in
    let are : puts_of c.finish.new.out ≡ left_puts c.args.tree.now taken =
    finished_puts c.args.tree.now taken _ _ count c.requires.waiting.puts
    (c.in_ok-root.ensures.puts c.args.tree.now.salt taken
    (record { salted = has.salted; pushed = has.pushed; room = has.room; root = has.root })) in
    let made = broke_first _ _ _ c.in_err-write_to.ensures.ran.err in
    on_err c.from_residual-in_err-write_to.result
    (subst (λ (puts : List (ℕ × List ℕ)). MadeFirst (g.D.Disk.device c.args.disk.now).calls (writes_of c.args.tree.now.hash_at puts)
    (g.D.Disk.device c.write_to.new.disk).calls) are made)

pub returns-clause-done : goal.returns-clause-done
returns-clause-done g c = λ taken has.
    let count : length taken ≡ c.args.tree.now.blocks = sym has.pushed ∙ c.requires.builder.pushed in
    let are : puts_of c.finish.new.out ≡ left_puts c.args.tree.now taken =
    finished_puts c.args.tree.now taken _ _ count c.requires.waiting.puts
    (c.in_ok-root.ensures.puts c.args.tree.now.salt taken
    (record { salted = has.salted; pushed = has.pushed; room = has.room; root = has.root })) in
    c.in_ok-write_to.ensures.ran.ok
    ∙ ap (λ (puts : List (ℕ × List ℕ)). (g.D.Disk.device c.args.disk.now).calls ++ dones (writes_of c.args.tree.now.hash_at puts)) are

pub returns-in_err-write_to-clause-strays : goal.returns-in_err-write_to-clause-strays
returns-in_err-write_to-clause-strays g c = λ o can.
    let taken : List (List ℕ) = c.requires.taken.0 in
    let has : HasTaken c.args.builder c.args.tree.now.salt taken = c.requires.taken.1 in
    let count : length taken ≡ c.args.tree.now.blocks = sym has.pushed ∙ c.requires.builder.pushed in
    let are : puts_of c.finish.new.out ≡ left_puts c.args.tree.now taken =
    finished_puts c.args.tree.now taken _ _ count c.requires.waiting.puts
    (c.in_ok-root.ensures.puts c.args.tree.now.salt taken
    (record { salted = has.salted; pushed = has.pushed; room = has.room; root = has.root })) in
    stays_says (LieIn c.args.tree.now) _ _ _ _
    (stays_weaker (λ n. EndBy c.args.tree.now.hash_at n (puts_of c.finish.new.out)) (LieIn c.args.tree.now) _ _ _ _
    (λ n lies. subst (EndBy c.args.tree.now.hash_at n) (sym are) (left_ends c.args.tree.now c.requires.plan taken n lies.1))
    (stays_of (λ n. EndBy c.args.tree.now.hash_at n (puts_of c.finish.new.out)) _ _ _ _ (c.write_to.ensures.strays o can)))

pub returns-clause-strays : goal.returns-clause-strays
returns-clause-strays g c = λ o can.
    let taken : List (List ℕ) = c.requires.taken.0 in
    let has : HasTaken c.args.builder c.args.tree.now.salt taken = c.requires.taken.1 in
    let count : length taken ≡ c.args.tree.now.blocks = sym has.pushed ∙ c.requires.builder.pushed in
    let are : puts_of c.finish.new.out ≡ left_puts c.args.tree.now taken =
    finished_puts c.args.tree.now taken _ _ count c.requires.waiting.puts
    (c.in_ok-root.ensures.puts c.args.tree.now.salt taken
    (record { salted = has.salted; pushed = has.pushed; room = has.room; root = has.root })) in
    stays_says (LieIn c.args.tree.now) _ _ _ _
    (stays_weaker (λ n. EndBy c.args.tree.now.hash_at n (puts_of c.finish.new.out)) (LieIn c.args.tree.now) _ _ _ _
    (λ n lies. subst (EndBy c.args.tree.now.hash_at n) (sym are) (left_ends c.args.tree.now c.requires.plan taken n lies.1))
    (stays_of (λ n. EndBy c.args.tree.now.hash_at n (puts_of c.finish.new.out)) _ _ _ _ (c.write_to.ensures.strays o can)))

pub returns-in_err-root-clause-earlier : goal.returns-in_err-root-clause-earlier
returns-in_err-root-clause-earlier g c = earlier_same _
