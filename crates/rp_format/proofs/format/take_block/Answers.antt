-- A data block was pushed, and the hash blocks that are full with it were written.
use Rattle.std.proofs.Common.{◌≡◌, ℕ, ◌+◌, ◌-◌, ◌≤◌, ◌<◌, List, [], ◌∷◌, ◌++◌, length, replicate, sym, subst, ◌∙◌, ap, arith, append_assoc, length-append}
use Rattle.std.proofs.lemmas.List.{length-replicate}
use Rattle.rp_base.specs.Trees.{levels}
use Rattle.rp_disk.specs.Made.{dones}
use Rattle.rp_disk.specs.Runs.{MadeFirst}
use Rattle.rp_verity.specs.declared.builder.Builder.{Builder}
use Rattle.rp_verity.specs.Builder.{HasTaken}
use Rattle.rp_verity.specs.Order.{full_with}
use Rattle.rp_verity.specs.Tree.{stored_tree}
use Rattle.rp_format.specs.Puts.{EndBy, writes_of}
use Rattle.rp_format.specs.Taking.{full_puts}
use Rattle.rp_format.specs.Waiting.{puts_of}
use Rattle.rp_format.specs.Written.{LieIn}
use Rattle.rp_format.specs.declared.tree.TreePlan.{TreePlan}
use Rattle.rp_format.proofs.Pushed.{full_ends, length-full_with, length-placed, not_refused, pushed_next, takes_err}
use Rattle.rp_disk.proofs.Noting.{earlier_same}
use Rattle.rp_format.proofs.Steps.{broke_first}
use Rattle.rp_format.proofs.Told.{stays_of, stays_says, stays_weaker}
use Rattle.rp_format.proofs.format.take_block.Goals as goal

-- rows of blocks that go on
rest_of : (tree : TreePlan) (k : ℕ) (taken : List (List ℕ)) (block : List ℕ) → length taken ≡ k → k < tree.blocks
    → (rest : List (List ℕ)) × (length (taken ++ block ∷ rest) ≡ tree.blocks)
rest_of tree k taken block count below =
    let rest : List (List ℕ) = replicate (tree.blocks - (k + 1)) [] in
    (rest, omega (arith, length-append taken (block ∷ rest), length-replicate {A = List ℕ} (tree.blocks - (k + 1)) []))

pub returns-in_err-push_digest-clause-cause : goal.returns-in_err-push_digest-clause-cause
returns-in_err-push_digest-clause-cause g c =
    let tree : TreePlan = c.args.tree.now in
    let builder : Builder = c.args.builder.now in
    let at = c.requires.builder in
    let block : List ℕ = c.requires.block.0 in
    let taken : List (List ℕ) = c.requires.taken.0 in
    let has : HasTaken builder tree.salt taken = c.requires.taken.1 in
    let still = rest_of tree c.args.k taken block (sym has.pushed ∙ at.pushed) c.requires.more in
    let row : List (List ℕ) = (taken ++ block ∷ []) ++ still.0 in
    let all : length row ≡ builder.blocks = ap length (append_assoc taken (block ∷ []) still.0) ∙ still.1 ∙ sym at.blocks in
    let low : builder.count ≤ 5 = at.sound.low in
    let over : levels builder.blocks ≡ builder.count = sym at.sound.count in
    let full : List ℕ = full_with (levels builder.blocks) builder.blocks (length taken + 1) in
    let never : ⊥ = not_refused c.push_digest.new.out _ _ _ c.requires.waiting.faults c.requires.waiting.puts
    (c.in_err-push_digest.ensures.cut tree.salt block taken still.0 has c.requires.block.1 all)
    (omega (arith, length-placed (stored_tree tree.salt row) full, length-full_with (levels builder.blocks) builder.blocks (length taken + 1)))
    c.in_err-push_digest.ensures.cause.failed in
    absurd never

pub returns-in_err-push_digest-clause-takes : goal.returns-in_err-push_digest-clause-takes
returns-in_err-push_digest-clause-takes g c block is =
    let tree : TreePlan = c.args.tree.now in
    let builder : Builder = c.args.builder.now in
    let at = c.requires.builder in
    let taken : List (List ℕ) = c.requires.taken.0 in
    let has : HasTaken builder tree.salt taken = c.requires.taken.1 in
    let still = rest_of tree c.args.k taken block (sym has.pushed ∙ at.pushed) c.requires.more in
    let row : List (List ℕ) = (taken ++ block ∷ []) ++ still.0 in
    let all : length row ≡ builder.blocks = ap length (append_assoc taken (block ∷ []) still.0) ∙ still.1 ∙ sym at.blocks in
    let low : builder.count ≤ 5 = at.sound.low in
    let over : levels builder.blocks ≡ builder.count = sym at.sound.count in
    let full : List ℕ = full_with (levels builder.blocks) builder.blocks (length taken + 1) in
    let never : ⊥ = not_refused c.push_digest.new.out _ _ _ c.requires.waiting.faults c.requires.waiting.puts
    (c.in_err-push_digest.ensures.cut tree.salt block taken still.0 has is all)
    (omega (arith, length-placed (stored_tree tree.salt row) full, length-full_with (levels builder.blocks) builder.blocks (length taken + 1)))
    c.in_err-push_digest.ensures.cause.failed in
    absurd never

pub write_to-requires : goal.write_to-requires
write_to-requires g c =
    let tree : TreePlan = c.args.tree.now in
    let k : ℕ = c.args.k in
    let builder : Builder = c.args.builder.now in
    let at = c.requires.builder in
    let block : List ℕ = c.requires.block.0 in
    let taken : List (List ℕ) = c.requires.taken.0 in
    let has : HasTaken builder tree.salt taken = c.requires.taken.1 in
    let still = rest_of tree k taken block (sym has.pushed ∙ at.pushed) c.requires.more in
    let whole : List (List ℕ) = taken ++ block ∷ still.0 in
    let here : puts_of c.push_digest.new.out ≡ full_puts tree whole (k + 1) =
    pushed_next tree k builder.blocks taken still.0 block _ _ at.blocks (sym has.pushed ∙ at.pushed) c.requires.waiting.puts
    (c.in_ok-push_digest.ensures.puts tree.salt block taken still.0 has c.requires.block.1) still.1 in
    let ends : EndBy tree.hash_at 18446744073709551615 (full_puts tree whole (k + 1)) =
    full_ends tree c.requires.plan whole k 18446744073709551615 c.requires.more (let fits = c.requires.plan.hash_fits in omega arith) in
    record { ends = subst (EndBy tree.hash_at 18446744073709551615) (sym here) ends }

pub returns-in_err-write_to-clause-takes : goal.returns-in_err-write_to-clause-takes
returns-in_err-write_to-clause-takes g c block is =
    let tree : TreePlan = c.args.tree.now in
    let k : ℕ = c.args.k in
    let builder : Builder = c.args.builder.now in
    let at = c.requires.builder in
    let made = broke_first _ _ _ c.in_err-write_to.ensures.ran.err in
    takes_err _ tree k _ _ _ _ block c.from_residual-in_err-write_to.ensures.0
    (λ taken rest has all.
    subst (λ (puts : List (ℕ × List ℕ)). MadeFirst (g.D.Disk.device c.args.disk.now).calls (writes_of tree.hash_at puts)
    (g.D.Disk.device c.write_to.new.disk).calls)
    (pushed_next tree k builder.blocks taken rest block _ _ at.blocks (sym has.pushed ∙ at.pushed) c.requires.waiting.puts
    (c.in_ok-push_digest.ensures.puts tree.salt block taken rest has is) all) made)

pub returns-in_err-write_to-clause-strays : goal.returns-in_err-write_to-clause-strays
returns-in_err-write_to-clause-strays g c = λ o can.
    let tree : TreePlan = c.args.tree.now in
    let k : ℕ = c.args.k in
    let builder : Builder = c.args.builder.now in
    let at = c.requires.builder in
    let block : List ℕ = c.requires.block.0 in
    let taken : List (List ℕ) = c.requires.taken.0 in
    let has : HasTaken builder tree.salt taken = c.requires.taken.1 in
    let still = rest_of tree k taken block (sym has.pushed ∙ at.pushed) c.requires.more in
    let whole : List (List ℕ) = taken ++ block ∷ still.0 in
    let here : puts_of c.push_digest.new.out ≡ full_puts tree whole (k + 1) =
    pushed_next tree k builder.blocks taken still.0 block _ _ at.blocks (sym has.pushed ∙ at.pushed) c.requires.waiting.puts
    (c.in_ok-push_digest.ensures.puts tree.salt block taken still.0 has c.requires.block.1) still.1 in
    stays_says (LieIn tree) _ _ _ _
    (stays_weaker (λ m. EndBy tree.hash_at m (puts_of c.push_digest.new.out)) (LieIn tree) _ _ _ _
    (λ m lies. subst (EndBy tree.hash_at m) (sym here) (full_ends tree c.requires.plan whole k m c.requires.more lies.1))
    (stays_of (λ m. EndBy tree.hash_at m (puts_of c.push_digest.new.out)) _ _ _ _ (c.write_to.ensures.strays o can)))

pub returns-clause-takes : goal.returns-clause-takes
returns-clause-takes g c block is =
    let tree : TreePlan = c.args.tree.now in
    let k : ℕ = c.args.k in
    let builder : Builder = c.args.builder.now in
    let at = c.requires.builder in
    record {
      taken = λ taken has. c.in_ok-push_digest.ensures.taken tree.salt block taken has is;
      done = λ taken rest has all.
          c.in_ok-write_to.ensures.ran.ok
          ∙ ap (λ (puts : List (ℕ × List ℕ)). (g.D.Disk.device c.args.disk.now).calls ++ dones (writes_of tree.hash_at puts))
          (pushed_next tree k builder.blocks taken rest block _ _ at.blocks (sym has.pushed ∙ at.pushed) c.requires.waiting.puts
          (c.in_ok-push_digest.ensures.puts tree.salt block taken rest has is) all);
      failed = λ taken rest has all. tt;
    }

pub returns-clause-strays : goal.returns-clause-strays
returns-clause-strays g c = λ o can.
    let tree : TreePlan = c.args.tree.now in
    let k : ℕ = c.args.k in
    let builder : Builder = c.args.builder.now in
    let at = c.requires.builder in
    let block : List ℕ = c.requires.block.0 in
    let taken : List (List ℕ) = c.requires.taken.0 in
    let has : HasTaken builder tree.salt taken = c.requires.taken.1 in
    let still = rest_of tree k taken block (sym has.pushed ∙ at.pushed) c.requires.more in
    let whole : List (List ℕ) = taken ++ block ∷ still.0 in
    let here : puts_of c.push_digest.new.out ≡ full_puts tree whole (k + 1) =
    pushed_next tree k builder.blocks taken still.0 block _ _ at.blocks (sym has.pushed ∙ at.pushed) c.requires.waiting.puts
    (c.in_ok-push_digest.ensures.puts tree.salt block taken still.0 has c.requires.block.1) still.1 in
    stays_says (LieIn tree) _ _ _ _
    (stays_weaker (λ m. EndBy tree.hash_at m (puts_of c.push_digest.new.out)) (LieIn tree) _ _ _ _
    (λ m lies. subst (EndBy tree.hash_at m) (sym here) (full_ends tree c.requires.plan whole k m c.requires.more lies.1))
    (stays_of (λ m. EndBy tree.hash_at m (puts_of c.push_digest.new.out)) _ _ _ _ (c.write_to.ensures.strays o can)))

pub returns-in_err-push_digest-clause-earlier : goal.returns-in_err-push_digest-clause-earlier
returns-in_err-push_digest-clause-earlier g c = earlier_same _
