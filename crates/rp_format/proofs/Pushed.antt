-- What a push leaves in the blocks that wait: none is refused.
use Rattle.std.proofs.Common.{◌≡◌, ℕ, zero, suc, ◌+◌, ◌%◌, ◌<◌, ◌≤◌, List, [], ◌∷◌, ◌++◌, length, take, sym, ◌∙◌, ap, ap₂, append_assoc, arith, Bool, true, false, cond, eqb, length-take}
use Rattle.std.specs.Prelude.{Some, Result, Ok, Err, IsErr}
use Rattle.std.proofs.lemmas.List.{length-map}
use Rattle.rp_base.specs.Faults.{Rose}
use Rattle.rp_base.specs.Trees.{levels}
use Rattle.rp_disk.specs.Made.{Made}
use Rattle.rp_disk.specs.Runs.{MadeFirst}
use Rattle.rp_verity.specs.Builder.{HasTaken}
use Rattle.rp_verity.specs.declared.builder.Builder.{Builder}
use Rattle.rp_verity.specs.Order.{full_with, last_blocks, left_over, place_of}
use Rattle.rp_verity.specs.Puts.{Added, AddedPart, placed}
use Rattle.rp_verity.specs.Tree.{runs, stored_tree}
use Rattle.rp_verity.proofs.ShapeLemmas.{hash_blocks-over}
use Rattle.rp_verity.proofs.TreeLemmas.{full_with-inside, left_over-inside}
use Rattle.rp_format.specs.declared.tree.TreePlan.{TreePlan}
use Rattle.rp_format.specs.declared.waiting.Waiting.{Waiting}
use Rattle.rp_format.specs.Puts.{EndBy, writes_of}
use Rattle.rp_format.specs.Taking.{TakesBlock, full_puts, left_puts}
use Rattle.rp_format.specs.Waiting.{faults_of, puts_of}
use Rattle.rp_format.specs.Written.{IsTreePlan, hash_end}
use Rattle.rp_format.proofs.Kept.{length-kept}
use Rattle.rp_format.proofs.Places.{ends_placed}

few_if : (b : Bool) (n : ℕ) (xs : List ℕ) → length xs ≤ n → length (cond b xs []) ≤ n
few_if true n xs few = few
few_if false n xs few = omega arith

pub length-full_with : (n digests reached : ℕ) → length (full_with n digests reached) ≤ n
unfolding full_with
length-full_with zero digests reached = omega arith
length-full_with (suc n) digests reached =
    few_if (eqb (reached % 128) 0) (suc n) (place_of n digests reached ∷ full_with n (runs digests) (runs reached))
    (let more = length-full_with n (runs digests) (runs reached) in omega arith)

length-last_blocks : (n digests : ℕ) → length (last_blocks n digests) ≤ n
unfolding last_blocks
length-last_blocks zero digests = omega arith
length-last_blocks (suc n) digests = let more = length-last_blocks n (runs digests) in omega arith

few_both : (b : Bool) (n : ℕ) (xs ys : List ℕ) → length xs ≤ n → length ys ≤ n → length (cond b xs ys) ≤ n
few_both true n xs ys few few' = few
few_both false n xs ys few few' = few'

pub length-left_over : (n digests : ℕ) → length (left_over n digests) ≤ n
unfolding left_over
length-left_over zero digests = omega arith
length-left_over (suc n) digests =
    few_both (eqb (digests % 128) 0) (suc n) (left_over n (runs digests)) (last_blocks (suc n) digests)
    (let more = length-left_over n (runs digests) in omega arith) (length-last_blocks (suc n) digests)

pub length-placed : (blocks : List (List ℕ)) (places : List ℕ) → length (placed blocks places) ≡ length places
length-placed blocks places = length-map places _

-- none waited: then those wait that were put
added_are : (before puts now : List (ℕ × List ℕ)) → before ≡ [] → Added (Some before) puts (Some now) → now ≡ puts
added_are before puts now none added =
    let same : now ≡ before ++ puts = (let is : Some now ≡ Some (before ++ puts) = added in cc) in
    same ∙ ap (λ (l : List (ℕ × List ℕ)). l ++ puts) none

-- a block is refused only where six wait
pub not_refused : (waiting : Waiting) (before puts : List (ℕ × List ℕ)) (old : ℕ) → old ≡ 0 → before ≡ []
    → AddedPart (Some before) puts (Some (puts_of waiting)) → length puts ≤ 5 → Rose old (faults_of waiting) → ⊥
not_refused waiting before puts old none empty part few rose =
    let same : puts_of waiting ≡ before ++ take part.0 puts =
    (let is : Some (puts_of waiting) ≡ Some (before ++ take part.0 puts) = part.1 in cc) in
    let is : puts_of waiting ≡ take part.0 puts = same ∙ ap (λ (l : List (ℕ × List ℕ)). l ++ take part.0 puts) empty in
    let long : length (puts_of waiting) ≡ length (take part.0 puts) = ap length is in
    let all : length (puts_of waiting) ≡ waiting.count = length-kept waiting.count waiting.places waiting.blocks in
    let full : 1 ≤ waiting.faults → 6 ≤ waiting.count = waiting.full in
    let six : 6 ≤ waiting.count = full (omega arith) in
    omega (arith, length-take part.0 puts)

pub pushed_puts : (tree : TreePlan) (k blocks : ℕ) (taken all : List (List ℕ)) (before now : List (ℕ × List ℕ)) → blocks ≡ tree.blocks
    → length taken ≡ k → before ≡ []
    → Added (Some before) (placed (stored_tree tree.salt all) (full_with (levels blocks) blocks (length taken + 1))) (Some now)
    → now ≡ full_puts tree all (k + 1)
pushed_puts tree k blocks taken all before now same count none added =
    added_are before _ now none added
    ∙ ap₂ (λ (b r : ℕ). placed (stored_tree tree.salt all) (full_with (levels b) b (r + 1))) same count

-- the same of a block that is pushed behind those taken, and of those that come still
pub pushed_next : (tree : TreePlan) (k blocks : ℕ) (taken rest : List (List ℕ)) (block : List ℕ) (before now : List (ℕ × List ℕ))
    → blocks ≡ tree.blocks → length taken ≡ k → before ≡ []
    → (length ((taken ++ block ∷ []) ++ rest) ≡ blocks → Added (Some before)
    (placed (stored_tree tree.salt ((taken ++ block ∷ []) ++ rest)) (full_with (levels blocks) blocks (length taken + 1))) (Some now))
    → length (taken ++ block ∷ rest) ≡ tree.blocks → now ≡ full_puts tree (taken ++ block ∷ rest) (k + 1)
pushed_next tree k blocks taken rest block before now same count none added all =
    let whole : (taken ++ block ∷ []) ++ rest ≡ taken ++ block ∷ rest = append_assoc taken (block ∷ []) rest in
    pushed_puts tree k blocks taken ((taken ++ block ∷ []) ++ rest) before now same count none
    (added (ap length whole ∙ all ∙ sym same)) ∙ ap (λ (row : List (List ℕ)). full_puts tree row (k + 1)) whole

pub finished_puts : (tree : TreePlan) (taken : List (List ℕ)) (before now : List (ℕ × List ℕ)) → length taken ≡ tree.blocks → before ≡ []
    → Added (Some before) (placed (stored_tree tree.salt taken) (left_over (levels (length taken)) (length taken))) (Some now)
    → now ≡ left_puts tree taken
finished_puts tree taken before now count none added =
    added_are before _ now none added ∙ ap (λ (b : ℕ). placed (stored_tree tree.salt taken) (left_over (levels b) b)) count

-- where they end
pub full_ends : (tree : TreePlan) (plan : IsTreePlan tree) (all : List (List ℕ)) (k end : ℕ) → k < tree.blocks → hash_end tree ≤ end
    → EndBy tree.hash_at end (full_puts tree all (k + 1))
full_ends tree plan all k end below fits =
    let some : 1 ≤ tree.blocks = plan.some in
    ends_placed tree.hash_at end _ (stored_tree tree.salt all) (full_with (levels tree.blocks) tree.blocks (k + 1))
    (full_with-inside (levels tree.blocks) tree.blocks (k + 1) (omega arith) (omega arith))
    (omega (arith, hash_blocks-over tree.blocks some))

pub left_ends : (tree : TreePlan) (plan : IsTreePlan tree) (all : List (List ℕ)) (end : ℕ) → hash_end tree ≤ end
    → EndBy tree.hash_at end (left_puts tree all)
left_ends tree plan all end fits =
    let some : 1 ≤ tree.blocks = plan.some in
    ends_placed tree.hash_at end _ (stored_tree tree.salt all) (left_over (levels tree.blocks) tree.blocks)
    (left_over-inside (levels tree.blocks) tree.blocks some) (omega (arith, hash_blocks-over tree.blocks some))

-- a failure in taking a block
pub takes_err : {T E : Type 0} (result : Result T E) (tree : TreePlan) (k : ℕ) (old after : Builder) (made now : List Made) (block : List ℕ)
    → IsErr result
    → ((taken rest : List (List ℕ)) → HasTaken old tree.salt taken → length (taken ++ block ∷ rest) ≡ tree.blocks
    → MadeFirst made (writes_of tree.hash_at (full_puts tree (taken ++ block ∷ rest) (k + 1))) now)
    → TakesBlock tree k old after made now block result
takes_err (Ok x) tree k old after made now block err failed = absurd (let no = err in cc)
takes_err (Err e) tree k old after made now block err failed =
    record { taken = λ taken has. tt; done = λ taken rest has all. tt; failed = failed }
