-- A tree whose superblock was written, or not.
use Rattle.std.proofs.Common.{◌≡◌, ℕ, suc, ◌+◌, ◌≤◌, List, [], ◌∷◌, ◌++◌, length, refl, sym, ◌∙◌, ap, subst, arith, length-append, Bool, true, false}
use Rattle.std.specs.Prelude.{Option, Result, Ok, Err, IfSome, IsErr, not}
use Rattle.std.specs.Str.{bytes_eq}
use Rattle.std.proofs.lemmas.Slice.Eq.{bytes_eq-Decides}
use Rattle.rp_base.specs.declared.faults.Failed.{Failed}
use Rattle.rp_disk.specs.declared.call.Call.{Call}
use Rattle.rp_disk.specs.History.{IsLawful}
use Rattle.rp_disk.specs.Made.{Past, Made, Done, Broke, count_done, dones, history_told}
use Rattle.rp_disk.specs.Runs.{AreFirst, BrokeOff, MadeFirst}
use Rattle.rp_disk.proofs.Runs.{first_of_longer}
use Rattle.rp_verity.specs.Order.{order}
use Rattle.rp_verity.specs.Puts.{placed}
use Rattle.rp_verity.specs.Tree.{stored_tree}
use Rattle.rp_verity.proofs.ShapeLemmas.{hash_blocks-over}
use Rattle.rp_steps.specs.Calls.{tree_writes}
use Rattle.rp_format.specs.Written.{IsTreePlan, Writes, hash_calls, hash_end, tree_calls}
use Rattle.rp_format.specs.declared.tree.TreePlan.{TreePlan}
use Rattle.rp_format.proofs.Kept.{writes-are}
use Rattle.rp_format.proofs.Told.{SameLength, same_length}

-- calls of a plan that were done are not more than planned
first_count : (made : List Made) (plan : List Call) → AreFirst made plan → count_done made ≤ length plan
first_count [] plan are = omega arith
first_count (made ∷ mades) [] are = absurd are
first_count (Done call ∷ mades) (due ∷ plan) are = let more = first_count mades plan are.1 in omega arith
first_count (Broke call ∷ mades) (due ∷ plan) are =
    subst (λ (l : List Made). count_done l ≤ suc (length plan)) (sym are.1) (omega arith)

-- the first of some calls are a shorter part of these with one more
pub broke_before : (old new : List Made) (calls : List Call) (call : Call) → MadeFirst old calls new → BrokeOff old (calls ++ call ∷ []) new
broke_before old new calls call made = (
  made.0,
  first_of_longer made.0 calls (call ∷ []) made.1,
  (let few = first_count made.0 calls made.1 in omega (arith, length-append calls (call ∷ []))),
  made.2,
)

-- a failure
pub tree_err : (result : Result (Option (List ℕ)) Failed) (tree : TreePlan) (taken : List (List ℕ)) (old new : List Made) → IsErr result
    → BrokeOff old (tree_calls tree taken) new → Writes tree taken old new result
tree_err (Ok x) tree taken old new err broke = absurd (let no = err in cc)
tree_err (Err e) tree taken old new err broke = record { done = tt; failed = broke }

-- the hash blocks' writes keep the length
pub hash_length : (tree : TreePlan) (taken : List (List ℕ)) (first : Option Past) (old new : List Made)
    → new ≡ old ++ dones (hash_calls tree taken)
    → IfSome (history_told first new) IsLawful → SameLength first old new
unfolding tree_writes
hash_length tree taken first old new done lawful =
    same_length first old new (hash_calls tree taken) done
    (writes-are tree.hash_at (placed (stored_tree tree.salt taken) (order tree.blocks))) lawful

-- the superblock lies before the end
pub block_ends : (tree : TreePlan) → IsTreePlan tree → tree.hash_at + 4096 ≤ hash_end tree
block_ends tree plan = let some : 1 ≤ tree.blocks = plan.some in omega (arith, hash_blocks-over tree.blocks some)

-- bytes that don't differ
pub same_bytes : (xs ys : List ℕ) (differ : Bool) → differ ≡ not (bytes_eq xs ys) → differ ≡ false → xs ≡ ys
same_bytes xs ys differ is none = by (bytes_eq xs ys) refl where
  by : (b : Bool) → bytes_eq xs ys ≡ b → xs ≡ ys
  by true same = (bytes_eq-Decides xs ys).0 same
  by false other = absurd (let e : differ ≡ not false = is ∙ ap not other in cc)
