-- The writes of a plan's steps are few enough to be counted.
use Rattle.std.proofs.Common.{◌≡◌, ℕ, ◌+◌, ◌*◌, ◌-◌, ◌<◌, ◌≤◌, Bool, true, false, cond, leb, ltb, eqb, List, [], ◌∷◌, ◌++◌, length, Option, Some, None, refl, sym, ap, subst, arith, All, flat_map, not, ◌||◌}
use Rattle.std.specs.Option.{option_map_or}
use Rattle.std.proofs.lemmas.List.Elements.{All-append, All-cons, All-filter, All-tail}
use Rattle.std.proofs.lemmas.List.Sums.{count_by-le-length, length-filter, sum_by-append, sum_by-cons}
use Rattle.rp_base.specs.Plan.{IsWellFormed, Noted, noted_of}
use Rattle.rp_base.specs.Trees.{hash_blocks}
use Rattle.rp_base.specs.declared.geometry.Which.{Which}
use Rattle.rp_base.specs.declared.geometry.Which.TheVariants.{Primary, Backup}
use Rattle.rp_base.specs.declared.plan.Plan.{Plan}
use Rattle.rp_base.specs.declared.plan.Role.{Role}
use Rattle.rp_base.specs.declared.plan.Role.TheVariants.{Plain, Data, Hash}
use Rattle.rp_base.specs.declared.seen.Origin.{Origin}
use Rattle.rp_base.specs.declared.seen.Origin.TheVariants as origins
use Rattle.rp_base.specs.declared.seen.Seen.{Seen}
use Rattle.rp_base.specs.declared.table.Row.{Row}
use Rattle.rp_gpt.proofs.Rising.{Rising, Rising-from}
use Rattle.rp_steps.specs.Planned.{HasRoom, IsPlanned}
use Rattle.rp_steps.specs.Steps.{byte_count, byte_of_slot, contents_steps, copy_order, copy_phases, copy_steps, from_byte, growth, is_new, mbr_phases, mebibyte, new_rows, payload_steps, phase_of, phases, rest_steps, source_len, steps, synced, tree_steps, is_same, writes_both, writes_mbr, written_copies, zero_steps}
use Rattle.rp_steps.specs.Writes.{AreCountable, HasBlocks, writes, writes_in}
use Rattle.rp_steps.specs.declared.step.Step.{Step}
use Rattle.rp_steps.specs.declared.step.Step.TheVariants.{Grow, Zero, Copy, Tree, ClosePrimary, ArrayPrimary, HeaderPrimary, CloseBackup, ArrayBackup, HeaderBackup, Mbr, Sync}
use Rattle.rp_steps.proofs.Copying.{part_added, synced-append}
use Rattle.rp_steps.proofs.Planned.{length-noted_of, planned}

-- the steps can be counted, and are so many writes at most
record Counted (most : ℕ) (steps : List Step) : Type 0 where
  blocks : All HasBlocks steps
  few : writes steps ≤ most

none : Counted 0 []
none = record { blocks = λ k d below. absurd (omega arith); few = omega arith }

more : (fewer most : ℕ) (steps : List Step) → fewer ≤ most → Counted fewer steps → Counted most steps
more fewer most steps le counted = record { blocks = counted.blocks; few = omega (arith, counted.few) }

append : (a b : ℕ) (xs ys : List Step) → Counted a xs → Counted b ys → Counted (a + b) (xs ++ ys)
append a b xs ys x y = record {
  blocks = All-append HasBlocks xs ys x.blocks y.blocks;
  few = omega (arith, x.few, y.few, sum_by-append writes_in xs ys);
}

step_more : (a b : ℕ) (step : Step) (steps : List Step) → HasBlocks step → writes_in step ≤ a → Counted b steps
    → Counted (a + b) (step ∷ steps)
step_more a b step steps blocks few counted = record {
  blocks = All-cons HasBlocks step steps blocks counted.blocks;
  few = omega (arith, few, counted.few, sum_by-cons writes_in step steps);
}

one : (most : ℕ) (step : Step) → HasBlocks step → writes_in step ≤ most → Counted most (step ∷ [])
one most step blocks few = more (most + 0) most (step ∷ []) (omega arith) (step_more most 0 step [] blocks few none)

either : (most : ℕ) (b : Bool) (xs ys : List Step) → Counted most xs → Counted most ys → Counted most (cond b xs ys)
either most true xs ys x y = x
either most false xs ys x y = y

-- so many writes for each element at most
each_of : {X : Type 0} (P : X → Type 0) (f : X → List Step) (most : ℕ) → ((x : X) → P x → Counted most (f x)) → (xs : List X) → All P xs
    → Counted (length xs * most) (flat_map f xs)
each_of P f most each [] holds = more 0 (0 * most) [] (omega arith) none
each_of P f most each (x ∷ xs) holds =
    more (most + length xs * most) (length (x ∷ xs) * most) (f x ++ flat_map f xs) (omega arith)
    (append most (length xs * most) (f x) (flat_map f xs) (each x (holds 0 x (omega arith))) (each_of P f most each xs (All-tail P x xs holds)))

zeros : (at len : ℕ) → len ≤ 17592186044416 → Counted 134217728 (zero_steps at len)
unfolding zero_steps writes_in
zeros at len small =
    either 134217728 (eqb len 0) [] (Zero at len ∷ []) (more 0 134217728 [] (omega arith) none) (one 134217728 (Zero at len) tt (omega arith))

rest : (role : Role) (at len : ℕ) → len ≤ 17592186044416 → Counted 134217728 (rest_steps role at len)
unfolding rest_steps mebibyte writes_in
rest Plain at len small =
    either 134217728 (leb len (2 * mebibyte)) (zero_steps at len) (Zero at mebibyte ∷ Zero (at + (len - mebibyte)) mebibyte ∷ [])
    (zeros at len small) (more (4 + 4) 134217728 _ (omega arith) (step_more 4 4 _ _ tt (omega arith) (one 4 _ tt (omega arith))))
rest (Data partner root) at len small = zeros at len small
rest (Hash partner blocks salt uuid root) at len small = zeros at len small

source_of : (file : Option ℕ) (at len : ℕ) → len ≤ 17592186044416 → Counted 134217728 (option_map_or (λ f. Copy f at len ∷ []) file [])
unfolding writes_in
source_of None at len small = more 0 134217728 [] (omega arith) none
source_of (Some file) at len small = one 134217728 (Copy file at len) tt (omega arith)

copied : (noted : Noted) → source_len noted.1 ≤ 17592186044416 → Counted 134217728 (copy_steps noted)
unfolding copy_steps
copied noted small =
    either 134217728 (eqb (source_len noted.1) 0) [] (option_map_or (λ f. Copy f (from_byte noted.0) (source_len noted.1) ∷ []) noted.1.file [])
    (more 0 134217728 [] (omega arith) none) (source_of noted.1.file (from_byte noted.0) (source_len noted.1) small)

filled : (noted : Noted) (role : Role) → IsPlanned noted
    → Counted 268435456 (copy_steps noted ++ rest_steps role (from_byte noted.0 + source_len noted.1) (byte_count noted.0 - source_len noted.1))
filled noted role planned =
    append 134217728 134217728 (copy_steps noted) (rest_steps role (from_byte noted.0 + source_len noted.1) (byte_count noted.0 - source_len noted.1))
    (copied noted (omega (arith, planned.fits, planned.source)))
    (rest role (from_byte noted.0 + source_len noted.1) (byte_count noted.0 - source_len noted.1) (omega (arith, planned.fits)))

payload_counted : (noted : Noted) (role : Role) → IsPlanned noted → Counted 268435456 (payload_steps noted role)
unfolding payload_steps
payload_counted noted Plain planned = filled noted Plain planned
payload_counted noted (Data partner root) planned = filled noted (Data partner root) planned
payload_counted noted (Hash partner blocks salt uuid root) planned = more 0 268435456 [] (omega arith) none

tree_counted : (rows : List Row) (row : Row) (role : Role) → row.size ≤ 34359738368 → HasRoom row role
    → Counted 8589934592 (tree_steps rows row role)
unfolding tree_steps writes_in
tree_counted rows row Plain small has = more 0 8589934592 [] (omega arith) none
tree_counted rows row (Data partner root) small has = more 0 8589934592 [] (omega arith) none
tree_counted rows row (Hash partner blocks salt uuid root) small has =
    let fits = has.2 in
    more (4294967296 + 134217728) 8589934592 _ (omega arith)
    (append 4294967296 134217728 (Tree (byte_of_slot rows partner) (from_byte row) blocks salt uuid root ∷ [])
    (zero_steps (from_byte row + 4096 * hash_blocks blocks) (byte_count row - 4096 * hash_blocks blocks))
    (one 4294967296 (Tree (byte_of_slot rows partner) (from_byte row) blocks salt uuid root) (has.0, has.1) (omega arith))
    (zeros (from_byte row + 4096 * hash_blocks blocks) (byte_count row - 4096 * hash_blocks blocks) (omega arith)))

-- rows whose slots rise below a number are no more than that
rising_few : (low n : ℕ) (rows : List Row) → Rising low rows → All (λ row. row.slot < n) rows → low ≤ n → low + length rows ≤ n
rising_few low n [] rising below le = omega arith
rising_few low n (row ∷ rows) rising below le =
    let from = rising.0 in
    let here : row.slot < n = below 0 row (omega arith) in
    let later = rising_few (row.slot + 1) n rows rising.1 (All-tail (λ r. r.slot < n) row rows below) (omega arith) in
    omega arith

module _ (seen : Seen) (plan : Plan) (formed : IsWellFormed seen plan) where
  few_rows : length (noted_of plan) ≤ 1024
  few_rows =
      let rows = formed.writable.rows in
      let few = rising_few 0 plan.goal.entries plan.goal.rows (Rising-from 0 plan.goal.rows (λ k d below. omega arith) rows.rising)
      (λ k d below. (rows.rows k d below).slot) (omega arith) in
      let most = formed.writable.entries.most in
      omega (arith, length-noted_of seen plan formed)

  few_new : length (new_rows plan) ≤ 1024
  few_new =
      let test = λ (noted : Noted). is_new noted.1.change in
      omega (arith, few_rows, ap (λ (n : ℕ). n) (length-filter test (noted_of plan)), count_by-le-length test (noted_of plan))

  news_planned : All IsPlanned (new_rows plan)
  news_planned = All-filter (λ noted. is_new noted.1.change) IsPlanned (noted_of plan) (planned seen plan formed)

  contents_counted : Counted 9070970929152 (contents_steps plan)
  unfolding contents_steps
  contents_counted =
      let few = few_new in
      let payloads = each_of IsPlanned (λ noted. payload_steps noted noted.1.role) 268435456 (λ noted p. payload_counted noted noted.1.role p)
      (new_rows plan) news_planned in
      let trees = each_of IsPlanned (λ noted. tree_steps plan.goal.rows noted.0 noted.1.role) 8589934592
      (λ noted p. tree_counted plan.goal.rows noted.0 noted.1.role (omega (arith, p.fits)) p.tree) (new_rows plan) news_planned in
      more (length (new_rows plan) * 268435456 + length (new_rows plan) * 8589934592) 9070970929152 _ (omega arith)
      (append (length (new_rows plan) * 268435456) (length (new_rows plan) * 8589934592) _ _ payloads trees)

phase_counted : (most : ℕ) (phase : List Step) → Counted most phase → Counted most (synced (phase_of phase))
unfolding writes_in
phase_counted most [] counted = counted
phase_counted most (step ∷ phase) counted =
    more (most + 0 + 0) most _ (omega arith) (append (most + 0) 0 _ [] (append most 0 (step ∷ phase) (Sync ∷ []) counted (one 0 Sync tt (omega arith))) none)

growth_as : (len : ℕ) (b : Bool) → Counted 0 (synced (cond b ((Grow len ∷ []) ∷ []) []))
unfolding writes_in
growth_as len true = step_more 0 0 _ _ tt (omega arith) (one 0 Sync tt (omega arith))
growth_as len false = none

growth_counted : (plan : Plan) (seen : Seen) → Counted 0 (synced (growth plan seen))
unfolding growth
growth_counted plan seen = growth_as (512 * plan.target) (ltb seen.sectors plan.target)

mbr_as : (b : Bool) → Counted 1 (synced (cond b ((Mbr ∷ []) ∷ []) []))
unfolding writes_in
mbr_as true = step_more 1 0 _ _ tt (omega arith) (one 0 Sync tt (omega arith))
mbr_as false = more 0 1 [] (omega arith) none

mbr_counted : (plan : Plan) (seen : Seen) → Counted 1 (synced (mbr_phases plan seen))
unfolding mbr_phases
mbr_counted plan seen = mbr_as (writes_mbr plan seen seen.mbr)

-- three steps of one write each
three : (a b c : Step) → HasBlocks a × (writes_in a ≡ 1) → HasBlocks b × (writes_in b ≡ 1) → HasBlocks c × (writes_in c ≡ 1)
    → Counted 3 (a ∷ Sync ∷ b ∷ Sync ∷ c ∷ Sync ∷ [])
unfolding writes_in
three a b c x y z =
    step_more 1 2 a _ x.0 (omega (arith, x.1)) (step_more 0 2 Sync _ tt (omega arith) (step_more 1 1 b _ y.0 (omega (arith, y.1))
    (step_more 0 1 Sync _ tt (omega arith) (step_more 1 0 c _ z.0 (omega (arith, z.1)) (one 0 Sync tt (omega arith))))))

copy_counted : (which : Which) → Counted 3 (synced (copy_phases which))
unfolding writes_in
copy_counted Primary = three ClosePrimary ArrayPrimary HeaderPrimary (tt, refl) (tt, refl) (tt, refl)
copy_counted Backup = three CloseBackup ArrayBackup HeaderBackup (tt, refl) (tt, refl) (tt, refl)

copies_counted : (order : List Which) → Counted (3 * length order) (synced (flat_map copy_phases order))
copies_counted [] = none
copies_counted (which ∷ order) =
    subst (λ (l : List Step). Counted (3 * length (which ∷ order)) l) (sym (synced-append (copy_phases which) (flat_map copy_phases order)))
    (more (3 + 3 * length order) (3 * length (which ∷ order)) _ (omega arith)
    (append 3 (3 * length order) (synced (copy_phases which)) (synced (flat_map copy_phases order)) (copy_counted which) (copies_counted order)))

two : (origin : Origin) → length (copy_order origin) ≡ 2
two origins.Primary = refl
two origins.Backup = refl
two origins.Neither = refl

few_copies : (plan : Plan) (seen : Seen) → length (written_copies plan seen) ≤ 2
unfolding written_copies
few_copies plan seen =
    let order = copy_order seen.origin in
    let test = λ (which : Which). writes_both plan seen || not (is_same seen which) in
    omega (arith, two seen.origin, length-filter test order, count_by-le-length test order)

pub countable : (seen : Seen) (plan : Plan) → IsWellFormed seen plan → AreCountable (steps plan seen)
unfolding steps phases
countable seen plan formed =
    let copies = written_copies plan seen in
    let a = growth_counted plan seen in
    let b = phase_counted 9070970929152 (contents_steps plan) (contents_counted seen plan formed) in
    let c = more (3 * length copies) 6 _ (omega (arith, few_copies plan seen)) (copies_counted copies) in
    let d = mbr_counted plan seen in
    let front = append 0 9070970929152 _ _ a b in
    let copied = append 9070970929152 6 _ _ front c in
    let all = append 9070970929158 1 _ _ copied d in
    let one = part_added (growth plan seen) (phase_of (contents_steps plan)) _ _ refl refl in
    let two = part_added _ (flat_map copy_phases copies) _ _ one refl in
    let three = part_added _ (mbr_phases plan seen) _ _ two refl in
    subst AreCountable three record { blocks = all.blocks; few = omega (arith, all.few) }
