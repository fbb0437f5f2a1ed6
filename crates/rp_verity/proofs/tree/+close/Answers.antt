-- Each way out of `close` is a case of what closing does.
use Rattle.std.proofs.Common.{◌≡◌, ℕ, suc, ◌+◌, ◌-◌, ◌/◌, ◌%◌, List, [], ◌∷◌, ◌++◌, Option, Some, None, length, sym, ◌∙◌, ap, arith, append-nil, length-append}
use Rattle.std.specs.Option.{option_to_list}
use Rattle.std.proofs.lemmas.List.{length-map}
use Rattle.std.proofs.lemmas.List.Elements.{All-cons, All-head, All-nil}
use Rattle.rp_verity.specs.Tree.{digest}
use Rattle.rp_verity.specs.Order.{place_of}
use Rattle.rp_verity.specs.Puts.{Added, AddedPart}
use Rattle.rp_verity.specs.Room.{IsDigest, full_level, full_raised}
use Rattle.rp_verity.proofs.LevelLemmas.{length-full_level}
use Rattle.rp_verity.proofs.Blocks.{are_digests, length-digest}
use Rattle.rp_verity.proofs.Closing.{HasLast, closes_failed, closes_full, closes_more, closes_top, count_above, has_last-none, has_last-some}
use Rattle.rp_verity.proofs.tree.+close.Goals as goal
use Rattle.rp_verity.proofs.tree.+close.Goals.{in-Some, in_default+else-total-eq0}

pub returns-then-levels-eq0-clause-closes : goal.returns-then-levels-eq0-clause-closes
returns-then-levels-eq0-clause-closes g t c salt digests salted each carried_is count =
    rw c.if-levels-eq0.true (closes_top salt digests c.args.carried c.args.room.now _)

-- as many digests as stand at the level, without the one from below
count_none : (digests : List (List ℕ)) (carried : Option (List ℕ)) (total : ℕ) → carried ≡ None
    → length (digests ++ option_to_list carried) ≡ total → length digests ≡ total
count_none digests carried total none count = rw (none, append-nil) at count

count_some : (digests : List (List ℕ)) (carried : Option (List ℕ)) (d : List ℕ) (total : ℕ) → carried ≡ Some d
    → length (digests ++ option_to_list carried) ≡ total → length digests ≡ total - 1
count_some digests carried d total some count =
    let e : length (digests ++ d ∷ []) ≡ total = rw some at count in
    omega (arith, length-append digests (d ∷ []))

pub returns-then-total-eq0-clause-closes : goal.returns-then-total-eq0-clause-closes
returns-then-total-eq0-clause-closes g t c salt digests salted each carried_is count =
    let next : c.args.levels ≡ suc (c.args.levels - 1) = omega (arith, c.if-levels-eq0.false) in
    let all : length digests ≡ c.args.total = count_none digests c.args.carried c.args.total c.in_default.is count in
    let full : length digests % 128 ≡ 0 = omega arith in
    let raised_count : length (full_raised salt digests) ≡ length digests / 128 =
    length-map (full_level digests) (digest salt) ∙ length-full_level digests in
    let above_all : length (full_raised salt digests ++ []) ≡ c.runs.result = rw append-nil (omega arith) in
    let inner = c.close.ensures.closes salt (full_raised salt digests) salted (are_digests salt (full_level digests)) (All-nil IsDigest) above_all in
    rw (c.split_at_mut-block.ensures.value, next, c.in_default.is)
    (closes_full salt (c.args.levels - 1) digests c.split_at_mut-block.result.0.now c.split_at_mut-block.result.1.now _ _ c.close.result
    c.split_at_mut-block.ensures.front_len full inner)

pub returns-in_err-up-clause-closes : goal.returns-in_err-up-clause-closes
returns-in_err-up-clause-closes g t c salt digests salted each carried_is count =
    let next : c.args.levels ≡ suc (c.args.levels - 1) = omega (arith, c.if-levels-eq0.false) in
    let block : List ℕ = c.split_at_mut-block.result.0.now in
    let above : List ℕ = c.split_at_mut-block.result.1.now in
    let after : List ℕ = c.match-carried.block in
    let whole : length block ≡ 4096 = c.split_at_mut-block.ensures.front_len in
    let has : HasLast digests c.args.carried block after =
    elim c.match-carried.branch [
      | in-Some w ↦
          let before : length digests ≡ c.args.total - 1 = count_some digests c.args.carried w.in-Some.digest c.args.total w.in-Some.is count in
          let long : length w.in-Some.digest ≡ 32 = All-head IsDigest w.in-Some.digest [] (rw w.in-Some.is at carried_is) in
          has_last-some digests c.args.carried w.in-Some.digest block after w.in-Some.is long (rw before (w.block-is ∙ w.place.ensures))
      | in_default+else-total-eq0 w ↦
          let all : length digests ≡ c.args.total = count_none digests c.args.carried c.args.total w.in_default.is count in
          has_last-none digests c.args.carried block after w.in_default.is (rw all w.if-total-eq0.false) w.block-is
    ] in
    let last : c.args.total - 1 + 1 ≡ c.args.total = omega arith in
    let failed : AddedPart (g.K.TreeOut.told c.args.out.now) ((place_of (c.args.levels - 1) c.args.total c.args.total, after) ∷ [])
    (g.K.TreeOut.told c.put_block.new.out) = rw last at c.in_err-up.ensures.failed in
    rw (c.split_at_mut-block.ensures.value, next)
    (closes_failed salt (c.args.levels - 1) c.args.total digests c.args.carried block above after _ _ c.from_residual.result
    c.from_residual.ensures.0 each whole has count failed)

pub returns-clause-closes : goal.returns-clause-closes
returns-clause-closes g t c salt digests salted each carried_is count =
    let next : c.args.levels ≡ suc (c.args.levels - 1) = omega (arith, c.if-levels-eq0.false) in
    let block : List ℕ = c.split_at_mut-block.result.0.now in
    let above : List ℕ = c.split_at_mut-block.result.1.now in
    let after : List ℕ = c.match-carried.block in
    let whole : length block ≡ 4096 = c.split_at_mut-block.ensures.front_len in
    let has : HasLast digests c.args.carried block after =
    elim c.match-carried.branch [
      | in-Some w ↦
          let before : length digests ≡ c.args.total - 1 = count_some digests c.args.carried w.in-Some.digest c.args.total w.in-Some.is count in
          let long : length w.in-Some.digest ≡ 32 = All-head IsDigest w.in-Some.digest [] (rw w.in-Some.is at carried_is) in
          has_last-some digests c.args.carried w.in-Some.digest block after w.in-Some.is long (rw before (w.block-is ∙ w.place.ensures))
      | in_default+else-total-eq0 w ↦
          let all : length digests ≡ c.args.total = count_none digests c.args.carried c.args.total w.in_default.is count in
          has_last-none digests c.args.carried block after w.in_default.is (rw all w.if-total-eq0.false) w.block-is
    ] in
    let last : c.args.total - 1 + 1 ≡ c.args.total = omega arith in
    let put : Added (g.K.TreeOut.told c.args.out.now) ((place_of (c.args.levels - 1) c.args.total c.args.total, after) ∷ [])
    (g.K.TreeOut.told c.put_block.new.out) = rw last at c.in_ok-up.ensures.put in
    let up : c.in_ok-up.up ≡ digest salt after = c.in_ok-up.ensures.digest salt salted in
    let up_long : length c.in_ok-up.up ≡ 32 = ap length up ∙ length-digest salt after in
    let raised_count : length (full_raised salt digests) ≡ length digests / 128 =
    length-map (full_level digests) (digest salt) ∙ length-full_level digests in
    let above_all : length (full_raised salt digests ++ c.in_ok-up.up ∷ []) ≡ c.runs-2.result =
    length-append (full_raised salt digests) (c.in_ok-up.up ∷ []) ∙ ap (λ (n : ℕ). n + 1) raised_count
    ∙ count_above digests c.args.carried c.args.total has.open_run count ∙ sym c.runs-2.ensures in
    let inner = c.close-2.ensures.closes salt (full_raised salt digests) salted (are_digests salt (full_level digests))
    (All-cons IsDigest c.in_ok-up.up [] up_long (All-nil IsDigest)) above_all in
    rw (c.split_at_mut-block.ensures.value, next)
    (closes_more salt (c.args.levels - 1) c.args.total digests c.args.carried block above after c.in_ok-up.up _ _ _ c.close-2.result
    each whole has count up put inner)
