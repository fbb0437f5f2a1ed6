-- What adding a digest does, said of blocks.
use Rattle.std.proofs.Common.{◌≡◌, ℕ, List, [], ◌∷◌, length, map, sym, ◌∙◌, ap, arith, length-append}
use Rattle.std.proofs.lemmas.List.{length-map}
use Rattle.sha2.specs.Hashers.{Holds256}
use Rattle.rp_verity.specs.Tree.{digest}
use Rattle.rp_verity.proofs.Added.{on_err_always}
use Rattle.rp_verity.proofs.Blocks.{are_digests, length-digest}
use Rattle.rp_verity.proofs.Taking.{digests_more, puts_taken, root_none, root_some}
use Rattle.rp_verity.proofs.builder.Builder.push_digest.Goals as goal

pub returns-in_err-top-clause-cut : goal.returns-in_err-top-clause-cut
returns-in_err-top-clause-cut g c salt next taken rest has new all =
    let count : ℕ = c.args.self.now.count in
    let blocks : ℕ = c.args.self.now.blocks in
    let digests : List (List ℕ) = map (digest salt) taken in
    let salted : Holds256 c.copy_of-salted.result salt = rw c.copy_of-salted.ensures has.salted in
    let adds = c.in_err-top.ensures.adds salt digests salted (are_digests salt taken) (ap length new ∙ length-digest salt next)
    (length-map taken (digest salt) ∙ sym has.pushed) in
    on_err_always c.from_residual.result (rw (new, puts_taken salt count blocks taken rest next c.requires.builder.count all) at (adds.cut has.room))

pub returns-in-Some-clause-taken : goal.returns-in-Some-clause-taken
returns-in-Some-clause-taken g c salt next taken has new =
    let count : ℕ = c.args.self.now.count in
    let blocks : ℕ = c.args.self.now.blocks in
    let digests : List (List ℕ) = map (digest salt) taken in
    let salted : Holds256 c.copy_of-salted.result salt = rw c.copy_of-salted.ensures has.salted in
    let adds = c.in_ok-top.ensures.adds salt digests salted (are_digests salt taken) (ap length new ∙ length-digest salt next)
    (length-map taken (digest salt) ∙ sym has.pushed) in
    let tops = rw (new, c.in-Some.is) at (adds.top has.room) in
    record {
      salted = has.salted;
      pushed = omega (arith, has.pushed, length-append taken (next ∷ []));
      room = rw (new, digests_more salt taken next) at (adds.held has.room);
      root = λ front top e.
          root_some salt count digests (digest salt next) c.in-Some.root tops front top (rw (digests_more salt taken next) e);
    }

pub returns-in-Some-clause-puts : goal.returns-in-Some-clause-puts
returns-in-Some-clause-puts g c salt next taken rest has new all =
    let count : ℕ = c.args.self.now.count in
    let blocks : ℕ = c.args.self.now.blocks in
    let digests : List (List ℕ) = map (digest salt) taken in
    let salted : Holds256 c.copy_of-salted.result salt = rw c.copy_of-salted.ensures has.salted in
    let adds = c.in_ok-top.ensures.adds salt digests salted (are_digests salt taken) (ap length new ∙ length-digest salt next)
    (length-map taken (digest salt) ∙ sym has.pushed) in
    rw (new, puts_taken salt count blocks taken rest next c.requires.builder.count all) at (adds.puts has.room)

pub returns-in_default-clause-taken : goal.returns-in_default-clause-taken
returns-in_default-clause-taken g c salt next taken has new =
    let count : ℕ = c.args.self.now.count in
    let blocks : ℕ = c.args.self.now.blocks in
    let digests : List (List ℕ) = map (digest salt) taken in
    let salted : Holds256 c.copy_of-salted.result salt = rw c.copy_of-salted.ensures has.salted in
    let adds = c.in_ok-top.ensures.adds salt digests salted (are_digests salt taken) (ap length new ∙ length-digest salt next)
    (length-map taken (digest salt) ∙ sym has.pushed) in
    let tops = rw (new, c.in_default.is) at (adds.top has.room) in
    record {
      salted = has.salted;
      pushed = omega (arith, has.pushed, length-append taken (next ∷ []));
      room = rw (new, digests_more salt taken next) at (adds.held has.room);
      root = λ front top e.
          root_none salt count digests (digest salt next) c.args.self.now.root has.root tops front top (rw (digests_more salt taken next) e);
    }

pub returns-in_default-clause-puts : goal.returns-in_default-clause-puts
returns-in_default-clause-puts g c salt next taken rest has new all =
    let count : ℕ = c.args.self.now.count in
    let blocks : ℕ = c.args.self.now.blocks in
    let digests : List (List ℕ) = map (digest salt) taken in
    let salted : Holds256 c.copy_of-salted.result salt = rw c.copy_of-salted.ensures has.salted in
    let adds = c.in_ok-top.ensures.adds salt digests salted (are_digests salt taken) (ap length new ∙ length-digest salt next)
    (length-map taken (digest salt) ∙ sym has.pushed) in
    rw (new, puts_taken salt count blocks taken rest next c.requires.builder.count all) at (adds.puts has.room)
