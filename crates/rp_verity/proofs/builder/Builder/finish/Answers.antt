-- What closing the levels does, said of blocks.
use Rattle.std.proofs.Common.{◌≡◌, ◌-◌, ◌/◌, ◌^◌, ◌≤◌, ℕ, List, [], ◌++◌, length, map, sym, ◌∙◌, arith, append-nil}
use Rattle.std.proofs.lemmas.List.{length-map}
use Rattle.std.proofs.lemmas.List.Elements.{All-nil}
use Rattle.rp_base.specs.Trees.{levels}
use Rattle.rp_verity.specs.Tree.{digest}
use Rattle.rp_verity.specs.Room.{IsDigest}
use Rattle.rp_verity.proofs.Added.{on_err_always, on_ok_always}
use Rattle.rp_verity.proofs.Blocks.{are_digests}
use Rattle.rp_verity.proofs.Taking.{puts_left, root_given, root_kept}
use Rattle.rp_verity.proofs.builder.Builder.finish.Goals as goal
use Rattle.rp_verity.proofs.builder.Builder.finish.Goals.{in-None, in-Some}

-- as many digests as data blocks
digest_count : (salt : List ℕ) (blocks : List (List ℕ)) (n : ℕ) → length blocks ≡ n → length (map (digest salt) blocks ++ []) ≡ n
digest_count salt blocks n all = rw append-nil (length-map blocks (digest salt) ∙ all)

pub returns-in_err-top-clause-cut : goal.returns-in_err-top-clause-cut
returns-in_err-top-clause-cut g c salt blocks has =
    let all : length blocks ≡ c.args.self.blocks = sym has.pushed ∙ c.requires.all in
    let some : 1 ≤ length blocks = omega (arith, c.requires.builder.some) in
    let count : c.args.self.count ≡ levels (length blocks) = rw all c.requires.builder.count in
    let closes = c.in_err-top.ensures.closes salt (map (digest salt) blocks) has.salted (are_digests salt blocks) (All-nil IsDigest)
    (digest_count salt blocks c.args.self.blocks all) in
    on_err_always c.from_residual.result (rw (puts_left salt c.args.self.count blocks some count) at (closes.cut has.room))

pub returns-clause-puts : goal.returns-clause-puts
returns-clause-puts g c salt blocks has =
    let all : length blocks ≡ c.args.self.blocks = sym has.pushed ∙ c.requires.all in
    let some : 1 ≤ length blocks = omega (arith, c.requires.builder.some) in
    let count : c.args.self.count ≡ levels (length blocks) = rw all c.requires.builder.count in
    let closes = c.in_ok-top.ensures.closes salt (map (digest salt) blocks) has.salted (are_digests salt blocks) (All-nil IsDigest)
    (digest_count salt blocks c.args.self.blocks all) in
    on_ok_always c.match-top.result (rw (puts_left salt c.args.self.count blocks some count) at (closes.puts has.room))

pub returns-clause-root : goal.returns-clause-root
returns-clause-root g c salt blocks has =
    let all : length blocks ≡ c.args.self.blocks = sym has.pushed ∙ c.requires.all in
    let some : 1 ≤ length blocks = omega (arith, c.requires.builder.some) in
    let count : c.args.self.count ≡ levels (length blocks) = rw all c.requires.builder.count in
    let one : (length blocks - 1) / 128 ^ c.args.self.count ≡ 0 = rw all c.requires.builder.top in
    let closes = c.in_ok-top.ensures.closes salt (map (digest salt) blocks) has.salted (are_digests salt blocks) (All-nil IsDigest)
    (digest_count salt blocks c.args.self.blocks all) in
    let tops = closes.top has.room in
    elim c.match-top.branch [
      | in-Some w ↦ rw w.result-is (root_given salt c.args.self.count blocks w.in-Some.root some count one (rw w.in-Some.is at tops))
      | in-None w ↦ rw w.result-is (root_kept salt c.args.self.count blocks c.args.self.root some count one (rw w.in-None.is at tops) has.root)
    ]
