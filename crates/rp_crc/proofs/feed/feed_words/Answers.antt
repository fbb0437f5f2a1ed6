use Rattle.std.proofs.Common.{ℕ, List, [], get_or, sym}
use Rattle.rp_crc.proofs.Feeding.{fed-none, fed_word_more}
use Rattle.rp_crc.proofs.feed.feed_words.Goals as goal

pub loop-word-init : goal.loop-word-init
loop-word-init c = sym (fed-none c.args.register)

pub loop-word-preserved : goal.loop-word-preserved
loop-word-preserved c =
    let word : List ℕ = get_or c.args.words.now c.loop-word.word-index [] in
    let next = fed_word_more c.args.register c.args.words.now c.loop-word.word-index c.loop-word-test.true in
    cc
