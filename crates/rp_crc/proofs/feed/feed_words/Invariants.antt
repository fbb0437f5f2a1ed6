use Rattle.std.proofs.Common.{◌≡◌, take}
use Rattle.std.specs.List.{concat}
use Rattle.rp_crc.specs.Crc.{fed}
use Rattle.rp_crc.proofs.feed.feed_words.Given as goal

abbrev pub invariant-loop-word : goal.invariant-loop-word
invariant-loop-word l = l.register ≡ fed l.fn.register (concat (take l.word-index l.words))
