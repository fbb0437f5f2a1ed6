use Rattle.rp_crc.proofs.Shifts.{shifts_word}
use Rattle.rp_crc.proofs.feed.shifted_word.Goals as goal

pub returns : goal.returns
returns c =
    shifts_word c.args.word c.entry.result c.entry-2.result c.entry-3.result c.entry-4.result
    c.entry-5.result c.entry-6.result c.entry-7.result c.entry-8.result
    c.entry.ensures c.entry-2.ensures c.entry-3.ensures c.entry-4.ensures
    c.entry-5.ensures c.entry-6.ensures c.entry-7.ensures c.entry-8.ensures
