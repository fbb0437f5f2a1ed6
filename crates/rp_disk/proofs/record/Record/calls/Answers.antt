use Rattle.std.proofs.Common.{◌∙◌, sym}
use Rattle.rp_disk.proofs.KeptLemmas.{asked-answered}
use Rattle.rp_disk.proofs.record.Record.calls.Goals as goal

pub returns : goal.returns
returns c =
    let r = c.args.self.now in
    c.as_slice.ensures.value ∙ sym (asked-answered r.calls.items r.oks.items r.answers)
