use Rattle.std.proofs.Common.{rules, ◌≡◌, ◌<◌, ◌++◌, ◌∷◌, [], length}
use Rattle.rp_disk.proofs.KeptLemmas.{calls-more, history-more}
use Rattle.rp_disk.proofs.record.Record.note.Goals as goal
use Rattle.rp_disk.proofs.record.Record.note.Goals.{then-is_empty+in_ok-self, else-is_empty}

pub returns-clause-calls : goal.returns-clause-calls
returns-clause-calls c =
    let old = c.args.self.now in
    let pushed : c.push.new.self.items ≡ old.calls.items ++ c.args.call ∷ [] = search rules in
    let answered : c.push-2.new.self.items ≡ old.oks.items ++ c.args.ok ∷ [] = search rules in
    rw (pushed, answered) (calls-more old.calls.items old.oks.items c.args.call c.args.ok old.answers)

pub returns-clause-history : goal.returns-clause-history
returns-clause-history c =
    let old = c.args.self.now in
    let pushed : c.push.new.self.items ≡ old.calls.items ++ c.args.call ∷ [] = search rules in
    let answered : c.push-2.new.self.items ≡ old.oks.items ++ c.args.ok ∷ [] = search rules in
    let at_first : old.calls.items ≡ [] → c.if-is_empty.self.1.0.items ≡ c.args.image.now = elim c.if-is_empty.branch [
      | then-is_empty+in_ok-self w ↦ search rules
      | else-is_empty w ↦ search rules
    ] in
    let later : 0 < length old.calls.items → c.if-is_empty.self.1.0.items ≡ old.first.items = elim c.if-is_empty.branch [
      | then-is_empty+in_ok-self w ↦ search rules
      | else-is_empty w ↦ search rules
    ] in
    λ after. rw (pushed, answered)
    (history-more c.args.image.now old.first.items c.if-is_empty.self.1.0.items old.calls.items old.oks.items
    c.args.call c.args.ok old.answers at_first later after)
