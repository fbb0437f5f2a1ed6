use Rattle.std.proofs.Common.{rules, ◌≡◌, false, inl, sym, subst, List, ℕ}
use Rattle.std.specs.Prelude.{IsTrue}
use Rattle.rp_disk.specs.Device.{AllHold}
use Rattle.rp_disk.specs.History.{History}
use Rattle.rp_disk.specs.Made.{unharmed}
use Rattle.rp_disk.specs.MemDisk.{own}
use Rattle.rp_disk.specs.Kept.{noted, writes_fit}
use Rattle.rp_disk.specs.Noted.{answers_noted}
use Rattle.rp_disk.specs.declared.call.Call.TheVariants as calls
use Rattle.rp_disk.specs.declared.log.Note.TheVariants.{Write}
use Rattle.rp_disk.specs.Record.{first_bytes, history_kept, recorded}
use Rattle.rp_disk.proofs.Own.{told_missed}
use Rattle.rp_disk.proofs.mem.MemDisk.ask_write.Goals as goal

pub invariant_of-self-clause-told : goal.invariant_of-self-clause-told
invariant_of-self-clause-told c =
    let s = c.args.self.now in
    rw (c.then-self.ensures.1) (told_missed (own s) s.log.calls _ s.log.answers s.told)

pub invariant_of-self-then-is_err-clause-told : goal.invariant_of-self-then-is_err-clause-told
invariant_of-self-then-is_err-clause-told c =
    let s = c.args.self.now in
    let same : first_bytes s.bytes.items c.note.new.self ≡ first_bytes s.bytes.items s.notes = search rules in
    let told : AllHold (unharmed (first_bytes s.bytes.items c.note.new.self)) s.log.answers = subst (λ (b : List ℕ). AllHold (unharmed b) s.log.answers) (sym same) s.told in
    rw (c.then-self-then-is_err.ensures.1) (told_missed (unharmed (first_bytes s.bytes.items c.note.new.self)) s.log.calls _ s.log.answers told)

pub invariant_of-self-then-is_err-clause-fits : goal.invariant_of-self-then-is_err-clause-fits
invariant_of-self-then-is_err-clause-fits c =
    let s = c.args.self.now in
    let same : history_kept s.bytes.items c.note.new.self ≡ history_kept s.bytes.items s.notes = search rules in
    subst (λ (h : History). IsTrue (writes_fit h)) (sym same) s.fits

pub invariant_of-self-then-not-ok-clause-told : goal.invariant_of-self-then-not-ok-clause-told
invariant_of-self-then-not-ok-clause-told c =
    let s = c.args.self.now in
    let same : first_bytes s.bytes.items c.note.new.self ≡ first_bytes s.bytes.items s.notes = search rules in
    let told : AllHold (unharmed (first_bytes s.bytes.items c.note.new.self)) s.log.answers = subst (λ (b : List ℕ). AllHold (unharmed b) s.log.answers) (sym same) s.told in
    let noted : c.then-self-2.result.answers ≡ answers_noted s.log.calls s.log.answers (Write c.args.at c.args.bytes false) = rw (c.if-not-ok.true) at c.then-self-2.ensures.1 in
    rw noted (told_missed (unharmed (first_bytes s.bytes.items c.note.new.self)) s.log.calls _ s.log.answers told)

pub invariant_of-self-then-not-ok-clause-fits : goal.invariant_of-self-then-not-ok-clause-fits
invariant_of-self-then-not-ok-clause-fits c =
    let s = c.args.self.now in
    let now : history_kept s.bytes.items c.note.new.self ≡ noted (history_kept s.bytes.items s.notes) (calls.Write c.args.at c.from_vec.result) c.if-inside.ok = search rules in
    subst (λ (h : History). IsTrue (writes_fit h)) (sym now) (rw (c.if-not-ok.true) s.fits)

pub returns-clause-exact : goal.returns-clause-exact
returns-clause-exact c = record {
  number = search rules;
  same = search rules;
  outcome = inl record {
    starved = search rules;
    exact = record { ok = search rules; err = search rules };
    done = search rules;
    failed = search rules;
  };
}
