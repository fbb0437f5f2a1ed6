-- One number more among those kept.
use Rattle.std.proofs.Common.{◌≡◌, false, List, ℕ}
use Rattle.std.specs.Prelude.{insert, is_err}
use Rattle.rp_ident.proofs.KeptLemmas.{insert-any, when_ok}
use Rattle.rp_ident.proofs.used.keep.Goals as goal

pub returns-else-is_err-clause-found : goal.returns-else-is_err-clause-found
returns-else-is_err-clause-found c whole n =
    let done : is_err c.try_insert.result ≡ false = (cc) in
    let items : c.try_insert.new.self.items ≡ insert c.args.used.now.numbers.items c.place_for-at.result c.args.number =
    when_ok c.try_insert.result done c.try_insert.ensures.ok in
    rw items (insert-any c.args.used.now.numbers.items c.place_for-at.result c.args.number n)
