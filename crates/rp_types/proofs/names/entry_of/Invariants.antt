use Rattle.std.proofs.Common.{◌≡◌, take, None}
use Rattle.std.specs.Prelude.{find}
use Rattle.std.specs.Str.{bytes_eq}
use Rattle.rp_types.proofs.names.entry_of.Given as goal

abbrev pub invariant-loop-entry : goal.invariant-loop-entry
invariant-loop-entry l = find (λ entry. bytes_eq entry.1.kind.0 l.kind.0) (take l.entry-index l.entry-items) ≡ None
