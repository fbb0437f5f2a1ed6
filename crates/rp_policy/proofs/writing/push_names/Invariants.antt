use Rattle.std.proofs.Common.{ℕ, List, map, drop}
use Rattle.std.specs.Prelude.{string_bytes}
use Rattle.std.specs.Borrow.{Bor}
use Rattle.rp_policy.specs.Written.{names_set}
use Rattle.rp_policy.proofs.Joined.{Grows}
use Rattle.rp_policy.proofs.writing.push_names.Given as goal

abbrev pub invariant-loop-name : goal.invariant-loop-name
invariant-loop-name l = Grows 43 l.none (string_bytes l.initial.text)
    (names_set l.flags (map (λ (e : Bor (List ℕ) × ℕ). (e.0.now, e.1)) l.names)) l.first
    (string_bytes l.text) (names_set l.flags (map (λ (e : Bor (List ℕ) × ℕ). (e.0.now, e.1)) (drop l.name-index l.names)))
