-- Wanted sources are those of definitions of the list.
use Rattle.std.proofs.Common.{◌≡◌, ◌&&◌, List, Bool, true, false, All, arith}
use Rattle.std.specs.Prelude.{is_some}
use Rattle.rp_base.specs.declared.table.Table.{Table}
use Rattle.rp_defs.specs.declared.definition.Definition.{Definition}
use Rattle.rp_facts.specs.Sourced.{IsSourced}
use Rattle.rp_sizes.specs.Needs.{is_new, matched_of, need_of, wanted_of}
use Rattle.rp_sizes.proofs.NewsLemmas.{All-answers, if_passes}

both : (a b : Bool) → (a && b) ≡ true → b ≡ true
both true b e = e
both false b e = absurd (cc)

-- each wanted source is that of a definition of the list
pub wanted_sourced : (table : Table) (list : List Definition) → All (IsSourced list) (wanted_of table list)
wanted_sourced table list = All-answers (IsSourced list) (need_of (matched_of table list)) 0 list (λ k m definition e is.
    let same : m ≡ k = omega (arith, e) in
    if_passes (IsSourced list) (is_new (matched_of table list) m && is_some definition.source) _
    (λ passed. (definition, rw same is, both (is_new (matched_of table list) m) (is_some definition.source) passed)))
