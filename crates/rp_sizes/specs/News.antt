-- The definitions that are to get a row.
use Rattle.std.specs.Prelude.{ℕ, ◌+◌, List, filter_map, Option, Some, None, if◌then◌else◌}
use Rattle.std.specs.List.{enumerate_from}
use Rattle.rp_base.specs.declared.want.Want.{Want}
use Rattle.rp_areas.specs.Areas.{want_at}
use Rattle.rp_place.specs.declared.fit.New.{New}
use Rattle.rp_defs.specs.declared.definition.Definition.{Definition}
use Rattle.rp_sizes.specs.Needs.{is_new}

-- a definition, given with its place, that has no row: it needs its minimum and that of its padding
abbrev pub new_of : List (Option ℕ) → List Want → (ℕ × Definition) → Option New
new_of matched wants e =
    if is_new matched e.0
    then Some (record { file = e.0; need = (want_at wants e.0).min + (want_at wants e.0).pad_min; priority = e.1.priority })
    else None

-- all of them, in order
abbrev pub news_of : List (Option ℕ) → List Want → List Definition → List New
news_of matched wants defs = filter_map (new_of matched wants) (enumerate_from 0 defs)
