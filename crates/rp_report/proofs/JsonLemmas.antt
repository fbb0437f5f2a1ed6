-- The JSON of an image and of a plan have no number with a fraction, so their texts are said whole.
use Rattle.std.proofs.Common.{ℕ, ◌≡◌, List, [], ◌∷◌, Bool, true, false, Option, Some, None, map, refl, ◌∙◌, ap}
use Rattle.serde_json.specs.Data.{Data, object, string}
use Rattle.serde_json.specs.View.{items_of}
use Rattle.serde_json.specs.Written.{compact_text, has_float, items_have_float}
use Rattle.rp_base.specs.declared.seen.Seen.{Seen}
use Rattle.rp_base.specs.declared.table.Row.{Row}
use Rattle.rp_base.specs.Plan.{Noted, noted_of}
use Rattle.rp_base.specs.declared.plan.Plan.{Plan}
use Rattle.rp_defs.specs.declared.definition.Definition.{Definition}
use Rattle.rp_defs.specs.declared.definition.Definitions.{Definitions}
use Rattle.rp_report.specs.Json.{integer, row_data, seen_data}
use Rattle.rp_report.specs.PlanJson.{noted_data, owner_data, plan_members, with_applied}
use Rattle.rp_report.specs.Plans.{file_text}

rows_have_no_float : (rows : List Row) → items_have_float (items_of (map row_data rows)) ≡ false
rows_have_no_float [] = refl
rows_have_no_float (row ∷ rows) = rows_have_no_float rows

pub seen_has_no_float : (seen : Seen) → has_float (seen_data seen) ≡ false
seen_has_no_float seen = rw (rows_have_no_float seen.shown.rows) refl

-- the text of a value that is the image's
pub text_of_seen : (seen : Seen) (value : Data) (text : List ℕ) → value ≡ seen_data seen
    → (has_float value ≡ false → text ≡ compact_text value) → text ≡ compact_text (seen_data seen)
text_of_seen seen value text e written = written (ap has_float e ∙ seen_has_no_float seen) ∙ ap compact_text e

owner_has_no_float : (list : List Definition) (file : Option ℕ) → has_float (owner_data list file) ≡ false
owner_has_no_float list None = refl
owner_has_no_float list (Some place) = refl

noted_have_no_float : (list : List Definition) (rows : List Noted) → items_have_float (items_of (map (noted_data list) rows)) ≡ false
noted_have_no_float list [] = refl
noted_have_no_float list (noted ∷ rows) = rw (owner_has_no_float list noted.1.file) (noted_have_no_float list rows)

files_have_no_float : (list : List Definition) (places : List ℕ)
    → items_have_float (items_of (map (λ place. string (file_text list place)) places)) ≡ false
files_have_no_float list [] = refl
files_have_no_float list (place ∷ places) = files_have_no_float list places

slots_have_no_float : (slots : List ℕ) → items_have_float (items_of (map integer slots)) ≡ false
slots_have_no_float [] = refl
slots_have_no_float (slot ∷ slots) = slots_have_no_float slots

pub plan_has_no_float : (plan : Plan) (definitions : Definitions) (steps writes : ℕ) (applied : Bool) (reset : Option (List ℕ))
    → has_float (object (with_applied applied (plan_members plan definitions steps writes reset))) ≡ false
plan_has_no_float plan definitions steps writes true None =
    rw (files_have_no_float definitions.list plan.dropped, noted_have_no_float definitions.list (noted_of plan)) refl
plan_has_no_float plan definitions steps writes false None =
    rw (files_have_no_float definitions.list plan.dropped, noted_have_no_float definitions.list (noted_of plan)) refl
plan_has_no_float plan definitions steps writes true (Some slots) =
    rw (files_have_no_float definitions.list plan.dropped, slots_have_no_float slots, noted_have_no_float definitions.list (noted_of plan)) refl
plan_has_no_float plan definitions steps writes false (Some slots) =
    rw (files_have_no_float definitions.list plan.dropped, slots_have_no_float slots, noted_have_no_float definitions.list (noted_of plan)) refl

-- the text of a value that is the plan's
pub text_of_plan : (plan : Plan) (definitions : Definitions) (steps writes : ℕ) (applied : Bool) (reset : Option (List ℕ)) (value : Data)
    (text : List ℕ) → value ≡ object (with_applied applied (plan_members plan definitions steps writes reset))
    → (has_float value ≡ false → text ≡ compact_text value)
    → text ≡ compact_text (object (with_applied applied (plan_members plan definitions steps writes reset)))
text_of_plan plan definitions steps writes applied reset value text e written =
    written (ap has_float e ∙ plan_has_no_float plan definitions steps writes applied reset) ∙ ap compact_text e
