-- The index, the names and the lists grow together, or stay.
use Rattle.std.proofs.Common.{◌∷◌, ◌++◌, [], ap, ◌∙◌}
use Rattle.rp_ini.specs.Parser.{with_section, place_of}
use Rattle.rp_ini.specs.File.{sections_of}
use Rattle.rp_ini.proofs.FileLemmas.{section_added, section_kept, section_same, sections_of-push, place_found, place_within, place_at_end}
use Rattle.rp_ini.proofs.file.File.with_section.Goals as goal

pub returns-then-is_new-clause-file : goal.returns-then-is_new-clause-file
returns-then-is_new-clause-file c =
    ap (λ ns. sections_of ns c.push-then-is_new.new.self.items) (c.in_ok-push.ensures.ok ∙ ap (λ t. c.self.inside.names ++ t ∷ []) c.in_ok-from_str-2.ensures)
    ∙ ap (λ ls. sections_of (c.self.inside.names ++ c.args.name.now ∷ []) ls) c.in_ok-push-2.ensures.items
    ∙ section_added c.args.name.now c.in_ok-from_str.field-0 c.self.inside.index.keys c.self.inside.names c.self.inside.assigns.items c.new.result c.in_ok-place.is_new
    c.self.invariant.keyed c.self.invariant.paired c.in_ok-from_str.ensures.ok c.in_ok-place.ensures.added c.if-is_new.true c.new.ensures.items
    ∙ ap (λ ss. with_section c.args.name.now ss) c.self.view_is

pub returns-then-is_new-clause-place : goal.returns-then-is_new-clause-place
returns-then-is_new-clause-place c =
    place_found c.args.name.now c.in_ok-from_str.field-0 c.self.inside.index.keys c.self.inside.names c.self.inside.assigns.items c.in_ok-place.place
    c.self.invariant.keyed c.self.invariant.paired c.in_ok-from_str.ensures.ok c.in_ok-place.ensures.index
    ∙ ap (λ ss. place_of c.args.name.now ss) c.self.view_is

pub returns-then-is_new-clause-inside : goal.returns-then-is_new-clause-inside
returns-then-is_new-clause-inside c =
    place_at_end c.args.name.now (sections_of c.self.inside.names c.self.inside.assigns.items) (sections_of c.push.new.self c.push-then-is_new.new.self.items)
    (record { name = c.args.name.now; assigns = c.new.result.items }) c.in_ok-place.place
    (place_found c.args.name.now c.in_ok-from_str.field-0 c.self.inside.index.keys c.self.inside.names c.self.inside.assigns.items c.in_ok-place.place
    c.self.invariant.keyed c.self.invariant.paired c.in_ok-from_str.ensures.ok c.in_ok-place.ensures.index)
    (ap (λ ns. sections_of ns c.push-then-is_new.new.self.items) (c.in_ok-push.ensures.ok ∙ ap (λ t. c.self.inside.names ++ t ∷ []) c.in_ok-from_str-2.ensures)
    ∙ ap (λ ls. sections_of (c.self.inside.names ++ c.args.name.now ∷ []) ls) c.in_ok-push-2.ensures.items
    ∙ sections_of-push c.self.inside.names c.self.inside.assigns.items c.args.name.now c.new.result c.self.invariant.paired)

pub returns-clause-file : goal.returns-clause-file
returns-clause-file c =
    section_same c.args.name.now (sections_of c.self.inside.names c.self.inside.assigns.items)
    (section_kept c.args.name.now c.in_ok-from_str.field-0 c.self.inside.index.keys c.self.inside.names c.self.inside.assigns.items c.in_ok-place.is_new
    c.self.invariant.keyed c.self.invariant.paired c.in_ok-from_str.ensures.ok c.in_ok-place.ensures.added c.if-is_new.false)
    ∙ ap (λ ss. with_section c.args.name.now ss) c.self.view_is

pub returns-clause-place : goal.returns-clause-place
returns-clause-place c =
    place_found c.args.name.now c.in_ok-from_str.field-0 c.self.inside.index.keys c.self.inside.names c.self.inside.assigns.items c.in_ok-place.place
    c.self.invariant.keyed c.self.invariant.paired c.in_ok-from_str.ensures.ok c.in_ok-place.ensures.index
    ∙ ap (λ ss. place_of c.args.name.now ss) c.self.view_is

pub returns-clause-inside : goal.returns-clause-inside
returns-clause-inside c =
    place_within c.args.name.now (sections_of c.self.inside.names c.self.inside.assigns.items) c.in_ok-place.place
    (place_found c.args.name.now c.in_ok-from_str.field-0 c.self.inside.index.keys c.self.inside.names c.self.inside.assigns.items c.in_ok-place.place
    c.self.invariant.keyed c.self.invariant.paired c.in_ok-from_str.ensures.ok c.in_ok-place.ensures.index)
    (section_kept c.args.name.now c.in_ok-from_str.field-0 c.self.inside.index.keys c.self.inside.names c.self.inside.assigns.items c.in_ok-place.is_new
    c.self.invariant.keyed c.self.invariant.paired c.in_ok-from_str.ensures.ok c.in_ok-place.ensures.added c.if-is_new.false)
