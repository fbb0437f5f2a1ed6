use Rattle.std.proofs.Common.{◌≡◌, ◌≢◌, ◌∙◌, ℕ, List, Option, None, ap, refl, arith, rules, w32, FitsSigned, get_or, get_or-set_other}
use Rattle.std.proofs.lemmas.Int.{to_z-of_z}
use Rattle.std.specs.Prelude.{slice_index_or}
use Rattle.std.specs.Option.{option_and_then}
use Rattle.std.proofs.Math.ListN.{set}
use Rattle.rp_defs.specs.declared.value.Value.{Value}
use Rattle.rp_defs.specs.Drafts.{draft_from}
use Rattle.rp_defs.specs.Value.{text_of}
use Rattle.rp_defs.proofs.draft.draft_from.Goals as goal

-- a value stays where another is taken out
kept : (values : List (Option Value)) (taken place : ℕ) → place ≢ taken
    → get_or (set values taken None) place None ≡ get_or values place None
kept values taken place apart = rw get_or-set_other refl

-- the text of the key of a number
text_at : List (Option Value) → ℕ → Option (List ℕ)
text_at values place = option_and_then text_of (slice_index_or values place None)

pub returns : goal.returns
unfolding draft_from text_at
returns c =
    let values = c.args.values.now in
    let split = c.take_text-split.ensures.text ∙ ap (λ (vs : List (Option Value)). text_at vs 25) c.take_text-source.ensures.rest
    ∙ ap (option_and_then text_of) (kept values 10 25 (omega arith)) in
    let match_key = c.take_text-match_key.ensures.text ∙ ap (λ (vs : List (Option Value)). text_at vs 12) c.take_text-split.ensures.rest
    ∙ ap (option_and_then text_of) (kept c.take_text-source.new.values 25 12 (omega arith))
    ∙ ap (λ (vs : List (Option Value)). text_at vs 12) c.take_text-source.ensures.rest
    ∙ ap (option_and_then text_of) (kept values 10 12 (omega arith)) in
    let fits : FitsSigned w32 c.priority_said-priority.result = search rules in
    let priority = to_z-of_z w32 c.priority_said-priority.result fits ∙ c.priority_said-priority.ensures in
    rw (
      c.label_in-label.ensures,
      c.id_in-id.ensures,
      priority,
      c.attrs_of-attrs.ensures,
      c.unwrap_or-factory_reset.ensures,
      c.switch_in.ensures,
      c.take_text-source.ensures.text,
      split,
      match_key,
      c.requires.want,
      c.requires.half,
    ) refl
