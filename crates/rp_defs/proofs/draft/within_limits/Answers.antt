use Rattle.std.proofs.Common.{◌≡◌, ℕ, List, Option, Ok, ap, sym, subst, ◌∙◌, inl}
use Rattle.rp_base.specs.declared.want.Want.{Want}
use Rattle.rp_defs.specs.declared.draft.Half.{Half}
use Rattle.rp_defs.specs.declared.value.Value.{Value}
use Rattle.rp_defs.specs.Drafts.{half_said, want_of, draft_from}
use Rattle.rp_defs.specs.Limits.{has_no_size}
use Rattle.rp_defs.specs.SoundDraft.{IsSoundDraft}
use Rattle.rp_defs.proofs.BoundLemmas.{draft_sound, limits_kept, limits_broken}
use Rattle.rp_defs.proofs.draft.within_limits.Goals as goal

-- what the half and the want were computed of
want_is : (values first second : List (Option Value)) (half : Half) (want : Want) → first ≡ values → second ≡ values
    → half ≡ half_said first → want ≡ want_of half second → want ≡ want_of (half_said values) values
want_is values first second half want a b h w =
    w ∙ ap (λ (x : Half). want_of x second) (h ∙ ap half_said a) ∙ ap (want_of (half_said values)) b

pub returns-then-has_no_size-clause-answer : goal.returns-then-has_no_size-clause-answer
returns-then-has_no_size-clause-answer c =
    let want = want_is c.args.values _ _ _ _ c.as_slice.ensures c.as_slice-2.ensures c.half_said-half.ensures c.want_of-want.ensures in
    limits_broken c.args.file.now c.args.kind c.args.values c.placed.result
    (ap has_no_size (sym want) ∙ sym c.has_no_size.ensures ∙ c.if-has_no_size.true) c.placed.ensures.fault

pub returns-in-Ok-clause-answer : goal.returns-in-Ok-clause-answer
returns-in-Ok-clause-answer c =
    let want = want_is c.args.values _ _ _ _ c.as_slice.ensures c.as_slice-2.ensures c.half_said-half.ensures c.want_of-want.ensures in
    let sized = ap has_no_size (sym want) ∙ sym c.has_no_size.ensures ∙ c.if-has_no_size.false in
    let draft = c.draft_from.ensures ∙ ap (λ (f : List ℕ). draft_from f c.args.kind c.as_mut_slice.result.now) c.in-Ok.ensures
    ∙ ap (draft_from c.args.file.now c.args.kind) c.as_mut_slice.ensures.value in
    inl (ap Ok draft ∙ sym (limits_kept c.args.file.now c.args.kind c.args.values sized))

pub returns-in-Ok-clause-sound : goal.returns-in-Ok-clause-sound
returns-in-Ok-clause-sound c =
    let want = want_is c.args.values _ _ _ _ c.as_slice.ensures c.as_slice-2.ensures c.half_said-half.ensures c.want_of-want.ensures in
    let sized = ap has_no_size (sym want) ∙ sym c.has_no_size.ensures ∙ c.if-has_no_size.false in
    let draft = c.draft_from.ensures ∙ ap (λ (f : List ℕ). draft_from f c.args.kind c.as_mut_slice.result.now) c.in-Ok.ensures
    ∙ ap (draft_from c.args.file.now c.args.kind) c.as_mut_slice.ensures.value in
    subst IsSoundDraft (sym draft) (draft_sound c.args.file.now c.args.kind c.args.values c.requires.used c.requires.bounded sized)
