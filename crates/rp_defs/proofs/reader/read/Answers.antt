use Rattle.std.proofs.Common.{◌≡◌, ◌∙◌, List, inl, refl}
use Rattle.std.proofs.lemmas.Result.{err_from_is_err_and}
use Rattle.rp_files.specs.declared.piece.Piece.{Piece}
use Rattle.rp_types.specs.declared.arch.Arch.{Arch}
use Rattle.rp_defs.specs.Answers.{after}
use Rattle.rp_defs.specs.Drafting.{drafts_of}
use Rattle.rp_defs.specs.Faults.{no_memory}
use Rattle.rp_defs.specs.Pairs.{paired}
use Rattle.rp_defs.specs.Records.{records}
use Rattle.rp_defs.proofs.DraftLemmas.{records_is, with_pairs, gives_fault, gives_value, gives_same}
use Rattle.rp_defs.proofs.Tied.{records_drafted}
use Rattle.rp_defs.proofs.reader.read.Goals as goal

-- the definitions that the pieces say are those of their drafts
said_by : (arch : Arch) (pieces : List Piece) → records arch pieces ≡ after (drafts_of arch pieces) with_pairs
said_by arch pieces = records_drafted arch pieces ∙ records_is arch pieces

pub returns-in_err-drafts-clause-answer : goal.returns-in_err-drafts-clause-answer
returns-in_err-drafts-clause-answer c =
    let p = err_from_is_err_and c.from_residual.result c.from_residual.ensures.1 in
    rw (p.1, p.2) (gives_same no_memory _ _ _ (said_by c.args.arch c.args.pieces.now)
    (gives_fault no_memory (drafts_of c.args.arch c.args.pieces.now) with_pairs _ c.in_err-drafts.ensures.answer))

pub returns-in_err-list-clause-answer : goal.returns-in_err-list-clause-answer
returns-in_err-list-clause-answer c =
    let drafts = c.in_ok-drafts.drafts in
    let p = err_from_is_err_and c.from_residual-in_err-list.result c.from_residual-in_err-list.ensures.1 in
    let so_far = said_by c.args.arch c.args.pieces.now
    ∙ gives_value no_memory (drafts_of c.args.arch c.args.pieces.now) with_pairs drafts c.in_ok-drafts.ensures.answer in
    rw (p.1, p.2) (gives_same no_memory _ _ _ so_far (gives_fault no_memory (paired drafts.list) _ _ c.in_err-list.ensures.answer))

pub returns-clause-answer : goal.returns-clause-answer
returns-clause-answer c =
    let drafts = c.in_ok-drafts.drafts in
    let so_far = said_by c.args.arch c.args.pieces.now
    ∙ gives_value no_memory (drafts_of c.args.arch c.args.pieces.now) with_pairs drafts c.in_ok-drafts.ensures.answer in
    gives_same no_memory _ _ _ (so_far ∙ gives_value no_memory (paired drafts.list) _ c.in_ok-list.list c.in_ok-list.ensures.answer)
    (inl refl)
