use Rattle.std.proofs.Common.{arith}
use Rattle.std.proofs.lemmas.Result.{err_from_is_err_and}
use Rattle.rp_defs.specs.Settings.{sections_of}
use Rattle.rp_defs.proofs.SectionLemmas.{set_more, set_faulty, set_full, read_well}
use Rattle.rp_defs.proofs.sections.settings_of.Goals as goal

pub returns-in_err-file-clause-answer : goal.returns-in_err-file-clause-answer
returns-in_err-file-clause-answer c =
    let told = set_faulty c.args.pieces.now c.loop-piece.piece-index c.piece-item.result c.in_err-file.field-0.0 c.loop-piece.settings
    c.loop-piece-test.true c.piece-item.is
    c.loop-piece.invariant.so_far c.in_err-file.ensures.answer in
    let passed = err_from_is_err_and c.from_residual.result c.from_residual.ensures.1 in
    rw (passed.1, passed.2) told

pub with_file-requires-clause-full : goal.with_file-requires-clause-full
with_file-requires-clause-full c = set_full _ c.loop-piece.settings c.loop-piece.invariant.so_far

pub loop-piece-preserved : goal.loop-piece-preserved
loop-piece-preserved c = record {
  so_far = set_more c.args.pieces.now c.loop-piece.piece-index c.piece-item.result c.in_ok-file.file c.loop-piece.settings
      c.in_ok-settings.settings c.loop-piece-test.true c.piece-item.is
      c.loop-piece.invariant.so_far
      (read_well (sections_of c.piece-item.result) c.in_ok-file.file c.in_ok-file.ensures.answer) c.in_ok-settings.ensures.counting
      c.in_ok-settings.ensures.ignored;
  bound = let more = c.in_ok-settings.ensures.bound in let so_far = c.loop-piece.invariant.bound in omega arith;
}
