-- One row after another.
use Rattle.std.proofs.Common.{◌≡◌, ◌≤◌, ◌<◌, List, length, take, ◌∙◌, ap, arith}
use Rattle.std.specs.List.{list_any}
use Rattle.std.specs.Prelude.{◌==◌}
use Rattle.std.proofs.lemmas.List.{take_all}
use Rattle.rp_base.specs.declared.table.Row.{Row}
use Rattle.rp_ident.specs.Kept.{number}
use Rattle.rp_ident.proofs.KeptLemmas.{any-more, ids-more}
use Rattle.rp_ident.proofs.used.used_of.Goals as goal

pub loop-row-preserved : goal.loop-row-preserved
loop-row-preserved c =
    let kept = c.keep_row.ensures in
    record {
      rising = kept.rising c.loop-row.invariant.rising;
      found = λ whole n some.
          any-more c.args.rows.now c.loop-row.row-index n _ _ _ c.loop-row-test.true (kept.found whole n some)
          (c.loop-row.invariant.found (kept.whole whole) n some);
      ids = ids-more c.args.rows.now c.loop-row.row-index _ c.loop-row-test.true kept.id c.loop-row.invariant.ids;
    }

pub returns : goal.returns
returns c =
    let all : take c.loop-row.row-index c.args.rows.now ≡ c.args.rows.now = take_all c.loop-row.row-index c.args.rows.now (omega arith) in
    record {
      rising = c.loop-row.invariant.rising;
      found = λ whole n some.
          c.loop-row.invariant.found whole n some ∙ ap (λ (rows : List Row). list_any (λ row. number row.id == n) rows) all;
      ids = λ whole. rw all at c.loop-row.invariant.ids;
    }
