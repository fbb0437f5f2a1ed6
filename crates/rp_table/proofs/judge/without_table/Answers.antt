use Rattle.std.proofs.Common.{◌<◌, ◌∙◌, sym, ap, subst, refl}
use Rattle.rp_base.specs.declared.seen.Origin.TheVariants as origins
use Rattle.rp_base.specs.declared.table.Table.{Table}
use Rattle.rp_gpt.specs.Mbr.{foreign_type}
use Rattle.rp_gpt.specs.Shown.{accepted_blank}
use Rattle.rp_table.proofs.Judging.{blank-foreign, blank-refused, blank-short, blank-result, read-blank}
use Rattle.rp_table.proofs.judge.without_table.Goals as goal

pub returns-in-Some-clause-answer : goal.returns-in-Some-clause-answer
returns-in-Some-clause-answer c = λ image are wide.
    blank-foreign image c.args.pieces.now c.requires are c.args.empty c.in-Some.kind (c.in-Some.ensures ∙ ap foreign_type c.as_slice.ensures)

pub returns-in-Refuse-clause-answer : goal.returns-in-Refuse-clause-answer
returns-in-Refuse-clause-answer c = λ image are wide.
    blank-refused image c.args.pieces.now c.requires are (c.in_default.ensures ∙ ap foreign_type c.as_slice.ensures) ∙ ap (accepted_blank c.args.pieces.now.sector image) (sym c.in-Refuse.is)

pub returns-then-table-lt-BLANK_FIRST : goal.returns-then-table-lt-BLANK_FIRST
returns-then-table-lt-BLANK_FIRST c = record {
  answer = λ image are wide. rw (c.from.ensures)
      (blank-short image c.args.pieces.now c.requires are c.args.empty c.in_default-empty.not-Refuse (c.in_default.ensures ∙ ap foreign_type c.as_slice.ensures)
      (subst (λ (t : Table). t.last < 2048) c.blank-table.ensures c.if-table-lt-BLANK_FIRST.true));
  no_call = λ e. cc;
  seen = tt;
  sectors = tt;
  refused = λ e. refl;
}

pub returns : goal.returns
returns c = record {
  answer = λ image are wide.
      blank-result image c.args.pieces.now c.requires are c.args.empty c.blank-table.result c.args.wide c.seen_of.result c.in_default-empty.not-Refuse (c.in_default.ensures ∙ ap foreign_type c.as_slice.ensures)
      c.blank-table.ensures c.if-table-lt-BLANK_FIRST.false (λ same. c.seen_of.ensures.answer image are same) wide;
  no_call = c.seen_of.ensures.no_call;
  seen = read-blank c.args.pieces.now c.requires c.blank-table.result origins.Neither c.seen_of.result c.blank-table.ensures c.if-table-lt-BLANK_FIRST.false c.seen_of.ensures.shown c.seen_of.ensures.sectors;
  sectors = c.seen_of.ensures.sectors;
  refused = λ e. absurd (c.in_default-empty.not-Refuse e);
}
