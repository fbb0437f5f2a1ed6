use Rattle.std.proofs.Common.{◌≡◌, ◌≤◌, ◌*◌, ◌∙◌, sym, ap, subst, ℕ, Some}
use Rattle.rp_base.specs.Geometry.{least_sectors}
use Rattle.rp_gpt.specs.Shown.{accepted_table, table_fault}
use Rattle.rp_table.proofs.Judging.{table-not_empty, table-fault, table-seen, none-here, read-writable, read-seen, origin_if}
use Rattle.rp_table.proofs.judge.with_table.Goals as goal

pub returns-in-Require-clause-answer : goal.returns-in-Require-clause-answer
returns-in-Require-clause-answer c = λ image are by wide.
    table-not_empty image c.args.pieces.now c.requires.sized are c.args.table ∙ ap (λ empty. accepted_table c.args.pieces.now.sector image empty c.args.table) (sym c.in-Require.is)

pub returns-in-Some : goal.returns-in-Some
returns-in-Some c = record {
  answer = λ image are by wide.
      table-fault image c.args.pieces.now c.requires.sized are c.args.empty c.args.table c.in-Some.fault c.in_default.not-Require
      (subst (λ (z : ℕ). Some c.in-Some.fault ≡ table_fault (z * c.args.pieces.now.sectors) c.args.table) c.requires.read.of_sector c.in-Some.ensures.fault);
  no_call = λ e. c.in-Some.ensures.no_call (cc);
  seen = tt;
  sectors = tt;
  origin = tt;
}

pub is_same-primary_same-requires : goal.is_same-primary_same-requires
is_same-primary_same-requires c = record {
  sized = c.requires.sized;
  sector = c.requires.read.of_sector;
  writable = read-writable c.args.pieces.now c.requires.sized c.args.table c.requires.read c.in_default-table_fault.ensures.fault;
  fits = c.requires.read.fits;
  room = subst (λ (z : ℕ). least_sectors z c.args.table.entries ≤ c.args.pieces.now.sectors) (sym c.requires.read.of_sector) c.requires.read.room;
}

pub is_same-backup_same-requires : goal.is_same-backup_same-requires
is_same-backup_same-requires c = record {
  sized = c.requires.sized;
  sector = c.requires.read.of_sector;
  writable = read-writable c.args.pieces.now c.requires.sized c.args.table c.requires.read c.in_default-table_fault.ensures.fault;
  fits = c.requires.read.fits;
  room = subst (λ (z : ℕ). least_sectors z c.args.table.entries ≤ c.args.pieces.now.sectors) (sym c.requires.read.of_sector) c.requires.read.room;
}

pub returns : goal.returns
returns c = record {
  answer = λ image are by wide.
      table-seen image c.args.pieces.now c.requires.sized are c.args.empty c.args.origin c.args.table c.is_same-primary_same.result c.is_same-backup_same.result c.seen_of.result c.in_default.not-Require
      (none-here c.args.pieces.now c.requires.sized c.args.table c.requires.read c.in_default-table_fault.ensures.fault) by
      (c.is_same-primary_same.ensures image are) (c.is_same-backup_same.ensures image are) (c.seen_of.ensures.answer image are wide);
  no_call = c.seen_of.ensures.no_call;
  seen = read-seen c.args.pieces.now c.requires.sized c.args.table c.requires.read c.in_default-table_fault.ensures.fault c.args.origin c.seen_of.result c.seen_of.ensures.shown c.seen_of.ensures.sectors;
  sectors = c.seen_of.ensures.sectors;
  origin = origin_if c.seen_of.result c.args.table c.args.origin c.seen_of.ensures.shown;
}
