use Rattle.std.proofs.Common.{rules, [], ◌∷◌}
use Rattle.rp_disk.specs.declared.call.Call.TheVariants.{Sync}
use Rattle.rp_disk.proofs.Runs.{broke_off_at, broke_off_within, more, on_err}
use Rattle.rp_disk_example.specs.Copies.{row_of}
use Rattle.rp_disk_example.proofs.copies.make_row.Goals as goal

pub returns-in_err-write_row-clause-ran : goal.returns-in_err-write_row-clause-ran
returns-in_err-write_row-clause-ran g c =
    let row = row_of c.args.at c.args.count c.args.bytes.now in
    record {
      ok = search rules;
      err =
          on_err c.from_residual-in_err-write_row.result (broke_off_within _ _ _ (Sync ∷ []) row (Sync ∷ []) c.in_ok-sync.ensures.calls.ok c.in_err-write_row.ensures.ran.err);
    }

pub returns-in_err-sync-2-clause-ran : goal.returns-in_err-sync-2-clause-ran
returns-in_err-sync-2-clause-ran g c =
    let row = row_of c.args.at c.args.count c.args.bytes.now in
    let two = more _ _ _ (Sync ∷ []) row c.in_ok-sync.ensures.calls.ok c.in_ok-write_row.ensures.ran.ok in
    record { ok = search rules; err = on_err c.from_residual-in_err-sync-2.result (broke_off_at _ _ _ (Sync ∷ row) Sync [] two c.in_err-sync-2.ensures.calls.err) }
