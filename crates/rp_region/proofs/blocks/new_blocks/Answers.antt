use Rattle.std.proofs.Common.{ap}
use Rattle.std.specs.Prelude.{replicate}
use Rattle.rp_pool.specs.Region.{Region}
use Rattle.rp_region.specs.Region.{backup_run, levels_run, piece_run, primary_run}
use Rattle.rp_region.proofs.Leasing.{fit_backup, fit_levels, fit_piece, fit_primary, is_free, lent_next}
use Rattle.rp_region.proofs.blocks.new_blocks.Goals as goal

pub lease-backup-requires-clause-free : goal.lease-backup-requires-clause-free
lease-backup-requires-clause-free c =
    let a = lent_next _ _ _ primary_run (replicate 136 0) 33 (ap (λ (r : Region). r.out) c.in_ok-pool.ensures) fit_primary
    c.lease-primary.ensures.run c.lease-primary.ensures.region in
    is_free c.lease-primary.new.pool _ 33 backup_run a.out_is fit_backup

pub lease-piece-requires-clause-free : goal.lease-piece-requires-clause-free
lease-piece-requires-clause-free c =
    let a = lent_next _ _ _ primary_run (replicate 136 0) 33 (ap (λ (r : Region). r.out) c.in_ok-pool.ensures) fit_primary
    c.lease-primary.ensures.run c.lease-primary.ensures.region in
    let b = lent_next _ _ _ backup_run _ 33 a.out_is fit_backup c.lease-backup.ensures.run c.lease-backup.ensures.region in
    is_free c.lease-backup.new.pool _ 64 piece_run b.out_is fit_piece

pub lease-levels-requires-clause-free : goal.lease-levels-requires-clause-free
lease-levels-requires-clause-free c =
    let a = lent_next _ _ _ primary_run (replicate 136 0) 33 (ap (λ (r : Region). r.out) c.in_ok-pool.ensures) fit_primary
    c.lease-primary.ensures.run c.lease-primary.ensures.region in
    let b = lent_next _ _ _ backup_run _ 33 a.out_is fit_backup c.lease-backup.ensures.run c.lease-backup.ensures.region in
    let d = lent_next _ _ _ piece_run _ 64 b.out_is fit_piece c.lease-piece.ensures.run c.lease-piece.ensures.region in
    is_free c.lease-piece.new.pool _ 6 levels_run d.out_is fit_levels

pub returns : goal.returns
returns c =
    let a = lent_next _ _ _ primary_run (replicate 136 0) 33 (ap (λ (r : Region). r.out) c.in_ok-pool.ensures) fit_primary
    c.lease-primary.ensures.run c.lease-primary.ensures.region in
    let b = lent_next _ _ _ backup_run _ 33 a.out_is fit_backup c.lease-backup.ensures.run c.lease-backup.ensures.region in
    let d = lent_next _ _ _ piece_run _ 64 b.out_is fit_piece c.lease-piece.ensures.run c.lease-piece.ensures.region in
    let e = lent_next _ _ _ levels_run _ 6 d.out_is fit_levels c.lease-levels.ensures.run c.lease-levels.ensures.region in
    record { sound = c.lease-levels.ensures.sound; out = e.out_is; primary = a.is; backup = b.is; piece = d.is; levels = e.is }
