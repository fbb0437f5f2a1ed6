use Rattle.std.proofs.Common.{◌∙◌}
use Rattle.rp_region.proofs.Held.{backup_size, copies_held, primary_size, region_written}
use Rattle.rp_region.proofs.blocks.write_copies.Goals as goal

pub write_copy-requires-clause-run : goal.write_copy-requires-clause-run
write_copy-requires-clause-run c =
    let l = c.requires.leased in
    primary_size c.args.blocks.now.pool c.args.blocks.now.primary _ l.sound l.out l.primary c.bytes_mut-primary.ensures.value

pub write_copy-requires-2-clause-run : goal.write_copy-requires-2-clause-run
write_copy-requires-2-clause-run c =
    let l = c.requires.leased in
    backup_size _ c.args.blocks.now.backup _ (region_written c.args.blocks.now.pool c.args.blocks.now.primary c.write_copy.new.run l.sound) l.out l.backup
    c.bytes_mut-backup.ensures.value

pub returns-clause-copies : goal.returns-clause-copies
returns-clause-copies c =
    let l = c.requires.leased in
    let x = primary_size c.args.blocks.now.pool c.args.blocks.now.primary _ l.sound l.out l.primary c.bytes_mut-primary.ensures.value in
    let y = backup_size _ c.args.blocks.now.backup _ (region_written c.args.blocks.now.pool c.args.blocks.now.primary c.write_copy.new.run l.sound) l.out l.backup
    c.bytes_mut-backup.ensures.value in
    copies_held c.args.blocks.now.pool c.args.blocks.now.primary c.args.blocks.now.backup _ _ _ c.write_copy.new.run c.write_copy-2.new.run l.sound l.out l.primary l.backup
    (c.write_copy.auto.run ∙ x) (c.write_copy-2.auto.run ∙ y) c.write_copy.ensures c.write_copy-2.ensures

pub returns-clause-leased : goal.returns-clause-leased
returns-clause-leased c =
    let l = c.requires.leased in
    record {
      sound = region_written _ c.args.blocks.now.backup c.write_copy-2.new.run (region_written c.args.blocks.now.pool c.args.blocks.now.primary c.write_copy.new.run l.sound);
      out = l.out;
      primary = l.primary;
      backup = l.backup;
      piece = l.piece;
      levels = l.levels;
    }
