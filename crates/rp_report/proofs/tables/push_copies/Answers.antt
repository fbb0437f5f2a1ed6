use Rattle.std.proofs.Common.{◌++◌, string_bytes}
use Rattle.std.specs.Prelude.{codes}
use Rattle.rp_report.specs.Tables.{copies_line, mbr_word, same_text}
use Rattle.rp_report.proofs.TextLemmas.{five_pieces}
use Rattle.rp_report.proofs.tables.push_copies.Goals as goal

pub returns : goal.returns
unfolding copies_line
returns c =
    five_pieces c.push_str-2.result (string_bytes c.args.text.now) (string_bytes c.push_str.new.self) (string_bytes c.push_word.new.text)
    (string_bytes c.push_word-2.new.text) (string_bytes c.push_word-3.new.text) (string_bytes c.push_str-2.new.self)
    (codes "copies") (codes " primary=" ++ same_text c.args.seen.now.primary_same)
    (codes " backup=" ++ same_text c.args.seen.now.backup_same)
    (codes " mbr=" ++ mbr_word c.args.seen.now.mbr) (codes "\n")
    c.in_ok-push_str.ensures.bytes (rw c.same_word.ensures at c.in_ok-push_word.ensures)
    (rw c.same_word-2.ensures at c.in_ok-push_word-2.ensures)
    (rw c.mbr_word.ensures at c.in_ok-push_word-3.ensures) c.push_str-2.ensures.bytes
