use Rattle.std.proofs.Common.{◌≡◌, ℕ, ◌+◌, ◌*◌, ◌<◌, [], get_or, ap, ◌∙◌, arith}
use Rattle.std.proofs.lemmas.List.FromFn.{get_or-map-range_with_len}
use Rattle.rp_crc.specs.Tables.{shifts, shifted_bytes, shifted_tables}
use Rattle.rp_crc.proofs.feed.entry.Goals as goal

looked_up : (k b : ℕ) → k < 8 → b < 256 → get_or (get_or shifted_tables k []) b 0 ≡ shifts (8 * (k + 1)) b
unfolding shifted_tables shifted_bytes
looked_up k b k_in b_in =
    ap (λ t. get_or t b 0) (get_or-map-range_with_len shifted_bytes 0 8 k k [] k_in (omega arith))
    ∙ get_or-map-range_with_len (λ byte. shifts (8 * (k + 1)) byte) 0 256 b b 0 b_in (omega arith)

pub returns : goal.returns
returns c =
    ap (λ t. get_or (get_or t c.args.k []) c.args.byte 0) c.requires.tables
    ∙ looked_up c.args.k c.args.byte c.requires.k_in c.requires.byte_in
