use Rattle.std.proofs.Common.{◌∙◌, sym, inl, inr}
use Rattle.std.proofs.lemmas.Result.{err_from_is_err_and}
use Rattle.rp_disk.specs.History.{held}
use Rattle.rp_disk.specs.Made.{history_of}
use Rattle.rp_disk.proofs.Noting.{can_before}
use Rattle.rp_table.proofs.Reading.{accepted-long, accepted-short, accepted_read, len_read, unread, is_disk, whole_sectors}
use Rattle.rp_table.proofs.image.read_at.Goals as goal

pub returns-then-len-gt-GREATEST_LEN-clause-answer : goal.returns-then-len-gt-GREATEST_LEN-clause-answer
returns-then-len-gt-GREATEST_LEN-clause-answer g c = λ past can.
    inr (inl (accepted-long c.args.sector (held (history_of past (g.D.Disk.device c.args.disk.now).calls)) c.args.empty c.in-Ok.len (c.in-Ok.ensures.len past can) c.if-len-gt-GREATEST_LEN.true))

pub returns-then-not-has_room-clause-answer : goal.returns-then-not-has_room-clause-answer
returns-then-not-has_room-clause-answer g c = λ past can.
    inr (inl (accepted-short c.args.sector (held (history_of past (g.D.Disk.device c.args.disk.now).calls)) c.args.empty c.in-Ok.len (c.in-Ok.ensures.len past can) c.if-len-gt-GREATEST_LEN.false (sym c.has_room.ensures ∙ c.if-not-has_room.true)))

pub read_pieces-requires : goal.read_pieces-requires
read_pieces-requires g c = rw (c.from.ensures) (is_disk c.args.sector c.in-Ok.len c.requires c.if-len-gt-GREATEST_LEN.false (sym c.has_room.ensures ∙ c.if-not-has_room.false))

pub returns-in_err-pieces-clause-answer : goal.returns-in_err-pieces-clause-answer
returns-in_err-pieces-clause-answer g c =
    let p = err_from_is_err_and c.from_residual.result c.from_residual.ensures.1 in
    rw (p.1, p.2) (λ past can. unread (held (history_of past (g.D.Disk.device c.args.disk.now).calls)) c.args.sector c.args.empty c.in_err-pieces.field-0.0 c.in_err-pieces.ensures.either)

pub returns-clause-answer : goal.returns-clause-answer
returns-clause-answer g c = λ past can.
    accepted_read (held (history_of past (g.D.Disk.device c.args.disk.now).calls)) c.args.sector c.in-Ok.len c.args.empty c.in_ok-pieces.pieces c.judged.result
    c.requires c.if-len-gt-GREATEST_LEN.false (sym c.has_room.ensures ∙ c.if-not-has_room.false) (c.in-Ok.ensures.len past (can_before c.in_ok-pieces.ensures.earlier can))
    (rw (c.from.ensures, c.in-Ok.ensures.calls) at (c.in_ok-pieces.ensures.pieces past can)) c.in_ok-pieces.ensures.sized.1 c.judged.ensures.answer

pub returns-clause-len : goal.returns-clause-len
returns-clause-len g c = λ past can.
    len_read (held (history_of past (g.D.Disk.device c.args.disk.now).calls)) c.args.sector c.in-Ok.len c.in_ok-pieces.pieces c.judged.result c.requires (sym c.has_room.ensures ∙ c.if-not-has_room.false)
    (c.in-Ok.ensures.len past (can_before c.in_ok-pieces.ensures.earlier can)) c.in_ok-pieces.ensures.sized.1 (rw (c.from.ensures) at c.in_ok-pieces.ensures.sized.2) c.judged.ensures.sectors

pub returns-in_err-pieces-clause-inside : goal.returns-in_err-pieces-clause-inside
returns-in_err-pieces-clause-inside g c = λ past can.
    c.in_err-pieces.ensures.inside past (rw (c.from.ensures, c.in-Ok.ensures.calls) (whole_sectors c.args.sector c.in-Ok.len _ c.requires (sym c.has_room.ensures ∙ c.if-not-has_room.false)
    (c.in-Ok.ensures.len past (can_before c.in_err-pieces.ensures.earlier can))))
    ∙ c.in-Ok.ensures.inside past

pub returns-clause-inside : goal.returns-clause-inside
returns-clause-inside g c = λ past can.
    c.in_ok-pieces.ensures.inside past (rw (c.from.ensures, c.in-Ok.ensures.calls) (whole_sectors c.args.sector c.in-Ok.len _ c.requires (sym c.has_room.ensures ∙ c.if-not-has_room.false)
    (c.in-Ok.ensures.len past (can_before c.in_ok-pieces.ensures.earlier can))))
    ∙ c.in-Ok.ensures.inside past
