use Rattle.std.proofs.Common.{◌≡◌, None, find, eqb, sym, ◌∙◌, arith}
use Rattle.rp_base.specs.declared.table.Row.{Row}
use Rattle.rp_gpt.proofs.Rising.{Rising-from, found_here, none_past, none_here, more_found, more_none}
use Rattle.rp_gpt.proofs.Entries.{slot_bytes-some, slot_bytes-none}
use Rattle.rp_gpt.proofs.encode.entry_at.Goals as goal
use Rattle.rp_gpt.proofs.encode.entry_at.Goals.{else-next-rows-via-then-next-rows+else-rows-next, else-next-rows-via-else-next-rows}

pub returns-then-rows-next-clause-entry : goal.returns-then-rows-next-clause-entry
returns-then-rows-next-clause-entry c =
    let rows = c.args.table.now.rows in
    let rising = Rising-from 0 rows (λ k d h. omega arith) c.requires.writable.rows.rising in
    let inside = rw (c.as_slice-rows.ensures) at c.if-next-rows.true in
    let at = rw (c.as_slice-rows.ensures) at c.if-rows-next.true in
    let row = rw (c.as_slice-rows.ensures) at c.row_bytes.ensures.value in
    row ∙ sym (slot_bytes-some c.args.table.now.sector rows c.args.slot _ (found_here c.args.slot c.args.next rows rising c.requires.next _ inside at))

pub returns-then-rows-next-clause-next : goal.returns-then-rows-next-clause-next
returns-then-rows-next-clause-next c =
    let rows = c.args.table.now.rows in
    let rising = Rising-from 0 rows (λ k d h. omega arith) c.requires.writable.rows.rising in
    let inside = rw (c.as_slice-rows.ensures) at c.if-next-rows.true in
    let at = rw (c.as_slice-rows.ensures) at c.if-rows-next.true in
    more_found c.args.slot c.args.next rows rising c.requires.next _ (found_here c.args.slot c.args.next rows rising c.requires.next _ inside at)

pub returns-then-rows-next-clause-fits : goal.returns-then-rows-next-clause-fits
returns-then-rows-next-clause-fits c =
    let rows = c.args.table.now.rows in
    let rising = Rising-from 0 rows (λ k d h. omega arith) c.requires.writable.rows.rising in
    let inside = rw (c.as_slice-rows.ensures) at c.if-next-rows.true in
    let at = rw (c.as_slice-rows.ensures) at c.if-rows-next.true in
    let fits = rw (c.as_slice-rows.ensures) at c.row_bytes.ensures.fits in
    rw (found_here c.args.slot c.args.next rows rising c.requires.next _ inside at) fits

pub returns-else-next-rows-clause-entry : goal.returns-else-next-rows-clause-entry
returns-else-next-rows-clause-entry c =
    let rows = c.args.table.now.rows in
    let rising = Rising-from 0 rows (λ k d h. omega arith) c.requires.writable.rows.rising in
    let none : find (λ (row : Row). eqb row.slot c.args.slot) rows ≡ None = elim c.else-next-rows.branch [
      | else-next-rows-via-then-next-rows+else-rows-next w ↦
          let inside = rw (c.as_slice-rows.ensures) at w.if-next-rows.true in
          let other = rw (c.as_slice-rows.ensures) at w.if-rows-next.false in
          none_here c.args.slot c.args.next rows rising c.requires.next _ inside other
      | else-next-rows-via-else-next-rows w ↦
          let past = rw (c.as_slice-rows.ensures) at w.if-next-rows.false in
          none_past c.args.slot c.args.next rows rising c.requires.next past
    ] in
    sym (slot_bytes-none c.args.table.now.sector rows c.args.slot none)

pub returns-else-next-rows-clause-next : goal.returns-else-next-rows-clause-next
returns-else-next-rows-clause-next c =
    let rows = c.args.table.now.rows in
    let rising = Rising-from 0 rows (λ k d h. omega arith) c.requires.writable.rows.rising in
    let none : find (λ (row : Row). eqb row.slot c.args.slot) rows ≡ None = elim c.else-next-rows.branch [
      | else-next-rows-via-then-next-rows+else-rows-next w ↦
          let inside = rw (c.as_slice-rows.ensures) at w.if-next-rows.true in
          let other = rw (c.as_slice-rows.ensures) at w.if-rows-next.false in
          none_here c.args.slot c.args.next rows rising c.requires.next _ inside other
      | else-next-rows-via-else-next-rows w ↦
          let past = rw (c.as_slice-rows.ensures) at w.if-next-rows.false in
          none_past c.args.slot c.args.next rows rising c.requires.next past
    ] in
    more_none c.args.slot c.args.next rows rising c.requires.next none

pub returns-else-next-rows-clause-fits : goal.returns-else-next-rows-clause-fits
returns-else-next-rows-clause-fits c =
    let rows = c.args.table.now.rows in
    let rising = Rising-from 0 rows (λ k d h. omega arith) c.requires.writable.rows.rising in
    let none : find (λ (row : Row). eqb row.slot c.args.slot) rows ≡ None = elim c.else-next-rows.branch [
      | else-next-rows-via-then-next-rows+else-rows-next w ↦
          let inside = rw (c.as_slice-rows.ensures) at w.if-next-rows.true in
          let other = rw (c.as_slice-rows.ensures) at w.if-rows-next.false in
          none_here c.args.slot c.args.next rows rising c.requires.next _ inside other
      | else-next-rows-via-else-next-rows w ↦
          let past = rw (c.as_slice-rows.ensures) at w.if-next-rows.false in
          none_past c.args.slot c.args.next rows rising c.requires.next past
    ] in
    rw none tt
