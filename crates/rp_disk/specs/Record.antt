-- What the record of a disk in memory says of its calls.
use Rattle.std.specs.Prelude.{ℕ, List}
use Rattle.rp_disk.specs.declared.record.Record.{Record}
use Rattle.rp_disk.specs.History.{History}
use Rattle.rp_disk.specs.Kept.{all_answered, first_kept}
use Rattle.rp_disk.specs.Made.{Made, Past, history_of, unharmed}

-- the bytes at first of a disk that shows these
abbrev pub first_bytes : List ℕ → Record → List ℕ
first_bytes image r = first_kept image r.first.items r.calls.items

-- the calls with their answers
abbrev pub recorded : Record → List Made
recorded r = all_answered r.calls.items r.oks.items

-- its past: a call that failed changed nothing
abbrev pub past_kept : List ℕ → Record → Past
past_kept image r = unharmed (first_bytes image r)

-- the history of a disk that shows these bytes
abbrev pub history_kept : List ℕ → Record → History
history_kept image r = history_of (past_kept image r) (recorded r)
