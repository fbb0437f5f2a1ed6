-- That answers hold of a past is one fact.
use Rattle.std.specs.Prelude.{ℕ, List, [], ◌∷◌, ◌+◌, ◌≤◌, length}
use Rattle.std.specs.Coded.{Coded-set, coded_ℕ, coded_list, ×_prop, Unit-prop, le_prop}
use Rattle.rp_base.specs.Image.{bytes_at}
use Rattle.rp_disk.specs.History.{held}
use Rattle.rp_disk.specs.Made.{Past, history_of}
use Rattle.rp_disk.specs.Device.{Answer, Measured, Gave, Missed, Holds, AllHold}

Holds-prop : (past : Past) (answer : Answer) → IsProp (Holds past answer)
Holds-prop past (Measured behind len) = Coded-set coded_ℕ len (length (held (history_of past behind)))
Holds-prop past (Gave behind at bytes) =
    ×_prop le_prop (Coded-set (coded_list coded_ℕ) bytes (bytes_at (held (history_of past behind)) at (length bytes)))
Holds-prop past (Missed behind end) = Unit-prop

pub AllHold-prop : (past : Past) (answers : List Answer) → IsProp (AllHold past answers)
AllHold-prop past [] = Unit-prop
AllHold-prop past (answer ∷ answers) = ×_prop (Holds-prop past answer) (AllHold-prop past answers)
