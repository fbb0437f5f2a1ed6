-- What a note says.
use Rattle.std.specs.Prelude.{ℕ, List, [], ◌∷◌, ◌++◌, ◌+◌, length, Bool, true, false}
use Rattle.rp_disk.specs.declared.call.Call.{Call}
use Rattle.rp_disk.specs.declared.call.Call.TheVariants as calls
use Rattle.rp_disk.specs.declared.log.Note.{Note}
use Rattle.rp_disk.specs.declared.log.Note.TheVariants.{Len, Read, Missed, Write, Sync, SetLen}
use Rattle.rp_disk.specs.Made.{Made, Done, Broke}
use Rattle.rp_disk.specs.Device.{Answer, Measured, Gave}
use Rattle.rp_disk.specs.Device as device

-- a call with its answer
abbrev pub made_by : Call → Bool → Made
made_by call true = Done call
made_by call false = Broke call

-- the changing calls, with the noted one
abbrev pub calls_noted : List Made → Note → List Made
calls_noted made (Len len) = made
calls_noted made (Read at bytes ok) = made
calls_noted made (Missed at count) = made
calls_noted made (Write at bytes ok) = made ++ made_by (calls.Write at bytes.now) ok ∷ []
calls_noted made (Sync ok) = made ++ made_by calls.Sync ok ∷ []
calls_noted made (SetLen len ok) = made ++ made_by (calls.SetLen len) ok ∷ []

-- the answers behind these changing calls, with the noted one
abbrev pub answers_noted : List Made → List Answer → Note → List Answer
answers_noted behind answers (Len len) = answers ++ Measured behind len ∷ []
answers_noted behind answers (Read at bytes true) = answers ++ Gave behind at bytes.now ∷ []
answers_noted behind answers (Read at bytes false) = answers ++ device.Missed behind (at + length bytes.now) ∷ []
answers_noted behind answers (Missed at count) = answers ++ device.Missed behind (at + count) ∷ []
answers_noted behind answers (Write at bytes true) = answers
answers_noted behind answers (Write at bytes false) = answers ++ device.Missed behind (at + length bytes.now) ∷ []
answers_noted behind answers (Sync ok) = answers
answers_noted behind answers (SetLen len ok) = answers
