-- How the logic stores calls with their answers.
use Rattle.std.specs.Prelude.{◌≡◌, ℕ, List, [], cond, ◌==◌, refl}
use Rattle.std.specs.Coded.{Coded, code_by, coded×, coded_ℕ, coded_list}
use Rattle.rp_disk.specs.declared.call.Call.TheVariants.{Write, Sync, SetLen}
use Rattle.rp_disk.specs.Made.{Made, Done, Broke}
use Rattle.rp_disk.specs.Device.{Answer, Measured, Gave, Missed}

-- which of the six kinds, the number of the call, its bytes
abbrev Parts : Type 0
Parts = ℕ × (ℕ × List ℕ)

abbrev to_parts : Made → Parts
to_parts (Done (Write at bytes)) = (0, (at, bytes))
to_parts (Done Sync) = (1, (0, []))
to_parts (Done (SetLen len)) = (2, (len, []))
to_parts (Broke (Write at bytes)) = (3, (at, bytes))
to_parts (Broke Sync) = (4, (0, []))
to_parts (Broke (SetLen len)) = (5, (len, []))

abbrev from_parts : Parts → Made
from_parts p =
    cond (p.0 == 0) (Done (Write p.1.0 p.1.1)) (cond (p.0 == 1) (Done Sync) (cond (p.0 == 2) (Done (SetLen p.1.0))
    (cond (p.0 == 3) (Broke (Write p.1.0 p.1.1)) (cond (p.0 == 4) (Broke Sync) (Broke (SetLen p.1.0))))))

pub from_parts-to_parts : (made : Made) → from_parts (to_parts made) ≡ made
from_parts-to_parts (Done (Write at bytes)) = refl
from_parts-to_parts (Done Sync) = refl
from_parts-to_parts (Done (SetLen len)) = refl
from_parts-to_parts (Broke (Write at bytes)) = refl
from_parts-to_parts (Broke Sync) = refl
from_parts-to_parts (Broke (SetLen len)) = refl

-- a call with its answer, in the logic's memory
abbrev pub made_code : Coded Made
made_code = code_by Parts (coded× coded_ℕ (coded× coded_ℕ (coded_list coded_ℕ))) to_parts from_parts from_parts-to_parts

-- which of the three kinds, the calls before, a number, bytes
abbrev AnswerParts : Type 0
AnswerParts = ℕ × (List Made × (ℕ × List ℕ))

abbrev to_answer_parts : Answer → AnswerParts
to_answer_parts (Measured behind len) = (0, (behind, (len, [])))
to_answer_parts (Gave behind at bytes) = (1, (behind, (at, bytes)))
to_answer_parts (Missed behind end) = (2, (behind, (end, [])))

abbrev from_answer_parts : AnswerParts → Answer
from_answer_parts p =
    cond (p.0 == 0) (Measured p.1.0 p.1.1.0) (cond (p.0 == 1) (Gave p.1.0 p.1.1.0 p.1.1.1) (Missed p.1.0 p.1.1.0))

pub from_answer_parts-to : (answer : Answer) → from_answer_parts (to_answer_parts answer) ≡ answer
from_answer_parts-to (Measured behind len) = refl
from_answer_parts-to (Gave behind at bytes) = refl
from_answer_parts-to (Missed behind end) = refl

-- an answer, in the logic's memory
abbrev pub answer_code : Coded Answer
answer_code =
    code_by AnswerParts (coded× coded_ℕ (coded× (coded_list made_code) (coded× coded_ℕ (coded_list coded_ℕ))))
    to_answer_parts from_answer_parts from_answer_parts-to
