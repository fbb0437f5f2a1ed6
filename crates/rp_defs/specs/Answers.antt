-- Answers one after another.
use Rattle.std.specs.Prelude.{List, [], ◌∷◌, Result, Ok, Err}

-- an answer taken from the value of one before, or the fault of that
abbrev pub after : {S T E : Type 0} → Result S E → (S → Result T E) → Result T E
after (Ok value) next = next value
after (Err fault) next = Err fault

-- the answers for each of some items, or the first fault
abbrev pub each : {S T E : Type 0} → (S → Result T E) → List S → Result (List T) E
each answer [] = Ok []
each answer (item ∷ items) = after (answer item) (λ value. after (each answer items) (λ values. Ok (value ∷ values)))
