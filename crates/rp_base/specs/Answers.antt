-- How the code's answer is tied to a definition's.
use Rattle.std.specs.Prelude.{◌≡◌, ◌⊎◌, Result, Err}

-- the call gives the answer of the definition, unless it found no memory, which it answers by this error
abbrev pub Gives : {T E : Type 0} → E → Result T E → Result T E → Type 0
Gives memory answer result = (result ≡ answer) ⊎ (result ≡ Err memory)
