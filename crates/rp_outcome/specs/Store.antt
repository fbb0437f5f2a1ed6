-- Folders, or sources, as a command finds and leaves them.
use Rattle.std.specs.Prelude.{ℕ, Option}

-- folders or sources at a moment: what they hold, where they tell it, how many of their calls have failed, and how many
-- reached for what isn't there
pub record Store (Held : Type 0) : Type 0 where
  pub told : Option Held
  pub faults : ℕ
  pub strays : ℕ

-- folders or sources at a moment, by the ghost members of their type
abbrev pub store : {Held S : Type 0} → (S → Option Held) → (S → ℕ) → (S → ℕ) → S → Store Held
store told faults strays object = record { told = told object; faults = faults object; strays = strays object }
