-- The summary of what was made.
use Rattle.std.specs.Prelude.{ℕ, List, [], ◌∷◌, ◌++◌, Option, Some, None, codes, length}
use Rattle.std.specs.Fmt.{decimal}
use Rattle.hex.specs.Hex.{encode_lower}
use Rattle.rp_base.specs.declared.plan.Note.{Note}
use Rattle.rp_base.specs.declared.plan.Plan.{Plan}
use Rattle.rp_base.specs.declared.plan.Role.{Role}
use Rattle.rp_base.specs.declared.plan.Role.TheVariants.{Hash}
use Rattle.rp_check_command.specs.Reports.{difference_line, same_line}
use Rattle.rp_difference.specs.declared.difference.Difference.{Difference}
use Rattle.rp_outcome.specs.Output.{Differs, Finishes, Output}
use Rattle.rp_planned.specs.declared.planned.Planned.{Planned}
use Rattle.rp_steps.specs.Steps.{steps}
use Rattle.rp_steps.specs.Writes.{writes}

-- the root hash of a pair, by the row that holds its tree
abbrev pub or_root : Option (List ℕ) → Role → Option (List ℕ)
or_root later (Hash partner blocks salt uuid root) = Some root
or_root later other = later

-- that of the first such row
abbrev pub root_in : List Note → Option (List ℕ)
root_in [] = None
root_in (note ∷ notes) = or_root (root_in notes) note.role

-- it as digits, or a hyphen where there is none
abbrev pub root_text : Option (List ℕ) → List ℕ
root_text None = codes "-"
root_text (Some root) = encode_lower root

-- a number, how many rows the table has, and in how many writes it was carried out
unfoldable pub counts_text : ℕ → ℕ → ℕ → List ℕ
counts_text number rows count =
    codes "number " ++ decimal number ++ codes " rows " ++ decimal rows ++ codes " writes " ++ decimal count ++ codes " root "

-- the summary but for what the image differs in
unfoldable pub front_of : ℕ → Plan → ℕ → List ℕ
front_of number plan count = counts_text number (length plan.goal.rows) count ++ root_text (root_in plan.notes) ++ codes " check "

-- the same of what is planned, whose steps are so many writes
abbrev pub front_text : ℕ → Planned → List ℕ
front_text number planned = front_of number planned.plan (writes (steps planned.plan planned.seen))

-- the summary is told: that nothing differs, or the difference
abbrev pub TellsMade : List ℕ → Output → Output → ℕ → Option Difference → Type 0
TellsMade front out after status None = Finishes out after (front ++ same_line) status
TellsMade front out after status (Some difference) = Differs out after (front ++ difference_line difference) status
