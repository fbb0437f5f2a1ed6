-- The summary is its front and what the image differs in.
use Rattle.std.proofs.Common.{ℕ, ◌++◌, List, [], Option, Some, None, Ok, refl, subst, inl, inr, append-nil}
use Rattle.rp_check_command.specs.Checks.{Tells}
use Rattle.rp_check_command.specs.Reports.{difference_line, same_line}
use Rattle.rp_difference.specs.declared.difference.Difference.{Difference}
use Rattle.rp_outcome.specs.Output.{Output, PrintsAll, PrintsPart}
use Rattle.rp_outcome.proofs.Printed.{part_more, then_all, then_part}
use Rattle.rp_make_command.specs.Summary.{TellsMade}

-- the front was printed, and then the rest, as far as the sink took it
pub tells_behind : (front : List ℕ) (out mid after : Output) (status : ℕ) (found : Option Difference) → PrintsAll out mid (front ++ [])
    → Tells mid after status (Ok found) → TellsMade front out after status found
tells_behind front out mid after status None all (inl (e, rest)) =
    inl (e, then_all out mid after front same_line (subst (PrintsAll out mid) (append-nil front) all) rest)
tells_behind front out mid after status None all (inr (e, rest)) =
    inr (e, then_part out mid after front same_line (subst (PrintsAll out mid) (append-nil front) all) rest)
tells_behind front out mid after status (Some d) all (inl (e, rest)) =
    inl (e, then_all out mid after front (difference_line d) (subst (PrintsAll out mid) (append-nil front) all) rest)
tells_behind front out mid after status (Some d) all (inr (e, rest)) =
    inr (e, then_part out mid after front (difference_line d) (subst (PrintsAll out mid) (append-nil front) all) rest)

-- a part of the front was printed
pub tells_part : (front : List ℕ) (out after : Output) (found : Option Difference) → PrintsPart out after (front ++ [])
    → TellsMade front out after 9 found
tells_part front out after None part = inr (refl, part_more out after front same_line (subst (PrintsPart out after) (append-nil front) part))
tells_part front out after (Some d) part =
    inr (refl, part_more out after front (difference_line d) (subst (PrintsPart out after) (append-nil front) part))
