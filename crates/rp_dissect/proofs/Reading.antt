-- What was read of an image, and what is said of it.
use Rattle.std.proofs.Common.{◌≡◌, ◌⊎◌, ℕ, ◌≤◌, ◌<◌, ◌+◌, ◌*◌, ◌/◌, List, length, get_or, Result, Ok, Err, sym, ◌∙◌, ap, subst, inl, inr, arith}
use Rattle.rp_base.specs.Answers.{Gives}
use Rattle.rp_base.specs.Geometry.{IsSector, sector_units, usable_end}
use Rattle.rp_base.specs.declared.seen.Seen.{Seen}
use Rattle.rp_base.specs.declared.table.Row.{Row}
use Rattle.rp_disk.specs.History.{held}
use Rattle.rp_disk.specs.Device.{Device, Earlier, Known, StaysInside, StaysInsideWhere}
use Rattle.rp_disk.specs.Made.{Made, history_of}
use Rattle.rp_disk.proofs.Noting.{can_before}
use Rattle.rp_gpt.specs.Accepted.{IsSeen}
use Rattle.rp_gpt.specs.Shown.{accepted}
use Rattle.rp_gpt.specs.declared.table_fault.Empty.TheVariants.{Refuse}
use Rattle.rp_gpt.specs.declared.table_fault.TableFault.{TableFault}
use Rattle.rp_gpt.specs.declared.table_fault.TableFault.TheVariants as table
use Rattle.rp_policy.specs.declared.policy.Policy.{Policy}
use Rattle.rp_types.specs.declared.arch.Arch.{Arch}
use Rattle.rp_verdict.specs.Verdicts.{listed, whole}
use Rattle.rp_verdict.specs.declared.verdict.DissectFault.{DissectFault}
use Rattle.rp_verdict.specs.declared.verdict.DissectFault.TheVariants as faults
use Rattle.rp_verdict.specs.declared.verdict.Verdicts.{Verdicts}
use Rattle.rp_dissect.specs.Dissected.{of_seen, of_table, verdicts, verdicts_on}
use Rattle.rp_dissect.specs.Kinds.{found_of}
use Rattle.rp_dissect.specs.Reach.{farthest}
use Rattle.rp_dissect.proofs.Reaching.{farthest_within}

-- the answer is the definition's, but for a failure of the disk and want of memory
abbrev pub IsAnswer : ℕ → Arch → Policy → Result Verdicts DissectFault → List ℕ → Type 0
IsAnswer sector arch policy result image = (result ≡ Err faults.Disk) ⊎ Gives faults.Memory (verdicts sector image arch policy) result

-- what was read is what is accepted, but for these
abbrev pub IsRead : ℕ → Result Seen TableFault → List ℕ → Type 0
IsRead sector answer image = (answer ≡ Err table.Disk) ⊎ Gives table.Memory (accepted sector image Refuse) answer

same_fault : (a b : TableFault) → ◌≡◌ {A = Result Seen TableFault} (Err a) (Err b) → a ≡ b
same_fault a b e = cc

err_as : (fault other : DissectFault) → fault ≡ other → ◌≡◌ {A = Result Verdicts DissectFault} (Err fault) (Err other)
err_as fault other e = cc

-- an image that isn't accepted has no verdicts, for that reason
pub err_answer : (sector : ℕ) (arch : Arch) (policy : Policy) (image : List ℕ) (fault : TableFault) (out : DissectFault) → out ≡ of_table fault
    → IsRead sector (Err fault) image → IsAnswer sector arch policy (Err out) image
unfolding verdicts
err_answer sector arch policy image fault out is (inl e) = inl (err_as out faults.Disk (is ∙ ap of_table (same_fault fault table.Disk e)))
err_answer sector arch policy image fault out is (inr (inl e)) =
    inr (inl (err_as out (of_table fault) is ∙ ap (of_seen image arch policy) e))
err_answer sector arch policy image fault out is (inr (inr e)) =
    inr (inr (err_as out faults.Memory (is ∙ ap of_table (same_fault fault table.Memory e))))

-- the verdicts on the rows of what was read are those on the image
pub ok_answer : (sector : ℕ) (arch : Arch) (policy : Policy) (image : List ℕ) (seen : Seen) (result : Result Verdicts DissectFault)
    → Gives faults.Memory (whole arch seen.shown.rows (listed policy arch seen.shown.rows (found_of image arch seen.shown.rows))) result
    → IsRead sector (Ok seen) image → IsAnswer sector arch policy result image
unfolding verdicts verdicts_on
ok_answer sector arch policy image seen result (inr memory) read = inr (inr memory)
ok_answer sector arch policy image seen result (inl gives) (inl e) = absurd (cc)
ok_answer sector arch policy image seen result (inl gives) (inr (inl e)) = inr (inl (gives ∙ ap (of_seen image arch policy) e))
ok_answer sector arch policy image seen result (inl gives) (inr (inr e)) = absurd (cc)

-- the count is as before, unless the read failed
pub kept_of : (seen : Seen) (before now : ℕ) → ◌⊎◌ (◌≡◌ {A = Result Seen TableFault} (Ok seen) (Err table.Disk)) (now ≡ before) → now ≡ before
kept_of seen before now (inl e) = absurd (cc)
kept_of seen before now (inr kept) = kept

-- the rows of an image end within it
rows_end : (sector units entries last start size : ℕ) → IsSector sector → last < usable_end sector entries (units / sector_units sector)
    → start + size ≤ last + 1 → 512 * (start + size) ≤ 512 * units
rows_end sector units entries last start size (inl e) below fits = let here = rw e at below in omega (arith, here)
rows_end sector units entries last start size (inr e) below fits = let here = rw e at below in omega (arith, here)

rows_within : (sector : ℕ) (seen : Seen) → IsSeen sector seen → farthest seen.shown.rows ≤ 512 * seen.sectors
rows_within sector seen is =
    let rows = seen.shown.rows in
    farthest_within (512 * seen.sectors) rows (λ k d below.
    rows_end seen.shown.sector seen.sectors seen.shown.entries seen.shown.last (get_or rows k d).start (get_or rows k d).size is.writable.sector
    is.in_place.bounded.last (is.in_place.rows.in_bounds k d below).1)

-- so do the same rows, lent, within an image of so many bytes
pub rows_in : (sector : ℕ) (seen : Seen) (rows : List Row) (len : ℕ) → IsSeen sector seen → rows ≡ seen.shown.rows → len ≡ 512 * seen.sectors
    → farthest rows ≤ len
rows_in sector seen rows len is same whole =
    let within = rows_within sector seen is in let equal : farthest rows ≡ farthest seen.shown.rows = ap farthest same in omega (arith, within)

-- no call passed the end, of those that read the table, and of those behind
pub stays_inside : (before mid now : Device) (end : ℕ) → mid.calls ≡ before.calls → Earlier mid now → StaysInside before mid
    → Known before mid (λ h. end ≤ length (held h)) → StaysInsideWhere mid now (λ h. end ≤ length (held h)) → StaysInside before now
stays_inside before mid now end same earlier one within two = λ past can.
    let can_mid = can_before earlier can in
    two past (subst (λ (calls : List Made). end ≤ length (held (history_of past calls))) (sym same) (within past can_mid)) ∙ one past can_mid
