-- An image that was seen has as many units as are said of it.
use Rattle.std.proofs.Common.{◌≡◌, ℕ, ◌*◌, ◌/◌, ◌%◌, ◌^◌, Bool, true, false, List, length, take, Option, Some, None, Result, Ok, Err, if◌then◌else◌, refl, sym, ◌∙◌, ap, subst, inl, inr, arith}
use Rattle.std.specs.Prelude.{IfOk, IfSome, not, ◌||◌, ◌==◌, nat_lt, option_map}
use Rattle.std.proofs.lemmas.Bool.Decides.{nat_tests}
use Rattle.rp_base.specs.Geometry.{IsSector, least_sectors}
use Rattle.rp_base.specs.Image.{sectors_of}
use Rattle.rp_base.specs.declared.seen.Origin.{Origin}
use Rattle.rp_base.specs.declared.seen.Origin.TheVariants as origins
use Rattle.rp_base.specs.declared.seen.Seen.{Seen}
use Rattle.rp_base.specs.declared.table.Table.{Table}
use Rattle.rp_disk.specs.History.{History, held}
use Rattle.rp_disk.specs.Made.{Made, Past, history_of, history_told}
use Rattle.rp_gpt.specs.Mbr.{foreign_type}
use Rattle.rp_gpt.specs.Shown.{Told, shows, refuses, nothing, accepted, accepted_as, accepted_blank, accepted_table, blank, holds_exact, origin_of, seen_of, shown, table_fault, unless, wider_copy}
use Rattle.rp_gpt.specs.declared.table_fault.Empty.{Empty}
use Rattle.rp_gpt.specs.declared.table_fault.Empty.TheVariants.{Refuse, Allow, Require}
use Rattle.rp_gpt.specs.declared.table_fault.TableFault.{TableFault}
use Rattle.rp_gpt.specs.declared.table_fault.TableFault.TheVariants as faults
use Rattle.rp_outcome.specs.Device.{Device, IsOnlyRead, Known}
use Rattle.rp_outcome.specs.Refusals.{Refusal, disk_refusal, table_refusal}
use Rattle.rp_planned.specs.Planning.{ReadsImage, seen_of as sight_of}
use Rattle.rp_reading.specs.Stages.{Settles, refused}

-- what holds of an answer holds of it behind a fault that may come first
over_fault : (P : Seen → Type 0) (o : Option TableFault) (rest : Result Seen TableFault) → IfOk rest P → IfOk (unless o rest) P
over_fault P None rest p = p
over_fault P (Some fault) rest p = tt

over_test : (P : Seen → Type 0) (b : Bool) (fault : TableFault) (rest : Result Seen TableFault) → (b ≡ false → IfOk rest P)
    → IfOk (if b then Err fault else rest) P
over_test P true fault rest p = tt
over_test P false fault rest p = p refl

with_fact : (P : Seen → Type 0) (Q : Type 0) (r : Result Seen TableFault) → IfOk r P → Q → IfOk r (λ seen. P seen × Q)
with_fact P Q (Ok seen) p q = (p, q)
with_fact P Q (Err fault) p q = tt

read_ok : (P : Seen → Type 0) (r : Result Seen TableFault) (seen : Seen) → r ≡ Ok seen → IfOk r P → P seen
read_ok P r seen e p = let here : IfOk {E = TableFault} (Ok seen) P = rw e at p in here

-- a whole number of sectors is one of units
whole_units : (sector len : ℕ) → IsSector sector → len % sector ≡ 0 → len ≡ 512 * (len / 512)
whole_units sector len (inl e) whole = let here = rw e at whole in omega (arith, here)
whole_units sector len (inr e) whole = let here = rw e at whole in omega (arith, here)

module _ (sector : ℕ) (image : List ℕ) where
  abbrev HasUnits : Seen → Type 0
  HasUnits seen = seen.sectors ≡ sectors_of 512 image

  units_of : (origin : Origin) (table : Table) (p b : Bool) → IfOk (seen_of sector image origin table p b) HasUnits
  unfolding seen_of
  units_of origin table p b =
      over_fault HasUnits (option_map (λ entries. faults.EntryCount entries 128) (wider_copy sector image origin table)) _ refl

  of_table : (empty : Empty) (table : Table) → IfOk (accepted_table sector image empty table) HasUnits
  unfolding accepted_table
  of_table Refuse table = over_fault HasUnits (table_fault (length image) table) _ (units_of (origin_of sector image) table _ _)
  of_table Allow table = over_fault HasUnits (table_fault (length image) table) _ (units_of (origin_of sector image) table _ _)
  of_table Require table = tt

  of_blank : (empty : Empty) → IfOk (accepted_blank sector image empty) HasUnits
  unfolding accepted_blank
  of_blank Refuse = over_fault HasUnits (option_map (λ kind. faults.OtherTable kind) (foreign_type (take 512 image))) _ tt
  of_blank Allow =
      over_fault HasUnits (option_map (λ kind. faults.OtherTable kind) (foreign_type (take 512 image))) _
      (over_test HasUnits (nat_lt (blank sector (sectors_of sector image)).last 2048) _ _
      (λ e. units_of origins.Neither (blank sector (sectors_of sector image)) false false))
  of_blank Require =
      over_fault HasUnits (option_map (λ kind. faults.OtherTable kind) (foreign_type (take 512 image))) _
      (over_test HasUnits (nat_lt (blank sector (sectors_of sector image)).last 2048) _ _
      (λ e. units_of origins.Neither (blank sector (sectors_of sector image)) false false))

  by_told : (empty : Empty) (t : Told) → IfOk (accepted_as sector image empty t) HasUnits
  unfolding accepted_as
  by_told empty (shows table) = of_table empty table
  by_told empty (refuses fault) = tt
  by_told empty nothing = of_blank empty

  abbrev short : Bool
  short = not (length image % sector == 0) || nat_lt (sectors_of sector image) (least_sectors sector 128)

  is_whole : short ≡ false → length image % sector ≡ 0
  is_whole e = grind (arith, nat_tests, e)

  accepted_units : (empty : Empty) → IfOk (accepted sector image empty) (λ seen. HasUnits seen × (length image % sector ≡ 0))
  unfolding accepted
  accepted_units empty =
      over_test (λ seen. HasUnits seen × (length image % sector ≡ 0)) (nat_lt (2 ^ 44) (length image)) (faults.TooLong (length image)) _ (λ long.
      over_test (λ seen. HasUnits seen × (length image % sector ≡ 0)) short (faults.TooShort (length image)) _ (λ e.
      with_fact HasUnits (length image % sector ≡ 0) (accepted_as sector image empty (shown sector image))
      (by_told empty (shown sector image)) (is_whole e)))

  accepted_len : (empty : Empty) (seen : Seen) → IsSector sector → accepted sector image empty ≡ Ok seen → length image ≡ 512 * seen.sectors
  accepted_len empty seen is e =
      let both = read_ok (λ seen. HasUnits seen × (length image % sector ≡ 0)) (accepted sector image empty) seen e (accepted_units empty) in
      let units : seen.sectors ≡ length image / 512 = both.0 in
      let whole = whole_units sector (length image) is both.1 in
      omega (arith, units, whole)

-- the same image by what is seen of it
accepted_of : (r : Result Seen TableFault) (seen : Seen) → refused table_refusal r ≡ Ok seen → r ≡ Ok seen
accepted_of (Ok other) seen e = cc
accepted_of (Err fault) seen e = absurd (cc)

-- a stage that answered did so by the definition
pub settled_ok : {T : Type 0} (failure : Refusal) (ideal : Result T Refusal) (value : T) → Settles failure ideal (Ok value) → ideal ≡ Ok value
settled_ok failure ideal value (inl same) = sym same
settled_ok failure ideal value (inr (inl e)) = absurd (cc)
settled_ok failure ideal value (inr (inr e)) = absurd (cc)

-- the length of an image that was read
pub image_len : (sector : ℕ) (empty : Empty) (disk later : Device) (seen : Seen) → IsSector sector → ReadsImage sector empty disk later (Ok seen)
    → Known disk later (λ h. length (held h) ≡ 512 * seen.sectors)
image_len sector empty disk later seen is reads = λ past can.
    let image = held (history_of past disk.calls) in
    accepted_len sector image empty seen is
    (accepted_of (accepted sector image empty) seen (settled_ok disk_refusal (sight_of sector empty image) seen (reads.settled past can)))

-- a disk that was only read holds what it held
pub still_known : (P : History → Type 0) (before now : Device) → IsOnlyRead before now → Known before now P → Known now now P
still_known P before now only known = λ past can. subst (λ (calls : List Made). P (history_of past calls)) (sym only.calls) (known past can)

pub told_before : (P : History → Type 0) (told : Option Past) (before now : Device) → IsOnlyRead before now
    → IfSome (history_told told now.calls) P → IfSome (history_told told before.calls) P
told_before P told before now only p = subst (λ (calls : List Made). IfSome (history_told told calls) P) only.calls p
