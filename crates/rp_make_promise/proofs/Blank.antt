-- An image that has to show no table is planned for as a blank one.
use Rattle.std.proofs.Common.{◌≡◌, ℕ, ◌%◌, ◌^◌, Bool, true, false, cond, List, length, Option, Some, None, Result, Ok, Err, sym}
use Rattle.std.specs.Prelude.{◌==◌, ◌||◌, not, nat_lt, option_map, take}
use Rattle.rp_base.specs.Geometry.{least_sectors}
use Rattle.rp_base.specs.Image.{sectors_of}
use Rattle.rp_base.specs.declared.seen.Seen.{Seen}
use Rattle.rp_base.specs.declared.seen.Origin.TheVariants as origins
use Rattle.rp_gpt.specs.Accepted.{seen_record}
use Rattle.rp_gpt.specs.Mbr.{foreign_type}
use Rattle.rp_gpt.specs.Shown.{Told, accepted, accepted_as, accepted_blank, accepted_table, blank, nothing, refuses, seen_of, shown, shows, unless, wider_copy}
use Rattle.rp_gpt.specs.declared.table_fault.Empty.TheVariants.{Require}
use Rattle.rp_gpt.specs.declared.table_fault.TableFault.{TableFault}
use Rattle.rp_gpt.specs.declared.table_fault.TableFault.TheVariants as faults

cond_ok : (b : Bool) (fault : TableFault) (rest : Result Seen TableFault) (seen : Seen) → cond b (Err fault) rest ≡ Ok seen → rest ≡ Ok seen
cond_ok true fault rest seen e = absurd (cc)
cond_ok false fault rest seen e = e

unless_ok : (o : Option TableFault) (rest : Result Seen TableFault) (seen : Seen) → unless o rest ≡ Ok seen → rest ≡ Ok seen
unless_ok None rest seen e = e
unless_ok (Some fault) rest seen e = absurd (cc)

same_ok : (a b : Seen) → ◌≡◌ {A = Result Seen TableFault} (Ok a) (Ok b) → a ≡ b
same_ok a b e = cc

module _ (sector : ℕ) (image : List ℕ) (seen : Seen) where
  abbrev IsBlank : Type 0
  IsBlank = seen ≡ seen_record sector image origins.Neither (blank sector (sectors_of sector image)) false false

  of_blank : accepted_blank sector image Require ≡ Ok seen → IsBlank
  unfolding accepted_blank seen_of
  of_blank e =
      let a = unless_ok (option_map (λ kind. faults.OtherTable kind) (foreign_type (take 512 image))) _ seen e in
      let b = cond_ok (nat_lt (blank sector (sectors_of sector image)).last 2048) _ _ seen a in
      let c = unless_ok (option_map (λ entries. faults.EntryCount entries 128)
      (wider_copy sector image origins.Neither (blank sector (sectors_of sector image)))) _ seen b in
      sym (same_ok (seen_record sector image origins.Neither (blank sector (sectors_of sector image)) false false) seen c)

  by_told : (t : Told) → accepted_as sector image Require t ≡ Ok seen → IsBlank
  unfolding accepted_as accepted_table
  by_told (shows table) e = absurd (cc)
  by_told (refuses fault) e = absurd (cc)
  by_told nothing e = of_blank e

  pub seen_blank : accepted sector image Require ≡ Ok seen → IsBlank
  unfolding accepted
  seen_blank e =
      let a = cond_ok (nat_lt (2 ^ 44) (length image)) _ _ seen e in
      let b = cond_ok (not (length image % sector == 0) || nat_lt (sectors_of sector image) (least_sectors sector 128)) _ _ seen a in
      by_told (shown sector image) b
