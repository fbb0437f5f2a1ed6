-- What planning starts from.
use Rattle.std.specs.Prelude.{ℕ, ◌≡◌, ◌≤◌, ◌^◌, List, Option, None}
use Rattle.rp_base.specs.Plan.{IsTarget}
use Rattle.rp_base.specs.Table.{IsInPlace, IsWhole, IsWritable}
use Rattle.rp_base.specs.declared.seen.Seen.{Seen}
use Rattle.rp_base.specs.declared.want.Want.{Want}
use Rattle.rp_defs.specs.WellFormed.{IsWellFormed}
use Rattle.rp_defs.specs.declared.definition.Definition.{Definition}
use Rattle.rp_sizes.specs.declared.need.Fact.{Fact}
use Rattle.rp_sizes.specs.Needs.{matched_of}
use Rattle.rp_sizes.specs.Sizes.{asked, first_demand}

-- an image of at most 2^44 bytes in whole sectors, whose table can be written and is in place
pub record IsPlannable (seen : Seen) : Type 0 where
  pub whole : IsWhole seen.shown.sector seen.sectors
  pub most : seen.sectors ≤ 2 ^ 35
  pub writable : IsWritable seen.shown
  pub in_place : IsInPlace seen.sectors seen.shown

-- such an image with the length that it is to have, definitions, and the places of their rows
pub record IsGiven (seen : Seen) (target : ℕ) (defs : List Definition) (matched : List (Option ℕ)) : Type 0 where
  pub plannable : IsPlannable seen
  pub aim : IsTarget seen.shown.sector seen.sectors target
  pub well_formed : IsWellFormed defs
  pub own : matched ≡ matched_of seen.shown defs

-- and what is asked for the definitions, none of which is refused
pub record IsAsked (seen : Seen) (target : ℕ) (defs : List Definition) (facts : List Fact) (matched : List (Option ℕ)) (wants : List Want)
    : Type 0 where
  pub given : IsGiven seen target defs matched
  pub none : first_demand matched defs facts ≡ None
  pub wanted : wants ≡ asked matched defs facts
