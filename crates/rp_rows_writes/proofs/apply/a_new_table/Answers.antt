use Rattle.std.proofs.Common.{ℕ, List, [], refl, arith, inl, replicate, All, false}
use Rattle.std.specs.Prelude.{pos}
use Rattle.rp_base.specs.Plan.{IsWellFormed}
use Rattle.rp_base.specs.declared.seen.Mbr.TheVariants as states
use Rattle.rp_base.specs.declared.seen.Origin.TheVariants as origins
use Rattle.rp_base.specs.declared.seen.Seen.{Seen}
use Rattle.rp_base.specs.declared.plan.Plan.{Plan}
use Rattle.rp_base.specs.declared.table.Table.{Table}
use Rattle.rp_rows_writes.proofs.apply.a_new_table.Goals as goal

abbrev empty_table : Table
empty_table = record { sector = 512; entries = 128; disk = record { 0 = replicate 16 7 }; first = 2048; last = 131038; rows = [] }

abbrev seen_with : Table → Seen
seen_with shown = record {
  sectors = 131072;
  shown = shown;
  origin = origins.Neither;
  primary_same = false;
  backup_same = false;
  mbr = states.Differs;
}

abbrev plan_with : List ℕ → Table → Plan
plan_with dropped goal = record { target = 131072; goal = goal; notes = []; dropped = dropped; threshold = pos 0 }

none : {X : Type 0} (P : X → Type 0) → All P []
none P k d below = absurd (omega arith)

formed : (dropped : List ℕ) → IsWellFormed (seen_with empty_table) (plan_with dropped empty_table)
formed dropped = record {
  target = record { whole = refl; least = omega arith; most = omega arith };
  sector = refl;
  entries = refl;
  writable = record {
    sector = inl refl;
    entries = record { least = omega arith; most = omega arith };
    bounds = record { first = refl; last = refl };
    rows = record { rows = none _; rising = λ i j d before below. absurd (omega arith) };
  };
  in_place = record {
    bounded = record { first = omega arith; last = omega arith };
    bounds = omega arith;
    rows = record { sized = none _; in_bounds = none _; apart = λ i j d before below. absurd (omega arith) };
  };
  notes = refl;
  sources = none _;
  pairs = none _;
}

pub prepare-requires : goal.prepare-requires
prepare-requires g c = record {
  well_formed = rw (c.no_rows-shown.ensures, c.no_rows-goal.ensures, c.new.ensures) (formed c.new-2.result);
  sources = rw c.new.ensures (none _);
}
