-- The worked values meet the rules.
use Rattle.std.proofs.Common.{◌≡◌, ◌≢◌, ◌<◌, ◌≤◌, ◌+◌, [], ◌∷◌, All, inl, inr, refl, sym, arith}
use Rattle.std.specs.Prelude.{AllPairs, replicate}
use Rattle.std.proofs.lemmas.List.Elements.{All-tail}
use Rattle.rp_base.specs.Plan.{Fits, FitsRows, HasPartner, HoldsSource, IsPair, IsWellFormed, KeepsRow, Noted, noted_of}
use Rattle.rp_base.specs.Table.{AreApart, IsInPlace, IsLaidOut, IsWritable, IsWritableRow}
use Rattle.rp_base.specs.Trees.{hash_blocks, level_blocks, levels}
use Rattle.rp_base.specs.declared.plan.Change.TheVariants.{New}
use Rattle.rp_base.specs.declared.plan.Plan.{Plan}
use Rattle.rp_base.specs.declared.seen.Origin.TheVariants.{Neither}
use Rattle.rp_base.specs.declared.table.Row.{Row}
use Rattle.rp_rows_plans.specs.Values.{guid, hash, hash_note, kept, old, payload, payload_note, plan, seen, table, table_with}
use Rattle.rp_rows_plans.proofs.Three.{all_of_one, all_of_two, all_of_three, pairs_of_two, pairs_of_three}

-- each of the three rows, in sectors of both sizes
pub rows_can_be_written : All (IsWritableRow 512 128) table.rows
rows_can_be_written = all_of_three (IsWritableRow 512 128) old payload hash
    (record { slot = omega arith; used = λ same. cc; size = omega arith; fits = omega arith; start_whole = refl; size_whole = refl })
    (record { slot = omega arith; used = λ same. cc; size = omega arith; fits = omega arith; start_whole = refl; size_whole = refl })
    (record { slot = omega arith; used = λ same. cc; size = omega arith; fits = omega arith; start_whole = refl; size_whole = refl })

pub rows_can_be_written_large : All (IsWritableRow 4096 128) table.rows
rows_can_be_written_large = all_of_three (IsWritableRow 4096 128) old payload hash
    (record { slot = omega arith; used = λ same. cc; size = omega arith; fits = omega arith; start_whole = refl; size_whole = refl })
    (record { slot = omega arith; used = λ same. cc; size = omega arith; fits = omega arith; start_whole = refl; size_whole = refl })
    (record { slot = omega arith; used = λ same. cc; size = omega arith; fits = omega arith; start_whole = refl; size_whole = refl })

slots_rise : AllPairs (λ (a b : Row). a.slot < b.slot) table.rows
slots_rise = pairs_of_three (λ (a b : Row). a.slot < b.slot) old payload hash (omega arith) (omega arith) (omega arith)

pub can_be_written : IsWritable table
can_be_written = record {
  sector = inl refl;
  entries = record { least = omega arith; most = omega arith };
  bounds = record { first = refl; last = refl };
  rows = record { rows = rows_can_be_written; rising = slots_rise };
}

pub can_be_written_large : IsWritable (record table { sector = 4096; last = 131031 })
can_be_written_large = record {
  sector = inr refl;
  entries = record { least = omega arith; most = omega arith };
  bounds = record { first = refl; last = refl };
  rows = record { rows = rows_can_be_written_large; rising = slots_rise };
}

-- the rows share no unit
laid_out : IsLaidOut table
laid_out = record {
  sized = all_of_three (λ (row : Row). 1 ≤ row.size) old payload hash (omega arith) (omega arith) (omega arith);
  in_bounds = all_of_three (λ (row : Row). (2048 ≤ row.start) × (row.start + row.size ≤ 131038 + 1)) old payload hash
      (omega arith, omega arith) (omega arith, omega arith) (omega arith, omega arith);
  apart = pairs_of_three AreApart old payload hash (inl (omega arith)) (inl (omega arith)) (inl (omega arith));
}

pub in_place : IsInPlace 131072 table
in_place = record { bounded = record { first = omega arith; last = omega arith }; bounds = omega arith; rows = laid_out }

pub in_place_longer : IsInPlace 262144 table
in_place_longer = record { bounded = record { first = omega arith; last = omega arith }; bounds = omega arith; rows = laid_out }

pub tree_of_the_data : hash_blocks 128 ≡ 2
unfolding hash_blocks levels level_blocks
tree_of_the_data = refl

-- the two new rows are a pair
are_pair : IsPair (payload, payload_note) (hash, hash_note)
are_pair = record {
  new = (refl, refl);
  whole = refl;
  room = rw tree_of_the_data (omega arith);
  payload_role = (replicate 32 7, refl);
  hash_role = (replicate 32 5, guid 8, replicate 32 7, refl);
}

sources : All HoldsSource (noted_of plan)
sources = all_of_three HoldsSource (old, kept) (payload, payload_note) (hash, hash_note) tt (refl, omega arith) tt

pairs : All (λ (noted : Noted). HasPartner (noted_of plan) noted noted.1.role) (noted_of plan)
pairs = all_of_three (λ (noted : Noted). HasPartner (noted_of plan) noted noted.1.role)
    (old, kept) (payload, payload_note) (hash, hash_note) tt (2, (hash, hash_note), omega arith, refl, are_pair) (1, (payload, payload_note), omega arith, refl, are_pair)

pub well_formed : IsWellFormed seen plan
well_formed = record {
  target = record { whole = refl; least = omega arith; most = omega arith };
  sector = refl;
  entries = refl;
  writable = can_be_written;
  in_place = in_place;
  notes = refl;
  sources = sources;
  pairs = pairs;
}

-- a new row behind the old one fits
new_row_fits : (noted : Noted) → noted.0.slot ≢ 0 → noted.1.change ≡ New → 82048 ≤ noted.0.start → FitsRows (old ∷ []) noted
new_row_fits noted other new behind = (
  all_of_one (λ (row : Row). row.slot ≡ noted.0.slot → KeepsRow noted row) old (λ same. absurd (other (sym same))),
  λ none. record { change = new; apart = all_of_one (AreApart noted.0) old (inr (omega arith)) },
)

old_row_fits : FitsRows (old ∷ []) (old, kept)
old_row_fits = (
  all_of_one (λ (row : Row). row.slot ≡ 0 → KeepsRow (old, kept) row) old
      (λ same. record { kind = refl; start = refl; attrs = refl; size = omega arith; change = λ same. cc }),
  λ none. absurd (none 0 old (omega arith) refl),
)

pub rows_fit : All (FitsRows (old ∷ [])) (noted_of plan)
rows_fit = all_of_three (FitsRows (old ∷ [])) (old, kept) (payload, payload_note) (hash, hash_note)
    old_row_fits (new_row_fits (payload, payload_note) (λ same. cc) refl (omega arith))
    (new_row_fits (hash, hash_note) (λ same. cc) refl (omega arith))

pub fits : Fits seen plan
fits = record { well_formed = well_formed; grows = inl refl; rows = rows_fit }

-- on an image that grows
pub grown_fits : Fits seen (record plan { target = 262144 })
grown_fits = record {
  well_formed = record {
    target = record { whole = refl; least = omega arith; most = omega arith };
    sector = refl;
    entries = refl;
    writable = can_be_written;
    in_place = in_place_longer;
    notes = refl;
    sources = sources;
    pairs = pairs;
  };
  grows = inr refl;
  rows = rows_fit;
}

-- on an image that shows no copy
pub blank_fits : Fits (record seen { origin = Neither }) plan
blank_fits = record {
  well_formed = record {
    target = record { whole = refl; least = omega arith; most = omega arith };
    sector = refl;
    entries = refl;
    writable = can_be_written;
    in_place = in_place;
    notes = refl;
    sources = sources;
    pairs = pairs;
  };
  grows = inl refl;
  rows = rows_fit;
}

-- a plan without the old row
abbrev pub without : Plan
without = record plan { goal = table_with (payload ∷ hash ∷ []); notes = payload_note ∷ hash_note ∷ [] }

without_well_formed : IsWellFormed seen without
without_well_formed = record {
  target = record { whole = refl; least = omega arith; most = omega arith };
  sector = refl;
  entries = refl;
  writable = record {
    sector = inl refl;
    entries = record { least = omega arith; most = omega arith };
    bounds = record { first = refl; last = refl };
    rows = record {
      rows = All-tail (IsWritableRow 512 128) old (payload ∷ hash ∷ []) rows_can_be_written;
      rising = pairs_of_two (λ (a b : Row). a.slot < b.slot) payload hash (omega arith);
    };
  };
  in_place = record {
    bounded = record { first = omega arith; last = omega arith };
    bounds = omega arith;
    rows = record {
      sized = all_of_two (λ (row : Row). 1 ≤ row.size) payload hash (omega arith) (omega arith);
      in_bounds = all_of_two (λ (row : Row). (2048 ≤ row.start) × (row.start + row.size ≤ 131038 + 1)) payload hash
          (omega arith, omega arith) (omega arith, omega arith);
      apart = pairs_of_two AreApart payload hash (inl (omega arith));
    };
  };
  notes = refl;
  sources = all_of_two HoldsSource (payload, payload_note) (hash, hash_note) (refl, omega arith) tt;
  pairs = all_of_two (λ (noted : Noted). HasPartner (noted_of without) noted noted.1.role) (payload, payload_note) (hash, hash_note)
      (1, (hash, hash_note), omega arith, refl, are_pair) (0, (payload, payload_note), omega arith, refl, are_pair);
}

pub without_fits : Fits seen without
without_fits = record {
  well_formed = without_well_formed;
  grows = inl refl;
  rows = all_of_two (FitsRows (old ∷ [])) (payload, payload_note) (hash, hash_note)
      (new_row_fits (payload, payload_note) (λ same. cc) refl (omega arith))
      (new_row_fits (hash, hash_note) (λ same. cc) refl (omega arith));
}
