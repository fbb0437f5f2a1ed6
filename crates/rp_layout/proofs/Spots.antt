-- Partitions that are stacked from a grain on.
use Rattle.std.proofs.Common.{◌≡◌, ℕ, ◌+◌, ◌*◌, ◌%◌, ◌≤◌, List, [], ◌∷◌, map, All, AllPairs, arith, refl, ap}
use Rattle.std.proofs.lemmas.List.Elements.{All-cons, All-head, All-nil, All-tail, All-weaker}
use Rattle.std.proofs.lemmas.List.Kept.{AllPairs-cons}
use Rattle.rp_areas.specs.Again.{Piece, total}
use Rattle.rp_areas.specs.Areas.{grains_up}
use Rattle.rp_layout.specs.declared.spot.Spot.{Spot}
use Rattle.rp_layout.specs.Layout.{spots_from}
use Rattle.rp_layout.proofs.Lists.{AllPairs-nil}

-- a partition begins at a grain, and lies with its padding from a grain up to another
pub record Lies (from to : ℕ) (spot : Spot) : Type 0 where
  pub grain : spot.start % 8 ≡ 0
  pub lower : 8 * from ≤ spot.start
  pub upper : spot.start + 8 * grains_up spot.size + 8 * spot.pad ≤ 8 * to

-- a partition ends with its padding before another begins
abbrev pub Ends : Spot → Spot → Type 0
Ends a b = a.start + 8 * grains_up a.size + 8 * a.pad ≤ b.start

abbrev pub spot_of : ℕ → Piece → Spot
spot_of from p = record { file = p.file; start = 8 * from; size = p.units; pad = p.pad }

pub spots_lie : (from to : ℕ) (ps : List Piece) → from + total ps ≤ to → All (Lies from to) (spots_from from ps)
spots_lie from to [] fits = All-nil (Lies from to)
spots_lie from to (p ∷ ps) fits =
    let next : ℕ = from + grains_up p.units + p.pad in
    All-cons (Lies from to) (spot_of from p) (spots_from next ps)
    (record { grain = omega arith; lower = omega arith; upper = omega (arith, fits) })
    (All-weaker (Lies next to) (Lies from to)
    (λ s lies. record { grain = lies.grain; lower = omega (arith, lies.lower); upper = lies.upper })
    (spots_from next ps) (spots_lie next to ps (omega (arith, fits))))

pub spots_end : (from : ℕ) (ps : List Piece) → AllPairs Ends (spots_from from ps)
spots_end from [] = AllPairs-nil Ends
spots_end from (p ∷ ps) =
    let next : ℕ = from + grains_up p.units + p.pad in
    AllPairs-cons Ends (spot_of from p) (spots_from next ps)
    (All-weaker (Lies next (next + total ps)) (Ends (spot_of from p)) (λ s lies. omega (arith, lies.lower)) (spots_from next ps)
    (spots_lie next (next + total ps) ps (omega arith)))
    (spots_end next ps)

-- what holds of partitions by their definitions, units and paddings holds where they lie
pub spots_keep : (P : ℕ → ℕ → ℕ → Type 0) (from : ℕ) (ps : List Piece) → All (λ (p : Piece). P p.file p.units p.pad) ps
    → All (λ (s : Spot). P s.file s.size s.pad) (spots_from from ps)
spots_keep P from [] each = All-nil (λ (s : Spot). P s.file s.size s.pad)
spots_keep P from (p ∷ ps) each =
    let next : ℕ = from + grains_up p.units + p.pad in
    All-cons (λ (s : Spot). P s.file s.size s.pad) (spot_of from p) (spots_from next ps)
    (All-head (λ (q : Piece). P q.file q.units q.pad) p ps each)
    (spots_keep P next ps (All-tail (λ (q : Piece). P q.file q.units q.pad) p ps each))

pub spots_files : (from : ℕ) (ps : List Piece) → map (λ (s : Spot). s.file) (spots_from from ps) ≡ map (λ (p : Piece). p.file) ps
spots_files from [] = refl
spots_files from (p ∷ ps) = ap (λ files. p.file ∷ files) (spots_files (from + grains_up p.units + p.pad) ps)
