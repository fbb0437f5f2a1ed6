-- Slots that rise.
use Rattle.std.proofs.Common.{ℕ, ◌<◌, ◌≤◌, zero, suc, List, [], ◌∷◌, length, get_or, All, AllPairs, arith}
use Rattle.rp_base.specs.Table.{IsWritableRow}
use Rattle.rp_base.specs.declared.table.Row.{Row}

-- rising slots are no less than their places
slot_least : (rows : List Row) → AllPairs (λ (a b : Row). a.slot < b.slot) rows → (k : ℕ) (d : Row) → k < length rows → k ≤ (get_or rows k d).slot
slot_least rows rising zero d inside = omega arith
slot_least rows rising (suc k) d inside = let before = slot_least rows rising k d (omega arith) in let step = rising k (suc k) d (omega arith) inside in omega (arith, before, step)

-- a table that can be written has at most as many rows as entries
pub few_rows : (sector entries : ℕ) (rows : List Row) → All (IsWritableRow sector entries) rows → AllPairs (λ (a b : Row). a.slot < b.slot) rows → length rows ≤ entries
few_rows sector entries [] all rising = omega arith
few_rows sector entries (row ∷ rows) all rising =
    let least = slot_least (row ∷ rows) rising (length rows) row (omega arith) in
    let most = (all (length rows) row (omega arith)).slot in
    omega (arith, least, most)
