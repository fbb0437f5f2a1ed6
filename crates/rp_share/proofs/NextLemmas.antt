-- The step to the item whose grain is next.
use Rattle.std.proofs.Common.{ℕ, ◌<◌, ◌+◌, ◌*◌, List, slice_index, subst, arith, inl, inr}
use Rattle.std.proofs.lemmas.Bool.{cases_eq}
use Rattle.rp_share.specs.declared.item.Item.{Item}
use Rattle.rp_share.specs.Share.{IsBelow, item_at}
use Rattle.rp_share.specs.Due.{HasNext}
use Rattle.rp_share.proofs.Numbers.{below_then_within}

module _ (items : List Item) (shares : List ℕ) (place other : ℕ) where
  -- the next grain of the item at a place comes before item j's
  abbrev pub IsSooner : ℕ → Type 0
  IsSooner j = (slice_index shares place + 1) * (item_at items j).weight < (slice_index shares j + 1) * (item_at items place).weight

  -- an item whose grain comes before the one that came before all others so far
  pub next_takes : HasNext items shares place other → IsBelow items shares place → IsSooner other → HasNext items shares (place + 1) place
  next_takes next takes sooner = record {
    earlier = omega arith;
    takes = takes;
    first = λ j before apart below.
        let sooner_than : IsSooner j =
        elim (cases_eq other j) [
          | inl same ↦ subst IsSooner same sooner
          | inr differs ↦ below_then_within _ _ _ _ _ _ below.weighs sooner (next.first j (omega arith) differs below).fewer
        ] in
        record { fewer = omega arith; tie = λ e. omega arith };
  }
