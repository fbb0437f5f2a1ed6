-- Thresholds that keep the same definitions lead to the same.
use Rattle.std.proofs.Common.{◌≡◌, ℕ, ℤ, pos, ◌+◌, ◌-◌, ◌<◌, ◌≤ℤ◌, ◌<ℤ◌, ◌⊎◌, Bool, true, false, cond, List, [], ◌∷◌, length, fold, get_or, map, max, take, slice_get, slice_set, Option, Some, None, Result, Ok, Err, All, arith, refl, sym, ◌∙◌, inl, inr}
use Rattle.std.specs.Prelude.{int_le, IsErr, T}
use Rattle.std.specs.Int.Signed.{le_z_yes}
use Rattle.std.proofs.lemmas.Bool.{false≢true, false_from_ne_true}
use Rattle.std.proofs.lemmas.Int.{by_lt_z, ints}
use Rattle.std.specs.Option.{option_map_or}
use Rattle.std.proofs.lemmas.List.Elements.{All-head, All-more, All-tail, All-weaker}
use Rattle.rp_areas.specs.declared.gaps.Area.{Area}
use Rattle.rp_place.specs.declared.fit.New.{New}
use Rattle.rp_place.specs.declared.fit.PlaceFault.{PlaceFault}
use Rattle.rp_place.specs.declared.fit.PlaceFault.TheVariants.{Room, Slot}
use Rattle.rp_place.specs.Facts.{IsRefused}
use Rattle.rp_place.specs.Placing.{before_all, best_of, kept, placed_in, slotted, tried}

-- two thresholds keep a definition alike
abbrev pub KeepsAlike : ℤ → ℤ → New → Type 0
KeepsAlike t u n = int_le n.priority t ≡ int_le n.priority u

placed_alike : (areas : List Area) (t u : ℤ) (rooms : List ℕ) (news : List New) → All (KeepsAlike t u) news
    → placed_in areas t rooms news ≡ placed_in areas u rooms news
placed_alike areas t u rooms [] each = refl
placed_alike areas t u rooms (n ∷ ns) each =
    let rest : All (KeepsAlike t u) ns = All-tail (KeepsAlike t u) n ns each in
    λ i. cond (All-head (KeepsAlike t u) n ns each i)
    (option_map_or (λ c. before_all (Some c.place) (placed_alike areas t u (slice_set rooms c.place (c.available - n.need)) ns rest i))
    (best_of areas rooms n.need) (Err (Room n.file n.need (fold max 0 rooms))))
    (before_all None (placed_alike areas t u rooms ns rest i))

kept_alike : (t u : ℤ) (news : List New) → All (KeepsAlike t u) news → kept news t ≡ kept news u
kept_alike t u [] each = refl
kept_alike t u (n ∷ ns) each =
    let rest : All (KeepsAlike t u) ns = All-tail (KeepsAlike t u) n ns each in
    λ i. cond (All-head (KeepsAlike t u) n ns each i) (n ∷ kept_alike t u ns rest i) (kept_alike t u ns rest i)

tried_alike : (areas : List Area) (news : List New) (free : ℕ) (t u : ℤ) → All (KeepsAlike t u) news
    → tried areas news free t ≡ tried areas news free u
tried_alike areas news free t u each = λ i. slotted (kept_alike t u news each i) free
    (placed_alike areas t u (map (λ (a : Area). a.span - a.used) areas) news each i)

truth : (b : Bool) → T b → b ≡ true
truth true t = refl
truth false t = absurd t

from_truth : (b : Bool) → b ≡ true → T b
from_truth true e = tt
from_truth false e = absurd (false≢true e)

pub le_true : (a b : ℤ) → a ≤ℤ b → int_le a b ≡ true
le_true a b h = truth (int_le a b) h.le

pub le_false : (a b : ℤ) → b <ℤ a → int_le a b ≡ false
le_false a b h = false_from_ne_true (int_le a b) (λ t. let back : a ≤ℤ b = le_z_yes (from_truth (int_le a b) t) in omega
    (arith, ints, back, h))

pub le_of : (a b : ℤ) → int_le a b ≡ true → a ≤ℤ b
le_of a b test = le_z_yes (from_truth (int_le a b) test)

pub above_of : (a b : ℤ) → int_le a b ≡ false → b <ℤ a
above_of a b test = by_lt_z b a (λ h. h) (λ h. absurd (false≢true (sym test ∙ le_true a b h)))

-- no priority lies above h and up to t, so the thresholds from h to t lead to the same
pub same_between : (areas : List Area) (news : List New) (free : ℕ) (t h u : ℤ)
    → All (λ (n : New). (n.priority ≤ℤ h) ⊎ (t <ℤ n.priority)) news → h ≤ℤ u → u ≤ℤ t
    → tried areas news free u ≡ tried areas news free t
same_between areas news free t h u each low high = tried_alike areas news free u t
    (All-weaker (λ (n : New). (n.priority ≤ℤ h) ⊎ (t <ℤ n.priority)) (KeepsAlike u t)
    (λ n side. elim side [
      | inl below ↦ le_true n.priority u (omega (arith, ints, below, low))
          ∙ sym (le_true n.priority t (omega (arith, ints, below, low, high)))
      | inr above ↦ le_false n.priority u (omega (arith, ints, above, high)) ∙ sym (le_false n.priority t above)
    ]) news each)

no_slot : (o : Option New) (others places : List (Option ℕ)) → option_map_or (λ n. Err (Slot n.file)) o (Ok others) ≡ Ok places
    → ◌≡◌ {A = Result (List (Option ℕ)) PlaceFault} (Ok others) (Ok places)
no_slot None others places is = is
no_slot (Some n) others places is = absurd (let e : ◌≡◌ {A = Result (List (Option ℕ)) PlaceFault} (Err (Slot n.file)) (Ok places) = is in
    cc)

pub slotted_ok : (kept_news : List New) (free : ℕ) (answer : Result (List (Option ℕ)) PlaceFault) (places : List (Option ℕ))
    → slotted kept_news free answer ≡ Ok places → answer ≡ Ok places
slotted_ok kept_news free (Err fault) places is = is
slotted_ok kept_news free (Ok others) places is = no_slot (slice_get kept_news free) others places is

-- a priority lies at most at h or above t
abbrev pub Side : ℤ → ℤ → New → Type 0
Side h t n = (n.priority ≤ℤ h) ⊎ (t <ℤ n.priority)

-- one more priority; m and u are h and t as the code has them next
pub sides_more : (news : List New) (i : ℕ) (d : New) (h m t u : ℤ) → i < length news → h ≤ℤ m → u ≤ℤ t → All (Side h t) (take i news)
    → Side m u (get_or news i d) → All (Side m u) (take (i + 1) news)
sides_more news i d h m t u below up down each here =
    All-more (Side m u) news i d below (All-weaker (Side h t) (Side m u)
    (λ n side. elim side [ inl q ↦ inl (omega (arith, ints, q, up)) | inr q ↦ inr (omega (arith, ints, q, down)) ]) (take i news) each) here

is_err : (answer : Result (List (Option ℕ)) PlaceFault) (fault : PlaceFault) → answer ≡ Err fault → IsErr answer
is_err answer fault is = rw is refl

-- no lower threshold succeeds either
pub none_lower : (areas : List Area) (news : List New) (free : ℕ) (t h u : ℤ) (fault : PlaceFault)
    → ((other : ℤ) → t <ℤ other → other ≤ℤ pos 2147483647 → IsErr (tried areas news free other))
    → tried areas news free t ≡ Err fault → All (Side h t) news → h ≤ℤ u → u ≤ℤ pos 2147483647 → IsErr (tried areas news free u)
none_lower areas news free t h u fault above is each low high = by_lt_z t u (λ q. above u q high)
    (λ q. is_err (tried areas news free u) fault (same_between areas news free t h u each low q ∙ is))

pub refused_at : (areas : List Area) (news : List New) (free : ℕ) (t h : ℤ) (fault : PlaceFault)
    → ((other : ℤ) → t <ℤ other → other ≤ℤ pos 2147483647 → IsErr (tried areas news free other))
    → tried areas news free t ≡ Err fault → All (Side h t) news → h ≤ℤ pos 0 → pos 0 ≤ℤ t → IsRefused areas news free fault
refused_at areas news free t h fault above is each zero low = record {
  none = λ u from to. none_lower areas news free t h u fault above is each (omega (arith, ints, zero, from)) to;
  at_zero = same_between areas news free t h (pos 0) each zero low ∙ is;
}
