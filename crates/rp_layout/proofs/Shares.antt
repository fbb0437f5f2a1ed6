-- What the shares of an area make of its seats.
use Rattle.std.proofs.Common.{◌≡◌, ℕ, ◌+◌, ◌-◌, ◌*◌, ◌≤◌, ◌⊎◌, List, [], ◌∷◌, length, map, max, sum, sum_by, All, arith, refl, ap, sym, ◌∙◌, inl, inr, eqb}
use Rattle.std.proofs.lemmas.Bool.{cond_both, eqb-true}
use Rattle.std.proofs.lemmas.List.Elements.{All-cons, All-nil}
use Rattle.std.proofs.lemmas.List.Sums.{sum_by-cons}
use Rattle.rp_base.specs.declared.want.Want.{Want}
use Rattle.rp_base.specs.Wants.{IsWant}
use Rattle.rp_areas.specs.Again.{Piece, total}
use Rattle.rp_areas.specs.Areas.{grains_up, want_at}
use Rattle.rp_share.specs.declared.item.Item.{Item}
use Rattle.rp_share.specs.Share.{IsShare}
use Rattle.rp_share.specs.Value.{shares_of}
use Rattle.rp_share.proofs.Public.{rest_share, share_is}
use Rattle.rp_layout.specs.declared.seat.Seat.{Seat}
use Rattle.rp_layout.specs.Seats.{items_of, pieces_of, seat_of, units_of}

-- the grains of a partition are its share
pub grains_of : (has grains : ℕ) → grains_up (units_of has grains) ≡ grains
grains_of has grains = cond_both (eqb (grains_up has) grains) has (8 * grains) (λ (s : ℕ). grains_up s ≡ grains)
    (λ same. eqb-true (grains_up has) grains same) (λ _. omega arith)

-- the units of a partition are those that it had, or its grains
pub units_are : (has grains : ℕ) → (units_of has grains ≡ has) ⊎ (units_of has grains ≡ 8 * grains)
units_are has grains = cond_both (eqb (grains_up has) grains) has (8 * grains) (λ (s : ℕ). (s ≡ has) ⊎ (s ≡ 8 * grains))
    (λ _. inl refl) (λ _. inr refl)

pub most_is_span : (span : ℕ) (items : List Item) (shares : List ℕ) → IsShare span items shares → sum shares ≤ span
most_is_span span items shares share = elim share.whole [ inl spent ↦ omega (arith, spent) | inr filled ↦ omega (arith, filled.0) ]

-- the partitions take what the items have
total_is : (seats : List Seat) (shares : List ℕ) → length shares ≡ length (items_of seats) → total (pieces_of seats shares) ≡ sum shares
total_is [] [] each = refl
total_is [] (x ∷ shares) each = absurd (omega (arith, each))
total_is (s ∷ ss) [] each = absurd (omega (arith, each))
total_is (s ∷ ss) (x ∷ []) each = absurd (omega (arith, each))
total_is (s ∷ ss) (x ∷ y ∷ shares) each = omega (
  arith,
  grains_of s.has x,
  total_is ss shares (omega (arith, each)),
  sum_by-cons (λ (n : ℕ). n) x (y ∷ shares),
  sum_by-cons (λ (n : ℕ). n) y shares,
)

pub fits_span : (span : ℕ) (seats : List Seat) (shares : List ℕ) → IsShare span (items_of seats) shares
    → total (pieces_of seats shares) ≤ span
fits_span span seats shares share =
    let all = most_is_span span (items_of seats) shares share in omega (arith, all, total_is seats shares share.fair.one_each)

-- a partition of so many units, with its padding, keeps to what its definition asks for, which has so many
pub record IsShared (want : Want) (has units pad : ℕ) : Type 0 where
  pub least : grains_up has ≤ grains_up units
  pub min : want.min ≤ grains_up units
  pub most : grains_up units ≤ max (grains_up has) want.max
  pub pad_min : want.pad_min ≤ pad
  pub pad_max : pad ≤ want.pad_max
  pub kept : (units ≡ has) ⊎ (units ≡ 8 * grains_up units)

-- the definitions of an area, the wants and what each has
module _ (wants : List Want) (has : ℕ → ℕ) where
  abbrev pub seat : ℕ → Seat
  seat file = seat_of (want_at wants file) file (has file)

  shared_at : (span file : ℕ) (files : List ℕ) (x y : ℕ) (shares : List ℕ)
      → IsShare span (items_of (map seat (file ∷ files))) (x ∷ y ∷ shares)
      → IsShared (want_at wants file) (has file) (units_of (has file) x) y
  shared_at span file files x y shares share =
      let want : Want = want_at wants file in
      let least : max (grains_up (has file)) want.min ≤ x = share.fair.least 0 (omega arith) in
      let most : x ≤ max (grains_up (has file)) want.max = share.fair.most 0 (omega arith) in
      let pad_least : want.pad_min ≤ y = share.fair.least 1 (omega arith) in
      let pad_most : y ≤ want.pad_max = share.fair.most 1 (omega arith) in
      let grains : grains_up (units_of (has file) x) ≡ x = grains_of (has file) x in
      record {
        least = omega (arith, grains, least);
        min = omega (arith, grains, least);
        most = omega (arith, grains, most);
        pad_min = pad_least;
        pad_max = pad_most;
        kept = elim (units_are (has file) x) [ inl same ↦ inl same | inr whole ↦ inr (whole ∙ ap (λ g. 8 * g) (sym grains)) ];
      }

  -- the same of each partition of an area
  pub pieces_shared : (span : ℕ) (files shares : List ℕ) → IsShare span (items_of (map seat files)) shares
      → All (λ (p : Piece). IsShared (want_at wants p.file) (has p.file) p.units p.pad) (pieces_of (map seat files) shares)
  pieces_shared span [] shares share = All-nil (λ (p : Piece). IsShared (want_at wants p.file) (has p.file) p.units p.pad)
  pieces_shared span (f ∷ fs) [] share = All-nil (λ (p : Piece). IsShared (want_at wants p.file) (has p.file) p.units p.pad)
  pieces_shared span (f ∷ fs) (x ∷ []) share = All-nil (λ (p : Piece). IsShared (want_at wants p.file) (has p.file) p.units p.pad)
  pieces_shared span (f ∷ fs) (x ∷ y ∷ shares) share =
      All-cons (λ (p : Piece). IsShared (want_at wants p.file) (has p.file) p.units p.pad)
      (record { file = f; units = units_of (has f) x; pad = y }) (pieces_of (map seat fs) shares)
      (shared_at span f fs x y shares share)
      (pieces_shared (span - (x + y)) fs shares
      (rest_share span (seat f).size (seat f).pad (items_of (map seat fs)) x y shares share))

  -- there is a partition for each
  pub pieces_files : (files shares : List ℕ) → length shares ≡ length (items_of (map seat files))
      → map (λ (p : Piece). p.file) (pieces_of (map seat files) shares) ≡ files
  pieces_files [] shares each = refl
  pieces_files (f ∷ fs) [] each = absurd (omega (arith, each))
  pieces_files (f ∷ fs) (x ∷ []) each = absurd (omega (arith, each))
  pieces_files (f ∷ fs) (x ∷ y ∷ shares) each = ap (λ files. f ∷ files) (pieces_files fs shares (omega (arith, each)))

  -- the least that a definition takes with its padding
  abbrev pub need : ℕ → ℕ
  need file = max (grains_up (has file)) (want_at wants file).min + (want_at wants file).pad_min

  pub minima_are : (files : List ℕ) → sum_by (λ (item : Item). item.min) (items_of (map seat files)) ≡ sum_by need files
  minima_are [] = refl
  minima_are (f ∷ fs) = omega (
    arith,
    minima_are fs,
    sum_by-cons (λ (item : Item). item.min) (seat f).size ((seat f).pad ∷ items_of (map seat fs)),
    sum_by-cons (λ (item : Item). item.min) (seat f).pad (items_of (map seat fs)),
    sum_by-cons need f fs,
  )

  pub length-items : (files : List ℕ) → length (items_of (map seat files)) ≡ 2 * length files
  length-items [] = refl
  length-items (f ∷ fs) = omega (arith, length-items fs)

  -- what holds of each size and each padding
  pub each_item : (P : Item → Type 0) → ((file : ℕ) → P (seat file).size) → ((file : ℕ) → P (seat file).pad) → (files : List ℕ)
      → All P (items_of (map seat files))
  each_item P size pad [] = All-nil P
  each_item P size pad (f ∷ fs) = All-cons P (seat f).size ((seat f).pad ∷ items_of (map seat fs)) (size f)
      (All-cons P (seat f).pad (items_of (map seat fs)) (pad f) (each_item P size pad fs))

  module _ (limits : (file : ℕ) → IsWant (want_at wants file)) (files : List ℕ) where
    pub items_in_order : All (λ (item : Item). item.min ≤ item.max) (items_of (map seat files))
    items_in_order = each_item (λ (item : Item). item.min ≤ item.max)
        (λ file. let want = limits file in omega (arith, want.size)) (λ file. let want = limits file in want.padding) files

    pub items_weigh : All (λ (item : Item). item.weight ≤ 1000000) (items_of (map seat files))
    items_weigh = each_item (λ (item : Item). item.weight ≤ 1000000)
        (λ file. let want = limits file in want.weight) (λ file. let want = limits file in want.padding_weight) files

    pub shared_span : (span : ℕ) → sum_by need files ≤ span
        → IsShare span (items_of (map seat files)) (shares_of span (items_of (map seat files)))
    shared_span span fits = share_is (items_of (map seat files)) items_in_order span (omega (arith, fits, minima_are files))
