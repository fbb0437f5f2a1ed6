-- The least candidate.
use Rattle.std.proofs.Common.{◌⊎◌, inl, inr, subst, ◌≡◌, ℕ, ◌+◌, ◌<◌, ◌≤◌, Bool, true, false, cond, List, [], ◌∷◌, ◌++◌, length, get_or, take, filter, map, fold, slice_index, Option, Some, None, IfSome, All, arith, refl, ap, sym, ◌∙◌, nat_le, zero-add, append-nil}
use Rattle.std.specs.List.{enumerate_from}
use Rattle.std.proofs.lemmas.Bool.{both_ways, cases_eq, cases_lt, cond_both, eq-eqb, le-leb, le-ltb, leb-true, lt-leb, lt-ltb, ne_eqb}
use Rattle.std.proofs.lemmas.List.{get_or-map, length-map, take_all}
use Rattle.std.proofs.lemmas.List.Elements.{All-cons, All-head, All-nil, All-tail, filter_more}
use Rattle.std.proofs.lemmas.List.FromFn.{get_or-enumerate_from, length-enumerate_from}
use Rattle.std.proofs.lemmas.List.Sums.{fold_push}
use Rattle.rp_areas.specs.declared.gaps.Area.{Area}
use Rattle.rp_place.specs.declared.fit.Candidate.{Candidate}
use Rattle.rp_place.specs.Facts.{IsLeast, IsNoLater, area_at}
use Rattle.rp_place.specs.Placing.{best_of, candidate_of, lesser, precedes}

-- all candidates
abbrev pub candidates : List Area → List ℕ → List Candidate
candidates areas rooms = map (candidate_of rooms) (enumerate_from 0 areas)

-- the least of the first with room
abbrev pub best_among : List Area → List ℕ → ℕ → ℕ → Option Candidate
best_among areas rooms need n = fold lesser None (filter (λ c. nat_le need c.available) (take n (candidates areas rooms)))

length-candidates : (areas : List Area) (rooms : List ℕ) → length (candidates areas rooms) ≡ length areas
length-candidates areas rooms = length-map (enumerate_from 0 areas) (candidate_of rooms) ∙ length-enumerate_from 0 areas

candidate_at : (areas : List Area) (rooms : List ℕ) (i : ℕ) (d : Area) (e : Candidate) → i < length areas
    → get_or (candidates areas rooms) i e ≡ candidate_of rooms (i, get_or areas i d)
candidate_at areas rooms i d e below =
    let l : i < length (enumerate_from 0 areas) = rw length-enumerate_from below in
    get_or-map (candidate_of rooms) (enumerate_from 0 areas) i (0, d) e l
    ∙ ap (candidate_of rooms) (get_or-enumerate_from 0 areas i (0, d) below ∙ ap (λ n. (n, get_or areas i d)) (zero-add i))

-- one more candidate
best_more : (areas : List Area) (rooms : List ℕ) (need i : ℕ) (d : Area) (b : Bool) → i < length areas
    → nat_le need (slice_index rooms i) ≡ b
    → best_among areas rooms need (i + 1) ≡ cond b (lesser (best_among areas rooms need i) (candidate_of rooms (i, get_or areas i d)))
    (best_among areas rooms need i)
best_more areas rooms need i d true below is =
    let e : Candidate = candidate_of rooms (i, get_or areas i d) in
    let l : i < length (candidates areas rooms) = rw length-candidates below in
    let at : get_or (candidates areas rooms) i e ≡ e = candidate_at areas rooms i d e below in
    ap (fold lesser None) (filter_more (λ c. nat_le need c.available) (candidates areas rooms) i e l
    ∙ ap (λ c. filter (λ x. nat_le need x.available) (take i (candidates areas rooms)) ++ cond (nat_le need c.available) (c ∷ []) []) at
    ∙ ap (λ t. filter (λ x. nat_le need x.available) (take i (candidates areas rooms)) ++ cond t (e ∷ []) []) is)
    ∙ fold_push lesser None (filter (λ x. nat_le need x.available) (take i (candidates areas rooms))) e
best_more areas rooms need i d false below is =
    let e : Candidate = candidate_of rooms (i, get_or areas i d) in
    let l : i < length (candidates areas rooms) = rw length-candidates below in
    let at : get_or (candidates areas rooms) i e ≡ e = candidate_at areas rooms i d e below in
    ap (fold lesser None) (filter_more (λ c. nat_le need c.available) (candidates areas rooms) i e l
    ∙ ap (λ c. filter (λ x. nat_le need x.available) (take i (candidates areas rooms)) ++ cond (nat_le need c.available) (c ∷ []) []) at
    ∙ ap (λ t. filter (λ x. nat_le need x.available) (take i (candidates areas rooms)) ++ cond t (e ∷ []) []) is
    ∙ append-nil (filter (λ x. nat_le need x.available) (take i (candidates areas rooms))))

pub best_yes : (areas : List Area) (rooms : List ℕ) (need i : ℕ) (d : Area) (best : Option Candidate) (c : Candidate) → i < length areas
    → need ≤ slice_index rooms i
    → best ≡ best_among areas rooms need i → lesser best (candidate_of rooms (i, get_or areas i d)) ≡ Some c
    → Some c ≡ best_among areas rooms need (i + 1)
best_yes areas rooms need i d best c below room is next =
    sym next ∙ ap (λ b. lesser b (candidate_of rooms (i, get_or areas i d))) is
    ∙ sym (best_more areas rooms need i d true below (le-leb need (slice_index rooms i) room))

pub best_no : (areas : List Area) (rooms : List ℕ) (need i : ℕ) (d : Area) (best : Option Candidate) → i < length areas
    → slice_index rooms i < need
    → best ≡ best_among areas rooms need i → best ≡ best_among areas rooms need (i + 1)
best_no areas rooms need i d best below room is = is ∙ sym (best_more areas rooms need i d false below
    (lt-leb need (slice_index rooms i) room))

-- what the least candidate is
pub record IsRoomy (areas : List Area) (rooms : List ℕ) (need : ℕ) (c : Candidate) : Type 0 where
  pub place : c.place < length areas
  pub available : c.available ≡ slice_index rooms c.place
  pub from : c.from ≡ (area_at areas c.place).from
  pub room : need ≤ c.available

lesser_keeps : (P : Candidate → Type 0) (best : Option Candidate) (c : Candidate) → IfSome best P → P c → IfSome (lesser best c) P
lesser_keeps P None c kept here = here
lesser_keeps P (Some b) c kept here = cond_both (precedes c b) c b P (λ _. here) (λ _. kept)

least_keeps : (P : Candidate → Type 0) (best : Option Candidate) (cs : List Candidate) → IfSome best P → All P cs
    → IfSome (fold lesser best cs) P
least_keeps P best [] kept each = kept
least_keeps P best (c ∷ cs) kept each = least_keeps P (lesser best c) cs (lesser_keeps P best c kept (All-head P c cs each))
    (All-tail P c cs each)

pass_one : (p : Candidate → Bool) (P : Candidate → Type 0) (c : Candidate) (cs : List Candidate) (b : Bool) → p c ≡ b
    → (p c ≡ true → P c) → All P (filter p cs) → All P (cond b (c ∷ filter p cs) (filter p cs))
pass_one p P c cs true is here rest = All-cons P c (filter p cs) (here is) rest
pass_one p P c cs false is here rest = rest

-- what holds of those that pass
passed : (p : Candidate → Bool) (P : Candidate → Type 0) (cs : List Candidate) → All (λ c. p c ≡ true → P c) cs → All P (filter p cs)
passed p P [] each = All-nil P
passed p P (c ∷ cs) each = pass_one p P c cs (p c) refl (All-head (λ x. p x ≡ true → P x) c cs each)
    (passed p P cs (All-tail (λ x. p x ≡ true → P x) c cs each))

abbrev pub no_area : Area
no_area = record { from = 0; span = 0; anchor = None; used = 0 }

pub best_roomy : (areas : List Area) (rooms : List ℕ) (need : ℕ) → IfSome (best_of areas rooms need) (IsRoomy areas rooms need)
best_roomy areas rooms need = least_keeps (IsRoomy areas rooms need) None
    (filter (λ c. nat_le need c.available) (candidates areas rooms)) tt
    (passed (λ c. nat_le need c.available) (IsRoomy areas rooms need) (candidates areas rooms) (λ k d below roomy.
    let l : k < length areas = omega (arith, below, length-candidates areas rooms) in
    let at : get_or (candidates areas rooms) k d ≡ candidate_of rooms (k, get_or areas k no_area) = candidate_at areas rooms k no_area d
    l in
    rw at (record { place = l; available = refl; from = refl; room = leb-true need (slice_index rooms k) (rw at at roomy) })))

-- Whether a candidate precedes another is their order.

decided : (a b : Candidate) → ((precedes a b ≡ true) × IsNoLater a b) ⊎ ((precedes a b ≡ false) × IsNoLater b a)
decided a b = elim (cases_lt a.available b.available) [
  | inl less ↦ inl (rw (lt-ltb a.available b.available less) refl, inl less)
  | inr more ↦ elim (cases_eq a.available b.available) [
    | inr differs ↦
        let beyond : b.available < a.available = omega (arith, more, differs) in
        inr (rw (le-ltb a.available b.available more, ne_eqb a.available b.available differs) refl, inl beyond)
    | inl same ↦ elim (cases_lt a.from b.from) [
      | inl before ↦ inl (
        rw (le-ltb a.available b.available more, eq-eqb a.available b.available same, lt-ltb a.from b.from before)
            refl,
        inr (same, inl before),
      )
      | inr behind ↦ elim (cases_eq a.from b.from) [
        | inr apart ↦
            let beyond : b.from < a.from = omega (arith, behind, apart) in
            inr (
              rw (
                le-ltb a.available b.available more,
                eq-eqb a.available b.available same,
                le-ltb a.from b.from behind,
                ne_eqb a.from
                    b.from apart,
              ) refl,
              inr (sym same, inl beyond),
            )
        | inl one ↦ elim (cases_lt a.place b.place) [
          | inl lower ↦ inl (
            rw (
              le-ltb a.available b.available more,
              eq-eqb a.available b.available same,
              le-ltb a.from b.from behind,
              eq-eqb a.from b.from one,
              lt-ltb a.place b.place lower,
            ) refl,
            inr (same, inr (one, omega (arith, lower))),
          )
          | inr higher ↦ inr (
            rw (
              le-ltb a.available b.available more,
              eq-eqb a.available b.available same,
              le-ltb a.from b.from behind,
              eq-eqb a.from b.from one,
              le-ltb a.place b.place higher,
            ) refl,
            inr (sym same, inr (sym one, higher)),
          )
        ]
      ]
    ]
  ]
]

no_later_then : (a b c : Candidate) → IsNoLater a b → IsNoLater b c → IsNoLater a c
no_later_then a b c (inl p) (inl q) = inl (omega (arith, p, q))
no_later_then a b c (inl p) (inr q) = inl (omega (arith, p, q.0))
no_later_then a b c (inr p) (inl q) = inl (omega (arith, p.0, q))
no_later_then a b c (inr p) (inr q) = inr (
  p.0 ∙ q.0,
  elim p.1 [
    | inl f ↦ elim q.1 [ inl g ↦ inl (omega (arith, f, g)) | inr g ↦ inl (omega (arith, f, g.0)) ]
    | inr f ↦ elim q.1 [ inl g ↦ inl (omega (arith, f.0, g)) | inr g ↦ inr (f.0 ∙ g.0, omega (arith, f.1, g.1)) ]
  ],
)

-- the lesser of two is no later than either
lesser_first : (c b x : Candidate) → IsNoLater c (cond (precedes x b) x b) → IsNoLater c b × IsNoLater c x
lesser_first c b x first = elim (decided x b) [
  | inl first_one ↦
      let to_x : IsNoLater c x = subst (λ (t : Bool). IsNoLater c (cond t x b)) first_one.0 first in
      (no_later_then c x b to_x first_one.1, to_x)
  | inr last_one ↦
      let to_b : IsNoLater c b = subst (λ (t : Bool). IsNoLater c (cond t x b)) last_one.0 first in
      (to_b, no_later_then c b x to_b last_one.1)
]

least_of : (b c : Candidate) (cs : List Candidate) → fold lesser (Some b) cs ≡ Some c → IsNoLater c b × All (IsNoLater c) cs
least_of b c [] is =
    let e : Some b ≡ Some c = is in
    let same : b ≡ c = cc in
    (subst (λ (x : Candidate). IsNoLater c x) (sym same) (inr (refl, inr (refl, omega arith))), All-nil (IsNoLater c))
least_of b c (x ∷ xs) is =
    let rest = least_of (cond (precedes x b) x b) c xs is in
    let here = lesser_first c b x rest.0 in
    (here.0, All-cons (IsNoLater c) x xs here.1 rest.1)

least_of_all : (c : Candidate) (cs : List Candidate) → fold lesser None cs ≡ Some c → All (IsNoLater c) cs
least_of_all c [] is = absurd (let e : None ≡ Some c = is in cc)
least_of_all c (x ∷ xs) is = let all = least_of x c xs is in All-cons (IsNoLater c) x xs all.0 all.1

-- what holds of those that pass holds of each, if it passes
pub from_passed : {X : Type 0} (p : X → Bool) (P : X → Type 0) (xs : List X) → All P (filter p xs) → All (λ x. p x ≡ true → P x) xs
from_passed p P [] each = All-nil (λ x. p x ≡ true → P x)
from_passed p P (x ∷ xs) each = cond_both (p x) (x ∷ filter p xs) (filter p xs) (λ ys. All P ys → All (λ x. p x ≡ true → P x) (x ∷ xs))
    (λ _ all. All-cons (λ x. p x ≡ true → P x) x xs (λ _. All-head P x (filter p xs) all)
    (from_passed p P xs (All-tail P x (filter p xs) all)))
    (λ fails all. All-cons (λ x. p x ≡ true → P x) x xs (λ passes. absurd (both_ways (p x) fails passes)) (from_passed p P xs all))
    each

-- the least candidate is the least area with room
pub best_least : (areas : List Area) (rooms : List ℕ) (need : ℕ) (c : Candidate) → IsRoomy areas rooms need c
    → best_of areas rooms need ≡ Some c → IsLeast areas (slice_index rooms) need c.place
best_least areas rooms need c roomy best = record {
  place = roomy.place;
  room = omega (arith, roomy.room, roomy.available);
  least = λ other below fits.
      let d : Candidate = candidate_of rooms (other, get_or areas other no_area) in
      let all = from_passed (λ (x : Candidate). nat_le need x.available) (IsNoLater c) (candidates areas rooms)
      (least_of_all c (filter (λ x. nat_le need x.available) (candidates areas rooms)) best) in
      let l : other < length (candidates areas rooms) = rw length-candidates below in
      let at : get_or (candidates areas rooms) other d ≡ d = candidate_at areas rooms other no_area d below in
      let here : IsNoLater c d = subst (λ (x : Candidate). nat_le need x.available ≡ true → IsNoLater c x) at (all other d l)
      (le-leb need (slice_index rooms other) fits) in
      rw (sym roomy.available, sym roomy.from) here;
}

pub best_all : (areas : List Area) (rooms : List ℕ) (need n : ℕ) → length areas ≤ n
    → best_among areas rooms need n ≡ best_of areas rooms need
best_all areas rooms need n all = ap (λ cs. fold lesser None (filter (λ c. nat_le need c.available) cs))
    (take_all n (candidates areas rooms) (rw length-candidates all))

roomy_place : (areas : List Area) (rooms : List ℕ) (need : ℕ) (o : Option Candidate) → IfSome o (IsRoomy areas rooms need)
    → IfSome o (λ c. c.place < length areas)
roomy_place areas rooms need None roomy = tt
roomy_place areas rooms need (Some c) roomy = roomy.place

roomy_room : (areas : List Area) (rooms : List ℕ) (need : ℕ) (o : Option Candidate) → IfSome o (IsRoomy areas rooms need)
    → IfSome o (λ c. need ≤ c.available)
roomy_room areas rooms need None roomy = tt
roomy_room areas rooms need (Some c) roomy = roomy.room

pub best_place : (areas : List Area) (rooms : List ℕ) (need : ℕ) → IfSome (best_of areas rooms need) (λ c. c.place < length areas)
best_place areas rooms need = roomy_place areas rooms need (best_of areas rooms need) (best_roomy areas rooms need)

pub best_room : (areas : List Area) (rooms : List ℕ) (need : ℕ) → IfSome (best_of areas rooms need) (λ c. need ≤ c.available)
best_room areas rooms need = roomy_room areas rooms need (best_of areas rooms need) (best_roomy areas rooms need)
