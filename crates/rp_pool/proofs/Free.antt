-- What the first fit is, and that no block is lent twice.
use Rattle.std.proofs.Common.{inl, inr, subst, ◌≡◌, ◌≢◌, ℕ, zero, suc, ◌+◌, ◌<◌, ◌≤◌, Bool, true, false, cond, List, length, get_or, map, set, Some, None, arith, refl, ap, sym, ◌∙◌, get_or-set_other, get_or-set_same}
use Rattle.std.specs.Prelude.{find}
use Rattle.std.specs.List.{range_with_len}
use Rattle.std.proofs.lemmas.Bool.{and_parts, cases_Bool, cases_eq, cases_lt, false≢true, leb-true}
use Rattle.std.proofs.lemmas.List.{get_or_past, length-set}
use Rattle.rp_pool.specs.Region.{AreDisjoint, IsFree, IsLent, IsOut, Region, Run, first_fit, is_free}
use Rattle.rp_pool.proofs.Fit.{is_free_met, is_free_past, is_free_true, run_of}

-- a run that passes the test is free
pub free_of_test : (out : List ℕ) (f n : ℕ) → is_free out (run_of f n) ≡ true → IsFree out (run_of f n)
free_of_test out f n is = record {
  within = leb-true (f + n) (length out) ((and_parts _ _ is).0);
  apart = λ block below some. elim (cases_lt block (f + n)) [
    | inr behind ↦ inl behind
    | inl early ↦ elim (cases_lt f (block + get_or out block 0)) [
      | inr before ↦ inr before
      | inl late ↦ absurd (false≢true (sym (is_free_met out f n block below some early late) ∙ is))
    ]
  ];
}

-- one that fails it isn't
pub met_of_test : (out : List ℕ) (f n : ℕ) → is_free out (run_of f n) ≡ false → ¬ IsFree out (run_of f n)
met_of_test out f n is free = false≢true (sym is ∙ is_free_true out f n free.within (λ s below. elim (cases_lt 0 (get_or out s 0)) [
  | inl some ↦ inr (free.apart s below some)
  | inr none ↦ inl (omega arith)
]))

-- the first of these runs that passes a test
pub record First (p : Run → Bool) (n a : ℕ) (r : Run) : Type 0 where
  pub at : ℕ
  pub same : r ≡ run_of at n
  pub low : a ≤ at
  pub passes : p (run_of at n) ≡ true
  pub others : (f : ℕ) → a ≤ f → f < at → p (run_of f n) ≡ false

pub find_is : (p : Run → Bool) (n a k : ℕ) (r : Run) → find p (map (λ f. run_of f n) (range_with_len a k)) ≡ Some r → First p n a r
find_is p n a zero r is = cc
find_is p n a (suc k) r is = elim (cases_Bool (p (run_of a n))) [
  | inl t ↦
      let here : Some (run_of a n) ≡ Some r =
      sym (ap (λ b. cond b (Some (run_of a n)) (find p (map (λ f. run_of f n) (range_with_len (a + 1) k)))) t) ∙ is in
      record { at = a; same = cc; low = omega arith; passes = t; others = λ f low below. absurd (omega arith) }
  | inr t ↦
      let rest = find_is p n (a + 1) k r
      (sym (ap (λ b. cond b (Some (run_of a n)) (find p (map (λ f. run_of f n) (range_with_len (a + 1) k)))) t) ∙ is) in
      let low = rest.low in
      record {
        at = rest.at;
        same = rest.same;
        low = omega arith;
        passes = rest.passes;
        others = λ f above below. elim (cases_lt a f) [
          | inl past ↦ rest.others f (omega arith) below
          | inr first ↦ let same : a ≡ f = omega arith in subst (λ x. p (run_of x n) ≡ false) same t
        ];
      }
]

pub find_is_none : (p : Run → Bool) (n a k : ℕ) → find p (map (λ f. run_of f n) (range_with_len a k)) ≡ None
    → (f : ℕ) → a ≤ f → f < a + k → p (run_of f n) ≡ false
find_is_none p n a zero is f low below = absurd (omega arith)
find_is_none p n a (suc k) is f low below = elim (cases_Bool (p (run_of a n))) [
  | inl t ↦
      let here : Some (run_of a n) ≡ None =
      sym (ap (λ b. cond b (Some (run_of a n)) (find p (map (λ f. run_of f n) (range_with_len (a + 1) k)))) t) ∙ is in
      cc
  | inr t ↦ elim (cases_lt a f) [
    | inl past ↦ find_is_none p n (a + 1) k
        (sym (ap (λ b. cond b (Some (run_of a n)) (find p (map (λ f. run_of f n) (range_with_len (a + 1) k)))) t) ∙ is)
        f (omega arith) (omega arith)
    | inr first ↦ let same : a ≡ f = omega arith in subst (λ x. p (run_of x n) ≡ false) same t
  ]
]

-- the first fit is free, of this length, and no run that begins before it is free
pub fit_some : (out : List ℕ) (n : ℕ) (run : Run) → first_fit out n ≡ Some run
    → (run.blocks ≡ n) × IsFree out run × ((first : ℕ) → first < run.first → ¬ IsFree out (run_of first n))
fit_some out n run is =
    let r = find_is (is_free out) n 0 (length out) run is in
    let same = r.same in
    let first : run.first ≡ r.at = ap (λ (x : Run). x.first) same in (
      ap (λ (x : Run). x.blocks) same,
      subst (λ x. IsFree out x) (sym same) (free_of_test out r.at n r.passes),
      λ f below. met_of_test out f n (r.others f (omega arith) (omega (arith, first))),
    )

-- where there is none, no run of so many blocks is free
pub fit_none : (out : List ℕ) (n : ℕ) → 1 ≤ n → first_fit out n ≡ None → (first : ℕ) → ¬ IsFree out (run_of first n)
fit_none out n some is first = elim (cases_lt first (length out)) [
  | inl below ↦ met_of_test out first n (find_is_none (is_free out) n 0 (length out) is first (omega arith) (omega arith))
  | inr past ↦ met_of_test out first n (is_free_past out first n (omega arith))
]

-- a run that is out behind another, where one is set, still begins behind it
apart_more : (out : List ℕ) (f n block other : ℕ) → AreDisjoint out → IsFree out (run_of f n) → f < length out
    → block < other → 0 < get_or (set out f n) other 0 → block + get_or (set out f n) block 0 ≤ other
apart_more out f n block other d free at before has = elim (cases_eq other f) [
  | inl new ↦
      let ne : block ≢ f = omega arith in
      rw get_or-set_other (elim (cases_lt 0 (get_or out block 0)) [
        | inr none ↦ omega arith
        | inl some ↦ elim (free.apart block (omega arith) some) [ inl h ↦ omega arith | inr h ↦ omega arith ]
      ])
  | inr old ↦
      let ne : other ≢ f = old in
      let out_there : 0 < get_or out other 0 = rw get_or-set_other at has in
      elim (cases_lt other (length out)) [
        | inr past ↦ absurd (omega (arith, get_or_past out other 0 past))
        | inl below ↦ elim (cases_eq block f) [
          | inl same ↦
              let here : get_or (set out f n) block 0 ≡ n = ap (λ b. get_or (set out f n) b 0) same ∙ get_or-set_same out f n 0 at in
              elim (free.apart other below out_there) [ inl h ↦ omega (arith, here) | inr h ↦ absurd (omega arith) ]
          | inr apart ↦ let ne' : block ≢ f = apart in rw get_or-set_other (d.apart block other before out_there)
        ]
      ]
]

within_more : (out : List ℕ) (f n block : ℕ) → AreDisjoint out → IsFree out (run_of f n) → f < length out → block < length out
    → block + get_or (set out f n) block 0 ≤ length out
within_more out f n block d free at below = elim (cases_eq block f) [
  | inl same ↦
      let here : get_or (set out f n) block 0 ≡ n = ap (λ b. get_or (set out f n) b 0) same ∙ get_or-set_same out f n 0 at in
      let within = free.within in
      omega (arith, here)
  | inr other ↦ let ne : block ≢ f = other in rw get_or-set_other (d.within block below)
]

-- runs stay disjoint when a free one is lent
pub disjoint_more : (out : List ℕ) (f n : ℕ) → 1 ≤ n → AreDisjoint out → IsFree out (run_of f n) → AreDisjoint (set out f n)
disjoint_more out f n some d free =
    let within = free.within in
    record {
      within = λ block below.
          let size : length (set out f n) ≡ length out = length-set out f n in
          let below' : block < length out = omega arith in
          rw length-set (within_more out f n block d free (omega arith) below');
      apart = λ block other before has. apart_more out f n block other d free (omega arith) before has;
    }

-- the first fit is within the region, and may be lent
pub fit_lent : (out : List ℕ) (n f : ℕ) → 1 ≤ n → AreDisjoint out → Some (run_of f n) ≡ first_fit out n
    → (f + n ≤ length out) × AreDisjoint (set out f n) × IsFree out (run_of f n)
fit_lent out n f some d is =
    let fit = fit_some out n (run_of f n) (sym is) in
    let free : IsFree out (run_of f n) = fit.1 in
    (free.within, disjoint_more out f n some d free, free)

-- a run that is out begins in the region
out_below : (region : Region) (run : Run) → IsOut region run → run.first < length region.out
out_below region run is =
    let some = is.some in
    let size : get_or region.out run.first 0 ≡ run.blocks = is.out in
    elim (cases_lt run.first (length region.out)) [
      | inl below ↦ below
      | inr past ↦ absurd (omega (arith, get_or_past region.out run.first 0 past))
    ]

-- what is out stays out when a free run is lent
pub lent_of_free : (bytes out : List ℕ) (f n : ℕ) → 1 ≤ n → IsFree out (run_of f n)
    → IsLent (record { bytes = bytes; out = out }) (record { bytes = bytes; out = set out f n }) n (run_of f n)
lent_of_free bytes out f n some free =
    let within = free.within in
    let at : f < length out = omega arith in
    record {
      size = refl;
      out = record { some = some; out = get_or-set_same out f n 0 at };
      others = λ other is.
          let below = out_below (record { bytes = bytes; out = out }) other is in
          let more = is.some in
          let size : get_or out other.first 0 ≡ other.blocks = is.out in
          let ne : other.first ≢ f = λ same. (elim (free.apart other.first below (omega arith)) [ inl h ↦ omega arith | inr h ↦ omega arith ]) in
          (ne, record { some = more; out = rw get_or-set_other size });
    }

-- runs that are out share no block
pub out_apart : (region : Region) (a b : Run) → AreDisjoint region.out → IsOut region a → IsOut region b → a.first < b.first
    → a.first + a.blocks ≤ b.first
out_apart region a b d a_out b_out before =
    let size = a_out.out in
    let some = b_out.some in
    let there = b_out.out in
    omega (arith, d.apart a.first b.first before (omega arith))
