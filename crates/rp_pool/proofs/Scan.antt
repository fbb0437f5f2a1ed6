-- What a walk over the blocks knows, which passes from run to run.
use Rattle.std.proofs.Common.{inl, inr, subst, ◌≡◌, ◌≢◌, ℕ, suc, ◌+◌, ◌-◌, ◌<◌, ◌≤◌, Bool, true, false, cond, List, length, get_or, Some, None, arith, ap, sym, ◌∙◌}
use Rattle.std.specs.Prelude.{count_by}
use Rattle.std.specs.List.{range_with_len}
use Rattle.std.proofs.lemmas.Bool.{cases_lt}
use Rattle.std.proofs.lemmas.List.Sums.{sum_by-cons}
use Rattle.rp_pool.specs.Region.{AreDisjoint, first_fit, free_blocks, is_free}
use Rattle.rp_pool.proofs.Fit.{count_none, find_none, find_some, is_free_met, is_free_past, is_free_true, run_of}

-- no run that is out reaches over a block
abbrev pub IsBetween : List ℕ → ℕ → Type 0
IsBetween out block = (s : ℕ) → s < block → s + get_or out s 0 ≤ block

-- a run at this block or behind it begins, if it has blocks, behind the run at this block
behind : (out : List ℕ) (block s : ℕ) → AreDisjoint out → block < s → 0 < get_or out s 0 → block + get_or out block 0 ≤ s
behind out block s d late some = d.apart block s late some

-- behind a run that is out no run reaches over
behind_run : (out : List ℕ) (from block : ℕ) → AreDisjoint out → IsBetween out from → from ≤ block
    → ((s : ℕ) → from ≤ s → s < block → get_or out s 0 ≡ 0) → IsBetween out (block + get_or out block 0)
behind_run out from block d before low gap s below = elim (cases_lt s block) [
  | inl early ↦ elim (cases_lt s from) [
    | inl first ↦ omega (arith, before s first, early)
    | inr last ↦ omega (arith, gap s last early)
  ]
  | inr late ↦ elim (cases_lt block s) [
    | inl later ↦ elim (cases_lt 0 (get_or out s 0)) [
      | inl some ↦ absurd (omega (arith, behind out block s d later some))
      | inr none ↦ omega arith
    ]
    | inr same ↦
        let here : block ≡ s = omega arith in
        subst (λ t. t + get_or out t 0 ≤ block + get_or out block 0) here (omega arith)
  ]
]

-- a walk that looks for so many free blocks in a row: those from `from` on are free so far, and no run that begins before is
pub record Scanned (out : List ℕ) (n from block : ℕ) : Type 0 where
  pub low : from ≤ block
  pub within : block ≤ length out
  pub short : block < from + n
  pub before : IsBetween out from
  pub gap : (s : ℕ) → from ≤ s → s < block → get_or out s 0 ≡ 0
  pub none : (first : ℕ) → first < from → is_free out (run_of first n) ≡ false

pub scan_start : (out : List ℕ) (n : ℕ) → 1 ≤ n → Scanned out n 0 0
scan_start out n some = record {
  low = omega arith;
  within = omega arith;
  short = omega arith;
  before = λ s below. absurd (omega arith);
  gap = λ s low below. absurd (omega arith);
  none = λ first below. absurd (omega arith);
}

gap_more : (out : List ℕ) (from block : ℕ) → ((s : ℕ) → from ≤ s → s < block → get_or out s 0 ≡ 0) → get_or out block 0 ≡ 0
    → (s : ℕ) → from ≤ s → s < block + 1 → get_or out s 0 ≡ 0
gap_more out from block gap here s low below = elim (cases_lt s block) [
  | inl early ↦ gap s low early
  | inr late ↦ let same : block ≡ s = omega arith in subst (λ t. get_or out t 0 ≡ 0) same here
]

-- one more free block, which isn't enough
pub scan_free : (out : List ℕ) (n from block : ℕ) → Scanned out n from block → block < length out → get_or out block 0 ≡ 0
    → block + 1 - from ≢ n → Scanned out n from (block + 1)
scan_free out n from block r below free few =
    let low = r.low in
    let short = r.short in
    record {
      low = omega arith;
      within = omega arith;
      short = omega arith;
      before = r.before;
      gap = gap_more out from block r.gap free;
      none = r.none;
    }

-- one more, which is enough
pub scan_found : (out : List ℕ) (n from block : ℕ) → Scanned out n from block → block < length out → get_or out block 0 ≡ 0
    → block + 1 - from ≡ n → first_fit out n ≡ Some (run_of from n)
scan_found out n from block r below free enough =
    let low = r.low in
    find_some (is_free out) n 0 from (length out) from (omega arith) (omega arith) (λ first _ before. r.none first before)
    (is_free_true out from n (omega arith) (λ s in_region. elim (cases_lt s from) [
      | inl early ↦ inr (inr (r.before s early))
      | inr late ↦ elim (cases_lt s (block + 1)) [
        | inl within ↦ inl (gap_more out from block r.gap free s late within)
        | inr past ↦ inr (inl (omega arith))
      ]
    ]))

-- past a run that is out
pub scan_past : (out : List ℕ) (n from block : ℕ) → AreDisjoint out → Scanned out n from block → block < length out
    → 0 < get_or out block 0 → Scanned out n (block + get_or out block 0) (block + get_or out block 0)
scan_past out n from block d r below some =
    let low = r.low in
    let short = r.short in
    record {
      low = omega arith;
      within = d.within block below;
      short = omega arith;
      before = behind_run out from block d r.before low r.gap;
      gap = λ s low past. absurd (omega arith);
      none = λ first early. elim (cases_lt first from) [
        | inl before ↦ r.none first before
        | inr late ↦ is_free_met out first n block below some (omega arith) early
      ];
    }

-- no run is left
pub scan_end : (out : List ℕ) (n from block : ℕ) → Scanned out n from block → length out ≤ block → first_fit out n ≡ None
scan_end out n from block r end =
    let short = r.short in
    find_none (is_free out) n 0 (length out) (λ first _ _. elim (cases_lt first from) [
      | inl before ↦ r.none first before
      | inr late ↦ is_free_past out first n (omega arith)
    ])

-- a walk that counts free blocks
pub record Counted (out : List ℕ) (free block : ℕ) : Type 0 where
  pub within : block ≤ length out
  pub few : free ≤ block
  pub between : IsBetween out block
  pub rest : free + count_by (λ b. is_free out (run_of b 1)) (range_with_len block (length out - block)) ≡ free_blocks out

pub count_start : (out : List ℕ) → Counted out 0 0
count_start out = record {
  within = omega arith;
  few = omega arith;
  between = λ s below. absurd (omega arith);
  rest =
      let all : length out - 0 ≡ length out = omega arith in
      let one : 0 + count_by (λ b. is_free out (run_of b 1)) (range_with_len 0 (length out - 0))
      ≡ count_by (λ b. is_free out (run_of b 1)) (range_with_len 0 (length out - 0)) = omega arith in
      one ∙ ap (λ k. count_by (λ b. is_free out (run_of b 1)) (range_with_len 0 k)) all;
}

pub count_free : (out : List ℕ) (free block : ℕ) → Counted out free block → block < length out → get_or out block 0 ≡ 0
    → Counted out (free + 1) (block + 1)
count_free out free block r below none =
    let few = r.few in
    let p : ℕ → Bool = λ b. is_free out (run_of b 1) in
    let here : is_free out (run_of block 1) ≡ true = is_free_true out block 1 (omega arith) (λ s in_region. elim (cases_lt s block) [
      | inl early ↦ inr (inr (r.between s early))
      | inr late ↦ elim (cases_lt block s) [
        | inl past ↦ inr (inl (omega arith))
        | inr same ↦ let at : block ≡ s = omega arith in inl (subst (λ t. get_or out t 0 ≡ 0) at none)
      ]
    ]) in
    let one : length out - block ≡ suc (length out - (block + 1)) = omega arith in
    let unrolled : count_by p (range_with_len block (length out - block)) ≡ 1 + count_by p (range_with_len (block + 1) (length out - (block + 1))) =
    ap (λ k. count_by p (range_with_len block k)) one
    ∙ sum_by-cons (λ b. cond (p b) 1 0) block (range_with_len (block + 1) (length out - (block + 1)))
    ∙ ap (λ b. cond b 1 0 + count_by p (range_with_len (block + 1) (length out - (block + 1)))) here in
    let rest = r.rest in
    record {
      within = omega arith;
      few = omega arith;
      between = λ s early. elim (cases_lt s block) [
        | inl before ↦ omega (arith, r.between s before)
        | inr late ↦
            let at : block ≡ s = omega arith in
            subst (λ t. t + get_or out t 0 ≤ block + 1) at (omega arith)
      ];
      rest = omega (arith, unrolled, rest);
    }

pub count_past : (out : List ℕ) (free block : ℕ) → AreDisjoint out → Counted out free block → block < length out
    → 0 < get_or out block 0 → Counted out free (block + get_or out block 0)
count_past out free block d r below some =
    let few = r.few in
    let within : block + get_or out block 0 ≤ length out = d.within block below in
    let skipped = count_none (λ b. is_free out (run_of b 1)) block (get_or out block 0) (length out - block)
    (length out - (block + get_or out block 0)) (omega arith)
    (λ b low high. is_free_met out b 1 block below some (omega arith) high) in
    let rest = r.rest in
    record {
      within = within;
      few = omega arith;
      between = behind_run out block block d r.between (omega arith) (λ s low high. absurd (omega arith));
      rest = ap (λ k. free + k) (sym skipped) ∙ rest;
    }

pub count_end : (out : List ℕ) (free block : ℕ) → Counted out free block → length out ≤ block → free ≡ free_blocks out
count_end out free block r end =
    let none : length out - block ≡ 0 = omega arith in
    let last : count_by (λ b. is_free out (run_of b 1)) (range_with_len block (length out - block)) ≡ 0 =
    ap (λ k. count_by (λ b. is_free out (run_of b 1)) (range_with_len block k)) none in
    let rest = r.rest in
    omega (arith, last, rest)
