-- Where nothing is dropped, the definitions that are kept are those without a row, in order.
use Rattle.std.proofs.Common.{◌≡◌, ◌∙◌, ℕ, ℤ, zero, suc, ◌+◌, Bool, true, false, cond, List, [], ◌∷◌, Option, Some, None, arith, refl, ap, sym, subst, slice_get, zero-add}
use Rattle.std.specs.Prelude.{◌&&◌, count_by, int_le, is_none, not, slice_index_or, take}
use Rattle.std.specs.List.{enumerate_from, filter}
use Rattle.std.proofs.lemmas.Option.{get_or_from_slice_get}
use Rattle.rp_areas.specs.Matching.{without}
use Rattle.rp_defs.specs.declared.definition.Definition.{Definition}
use Rattle.rp_sizes.specs.Needs.{is_new}
use Rattle.rp_plan.specs.Kept.{dropped_file, dropped_files, is_kept, kept_files, kept_of, rank_in}
use Rattle.rp_plan.proofs.Paired.{rank_is}
use Rattle.rp_idle.proofs.Lists.{count_step, none_answered}

kept_by : (new le : Bool) (file : ℕ) → cond (new && not le) (Some file) None ≡ None → new ≡ true → (new && le) ≡ true
kept_by true true file none is = refl
kept_by true false file none is = absurd (cc)
kept_by false le file none is = absurd (cc)

-- a definition without a row is kept
pub new_is_kept : (matched : List (Option ℕ)) (t : ℤ) (defs : List Definition) → dropped_files matched t defs ≡ []
    → (k : ℕ) (def : Definition) → slice_get defs k ≡ Some def → is_new matched k ≡ true → is_kept matched t (k, def) ≡ true
new_is_kept matched t defs none k def at new =
    kept_by (is_new matched k) (int_le def.priority t) k
    (none_answered (dropped_file matched t) 0 defs none k k def (sym (zero-add k)) at) new

-- one that has a row isn't
old_is_past : (new le : Bool) → new ≡ false → (new && le) ≡ false
old_is_past true le is = absurd (cc)
old_is_past false le is = refl

-- the steps of the count: one without a row is the first of those that are kept
abbrev Holds : List (ℕ × Definition) → ℕ → ℕ × Definition → Type 0
Holds kept n e = slice_get kept n ≡ Some e

taken : (b : Bool) (e f : ℕ × Definition) (rest : List (ℕ × Definition)) (n : ℕ) → b ≡ true → Holds rest n f
    → Holds (cond b (e ∷ rest) rest) (1 + n) f
taken true e f rest n is at = subst (λ k. Holds (e ∷ rest) k f) (let h : suc n ≡ 1 + n = omega arith in h) at
taken false e f rest n is at = absurd (cc)

passed : (b : Bool) (e f : ℕ × Definition) (rest : List (ℕ × Definition)) (n : ℕ) → b ≡ false → Holds rest n f
    → Holds (cond b (e ∷ rest) rest) (0 + n) f
passed true e f rest n is at = absurd (cc)
passed false e f rest n is at = subst (λ k. Holds rest k f) (let h : n ≡ 0 + n = omega arith in h) at

first : (b : Bool) (e : ℕ × Definition) (rest : List (ℕ × Definition)) → b ≡ true → Holds (cond b (e ∷ rest) rest) 0 e
first true e rest is = refl
first false e rest is = absurd (cc)

-- each definition from a place on is kept where it has no row
record IsTaken (matched : List (Option ℕ)) (t : ℤ) (n : ℕ) (ms : List (Option ℕ)) (defs : List Definition) : Type 0 where
  same : (i : ℕ) (m : Option ℕ) → slice_get ms i ≡ Some m → is_new matched (n + i) ≡ is_none m
  kept : (i k : ℕ) (d : Definition) → k ≡ n + i → slice_get defs i ≡ Some d → is_new matched k ≡ true → is_kept matched t (k, d) ≡ true

module _ (matched : List (Option ℕ)) (t : ℤ) where
  later : (n : ℕ) (m : Option ℕ) (ms : List (Option ℕ)) (d : Definition) (defs : List Definition)
      → IsTaken matched t n (m ∷ ms) (d ∷ defs) → IsTaken matched t (n + 1) ms defs
  later n m ms d defs is = record {
    same = λ i o at. subst (λ k. is_new matched k ≡ is_none o) (let h : n + suc i ≡ n + 1 + i = omega arith in h) (is.same (suc i) o at);
    kept = λ i k def e at new. is.kept (suc i) k def (omega (arith, e)) at new;
  }

  rank_from : (n : ℕ) (ms : List (Option ℕ)) (defs : List Definition) → IsTaken matched t n ms defs → (i k : ℕ) (def : Definition)
      → k ≡ n + i
      → slice_get defs i ≡ Some def → slice_get ms i ≡ Some None
      → Holds (filter (is_kept matched t) (enumerate_from n defs)) (count_by is_none (take i ms)) (k, def)
  rank_from n ms [] is i k def e at none = absurd (cc)
  rank_from n [] (d ∷ defs) is i k def e at none = absurd (cc)
  rank_from n (m ∷ ms) (d ∷ defs) is zero k def e at none =
      let item : d ≡ def = cc in
      let free : m ≡ None = cc in
      let place : n + 0 ≡ n = omega arith in
      let here : k ≡ n = omega (arith, e) in
      let new : is_new matched n ≡ true = subst (λ j. is_new matched j ≡ is_none m) place (is.same 0 m refl) ∙ ap is_none free in
      subst (λ j. Holds (filter (is_kept matched t) (enumerate_from n (d ∷ defs))) 0 (j, def)) (sym here)
      (subst (λ x. Holds (filter (is_kept matched t) (enumerate_from n (d ∷ defs))) 0 (n, x)) item
      (first (is_kept matched t (n, d)) (n, d) (filter (is_kept matched t) (enumerate_from (n + 1) defs))
      (is.kept 0 n d (omega arith) refl new)))
  rank_from n (m ∷ ms) (d ∷ defs) is (suc i) k def e at none =
      let rest : List (ℕ × Definition) = filter (is_kept matched t) (enumerate_from (n + 1) defs) in
      let before = rank_from (n + 1) ms defs (later n m ms d defs is) i k def (omega (arith, e)) at none in
      subst (λ c. Holds (cond (is_kept matched t (n, d)) ((n, d) ∷ rest) rest) c (k, def)) (sym (count_step is_none m (take i ms)))
      (by m refl before)
    where
      by : (o : Option ℕ) → m ≡ o → Holds (filter (is_kept matched t) (enumerate_from (n + 1) defs)) (count_by is_none (take i ms)) (k, def)
          → Holds (cond (is_kept matched t (n, d)) ((n, d) ∷ filter (is_kept matched t) (enumerate_from (n + 1) defs))
          (filter (is_kept matched t) (enumerate_from (n + 1) defs))) (cond (is_none o) 1 0 + count_by is_none (take i ms)) (k, def)
      by None free before =
          let place : n + 0 ≡ n = omega arith in
          let new : is_new matched n ≡ true = subst (λ j. is_new matched j ≡ is_none m) place (is.same 0 m refl) ∙ ap is_none free in
          taken (is_kept matched t (n, d)) (n, d) (k, def) (filter (is_kept matched t) (enumerate_from (n + 1) defs))
          (count_by is_none (take i ms))
          (is.kept 0 n d (omega arith) refl new) before
      by (Some p) free before =
          let place : n + 0 ≡ n = omega arith in
          let old : is_new matched n ≡ false = subst (λ j. is_new matched j ≡ is_none m) place (is.same 0 m refl) ∙ ap is_none free in
          passed (is_kept matched t (n, d)) (n, d) (k, def) (filter (is_kept matched t) (enumerate_from (n + 1) defs))
          (count_by is_none (take i ms))
          (old_is_past (is_new matched n) (int_le d.priority t) old) before

-- a definition without a row stands among those that are kept behind as many as have none before it
pub kept_rank : (matched : List (Option ℕ)) (t : ℤ) (defs : List Definition) → dropped_files matched t defs ≡ []
    → (k : ℕ) (def : Definition)
    → slice_get defs k ≡ Some def → slice_get matched k ≡ Some None → slice_get (kept_of matched t defs) (without matched k) ≡ Some (k, def)
kept_rank matched t defs none k def at free =
    rank_from matched t 0 matched defs (record {
      same = λ i m here. ap is_none (ap (λ j. slice_index_or matched j None) (zero-add i) ∙ get_or_from_slice_get matched i m None here);
      kept = λ i j d e here new. new_is_kept matched t defs none j d (let same : j ≡ i = omega (arith, e) in ap (slice_get defs) same
          ∙ here) new;
    }) k k def (sym (zero-add k)) at free

pub kept_place : (matched : List (Option ℕ)) (t : ℤ) (defs : List Definition) → dropped_files matched t defs ≡ []
    → (k : ℕ) (def : Definition)
    → slice_get defs k ≡ Some def → slice_get matched k ≡ Some None → rank_in (kept_files matched t defs) k ≡ Some (without matched k)
kept_place matched t defs none k def at free = rank_is matched t defs (without matched k) (k, def)
    (kept_rank matched t defs none k def at free)
