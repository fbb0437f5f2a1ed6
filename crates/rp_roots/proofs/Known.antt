-- What sources tell of what is wanted.
use Rattle.std.proofs.Common.{◌≡◌, ◌≢◌, ◌∙◌, ℕ, zero, suc, ◌+◌, Bool, true, false, cond, List, [], ◌∷◌, map, Option, Some, None, IfSome, All, arith, refl, sym, ap, slice_get}
use Rattle.std.specs.Prelude.{◌==◌, ◌&&◌, find, is_some, option_map}
use Rattle.std.specs.List.{cons_option, enumerate_from, filter_map}
use Rattle.std.proofs.lemmas.Bool.{eq-eqb, ne_eqb}
use Rattle.std.proofs.lemmas.List.Elements.{All-head, All-tail}
use Rattle.std.proofs.lemmas.Option.{slice_get_within}
use Rattle.rp_base.specs.declared.guid.Guid.{Guid}
use Rattle.rp_base.specs.declared.seen.Seen.{Seen}
use Rattle.rp_base.specs.declared.table.Table.{Table}
use Rattle.rp_defs.specs.declared.definition.Definition.{Definition}
use Rattle.rp_facts.specs.Sourced.{IsSourced, fact_on, facts_on}
use Rattle.rp_facts.proofs.Wanted.{wanted_sourced}
use Rattle.rp_io.specs.declared.stored.Stored.{Stored}
use Rattle.rp_sizes.specs.Facts.{fact_from, facts}
use Rattle.rp_sizes.specs.Needs.{AreFactsOn, fact_of, is_new, is_new_data, matched_of, need_of, wanted_of}
use Rattle.rp_sizes.specs.declared.need.Fact.{Fact}
use Rattle.rp_sizes.specs.declared.need.Need.{Need}

module _ (seed : Guid) (files : List Stored) (defs : List Definition) where
  abbrev Told : List Need → List Fact
  Told needs = facts_on seed files defs needs

  -- a root hash is known of the need of a pair alone
  has_root : (pair : Bool) (root : List ℕ) → is_some (cond pair (Some root) None) ≡ pair
  has_root true root = refl
  has_root false root = refl

  told_cons : (need : Need) (needs : List Need) (o : Option Definition) → slice_get defs need.file ≡ o → IsSourced defs need
      → AreFactsOn needs (facts_on seed files defs needs)
      → AreFactsOn (need ∷ needs) (cons_option (option_map (fact_from seed files need) o) (facts_on seed files defs needs))
  told_cons need needs None is sourced are = absurd (let there = sourced.1 in cc)
  told_cons need needs (Some def) is sourced are = record {
    files = ap (λ (l : List ℕ). need.file ∷ l) are.files;
    roots = ap (λ (b : Bool). b ∷ map (λ (f : Fact). is_some f.root) (facts_on seed files defs needs)) (has_root need.pair _)
        ∙ ap (λ (l : List Bool). need.pair ∷ l) are.roots;
  }

  -- what sources tell of needs that have sources are facts on them
  told_each : (needs : List Need) → All (IsSourced defs) needs → AreFactsOn needs (facts_on seed files defs needs)
  told_each [] each = record { files = refl; roots = refl }
  told_each (need ∷ needs) each =
      told_cons need needs (slice_get defs need.file) refl (All-head (IsSourced defs) need needs each)
      (told_each needs (All-tail (IsSourced defs) need needs each))

  -- a fact on another definition is passed over
  passed : (file k : ℕ) (o : Option Fact) (rest : List Fact) → IfSome o (λ f. f.file ≡ file) → file ≢ k
      → find (λ (f : Fact). f.file == k) (cons_option o rest) ≡ find (λ (f : Fact). f.file == k) rest
  passed file k None rest is other = refl
  passed file k (Some f) rest is other = rw (ne_eqb f.file k (λ e. other (sym is ∙ e))) refl

  on_file : (need : Need) (o : Option Definition) → IfSome (option_map (fact_from seed files need) o) (λ f. f.file ≡ need.file)
  on_file need None = tt
  on_file need (Some def) = refl

  abbrev found_in : ℕ → List Need → Option Fact
  found_in k needs = find (λ (f : Fact). f.file == k) (facts_on seed files defs needs)

  past_need : (n k : ℕ) (b : Bool) (need : Need) (rest : List Need) → need.file ≡ n → n ≢ k
      → found_in k (cons_option (cond b (Some need) None) rest) ≡ found_in k rest
  past_need n k false need rest is other = refl
  past_need n k true need rest is other =
      passed need.file k (fact_on seed files defs need) (facts_on seed files defs rest) (on_file need (slice_get defs need.file))
      (λ e. other (sym is ∙ e))

  here : (need : Need) (def : Definition) (rest : List Fact) (o : Option Definition) → o ≡ Some def
      → find (λ (f : Fact). f.file == need.file) (cons_option (option_map (fact_from seed files need) o) rest) ≡ Some (fact_from seed files need def)
  here need def rest None is = absurd (cc)
  here need def rest (Some other) is =
      let same : other ≡ def = cc in
      rw (eq-eqb need.file need.file refl) (ap (λ (d : Definition). Some (fact_from seed files need d)) same)

  at_need : (b : Bool) (need : Need) (def : Definition) (rest : List Need) → b ≡ true → slice_get defs need.file ≡ Some def
      → found_in need.file (cons_option (cond b (Some need) None) rest) ≡ Some (fact_from seed files need def)
  at_need true need def rest is at = here need def (facts_on seed files defs rest) (slice_get defs need.file) at
  at_need false need def rest is at = absurd (cc)

  module _ (matched : List (Option ℕ)) where
    abbrev need_on : ℕ → Definition → Need
    need_on k def = record { file = k; pair = is_new_data matched def.verity }

    found_from : (n i k : ℕ) (xs : List Definition) (def : Definition) → k ≡ n + i → slice_get xs i ≡ Some def → slice_get defs k ≡ Some def
        → (is_new matched k && is_some def.source) ≡ true
        → found_in k (filter_map (need_of matched) (enumerate_from n xs)) ≡ Some (fact_from seed files (need_on k def) def)
    found_from n i k [] def place at there wanted = absurd (let below = slice_get_within [] i def at in omega (arith, below))
    found_from n zero k (x ∷ xs) def place at there wanted =
        let same : x ≡ def = cc in
        let first : n ≡ k = omega (arith, place) in
        ap (λ (d : Definition). found_in k (cons_option (need_of matched (n, d)) (filter_map (need_of matched) (enumerate_from (n + 1) xs)))) same
        ∙ ap (λ (m : ℕ). found_in k (cons_option (need_of matched (m, def)) (filter_map (need_of matched) (enumerate_from (n + 1) xs)))) first
        ∙ at_need (is_new matched k && is_some def.source) (need_on k def) def (filter_map (need_of matched) (enumerate_from (n + 1) xs)) wanted there
    found_from n (suc i) k (x ∷ xs) def place at there wanted =
        past_need n k (is_new matched n && is_some x.source) (need_on n x) (filter_map (need_of matched) (enumerate_from (n + 1) xs)) refl
        (λ e. omega (arith, e, place))
        ∙ found_from (n + 1) i k xs def (omega (arith, place)) at there wanted

-- what sources tell are facts on what is wanted
pub facts_are_on : (seen : Seen) (defs : List Definition) (files : List Stored) (seed : Guid)
    → AreFactsOn (wanted_of seen.shown defs) (facts seed files seen.shown defs)
unfolding facts
facts_are_on seen defs files seed = told_each seed files defs (wanted_of seen.shown defs) (wanted_sourced seen.shown defs)

-- what they tell of a definition with a source that has no row
pub fact_told : (seed : Guid) (files : List Stored) (table : Table) (defs : List Definition) (k : ℕ) (def : Definition)
    → slice_get defs k ≡ Some def → is_new (matched_of table defs) k ≡ true → is_some def.source ≡ true
    → fact_of (facts seed files table defs) k
    ≡ Some (fact_from seed files (record { file = k; pair = is_new_data (matched_of table defs) def.verity }) def)
unfolding facts
fact_told seed files table defs k def at new has =
    found_from seed files defs (matched_of table defs) 0 k k defs def (omega arith) at at (rw new has)
