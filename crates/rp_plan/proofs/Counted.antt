-- How many rows the goal has, and that each naming is of one of them.
use Rattle.std.proofs.Common.{◌≡◌, ◌∙◌, ℕ, ℤ, ◌+◌, ◌<◌, ◌≤◌, Bool, true, false, cond, List, [], ◌∷◌, length, get_or, map, Option, Some, None, IfSome, All, arith, inl, inr, refl, ap, sym, subst, length-append}
use Rattle.std.specs.Prelude.{◌==◌}
use Rattle.std.specs.List.{cons_option, enumerate_from, filter, filter_map}
use Rattle.std.specs.Option.{option_map, option_or}
use Rattle.std.proofs.lemmas.Bool.{cases_lt}
use Rattle.std.proofs.lemmas.List.{get_or_past, length-map}
use Rattle.std.proofs.lemmas.List.FromFn.{length-enumerate_from}
use Rattle.std.proofs.lemmas.List.Quantifiers.{position-Some}
use Rattle.rp_base.specs.declared.table.Row.{Row}
use Rattle.rp_ident.specs.declared.naming.Naming.{Naming}
use Rattle.rp_defs.specs.declared.definition.Definition.{Definition}
use Rattle.rp_layout.specs.declared.spot.Spot.{Spot}
use Rattle.rp_sizes.specs.declared.need.Fact.{Fact}
use Rattle.rp_sizes.proofs.NewsLemmas.{All-answers}
use Rattle.rp_plan.specs.Kept.{first_free, is_kept, kept_files, kept_of, place_in, rank_in}
use Rattle.rp_plan.specs.Names.{naming_of, namings_of}
use Rattle.rp_plan.specs.Rows.{row_again, row_for, rows_laid}

-- answers under a test are those for what passes
tested : {X Y : Type 0} (p : X → Bool) (f : X → Y) (b : Bool) (x : X) (ys : List Y) (xs : List X) → ys ≡ map f xs
    → cons_option (cond b (Some (f x)) None) ys ≡ map f (cond b (x ∷ xs) xs)
tested p f true x ys xs is = ap (λ zs. f x ∷ zs) is
tested p f false x ys xs is = is

filter_map-filter : {X Y : Type 0} (p : X → Bool) (f : X → Y) (xs : List X)
    → filter_map (λ x. cond (p x) (Some (f x)) None) xs ≡ map f (filter p xs)
filter_map-filter p f [] = refl
filter_map-filter p f (x ∷ xs) = tested p f (p x) x (filter_map (λ x. cond (p x) (Some (f x)) None) xs) (filter p xs) (filter_map-filter p f xs)

-- the files that are kept
pub files_are : (matched : List (Option ℕ)) (t : ℤ) (defs : List Definition)
    → kept_files matched t defs ≡ map (λ (e : ℕ × Definition). e.0) (kept_of matched t defs)
files_are matched t defs = filter_map-filter (is_kept matched t) (λ (e : ℕ × Definition). e.0) (enumerate_from 0 defs)

kept_short : {X : Type 0} (b : Bool) (x : X) (xs : List X) (n : ℕ) → length xs ≤ n → length (cond b (x ∷ xs) xs) ≤ n + 1
kept_short true x xs n is = omega (arith, is)
kept_short false x xs n is = omega (arith, is)

filter_short : {X : Type 0} (p : X → Bool) (xs : List X) → length (filter p xs) ≤ length xs
filter_short p [] = omega arith
filter_short p (x ∷ xs) = omega (arith, kept_short (p x) x (filter p xs) (length xs) (filter_short p xs))

pub kept_few : (matched : List (Option ℕ)) (t : ℤ) (defs : List Definition) → length (kept_of matched t defs) ≤ length defs
kept_few matched t defs = omega (arith, filter_short (is_kept matched t) (enumerate_from 0 defs), length-enumerate_from 0 defs)

pub files_length : (matched : List (Option ℕ)) (t : ℤ) (defs : List Definition) → length (kept_files matched t defs) ≡ length (kept_of matched t defs)
files_length matched t defs = ap length (files_are matched t defs) ∙ length-map (kept_of matched t defs) (λ (e : ℕ × Definition). e.0)

pub laid_length : (rows : List Row) (matched : List (Option ℕ)) (t : ℤ) (defs : List Definition) (spots : List (Option Spot))
    → length (rows_laid rows matched t defs spots) ≡ length rows + length (kept_of matched t defs)
laid_length rows matched t defs spots =
    let old = map (row_again matched spots) (enumerate_from 0 rows) in
    let new = map (row_for spots) (enumerate_from (first_free rows) (kept_of matched t defs)) in
    let a : length old ≡ length rows = length-map (enumerate_from 0 rows) (row_again matched spots) ∙ length-enumerate_from 0 rows in
    let b : length new ≡ length (kept_of matched t defs) = length-map (enumerate_from (first_free rows) (kept_of matched t defs)) (row_for spots)
    ∙ length-enumerate_from (first_free rows) (kept_of matched t defs) in
    omega (arith, length-append old new, a, b)

rank_below : (kept : List ℕ) (file : ℕ) (o : Option ℕ) → rank_in kept file ≡ o → IfSome o (λ rank. rank < length kept)
rank_below kept file None is = tt
rank_below kept file (Some rank) is = (position-Some (λ k. k == file) kept rank 0 is).0

own_below : (matched : List (Option ℕ)) (rows : ℕ) → All (λ m. IfSome m (λ p. p < rows)) matched → (file : ℕ)
    → IfSome (get_or matched file None) (λ p. p < rows)
own_below matched rows within file =
    elim (cases_lt file (length matched)) [
      | inl below ↦ within file None below
      | inr past ↦ rw (get_or_past matched file None past) tt
    ]

either_below : (own : Option ℕ) (rank : Option ℕ) (rows kept : ℕ) → IfSome own (λ p. p < rows) → IfSome rank (λ r. r < kept)
    → IfSome (option_or own (option_map (λ r. rows + r) rank)) (λ place. place < rows + kept)
either_below (Some p) rank rows kept is more = omega (arith, is)
either_below None None rows kept is more = tt
either_below None (Some r) rows kept is more = omega (arith, more)

-- a definition's row is one of the goal's
pub place_below : (matched : List (Option ℕ)) (rows : ℕ) (kept : List ℕ) → All (λ m. IfSome m (λ p. p < rows)) matched → (file : ℕ)
    → IfSome (place_in matched rows kept file) (λ place. place < rows + length kept)
place_below matched rows kept within file =
    either_below (get_or matched file None) (rank_in kept file) rows (length kept) (own_below matched rows within file)
    (rank_below kept file (rank_in kept file) refl)

named_below : (f : ℕ → Naming) (n : ℕ) → ((place : ℕ) → (f place).row ≡ place) → (o : Option ℕ) → IfSome o (λ place. place < n)
    → IfSome (option_map f o) (λ naming. naming.row < n)
named_below f n same None is = tt
named_below f n same (Some place) is = omega (arith, same place, is)

pub namings_within : (facts : List Fact) (matched : List (Option ℕ)) (rows : ℕ) (kept : List ℕ) (defs : List Definition)
    → All (λ m. IfSome m (λ p. p < rows)) matched
    → All (λ (n : Naming). n.row < rows + length kept) (namings_of facts matched rows kept defs)
namings_within facts matched rows kept defs within =
    All-answers (λ (n : Naming). n.row < rows + length kept) (naming_of facts matched rows kept) 0 defs (λ k m def e at.
    named_below _ (rows + length kept) (λ place. refl) (place_in matched rows kept m) (place_below matched rows kept within m))

-- the same of a list that is the namings
pub names_within : (namings : List Naming) (facts : List Fact) (matched : List (Option ℕ)) (rows : ℕ) (kept : List ℕ) (defs : List Definition) (n : ℕ)
    → namings ≡ namings_of facts matched rows kept defs → All (λ m. IfSome m (λ p. p < rows)) matched → rows + length kept ≤ n
    → All (λ (each : Naming). each.row < n) namings
names_within namings facts matched rows kept defs n are within fits =
    subst (All (λ (each : Naming). each.row < n)) (sym are)
    (λ k d below. omega (arith, fits, namings_within facts matched rows kept defs within k d below))
