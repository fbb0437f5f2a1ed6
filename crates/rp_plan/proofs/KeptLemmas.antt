-- What holds of the definitions that are kept, and of those that are dropped.
use Rattle.std.proofs.Common.{◌≡◌, ◌∙◌, ℕ, ℤ, zero, suc, ◌+◌, ◌<◌, Bool, true, false, cond, List, [], ◌∷◌, length, get_or, Option, Some, None, All, arith, refl, ap, sym, subst, zero-add, slice_get}
use Rattle.std.specs.Prelude.{◌==◌, ◌&&◌, int_le, is_some}
use Rattle.std.specs.Option.{option_map_or}
use Rattle.std.proofs.lemmas.Bool.{eqb-true}
use Rattle.std.proofs.lemmas.List.Quantifiers.{position-Some}
use Rattle.std.specs.List.{AllZip, cons_option, enumerate_from, filter, filter_map}
use Rattle.std.proofs.lemmas.List.Elements.{All-cons}
use Rattle.std.proofs.lemmas.List.FromFn.{get_or-enumerate_from, length-enumerate_from}
use Rattle.std.proofs.lemmas.Option.{slice_get-get_or, slice_get_within}
use Rattle.rp_base.specs.declared.want.Want.{Want}
use Rattle.rp_areas.specs.Areas.{file_of, want_at}
use Rattle.rp_place.specs.declared.fit.New.{New}
use Rattle.rp_place.specs.Placing.{kept}
use Rattle.rp_defs.specs.declared.definition.Definition.{Definition}
use Rattle.rp_sizes.specs.Needs.{is_new}
use Rattle.rp_sizes.specs.News.{new_of, news_of}
use Rattle.rp_plan.specs.Kept.{is_kept, kept_of}

pub and_both : (a b : Bool) → (a && b) ≡ true → (a ≡ true) × (b ≡ true)
and_both true b is = (refl, is)
and_both false b is = absurd (cc)

-- each entry of a list with places is the item at its place
entry_at : {X : Type 0} (xs : List X) → All (λ (e : ℕ × X). slice_get xs e.0 ≡ Some e.1) (enumerate_from 0 xs)
entry_at xs k d below =
    let l : k < length xs = omega (arith, below, length-enumerate_from 0 xs) in
    let e : get_or (enumerate_from 0 xs) k d ≡ (k, get_or xs k d.1) = get_or-enumerate_from 0 xs k d l
    ∙ ap (λ n. (n, get_or xs k d.1)) (zero-add k) in
    rw e (slice_get-get_or xs k d.1 l)

tested_cons : {X : Type 0} (p : X → Bool) (P : X → Type 0) (b : Bool) (x : X) (ys : List X) → p x ≡ b → P x
    → All (λ y. P y × (p y ≡ true)) ys → All (λ y. P y × (p y ≡ true)) (cond b (x ∷ ys) ys)
tested_cons p P true x ys is one all = All-cons (λ y. P y × (p y ≡ true)) x ys (one, is) all
tested_cons p P false x ys is one all = all

-- what holds of each holds of each that passes
All-tested : {X : Type 0} (p : X → Bool) (P : X → Type 0) (xs : List X) → All P xs → All (λ x. P x × (p x ≡ true)) (filter p xs)
All-tested p P [] all = λ k d below. absurd (omega (arith, below))
All-tested p P (x ∷ xs) all = tested_cons p P (p x) x (filter p xs) refl (all 0 x (omega arith))
    (All-tested p P xs (λ k d below. all (suc k) d (omega (arith, below))))

-- each kept one is a definition of the list, and is kept
pub kept_entries : (matched : List (Option ℕ)) (t : ℤ) (defs : List Definition)
    → All (λ (e : ℕ × Definition). (slice_get defs e.0 ≡ Some e.1) × (is_kept matched t e ≡ true)) (kept_of matched t defs)
kept_entries matched t defs = All-tested (is_kept matched t) (λ (e : ℕ × Definition). slice_get defs e.0 ≡ Some e.1) (enumerate_from 0 defs) (entry_at defs)

head_index : {Y : Type 0} (o : Option Y) (ys : List Y) (y : Y) → o ≡ Some y → (i : ℕ) × (slice_get (cons_option o ys) i ≡ Some y)
head_index None ys y is = absurd (cc)
head_index (Some z) ys y is = (0, is)

tail_index : {Y : Type 0} (o : Option Y) (ys : List Y) (i : ℕ) (y : Y) → slice_get ys i ≡ Some y
    → (i : ℕ) × (slice_get (cons_option o ys) i ≡ Some y)
tail_index None ys i y at = (i, at)
tail_index (Some z) ys i y at = (suc i, at)

-- an answer for an item with its place stands among the answers
answer_index : {X Y : Type 0} (f : ℕ × X → Option Y) (n : ℕ) (xs : List X) (k m : ℕ) (x : X) (y : Y) → m ≡ n + k → slice_get xs k ≡ Some x
    → f (m, x) ≡ Some y → (i : ℕ) × (slice_get (filter_map f (enumerate_from n xs)) i ≡ Some y)
answer_index f n [] k m x y e at is = let below : k < 0 = slice_get_within [] k x at in absurd (omega (arith, below))
answer_index f n (z ∷ xs) zero m x y e at is =
    let same : z ≡ x = cc in
    let place : m ≡ n = omega (arith, e) in
    head_index (f (n, z)) (filter_map f (enumerate_from (n + 1) xs)) y (ap (λ w. f (n, w)) same ∙ ap (λ p. f (p, x)) (sym place) ∙ is)
answer_index f n (z ∷ xs) (suc k) m x y e at is =
    let found = answer_index f (n + 1) xs k m x y (omega (arith, e)) at is in
    tail_index (f (n, z)) (filter_map f (enumerate_from (n + 1) xs)) found.0 y found.1

-- a new definition stands among the new ones
pub new_index : (matched : List (Option ℕ)) (wants : List Want) (defs : List Definition) (k : ℕ) (def : Definition)
    → slice_get defs k ≡ Some def → is_new matched k ≡ true
    → (i : ℕ) × (slice_get (news_of matched wants defs) i
    ≡ Some (record { file = k; need = (want_at wants k).min + (want_at wants k).pad_min; priority = def.priority }))
new_index matched wants defs k def at new =
    answer_index (new_of matched wants) 0 defs k k def _ (sym (zero-add k)) at
    (ap (λ b. cond b (Some (record { file = k; need = (want_at wants k).min + (want_at wants k).pad_min; priority = def.priority })) None) new)

-- the place of a new one, by its priority
pub place_of_new : (t : ℤ) (news : List New) (places : List (Option ℕ)) → AllZip (λ (n : New) p. is_some p ≡ int_le n.priority t) news places
    → (i : ℕ) (n : New) → slice_get news i ≡ Some n
    → (p : Option ℕ) × (slice_get places i ≡ Some p) × (is_some p ≡ int_le n.priority t)
place_of_new t [] [] all i n at = let below : i < 0 = slice_get_within [] i n at in absurd (omega (arith, below))
place_of_new t [] (p ∷ places) all i n at = absurd all
place_of_new t (m ∷ news) [] all i n at = absurd all
place_of_new t (m ∷ news) (p ∷ places) all zero n at =
    let same : m ≡ n = cc in (p, refl, subst (λ (x : New). is_some p ≡ int_le x.priority t) same all.0)
place_of_new t (m ∷ news) (p ∷ places) all (suc i) n at = place_of_new t news places all.1 i n at

count_step : (b le : Bool) (e : ℕ × Definition) (n : New) (rest : List (ℕ × Definition)) (news : List New) (t : ℤ) → int_le n.priority t ≡ le
    → length (filter (λ (n : New). int_le n.priority t) news) ≡ length rest
    → length (filter (λ (n : New). int_le n.priority t) (cons_option (cond b (Some n) None) news)) ≡ length (cond (b && le) (e ∷ rest) rest)
count_step false le e n rest news t same is = is
count_step true true e n rest news t same is =
    ap (λ b. length (cond b (n ∷ filter (λ (n : New). int_le n.priority t) news) (filter (λ (n : New). int_le n.priority t) news))) same
    ∙ omega (arith, is)
count_step true false e n rest news t same is =
    ap (λ b. length (cond b (n ∷ filter (λ (n : New). int_le n.priority t) news) (filter (λ (n : New). int_le n.priority t) news))) same ∙ is

count_from : (matched : List (Option ℕ)) (wants : List Want) (t : ℤ) (n : ℕ) (defs : List Definition)
    → length (filter (λ (n : New). int_le n.priority t) (filter_map (new_of matched wants) (enumerate_from n defs)))
    ≡ length (filter (is_kept matched t) (enumerate_from n defs))
count_from matched wants t n [] = refl
count_from matched wants t n (def ∷ defs) =
    count_step (is_new matched n) (int_le def.priority t) (n, def) _ (filter (is_kept matched t) (enumerate_from (n + 1) defs))
    (filter_map (new_of matched wants) (enumerate_from (n + 1) defs)) t refl (count_from matched wants t (n + 1) defs)

-- as many are kept of the new ones as of the definitions
pub kept_count : (matched : List (Option ℕ)) (wants : List Want) (t : ℤ) (defs : List Definition)
    → length (kept (news_of matched wants defs) t) ≡ length (kept_of matched t defs)
kept_count matched wants t defs = count_from matched wants t 0 defs

read_match : (m : Option ℕ) (i : ℕ) → option_map_or (λ p. p == i) m false ≡ true → m ≡ Some i
read_match None i test = absurd (cc)
read_match (Some p) i test = ap (λ q. Some q) (eqb-true p i test)

-- the definition that has a row has this one
pub owner_has : (matched : List (Option ℕ)) (place file : ℕ) → file_of matched place ≡ Some file → slice_get matched file ≡ Some (Some place)
owner_has matched place file is =
    let found = position-Some (λ m. option_map_or (λ p. p == place) m false) matched file None is in
    slice_get-get_or matched file None found.0 ∙ ap (λ m. Some m) (read_match (get_or matched file None) place found.1)
