-- Entries in byte order of their names: what is found at a name decides them.
use Rattle.std.proofs.Common.{◌≡◌, ℕ, List, [], ◌∷◌, ◌++◌, Bool, true, false, cond, ◌&&◌, ◌||◌, T, Option, Some, None, map, filter, refl}
use Rattle.std.proofs.Common.{ap, sym, ◌∙◌}
use Rattle.std.specs.Ordering.{nat_cmp, eq_by_cmp, is_eq}
use Rattle.std.specs.declared.cmp.Ordering.{Ordering}
use Rattle.std.specs.declared.cmp.Ordering.TheVariants.{Less, Equal, Greater}
use Rattle.std.specs.Option.{option_or}
use Rattle.std.specs.List.{list_any}
use Rattle.std.specs.List.Sorted.{IsPermutation}
use Rattle.std.specs.Cmp.Lexicographic.{slice_cmp, nat_list_cmp_total}
use Rattle.std.specs.FinMap.{slice_cmp-IsAntisymmetric, nat_cmp-IsAntisymmetric}
use Rattle.std.specs.FinMap.Entries.{find, put, is_sorted, is_sorted-put, find-put, same_entries}
use Rattle.std.proofs.lemmas.List.Sorted.{list_any-IsPermutation}
use Rattle.rp_files.specs.Pieces.{Found, found_in, in_order}

abbrev pub order : List ℕ → List ℕ → Ordering
order = slice_cmp nat_cmp

abbrev pub find_in : List ℕ → List Found → Option (List ℕ)
find_in q es = find order q es

pub same_name : (x y : List ℕ) → order x y ≡ Equal → x ≡ y
same_name x y e = slice_cmp-IsAntisymmetric nat_cmp-IsAntisymmetric x y e

pub find-in_order : (q : List ℕ) (es : List Found) → find_in q (in_order es) ≡ find_in q es
find-in_order q [] = refl
find-in_order q (e ∷ es) = find-put order nat_list_cmp_total q e.0 e.1 (in_order es)
    ∙ ap (λ r. cond (eq_by_cmp order q e.0) (Some e.1) r) (find-in_order q es)

pub is_sorted-in_order : (es : List Found) → T (is_sorted order (in_order es))
is_sorted-in_order [] = tt
is_sorted-in_order (e ∷ es) = is_sorted-put order nat_list_cmp_total e.0 e.1 (in_order es) (is_sorted-in_order es)

-- two lists that find the same at each name are the same in order
pub same_in_order : (xs ys : List Found) → ((q : List ℕ) → find_in q xs ≡ find_in q ys) → in_order xs ≡ in_order ys
same_in_order xs ys same =
    same_entries order nat_list_cmp_total same_name (in_order xs) (in_order ys) (is_sorted-in_order xs) (is_sorted-in_order ys)
    (λ q. find-in_order q xs ∙ same q ∙ sym (find-in_order q ys))

joined : (b : Bool) (v : List ℕ) (r s : Option (List ℕ)) → option_or (cond b (Some v) r) s ≡ cond b (Some v) (option_or r s)
joined true v r s = refl
joined false v r s = refl

pub find-append : (q : List ℕ) (xs ys : List Found) → find_in q (xs ++ ys) ≡ option_or (find_in q xs) (find_in q ys)
find-append q [] ys = refl
find-append q (x ∷ xs) ys = ap (λ r. cond (eq_by_cmp order q x.0) (Some x.1) r) (find-append q xs ys)
    ∙ sym (joined (eq_by_cmp order q x.0) x.1 (find_in q xs) (find_in q ys))

-- what is added finds the same, so the whole does
pub same_append : (earlier xs ys : List Found) → ((q : List ℕ) → find_in q xs ≡ find_in q ys)
    → in_order (earlier ++ xs) ≡ in_order (earlier ++ ys)
same_append earlier xs ys same =
    same_in_order (earlier ++ xs) (earlier ++ ys)
    (λ q. find-append q earlier xs ∙ ap (λ r. option_or (find_in q earlier) r) (same q) ∙ sym (find-append q earlier ys))

tied_true : (r : Ordering) → is_eq r ≡ true → r ≡ Equal
tied_true Less h = cc
tied_true Equal h = refl
tied_true Greater h = cc

-- a name that was found already stays where it is
pub in_order-present : (es : List Found) (name path v : List ℕ) → find_in name es ≡ Some v
    → in_order (es ++ (name, path) ∷ []) ≡ in_order es
in_order-present es name path v there =
    same_in_order (es ++ (name, path) ∷ []) es (λ q. find-append q es ((name, path) ∷ []) ∙ at q (eq_by_cmp order q name) refl) where
      none : (o : Option (List ℕ)) → option_or o None ≡ o
      none None = refl
      none (Some x) = refl

      at : (q : List ℕ) (b : Bool) → eq_by_cmp order q name ≡ b
          → option_or (find_in q es) (cond (eq_by_cmp order q name) (Some path) None) ≡ find_in q es
      at q true h =
          let e : find_in q es ≡ Some v = ap (λ n. find_in n es) (same_name q name (tied_true _ h)) ∙ there in
          rw e refl
      at q false h = rw h (none (find_in q es))

-- a new name goes into its place
pub in_order-absent : (es : List Found) (name path : List ℕ) → find_in name es ≡ None
    → in_order (es ++ (name, path) ∷ []) ≡ put order name path (in_order es)
in_order-absent es name path absent =
    same_entries order nat_list_cmp_total same_name (in_order (es ++ (name, path) ∷ [])) (put order name path (in_order es))
    (is_sorted-in_order (es ++ (name, path) ∷ []))
    (is_sorted-put order nat_list_cmp_total name path (in_order es) (is_sorted-in_order es))
    (λ q. find-in_order q (es ++ (name, path) ∷ []) ∙ find-append q es ((name, path) ∷ []) ∙ at q (eq_by_cmp order q name) refl
    ∙ sym (find-put order nat_list_cmp_total q name path (in_order es)
    ∙ ap (λ r. cond (eq_by_cmp order q name) (Some path) r) (find-in_order q es))) where
      none : (o : Option (List ℕ)) → option_or o None ≡ o
      none None = refl
      none (Some x) = refl

      at : (q : List ℕ) (b : Bool) → eq_by_cmp order q name ≡ b
          → option_or (find_in q es) (cond (eq_by_cmp order q name) (Some path) None) ≡ cond (eq_by_cmp order q name) (Some path)
          (find_in q es)
      at q true h =
          let e : find_in q es ≡ None = ap (λ n. find_in n es) (same_name q name (tied_true _ h)) ∙ absent in
          rw e (rw h refl)
      at q false h = rw h (none (find_in q es))

-- what is found among a folder's names
found_here : (folder q name : List ℕ) (b : Bool) (r : Option (List ℕ)) (rest : Bool) → eq_by_cmp order q name ≡ b
    → r ≡ cond rest (Some (folder ++ 47 ∷ q)) None
    → cond b (Some (folder ++ 47 ∷ name)) r ≡ cond (b || rest) (Some (folder ++ 47 ∷ q)) None
found_here folder q name true r rest h is = ap (λ n. Some (folder ++ 47 ∷ n)) (sym (same_name q name (tied_true _ h)))
found_here folder q name false r rest h is = is

pub find-found_in : (folder q : List ℕ) (names : List (List ℕ))
    → find_in q (map (found_in folder) names) ≡ cond (list_any (λ n. eq_by_cmp order q n) names) (Some (folder ++ 47 ∷ q)) None
find-found_in folder q [] = refl
find-found_in folder q (n ∷ ns) =
    found_here folder q n (eq_by_cmp order q n) _ (list_any (λ n. eq_by_cmp order q n) ns) refl (find-found_in folder q ns)

filtered : (c t : Bool) (n : List ℕ) (ns : List (List ℕ)) (p : List ℕ → Bool) → p n ≡ t → (rest : Bool) → list_any p ns ≡ rest
    → list_any p (cond c (n ∷ ns) ns) ≡ ((c && t) || rest)
filtered true t n ns p at rest h = ap (λ b. b || list_any p ns) at ∙ ap (λ b. t || b) h
filtered false t n ns p at rest h = h

pub list_any-filter : (p c : List ℕ → Bool) (ns : List (List ℕ)) → list_any p (filter c ns) ≡ list_any (λ n. c n && p n) ns
list_any-filter p c [] = refl
list_any-filter p c (n ∷ ns) = filtered (c n) (p n) n (filter c ns) p refl (list_any (λ n. c n && p n) ns) (list_any-filter p c ns)

-- a listing in any order finds the same
pub find-permutation : (c : List ℕ → Bool) (folder q : List ℕ) (names others : List (List ℕ)) → IsPermutation names others
    → find_in q (map (found_in folder) (filter c others)) ≡ find_in q (map (found_in folder) (filter c names))
find-permutation c folder q names others perm =
    find-found_in folder q (filter c others)
    ∙ ap (λ b. cond b (Some (folder ++ 47 ∷ q)) None)
    (list_any-filter (λ n. eq_by_cmp order q n) c others ∙ sym (list_any-IsPermutation (λ n. c n && eq_by_cmp order q n) names others perm)
    ∙ sym (list_any-filter (λ n. eq_by_cmp order q n) c names))
    ∙ sym (find-found_in folder q (filter c names))

pub in_order-permutation : (c : List ℕ → Bool) (earlier : List Found) (folder : List ℕ) (names others : List (List ℕ))
    → IsPermutation names others
    → in_order (earlier ++ map (found_in folder) (filter c others)) ≡ in_order (earlier ++ map (found_in folder) (filter c names))
in_order-permutation c earlier folder names others perm =
    same_append earlier _ _ (λ q. find-permutation c folder q names others perm)
