-- Entries as a map keeps them, by their bytes.
use Rattle.std.proofs.Common.{◌+◌, ◌<◌, length, take, get_or, append_assoc, subst, Result, Ok, Err, ◌≡◌, ℕ, List, [], ◌∷◌, ◌++◌, Bool, true}
use Rattle.std.proofs.Common.{false, cond, ◌&&◌, Option, Some, None, map, filter, refl, ap, sym, ◌∙◌}
use Rattle.std.specs.Prelude.{String, string_bytes, is_some, not, codes, nat_eq, IfSome, OnOk}
use Rattle.std.specs.List.{starts_with, ends_with}
use Rattle.std.proofs.lemmas.List.{take_more, map-append}
use Rattle.rp_io.specs.Files.{Tree, IsListing, names_in}
use Rattle.std.specs.declared.alloc.Global.{Global}
use Rattle.std.specs.declared.cmp.Ordering.{Ordering}
use Rattle.std.specs.declared.cmp.Ordering.TheVariants.{Less, Equal, Greater}
use Rattle.std.specs.Ordering.{is_eq, match_ordering}
use Rattle.std.specs.BTreeMap.{insert_entry, is_at}
use Rattle.std.specs.Map.{lookup}
use Rattle.std.specs.String.{string_cmp}
use Rattle.std.specs.FinMap.Entries.{put, by_order}
use Rattle.rp_files.specs.Pieces.{Found, in_order, is_candidate, found_in}
use Rattle.rp_files.specs.Found.{bytes_of, found_of, AddsNames, AddsFolder}
use Rattle.rp_files.proofs.OrderLemmas.{order, find_in, in_order-present, in_order-absent, in_order-permutation, find-in_order}

abbrev Entry : Type 0
Entry = String Global × String Global

placed : (o : Ordering) (k v : String Global) (e : Entry) (es rest : List Entry) (more : List Found) → found_of rest ≡ more
    → found_of (match_ordering o ((k, v) ∷ e ∷ es) ((e.0, v) ∷ es) (e ∷ rest))
    ≡ by_order o ((string_bytes k, string_bytes v) ∷ bytes_of e ∷ found_of es) ((string_bytes e.0, string_bytes v) ∷ found_of es)
    (bytes_of e ∷ more)
placed Less k v e es rest more h = refl
placed Equal k v e es rest more h = refl
placed Greater k v e es rest more h = ap (λ fs. bytes_of e ∷ fs) h

pub found_of-insert : (k v : String Global) (es : List Entry)
    → found_of (insert_entry string_cmp es k v) ≡ put order (string_bytes k) (string_bytes v) (found_of es)
found_of-insert k v [] = refl
found_of-insert k v (e ∷ es) =
    placed (string_cmp k e.0) k v e es (insert_entry string_cmp es k v) (put order (string_bytes k) (string_bytes v) (found_of es))
    (found_of-insert k v es)

looked : (b : Bool) (x : String Global) (r : Option (String Global)) (s : Option (List ℕ)) → is_some r ≡ is_some s
    → is_some (cond b (Some x) r) ≡ is_some (cond b (Some (string_bytes x)) s)
looked true x r s h = refl
looked false x r s h = h

pub lookup-found_of : (name : List ℕ) (es : List Entry)
    → is_some (lookup (is_at (λ (k : String Global). order name (string_bytes k))) es) ≡ is_some (find_in name (found_of es))
lookup-found_of name [] = refl
lookup-found_of name (e ∷ es) = looked (is_eq (order name (string_bytes e.0))) e.1 _ _ (lookup-found_of name es)

-- a name that is a candidate and wasn't found yet is added
pub added : (earlier : List Found) (es : List Entry) (folder name : List ℕ) (k v : String Global)
    → found_of es ≡ in_order earlier → is_candidate name ≡ true → is_some (find_in name (found_of es)) ≡ false
    → string_bytes k ≡ name → string_bytes v ≡ folder ++ 47 ∷ name
    → found_of (insert_entry string_cmp es k v) ≡ in_order (earlier ++ map (found_in folder) (filter is_candidate (name ∷ [])))
added earlier es folder name k v was candidate absent key value =
    found_of-insert k v es ∙ ap (λ n. put order n (string_bytes v) (found_of es)) key ∙ ap (λ p. put order name p (found_of es)) value
    ∙ ap (λ fs. put order name (folder ++ 47 ∷ name) fs) was
    ∙ sym (in_order-absent earlier name (folder ++ 47 ∷ name)
    (none_from (find_in name earlier) (ap is_some (sym (find-in_order name earlier) ∙ ap (λ fs. find_in name fs) (sym was)) ∙ absent)))
    ∙ ap (λ b. in_order (earlier ++ map (found_in folder) (cond b (name ∷ []) []))) (sym candidate) where
      none_from : (o : Option (List ℕ)) → is_some o ≡ false → o ≡ None
      none_from None h = refl
      none_from (Some x) h = cc

-- one that was found already isn't
pub kept : (earlier : List Found) (es : List Entry) (folder name : List ℕ)
    → found_of es ≡ in_order earlier → is_candidate name ≡ true → is_some (find_in name (found_of es)) ≡ true
    → found_of es ≡ in_order (earlier ++ map (found_in folder) (filter is_candidate (name ∷ [])))
kept earlier es folder name was candidate there =
    was ∙ present (find_in name earlier) refl (ap is_some (sym (find-in_order name earlier) ∙ ap (λ fs. find_in name fs) (sym was)) ∙ there)
    ∙ ap (λ b. in_order (earlier ++ map (found_in folder) (cond b (name ∷ []) []))) (sym candidate) where
      present : (o : Option (List ℕ)) → find_in name earlier ≡ o → is_some o ≡ true
          → in_order earlier ≡ in_order (earlier ++ (name, folder ++ 47 ∷ name) ∷ [])
      present None is h = cc
      present (Some x) is h = sym (in_order-present earlier name (folder ++ 47 ∷ name) x is)

append_nil : (xs : List Found) → xs ++ [] ≡ xs
append_nil [] = refl
append_nil (x ∷ xs) = ap (λ ys. x ∷ ys) (append_nil xs)

-- nor is one that is no candidate
pub passed_over : (earlier : List Found) (es : List Entry) (folder name : List ℕ)
    → found_of es ≡ in_order earlier → is_candidate name ≡ false
    → found_of es ≡ in_order (earlier ++ map (found_in folder) (filter is_candidate (name ∷ [])))
passed_over earlier es folder name was candidate =
    was ∙ ap in_order (sym (append_nil earlier))
    ∙ ap (λ b. in_order (earlier ++ map (found_in folder) (cond b (name ∷ []) []))) (sym candidate)

pub no_conf : (name : List ℕ) (r : Bool) → r ≡ ends_with nat_eq name (codes ".conf") → r ≡ false → r ≡ is_candidate name
no_conf name r e f = f ∙ sym (ap (λ b. b && not (starts_with nat_eq name (codes "."))) (sym e ∙ f))

pub both_known : {S E : Type 0} (o : Option Tree) (r : Result S E) (P R : Tree → Type 0) (Q : Type 0) → IfSome o P → OnOk r Q
    → ((tree : Tree) → P tree → Q → R tree)
    → IfSome o (λ tree. OnOk r (R tree))
both_known None r P R Q p q f = tt
both_known (Some tree) (Ok x) P R Q p q f = f tree p q
both_known (Some tree) (Err e) P R Q p q f = tt

-- a listing in any order adds the candidates of its folder
listed_at : (folder : List ℕ) (names : List (List ℕ)) (before now : List Entry) (tree : Tree) → IsListing tree folder (Some names)
    → AddsNames folder names before now → AddsFolder tree folder before now
listed_at folder names before now tree listing adds earlier was =
    adds earlier was ∙ in_order-permutation is_candidate earlier folder (names_in tree.files folder) names listing.1
    ∙ ap (λ b. in_order (earlier ++ map (found_in folder) (cond b (filter is_candidate (names_in tree.files folder)) []))) (sym listing.0)

pub listed : (folder : List ℕ) (names : List (List ℕ)) (before now : List Entry) (tree : Tree) (answer : Option (List (List ℕ)))
    → answer ≡ Some names
    → IsListing tree folder answer → AddsNames folder names before now → AddsFolder tree folder before now
listed folder names before now tree answer is listing adds =
    listed_at folder names before now tree (subst (λ (o : Option (List (List ℕ))). IsListing tree folder o) is listing) adds

empty_names : (folder : List ℕ) (earlier : List Found) → earlier ≡ earlier ++ map (found_in folder) (filter is_candidate [])
empty_names folder earlier = sym (append_nil earlier)

pub adds_none : (folder : List ℕ) (entries : List Entry) → AddsNames folder [] entries entries
adds_none folder entries earlier was = was ∙ ap in_order (empty_names folder earlier)

chosen : (b : Bool) (x : List ℕ) (all xs ys : List (List ℕ)) → all ≡ xs ++ ys → cond b (x ∷ all) all ≡ cond b (x ∷ xs) xs ++ ys
chosen true x all xs ys h = ap (λ zs. x ∷ zs) h
chosen false x all xs ys h = h

filter_push : (c : List ℕ → Bool) (xs ys : List (List ℕ)) → filter c (xs ++ ys) ≡ filter c xs ++ filter c ys
filter_push c [] ys = refl
filter_push c (x ∷ xs) ys = chosen (c x) x (filter c (xs ++ ys)) (filter c xs) (filter c ys) (filter_push c xs ys)

pub adds_more : (folder : List ℕ) (names : List (List ℕ)) (i : ℕ) (name : List ℕ) (before then now : List Entry) → i < length names
    → name ≡ get_or names i name
    → AddsNames folder (take i names) before then → AddsNames folder (name ∷ []) then now → AddsNames folder (take (i + 1) names) before now
adds_more folder names i name before then now lt is first second earlier was =
    second (earlier ++ map (found_in folder) (filter is_candidate (take i names))) (first earlier was)
    ∙ ap in_order (append_assoc earlier (map (found_in folder) (filter is_candidate (take i names)))
    (map (found_in folder) (filter is_candidate (name ∷ [])))
    ∙ ap (λ fs. earlier ++ fs) (sym (map-append (found_in folder) (filter is_candidate (take i names)) (filter is_candidate (name ∷ [])))
    ∙ ap (map (found_in folder))
    (sym (filter_push is_candidate (take i names) (name ∷ []))
    ∙ ap (filter is_candidate) (sym (take_more names i name lt ∙ ap (λ n. take i names ++ n ∷ []) (sym is))))))
