-- Each file that wins is there.
use Rattle.std.proofs.Common.{◌≡◌, ℕ, zero, suc, ◌+◌, ◌<◌, List, [], ◌∷◌, ◌++◌, Bool, true, false, cond, ◌&&◌, Option, Some, None, map}
use Rattle.std.proofs.Common.{filter, length, drop, get_or, refl, ap, sym, ◌∙◌, subst, arith}
use Rattle.std.specs.Prelude.{IsSome, flat_map, fold, filter_map, find, option_map}
use Rattle.std.specs.List.{cons_option, list_any}
use Rattle.std.specs.Str.{bytes_eq}
use Rattle.std.specs.declared.cmp.Ordering.{Ordering}
use Rattle.std.specs.declared.cmp.Ordering.TheVariants.{Less, Equal, Greater}
use Rattle.std.specs.FinMap.Entries.{put, by_order}
use Rattle.std.proofs.lemmas.List.{map-append, length-map}
use Rattle.std.proofs.lemmas.Option.{cond_some}
use Rattle.std.proofs.lemmas.List.Elements.{All-nil, All-cons}
use Rattle.std.proofs.lemmas.Slice.Eq.{bytes_eq-Decides}
use Rattle.rp_io.specs.declared.stored.Stored.{Stored}
use Rattle.rp_io.specs.Files.{Tree, content, name_of, names_in, with_name, has_folder}
use Rattle.rp_files.specs.declared.found.Group.{Group as Kept}
use Rattle.rp_files.specs.Pieces.{Found, Group, in_order, found_in, candidates, is_candidate, winners, groups, group_at, drop_in_folders}
use Rattle.rp_files.specs.Found.{AreThere, group_of}
use Rattle.rp_files.proofs.OrderLemmas.{order}
use Rattle.rp_files.proofs.ReadLemmas.{head_there, tail_there}

abbrev IsThere : Tree → Found → Type 0
IsThere tree file = IsSome (content tree.files file.1)

none_there : (tree : Tree) → AreThere tree []
none_there tree = All-nil (IsThere tree)

one_more_there : (tree : Tree) (file : Found) (files : List Found) → IsThere tree file → AreThere tree files → AreThere tree (file ∷ files)
one_more_there tree file files one all = All-cons (IsThere tree) file files one all

append_there : (tree : Tree) (xs ys : List Found) → AreThere tree xs → AreThere tree ys → AreThere tree (xs ++ ys)
append_there tree [] ys a b = b
append_there tree (x ∷ xs) ys a b =
    one_more_there tree x (xs ++ ys) (head_there tree x xs a) (append_there tree xs ys (tail_there tree x xs a) b)

placed_there : (tree : Tree) (o : Ordering) (k v : List ℕ) (e : Found) (es rest : List Found) → IsThere tree (k, v) → AreThere tree (e ∷ es)
    → AreThere tree rest
    → AreThere tree (by_order o ((k, v) ∷ e ∷ es) ((e.0, v) ∷ es) (e ∷ rest))
placed_there tree Less k v e es rest p a r = one_more_there tree (k, v) (e ∷ es) p a
placed_there tree Equal k v e es rest p a r = one_more_there tree (e.0, v) es p (tail_there tree e es a)
placed_there tree Greater k v e es rest p a r = one_more_there tree e rest (head_there tree e es a) r

put_there : (tree : Tree) (k v : List ℕ) (es : List Found) → IsThere tree (k, v) → AreThere tree es → AreThere tree (put order k v es)
put_there tree k v [] p a = one_more_there tree (k, v) [] p (none_there tree)
put_there tree k v (e ∷ es) p a =
    placed_there tree (order k e.0) k v e es (put order k v es) p a (put_there tree k v es p (tail_there tree e es a))

in_order_there : (tree : Tree) (es : List Found) → AreThere tree es → AreThere tree (in_order es)
in_order_there tree [] a = none_there tree
in_order_there tree (e ∷ es) a =
    put_there tree e.0 e.1 (in_order es) (head_there tree e es a) (in_order_there tree es (tail_there tree e es a))

filter_there : (tree : Tree) (folder : List ℕ) (c : List ℕ → Bool) (names : List (List ℕ)) → AreThere tree (map (found_in folder) names)
    → AreThere tree (map (found_in folder) (filter c names))
filter_there tree folder c [] a = a
filter_there tree folder c (n ∷ ns) a =
    chosen (c n) (filter_there tree folder c ns (tail_there tree (found_in folder n) (map (found_in folder) ns) a))
    (head_there tree (found_in folder n) (map (found_in folder) ns) a) where
      chosen : (b : Bool) → AreThere tree (map (found_in folder) (filter c ns)) → IsThere tree (found_in folder n)
          → AreThere tree (map (found_in folder) (cond b (n ∷ filter c ns) (filter c ns)))
      chosen true rest one = one_more_there tree (found_in folder n) (map (found_in folder) (filter c ns)) one rest
      chosen false rest one = rest

with_name_there : (tree : Tree) (folder : List ℕ) (names : List (List ℕ)) (name : List ℕ) → AreThere tree (map (found_in folder) names)
    → IsThere tree (found_in folder name)
    → AreThere tree (map (found_in folder) (with_name names name))
with_name_there tree folder names name a one = chosen (list_any (λ each. bytes_eq each name) names) where
  chosen : (b : Bool) → AreThere tree (map (found_in folder) (cond b names (names ++ name ∷ [])))
  chosen true = a
  chosen false = subst (λ (fs : List Found). AreThere tree fs) (sym (map-append (found_in folder) names (name ∷ [])))
      (append_there tree (map (found_in folder) names) (found_in folder name ∷ []) a
      (one_more_there tree (found_in folder name) [] one (none_there tree)))

-- what is among the last files is among all
abbrev IsAmong : Tree → List Stored → Type 0
IsAmong tree files = (path : List ℕ) → IsSome (content files path) → IsSome (content tree.files path)

first_true : (b c : Bool) → (b && c) ≡ true → b ≡ true
first_true true c h = refl
first_true false c h = h

named_path : (folder path name : List ℕ) → name_of folder path ≡ Some name → path ≡ folder ++ 47 ∷ name
named_path folder path name is =
    let parts = cond_some _ _ _ is in
    (bytes_eq-Decides path (folder ++ 47 ∷ drop (length folder + 1) path)).0 (first_true _ _ parts.0) ∙ ap (λ n. folder ++ 47 ∷ n) parts.1

later : (file : Stored) (b : Bool) (r : Option Stored) → IsSome (option_map (λ (f : Stored). f.bytes) r)
    → IsSome (option_map (λ (f : Stored). f.bytes) (cond b (Some file) r))
later file true r h = refl
later file false r h = h

first_content : (file : Stored) (files : List Stored) (path : List ℕ) → file.path ≡ path → IsSome (content (file ∷ files) path)
first_content file files path is = rw ((bytes_eq-Decides file.path path).1 is) refl

step_there : (tree : Tree) (folder : List ℕ) (file : Stored) (files : List Stored) (names : List (List ℕ)) (o : Option (List ℕ))
    → name_of folder file.path ≡ o
    → IsAmong tree (file ∷ files) → AreThere tree (map (found_in folder) names)
    → ((more : List (List ℕ)) → AreThere tree (map (found_in folder) more)
    → AreThere tree (map (found_in folder) (fold with_name more (filter_map (λ (f : Stored). name_of folder f.path) files))))
    → AreThere tree (map (found_in folder)
    (fold with_name names (cons_option o (filter_map (λ (f : Stored). name_of folder f.path) files))))
step_there tree folder file files names None is among a goes = goes names a
step_there tree folder file files names (Some n) is among a goes =
    goes (with_name names n)
    (with_name_there tree folder names n a
    (among (folder ++ 47 ∷ n) (first_content file files (folder ++ 47 ∷ n) (named_path folder file.path n is))))

all_there : (tree : Tree) (folder : List ℕ) (files : List Stored) (names : List (List ℕ)) → IsAmong tree files
    → AreThere tree (map (found_in folder) names)
    → AreThere tree (map (found_in folder) (fold with_name names (filter_map (λ (file : Stored). name_of folder file.path) files)))
all_there tree folder [] names among a = a
all_there tree folder (file ∷ files) names among a =
    step_there tree folder file files names (name_of folder file.path) refl among a
    (λ more b. all_there tree folder files more
    (λ path h. among path (later file (bytes_eq file.path path) (find (λ (f : Stored). bytes_eq f.path path) files) h)) b)

candidates_there : (tree : Tree) (folder : List ℕ) → AreThere tree (map (found_in folder) (candidates tree folder))
candidates_there tree folder = chosen (has_folder tree folder) where
  chosen : (b : Bool) → AreThere tree (map (found_in folder) (cond b (filter is_candidate (names_in tree.files folder)) []))
  chosen true = filter_there tree folder is_candidate (names_in tree.files folder)
      (all_there tree folder tree.files [] (λ path h. h) (none_there tree))
  chosen false = none_there tree

all_candidates_there : (tree : Tree) (folders : List (List ℕ))
    → AreThere tree (flat_map (λ folder. map (found_in folder) (candidates tree folder)) folders)
all_candidates_there tree [] = none_there tree
all_candidates_there tree (f ∷ fs) =
    append_there tree (map (found_in f) (candidates tree f)) (flat_map (λ folder. map (found_in folder) (candidates tree folder)) fs)
    (candidates_there tree f) (all_candidates_there tree fs)

winners_there : (tree : Tree) (folders : List (List ℕ)) → AreThere tree (winners tree folders)
winners_there tree folders =
    in_order_there tree (flat_map (λ folder. map (found_in folder) (candidates tree folder)) folders) (all_candidates_there tree folders)

mains_there : (tree : Tree) (folders : List (List ℕ)) (mains : List Found) (i : ℕ) (d : Group) → AreThere tree mains → i < length mains
    → AreThere tree ((get_or (map (group_at tree folders) mains) i d).main ∷ (get_or (map (group_at tree folders) mains) i d).parts)
mains_there tree folders [] i d a lt = absurd (omega arith)
mains_there tree folders (m ∷ ms) zero d a lt =
    one_more_there tree m (winners tree (drop_in_folders folders m.0)) (head_there tree m ms a)
    (winners_there tree (drop_in_folders folders m.0))
mains_there tree folders (m ∷ ms) (suc i) d a lt = mains_there tree folders ms i d (tail_there tree m ms a) (omega arith)

mapped_at : (kept : List Kept) (i : ℕ) (group : Kept) (d : Group) → i < length kept → group ≡ get_or kept i group
    → get_or (map group_of kept) i d ≡ group_of group
mapped_at [] i group d lt is = absurd (omega arith)
mapped_at (k ∷ ks) zero group d lt is = ap group_of (sym is)
mapped_at (k ∷ ks) (suc i) group d lt is = mapped_at ks i group d (omega arith) is

pub group_there : (tree : Tree) (folders : List (List ℕ)) (kept : List Kept) (i : ℕ) (group : Kept)
    → map group_of kept ≡ groups tree folders → i < length kept → group ≡ get_or kept i group
    → AreThere tree ((group_of group).main ∷ (group_of group).parts)
group_there tree folders kept i group same lt is =
    let at : get_or (groups tree folders) i (group_of group) ≡ group_of group =
    ap (λ (gs : List Group). get_or gs i (group_of group)) (sym same) ∙ mapped_at kept i group (group_of group) lt is in
    let a = ap length same in let b = length-map kept group_of in let c = length-map (winners tree folders) (group_at tree folders) in
    let n : i < length (winners tree folders) = omega (arith, a, b, c, lt) in
    subst (λ (g : Group). AreThere tree (g.main ∷ g.parts)) at
    (mains_there tree folders (winners tree folders) i (group_of group) (winners_there tree folders) n)
