-- Files are judged one after another: the first that is too big, or the pieces of all.
use Rattle.std.proofs.Common.{◌≡◌, ℕ, ◌+◌, ◌<◌, List, [], ◌∷◌, ◌++◌, Bool, true, false, cond, not, Option, Some, None, Result, Ok, Err, map}
use Rattle.std.proofs.Common.{filter, length, drop, get_or, refl, ap, sym, ◌∙◌, subst, append_assoc, add-one, drop-cons}
use Rattle.std.specs.Prelude.{find, flat_map, IfSome, String, nat_lt}
use Rattle.std.specs.Option.{option_or}
use Rattle.std.specs.declared.alloc.Global.{Global}
use Rattle.std.proofs.lemmas.Bool.{eqb-true, not-true}
use Rattle.std.proofs.lemmas.List.{append-nil}
use Rattle.std.proofs.lemmas.List.Elements.{filter-append}
use Rattle.std.proofs.lemmas.List.Folds.{find-append}
use Rattle.rp_io.specs.Files.{Tree}
use Rattle.rp_files.specs.declared.found.Group.{Group as Kept}
use Rattle.rp_files.specs.declared.piece.Piece.{Piece}
use Rattle.rp_files.specs.declared.fault.LoadFault.{LoadFault}
use Rattle.rp_files.specs.declared.fault.LoadFault.TheVariants.{FolderFault, TooMany, TooBig, Memory}
use Rattle.rp_files.specs.Faults.{Loads}
use Rattle.rp_files.specs.Found.{bytes_of, found_of, group_of}
use Rattle.rp_files.specs.Pieces.{Group, count_of, groups, piece_at, part_at, is_empty, is_too_big, files_of, unless_too_big, pieces_of}
use Rattle.rp_files.specs.Pieces.{pieces}
use Rattle.rp_files.specs.Reading.{judged, with_piece, with_judged, with_main, joined}

abbrev pub Answer : Type 0
Answer = Result (List Piece) LoadFault

-- the pieces of files and then those of more files
abbrev pub chain : Answer → Answer → Answer
chain (Ok front) back = joined front back
chain (Err fault) back = Err fault

both : (a b : Option Piece) (p q : List Piece) → unless_too_big (option_or a b) (p ++ q) ≡ chain (unless_too_big a p) (unless_too_big b q)
both None None p q = refl
both None (Some x) p q = refl
both (Some x) b p q = refl

pieces_of-append : (xs ys : List Piece) → pieces_of (xs ++ ys) ≡ chain (pieces_of xs) (pieces_of ys)
pieces_of-append xs ys =
    ap (λ (o : Option Piece). unless_too_big o (filter (λ file. not (is_empty file)) (xs ++ ys))) (find-append is_too_big xs ys)
    ∙ ap (λ (kept : List Piece). unless_too_big (option_or (find is_too_big xs) (find is_too_big ys)) kept)
    (filter-append (λ file. not (is_empty file)) xs ys)
    ∙ both (find is_too_big xs) (find is_too_big ys) _ _

joined-chain : (front : List Piece) (a b : Answer) → joined front (chain a b) ≡ chain (joined front a) b
joined-chain front (Ok xs) (Ok ys) = ap Ok (sym (append_assoc front xs ys))
joined-chain front (Ok xs) (Err fault) = refl
joined-chain front (Err fault) b = refl

joined-append : (front xs ys : List Piece) → joined front (pieces_of (xs ++ ys)) ≡ chain (joined front (pieces_of xs)) (pieces_of ys)
joined-append front xs ys = ap (joined front) (pieces_of-append xs ys) ∙ joined-chain front (pieces_of xs) (pieces_of ys)

joined-all : (front : List Piece) → joined front (pieces_of []) ≡ Ok front
joined-all front = ap Ok (append-nil front)

one_piece : (front : List Piece) (piece : Piece) → joined front (pieces_of (piece ∷ [])) ≡ with_judged front (judged piece)
one_piece front piece = cases (is_too_big piece) (is_empty piece) refl where
  cases : (big empty : Bool) → is_empty piece ≡ empty
      → joined front (unless_too_big (cond big (Some piece) None) (cond (not empty) (piece ∷ []) [])) ≡ with_judged front
      (cond big (Err (TooBig piece.file piece.part)) (Ok piece))
  cases true empty is = refl
  cases false true is = ap Ok (append-nil front ∙ ap (λ b. cond b front (front ++ piece ∷ [])) (sym is))
  cases false false is = ap (λ b. Ok (cond b front (front ++ piece ∷ []))) (sym is)

first_piece : (front : List Piece) (piece : Piece) (pieces : List Piece)
    → joined front (pieces_of (piece ∷ pieces)) ≡ chain (with_judged front (judged piece)) (pieces_of pieces)
first_piece front piece pieces = joined-append front (piece ∷ []) pieces
    ∙ ap (λ (a : Answer). chain a (pieces_of pieces)) (one_piece front piece)

not_big : (piece : Piece) → is_empty piece ≡ true → is_too_big piece ≡ false
not_big piece empty = let none = eqb-true (length piece.bytes) 0 empty in ap (λ n. nat_lt 65536 n) none

-- a group is its main file and then its drop-ins, unless it is masked
module _ (tree : Tree) (group : Group) (front : List Piece) where
  abbrev main : Piece
  main = piece_at tree group.main.0 [] group.main.1

  abbrev others : List Piece
  others = map (part_at tree group.main.0) group.parts

  by_big : (big : Bool) → is_empty main ≡ false
      → chain (with_judged front (cond big (Err (TooBig main.file main.part)) (Ok main))) (pieces_of others) ≡ with_main tree front group
      (cond big (Err (TooBig main.file main.part)) (Ok main))
  by_big true is = refl
  by_big false is = ap (λ b. cond b (Ok front) (joined (with_piece front main) (pieces_of others))) (sym is)

  by_empty : (empty : Bool) → is_empty main ≡ empty
      → joined front (pieces_of (cond empty [] (main ∷ others))) ≡ with_main tree front group (judged main)
  by_empty true is =
      joined-all front ∙ ap (λ b. cond b (Ok front) (joined (with_piece front main) (pieces_of others))) (sym is)
      ∙ ap (λ b. with_main tree front group (cond b (Err (TooBig main.file main.part)) (Ok main))) (sym (not_big main is))
  by_empty false is = first_piece front main others ∙ by_big (is_too_big main) is

  group_pieces : joined front (pieces_of (files_of tree group)) ≡ with_main tree front group (judged main)
  group_pieces = by_empty (is_empty main) refl

-- the drop-ins that are left after one more
pub parts_more : (o p : Option Tree) (file : List ℕ) (parts : List (String Global × String Global)) (i : ℕ)
    (part : String Global × String Global) (start q : List Piece) (r : Answer)
    → p ≡ o → i < length parts → part ≡ get_or parts i part
    → IfSome o (λ tree. joined start (pieces_of (map (part_at tree file) (found_of parts))) ≡ joined q
    (pieces_of (map (part_at tree file) (found_of (drop i parts)))))
    → IfSome p (λ tree. with_judged q (judged (part_at tree file (bytes_of part))) ≡ r)
    → IfSome o (λ tree. joined start (pieces_of (map (part_at tree file) (found_of parts))) ≡ chain r
    (pieces_of (map (part_at tree file) (found_of (drop (i + 1) parts)))))
parts_more None p file parts i part start q r is lt at sofar step = tt
parts_more (Some tree) p file parts i part start q r is lt at sofar step =
    let now = subst (λ (o : Option Tree). IfSome o (λ t. with_judged q (judged (part_at t file (bytes_of part))) ≡ r)) is step in
    let front : drop i parts ≡ part ∷ drop (i + 1) parts = rw add-one (drop-cons parts i part lt)
    ∙ ap (λ (e : String Global × String Global). e ∷ drop (i + 1) parts) (sym at) in
    let rest = map (part_at tree file) (found_of (drop (i + 1) parts)) in
    sofar ∙ ap (λ (es : List (String Global × String Global)). joined q (pieces_of (map (part_at tree file) (found_of es)))) front
    ∙ first_piece q (part_at tree file (bytes_of part)) rest ∙ ap (λ (a : Answer). chain a (pieces_of rest)) now

-- the groups that are left after one more
pub groups_more : (o p : Option Tree) (kept : List Kept) (i : ℕ) (group : Kept) (q : List Piece) (r : Answer) → p ≡ o → i < length kept
    → group ≡ get_or kept i group
    → IfSome o (λ tree. pieces_of (flat_map (files_of tree) (map group_of kept)) ≡ joined q
    (pieces_of (flat_map (files_of tree) (map group_of (drop i kept)))))
    → IfSome p (λ tree. with_main tree q (group_of group) (judged (piece_at tree (bytes_of group.main).0 [] (bytes_of group.main).1)) ≡ r)
    → IfSome o (λ tree. pieces_of (flat_map (files_of tree) (map group_of kept)) ≡ chain r
    (pieces_of (flat_map (files_of tree) (map group_of (drop (i + 1) kept)))))
groups_more None p kept i group q r is lt at sofar step = tt
groups_more (Some tree) p kept i group q r is lt at sofar step =
    let now = subst (λ (o : Option Tree). IfSome o
    (λ t. with_main t q (group_of group) (judged (piece_at t (bytes_of group.main).0 [] (bytes_of group.main).1)) ≡ r)) is step in
    let front : drop i kept ≡ group ∷ drop (i + 1) kept = rw add-one (drop-cons kept i group lt)
    ∙ ap (λ (e : Kept). e ∷ drop (i + 1) kept) (sym at) in
    let rest = flat_map (files_of tree) (map group_of (drop (i + 1) kept)) in
    sofar ∙ ap (λ (es : List Kept). joined q (pieces_of (flat_map (files_of tree) (map group_of es)))) front
    ∙ joined-append q (files_of tree (group_of group)) rest
    ∙ ap (λ (a : Answer). chain a (pieces_of rest)) (group_pieces tree (group_of group) q ∙ now)

-- an answer of groups that aren't too many is that of their folders
answered : (tree : Tree) (dirs : List (List ℕ)) (kept : List Kept) (a : Answer) → map group_of kept ≡ groups tree dirs
    → true ≡ not (nat_lt 256 (count_of (map group_of kept)))
    → pieces_of (flat_map (files_of tree) (map group_of kept)) ≡ a → pieces tree dirs ≡ a
answered tree dirs kept a known few is =
    ap (λ (gs : List Group). cond (nat_lt 256 (count_of gs)) (Err TooMany) (pieces_of (flat_map (files_of tree) gs))) (sym known)
    ∙ ap (λ b. cond b (Err TooMany) (pieces_of (flat_map (files_of tree) (map group_of kept))))
    (not-true (nat_lt 256 (count_of (map group_of kept))) (sym few)) ∙ is

pub groups_fault : (o p q : Option Tree) (dirs : List (List ℕ)) (kept : List Kept) (i : ℕ) (group : Kept) (front : List Piece)
    (fault : LoadFault)
    → q ≡ o → p ≡ q → i < length kept → group ≡ get_or kept i group
    → IfSome o (λ tree. map group_of kept ≡ groups tree dirs) → true ≡ not (nat_lt 256 (count_of (map group_of kept)))
    → IfSome q (λ tree. pieces_of (flat_map (files_of tree) (map group_of kept)) ≡ joined front
    (pieces_of (flat_map (files_of tree) (map group_of (drop i kept)))))
    → IfSome p (λ tree. Loads (λ after. after)
    (with_main tree front (group_of group) (judged (piece_at tree (bytes_of group.main).0 [] (bytes_of group.main).1))) (Err fault))
    → IfSome o (λ tree. Loads (λ (after : List Piece). after) (pieces tree dirs) (Err fault))
groups_fault None p q dirs kept i group front fault same is lt at known few sofar step = tt
groups_fault (Some tree) p q dirs kept i group front FolderFault same is lt at known few sofar step = tt
groups_fault (Some tree) p q dirs kept i group front TooMany same is lt at known few sofar step =
    let told = subst (λ (o : Option Tree). IfSome o
    (λ t. pieces_of (flat_map (files_of t) (map group_of kept)) ≡ joined front
    (pieces_of (flat_map (files_of t) (map group_of (drop i kept)))))) same sofar in
    answered tree dirs kept (Err TooMany) known few (groups_more (Some tree) p kept i group front (Err TooMany) (is ∙ same) lt at told step)
groups_fault (Some tree) p q dirs kept i group front (TooBig f n) same is lt at known few sofar step =
    let told = subst (λ (o : Option Tree). IfSome o
    (λ t. pieces_of (flat_map (files_of t) (map group_of kept)) ≡ joined front
    (pieces_of (flat_map (files_of t) (map group_of (drop i kept)))))) same sofar in
    answered tree dirs kept (Err (TooBig f n)) known few
    (groups_more (Some tree) p kept i group front (Err (TooBig f n)) (is ∙ same) lt at told step)
groups_fault (Some tree) p q dirs kept i group front Memory same is lt at known few sofar step = tt
