-- What is read one file after another, and that each is there.
use Rattle.std.proofs.Common.{◌≡◌, ℕ, zero, suc, ◌+◌, ◌<◌, ◌≤◌, List, [], ◌∷◌, Bool, true, false, Option, Some, None, map, length, take}
use Rattle.std.proofs.Common.{get_or, refl, ap, sym, ◌∙◌, subst, arith}
use Rattle.std.specs.Prelude.{String, IfSome, IsSome, nat_lt}
use Rattle.std.specs.declared.alloc.Global.{Global}
use Rattle.std.proofs.lemmas.Bool.{ltb-false}
use Rattle.std.proofs.lemmas.List.{length-map}
use Rattle.std.proofs.lemmas.List.Sums.{sum_by-cons}
use Rattle.rp_io.specs.Files.{Tree, content}
use Rattle.rp_files.specs.declared.found.Group.{Group as Kept}
use Rattle.rp_files.specs.Pieces.{Found, Group, count_of}
use Rattle.rp_files.specs.Found.{bytes_of, found_of, group_of, AreThere}

abbrev Entry : Type 0
Entry = String Global × String Global

pub head_there : (tree : Tree) (file : Found) (files : List Found) → AreThere tree (file ∷ files) → IsSome (content tree.files file.1)
head_there tree file files there = there 0 file (omega arith)

pub tail_there : (tree : Tree) (file : Found) (files : List Found) → AreThere tree (file ∷ files) → AreThere tree files
tail_there tree file files there = λ k d h. there (suc k) d (omega arith)

pub at_there : (tree : Tree) (files : List Entry) (i : ℕ) (file : Entry) → i < length files → file ≡ get_or files i file
    → AreThere tree (found_of files)
    → IsSome (content tree.files (bytes_of file).1)
at_there tree [] i file lt is there = absurd (omega arith)
at_there tree (f ∷ fs) zero file lt is there =
    subst (λ (e : Entry). IsSome (content tree.files (bytes_of e).1)) (sym is) (head_there tree (bytes_of f) (found_of fs) there)
at_there tree (f ∷ fs) (suc i) file lt is there =
    at_there tree fs i file (omega arith) is (tail_there tree (bytes_of f) (found_of fs) there)

pub strays_by : (o : Option Tree) (A B : Tree → Type 0) (x z : ℕ) → IfSome o (λ tree. B tree → z ≡ x) → ((tree : Tree) → A tree → B tree)
    → IfSome o (λ tree. A tree → z ≡ x)
strays_by None A B x z h gives = tt
strays_by (Some tree) A B x z h gives = λ a. h (gives tree a)

pub strays_more : (o p : Option Tree) (A B : Tree → Type 0) (x y z : ℕ) → p ≡ o → IfSome o (λ tree. A tree → y ≡ x)
    → IfSome p (λ tree. B tree → z ≡ y)
    → ((tree : Tree) → A tree → B tree) → IfSome o (λ tree. A tree → z ≡ x)
strays_more None p A B x y z is first second gives = tt
strays_more (Some tree) p A B x y z is first second gives =
    λ a. (subst (λ (q : Option Tree). IfSome q (λ t. B t → z ≡ y)) is second) (gives tree a) ∙ first a

pub count_more : (groups : List Kept) (i : ℕ) (group : Kept) → i < length groups → group ≡ get_or groups i group
    → count_of (map group_of (take i groups)) + (length group.parts.items + 1) ≤ count_of (map group_of groups)
count_more [] i group lt is = absurd (omega arith)
count_more (k ∷ ks) zero group lt is =
    let n = length-map k.parts.items bytes_of in let same = ap (λ (g : Kept). length g.parts.items) is in
    let count : count_of (map group_of (k ∷ ks)) ≡ (length (found_of k.parts.items) + 1) + count_of (map group_of ks) =
    sum_by-cons (λ (g : Group). length g.parts + 1) (group_of k) (map group_of ks) in
    omega (arith, n, same, count)
count_more (k ∷ ks) (suc i) group lt is =
    let more = count_more ks i group (omega arith) is in
    let count : count_of (map group_of (k ∷ ks)) ≡ (length (found_of k.parts.items) + 1) + count_of (map group_of ks) =
    sum_by-cons (λ (g : Group). length g.parts + 1) (group_of k) (map group_of ks) in
    let front : count_of (map group_of (take (suc i) (k ∷ ks))) ≡ (length (found_of k.parts.items) + 1) + count_of
    (map group_of (take i ks)) = sum_by-cons (λ (g : Group). length g.parts + 1) (group_of k) (map group_of (take i ks)) in
    omega (arith, more, count, front)

pub above : (n : ℕ) → 256 < n → true ≡ nat_lt 256 n
above n h = by_test (nat_lt 256 n) refl where
  by_test : (b : Bool) → nat_lt 256 n ≡ b → true ≡ nat_lt 256 n
  by_test true is = sym is
  by_test false is = absurd (let le = ltb-false 256 n is in omega (arith, le, h))

pub strays_known : (o p : Option Tree) (G B : Tree → Type 0) (x y z : ℕ) → p ≡ o → IfSome o G → IfSome o (λ tree. y ≡ x)
    → IfSome p (λ tree. B tree → z ≡ y)
    → ((tree : Tree) → G tree → B tree) → IfSome o (λ tree. z ≡ x)
strays_known None p G B x y z is known first second gives = tt
strays_known (Some tree) p G B x y z is known first second gives =
    (subst (λ (q : Option Tree). IfSome q (λ t. B t → z ≡ y)) is second) (gives tree known) ∙ first

pub strays_chain : (o p : Option Tree) (x y z : ℕ) → p ≡ o → IfSome o (λ tree. y ≡ x) → IfSome p (λ tree. z ≡ y) → IfSome o (λ tree. z ≡ x)
strays_chain None p x y z is first second = tt
strays_chain (Some tree) p x y z is first second = (subst (λ (q : Option Tree). IfSome q (λ t. z ≡ y)) is second) ∙ first
