-- What the sections of a file ignore, by their names.
use Rattle.std.proofs.Common.{◌≡◌, ℕ, ◌+◌, ◌<◌, ◌≤◌, List, [], ◌∷◌, Bool, true, false, cond, not, length, map, take, get_or, refl, ap, sym}
use Rattle.std.proofs.Common.{◌∙◌, arith}
use Rattle.std.specs.Prelude.{count_by, sum_by}
use Rattle.std.specs.List.{list_any}
use Rattle.std.specs.Str.{bytes_eq}
use Rattle.std.proofs.lemmas.Bool.{and_parts, not-true, or_parts}
use Rattle.std.proofs.lemmas.List.Sums.{sum_by-cons, sum_by_more, sum_by-take-le, count_by-le-length}
use Rattle.std.proofs.lemmas.Slice.Eq.{bytes_eq-Decides}
use Rattle.rp_ini.specs.Lines.{Section, assigns_of}
use Rattle.rp_ini.specs.declared.assign.Assign.{Assign}
use Rattle.rp_defs.specs.Keys.{is_key}
use Rattle.rp_defs.specs.Settings.{ignored_in, partition}
use Rattle.rp_defs.specs.Counting.{differ, IsParsed}

-- the section of a name, as a file finds it
abbrev pub found : List Section → List ℕ → Section
found sections name = record { name = name; assigns = assigns_of sections name }

abbrev pub names_of : List Section → List (List ℕ)
names_of sections = map (λ (section : Section). section.name) sections

-- each of some sections is found by its name
abbrev AreFound : List Section → List Section → Type 0
AreFound sections [] = Unit {0}
AreFound sections (section ∷ rest) = (assigns_of sections section.name ≡ section.assigns) × AreFound sections rest

same_name : (name : List ℕ) → bytes_eq name name ≡ true
same_name name = (bytes_eq-Decides name name).1 refl

pub other_name : (a b : List ℕ) → bytes_eq a b ≡ false → bytes_eq b a ≡ false
other_name a b h = by_test (bytes_eq b a) refl where
  by_test : (t : Bool) → bytes_eq b a ≡ t → bytes_eq b a ≡ false
  by_test true is = let same = (bytes_eq-Decides a b).1 (sym ((bytes_eq-Decides b a).0 is)) in absurd (cc)
  by_test false is = is

found_behind : (section : Section) (sections rest : List Section) → list_any (bytes_eq section.name) (names_of rest) ≡ false
    → AreFound sections rest → AreFound (section ∷ sections) rest
found_behind section sections [] apart h = tt
found_behind section sections (next ∷ rest) apart h =
    let parts = or_parts _ _ apart in (
      ap (λ b. cond b section.assigns (assigns_of sections next.name)) (other_name section.name next.name parts.0)
          ∙ h.0,
      found_behind section sections rest parts.1 h.1,
    )

are_found : (sections : List Section) → differ (names_of sections) ≡ true → AreFound sections sections
are_found [] apart = tt
are_found (section ∷ sections) apart =
    let parts = and_parts _ _ apart in (
      ap (λ b. cond b section.assigns (assigns_of sections section.name)) (same_name section.name),
      found_behind section sections sections (not-true _ parts.0) (are_found sections parts.1),
    )

sum_found : (sections rest : List Section) → AreFound sections rest
    → sum_by (λ name. ignored_in (found sections name)) (names_of rest) ≡ sum_by ignored_in rest
sum_found sections [] h = refl
sum_found sections (section ∷ rest) h =
    sum_by-cons (λ name. ignored_in (found sections name)) section.name (names_of rest)
    ∙ ap (λ (assigns : List Assign). ignored_in (record { name = section.name; assigns = assigns }) + sum_by
    (λ name. ignored_in (found sections name)) (names_of rest)) h.0
    ∙ ap (λ n. ignored_in section + n) (sum_found sections rest h.1) ∙ sym (sum_by-cons ignored_in section rest)

-- the sum over the names is that over the sections
pub sum_names : (sections : List Section) (names : List (List ℕ)) → IsParsed sections → names ≡ names_of sections
    → sum_by (λ name. ignored_in (found sections name)) names ≡ sum_by ignored_in sections
sum_names sections names parsed are = ap (sum_by (λ name. ignored_in (found sections name))) are
    ∙ sum_found sections sections (are_found sections parsed.apart)

chosen_length : (b : Bool) (assigns others : List Assign) (n m : ℕ) → length assigns + n ≡ m → length others ≤ n
    → length (cond b assigns others) ≤ m
chosen_length true assigns others n m is le = omega arith
chosen_length false assigns others n m is le = omega arith

length-assigns_of : (sections : List Section) (name : List ℕ)
    → length (assigns_of sections name) ≤ sum_by (λ (s : Section). length s.assigns) sections
length-assigns_of [] name = omega arith
length-assigns_of (section ∷ sections) name =
    chosen_length (bytes_eq name section.name) section.assigns (assigns_of sections name) _ _
    (sym (sum_by-cons (λ (s : Section). length s.assigns) section sections)) (length-assigns_of sections name)

pub few_assigns : (sections : List Section) (name : List ℕ) → IsParsed sections → length (assigns_of sections name) ≤ 65536
few_assigns sections name parsed = let few = parsed.few in let le = length-assigns_of sections name in omega arith

chosen_count : (b : Bool) (count size : ℕ) → count ≤ size → cond b count size ≤ size
chosen_count true count size le = le
chosen_count false count size le = omega arith

ignored_in-le : (section : Section) → ignored_in section ≤ length section.assigns
ignored_in-le section =
    chosen_count (bytes_eq section.name partition) (count_by (λ (assign : Assign). not (is_key assign.key)) section.assigns)
    (length section.assigns)
    (count_by-le-length (λ (assign : Assign). not (is_key assign.key)) section.assigns)

ignored-le : (sections : List Section) → sum_by ignored_in sections ≤ sum_by (λ (s : Section). length s.assigns) sections
ignored-le [] = omega arith
ignored-le (section ∷ sections) =
    let a = sum_by-cons ignored_in section sections in let b = sum_by-cons (λ (s : Section). length s.assigns) section sections in
    let first = ignored_in-le section in let rest = ignored-le sections in omega (arith, a, b, first, rest)

pub few_ignored : (sections : List Section) → IsParsed sections → sum_by ignored_in sections ≤ 65536
few_ignored sections parsed = let few = parsed.few in let le = ignored-le sections in omega arith

-- with one more name the sum stays in bounds
pub one_more : (sections : List Section) (names : List (List ℕ)) (i : ℕ) (name : List ℕ) → IsParsed sections → names ≡ names_of sections
    → i < length names → name ≡ get_or names i name
    → sum_by (λ name. ignored_in (found sections name)) (take i names) + ignored_in (found sections name) ≤ 65536
one_more sections names i name parsed are lt is =
    let sum = λ (ns : List (List ℕ)). sum_by (λ name. ignored_in (found sections name)) ns in
    let more : sum (take (i + 1) names) ≡ sum (take i names) + ignored_in (found sections name) =
    sum_by_more (λ name. ignored_in (found sections name)) names i name lt
    ∙ ap (λ n. sum (take i names) + ignored_in (found sections n)) (sym is) in
    let part = sum_by-take-le (λ name. ignored_in (found sections name)) names (i + 1) in
    let all = sum_names sections names parsed are in let few = few_ignored sections parsed in
    omega (arith, more, part, all, few)
