-- The sections of a file by their names and places.
use Rattle.std.proofs.Common.{◌≡◌, ℕ, zero, suc, ◌+◌, ◌<◌, ◌≤◌, List, [], ◌∷◌, ◌++◌, Bool, true, false, cond, not, ◌||◌, length, map, get_or, refl, ap, sym, ◌∙◌, arith, Some, None, nat_lt, position}
use Rattle.std.specs.Prelude.{String, string_bytes, Vec}
use Rattle.std.specs.List.{list_any, position_or_len}
use Rattle.std.specs.Str.{bytes_eq}
use Rattle.std.specs.declared.alloc.Global.{Global}
use Rattle.std.proofs.Math.ListN.{set}
use Rattle.std.proofs.lemmas.Bool.{ltb-true, ltb-false, false≢true}
use Rattle.std.proofs.lemmas.List.{length-append}
use Rattle.std.proofs.lemmas.Option.{cond_some, none-some}
use Rattle.rp_ini.specs.declared.assign.Assign.{Assign}
use Rattle.rp_ini.specs.Lines.{Section, is_named, assigns_of}
use Rattle.rp_ini.specs.Parser.{place_of, with_assign, with_section}
use Rattle.rp_ini.specs.File.{sections_of}

pub position_or_len-map : {A B : Type 0} (f : A → B) (p : B → Bool) (xs : List A) → position_or_len p (map f xs) ≡ position_or_len (λ x. p (f x)) xs
position_or_len-map f p [] = refl
position_or_len-map f p (x ∷ xs) = ap (λ n. cond (not (p (f x))) (1 + n) 0) (position_or_len-map f p xs)

pub list_any-map : {A B : Type 0} (f : A → B) (p : B → Bool) (xs : List A) → list_any p (map f xs) ≡ list_any (λ x. p (f x)) xs
list_any-map f p [] = refl
list_any-map f p (x ∷ xs) = ap (λ b. p (f x) || b) (list_any-map f p xs)

pub names_of-sections : (names : List (List ℕ)) (lists : List (Vec Assign Global)) → length names ≡ length lists → map (λ (s : Section). s.name) (sections_of names lists) ≡ names
names_of-sections [] lists h = refl
names_of-sections (n ∷ ns) [] h = absurd (omega arith)
names_of-sections (n ∷ ns) (l ∷ ls) h = ap (λ xs. n ∷ xs) (names_of-sections ns ls (omega arith))

pub length-sections_of : (names : List (List ℕ)) (lists : List (Vec Assign Global)) → length names ≡ length lists → length (sections_of names lists) ≡ length lists
length-sections_of [] [] h = refl
length-sections_of [] (l ∷ ls) h = absurd (omega arith)
length-sections_of (n ∷ ns) [] h = absurd (omega arith)
length-sections_of (n ∷ ns) (l ∷ ls) h = ap suc (length-sections_of ns ls (omega arith))

pub sections_of-push : (names : List (List ℕ)) (lists : List (Vec Assign Global)) (name : List ℕ) (list : Vec Assign Global) → length names ≡ length lists
    → sections_of (names ++ name ∷ []) (lists ++ list ∷ []) ≡ sections_of names lists ++ record { name = name; assigns = list.items } ∷ []
sections_of-push [] [] name list h = refl
sections_of-push [] (l ∷ ls) name list h = absurd (omega arith)
sections_of-push (n ∷ ns) [] name list h = absurd (omega arith)
sections_of-push (n ∷ ns) (l ∷ ls) name list h = ap (λ xs. record { name = n; assigns = l.items } ∷ xs) (sections_of-push ns ls name list (omega arith))

pub sections_of-set : (place : ℕ) (names : List (List ℕ)) (lists : List (Vec Assign Global)) (assign : Assign) (old list : Vec Assign Global)
    → length names ≡ length lists → place < length lists → old ≡ get_or lists place old → list.items ≡ old.items ++ assign ∷ []
    → sections_of names (set lists place list) ≡ with_assign place assign (sections_of names lists)
sections_of-set place names [] assign old list h lt is grown = absurd (omega arith)
sections_of-set place [] (l ∷ ls) assign old list h lt is grown = absurd (omega arith)
sections_of-set zero (n ∷ ns) (l ∷ ls) assign old list h lt is grown =
    ap (λ items. record { name = n; assigns = items } ∷ sections_of ns ls) (grown ∙ ap (λ (v : Vec Assign Global). v.items ++ assign ∷ []) is)
sections_of-set (suc p) (n ∷ ns) (l ∷ ls) assign old list h lt is grown =
    ap (λ xs. record { name = n; assigns = l.items } ∷ xs) (sections_of-set p ns ls assign old list (omega arith) (omega arith) is grown)

-- a name's place among the keys is its section's
pub place_of-keys : (name : List ℕ) (keys : List (String Global)) (names : List (List ℕ)) (lists : List (Vec Assign Global))
    → map string_bytes keys ≡ names → length names ≡ length lists
    → position_or_len (λ (k : String Global). bytes_eq name (string_bytes k)) keys ≡ place_of name (sections_of names lists)
place_of-keys name keys names lists keyed h =
    sym (position_or_len-map string_bytes (bytes_eq name) keys) ∙ ap (λ ns. position_or_len (bytes_eq name) ns) (keyed ∙ sym (names_of-sections names lists h))
    ∙ position_or_len-map (λ (s : Section). s.name) (bytes_eq name) (sections_of names lists)

pub any_of-keys : (name : List ℕ) (keys : List (String Global)) (names : List (List ℕ)) (lists : List (Vec Assign Global))
    → map string_bytes keys ≡ names → length names ≡ length lists
    → list_any (λ (k : String Global). bytes_eq name (string_bytes k)) keys ≡ list_any (is_named name) (sections_of names lists)
any_of-keys name keys names lists keyed h =
    sym (list_any-map string_bytes (bytes_eq name) keys) ∙ ap (λ ns. list_any (bytes_eq name) ns) (keyed ∙ sym (names_of-sections names lists h))
    ∙ list_any-map (λ (s : Section). s.name) (bytes_eq name) (sections_of names lists)

-- the list of a name is at the name's place
found_at : (b : Bool) (m size : ℕ) (l d : Vec Assign Global) (ls : List (Vec Assign Global)) (rest : List Assign)
    → cond (not b) (1 + m) 0 < suc size → (m < size → rest ≡ (get_or ls m d).items) → cond b l.items rest ≡ (get_or (l ∷ ls) (cond (not b) (1 + m) 0) d).items
found_at true m size l d ls rest h then = refl
found_at false m size l d ls rest h then =
    let e : 1 + m ≡ suc m = omega arith in then (omega arith) ∙ ap (λ k. (get_or (l ∷ ls) k d).items) (sym e)

assigns_of-at : (name : List ℕ) (names : List (List ℕ)) (lists : List (Vec Assign Global)) (d : Vec Assign Global) → length names ≡ length lists
    → position_or_len (bytes_eq name) names < length names → assigns_of (sections_of names lists) name ≡ (get_or lists (position_or_len (bytes_eq name) names) d).items
assigns_of-at name [] lists d h lt = absurd (omega arith)
assigns_of-at name (n ∷ ns) [] d h lt = absurd (omega arith)
assigns_of-at name (n ∷ ns) (l ∷ ls) d h lt =
    found_at (bytes_eq name n) (position_or_len (bytes_eq name) ns) (length ns) l d ls (assigns_of (sections_of ns ls) name) lt (λ less. assigns_of-at name ns ls d (omega arith) less)

absent_at : (b : Bool) (m size : ℕ) (items rest : List Assign) → suc size ≤ cond (not b) (1 + m) 0 → (size ≤ m → rest ≡ []) → cond b items rest ≡ []
absent_at true m size items rest h then = absurd (omega arith)
absent_at false m size items rest h then = then (omega arith)

assigns_of-absent : (name : List ℕ) (names : List (List ℕ)) (lists : List (Vec Assign Global))
    → length names ≤ position_or_len (bytes_eq name) names → assigns_of (sections_of names lists) name ≡ []
assigns_of-absent name [] lists h = refl
assigns_of-absent name (n ∷ ns) [] h = refl
assigns_of-absent name (n ∷ ns) (l ∷ ls) h =
    absent_at (bytes_eq name n) (position_or_len (bytes_eq name) ns) (length ns) l.items (assigns_of (sections_of ns ls) name) h (λ more. assigns_of-absent name ns ls more)

names_place : (name : List ℕ) (keys : List (String Global)) (names : List (List ℕ)) → map string_bytes keys ≡ names
    → position_or_len (λ (k : String Global). bytes_eq name (string_bytes k)) keys ≡ position_or_len (bytes_eq name) names
names_place name keys names keyed = sym (position_or_len-map string_bytes (bytes_eq name) keys) ∙ ap (λ ns. position_or_len (bytes_eq name) ns) keyed

mapped_length : (keys : List (String Global)) → length (map string_bytes keys) ≡ length keys
mapped_length [] = refl
mapped_length (k ∷ ks) = ap suc (mapped_length ks)

names_length : (keys : List (String Global)) (names : List (List ℕ)) → map string_bytes keys ≡ names → length keys ≡ length names
names_length keys names keyed = sym (mapped_length keys) ∙ ap length keyed

pub section_found : (name : List ℕ) (keys : List (String Global)) (names : List (List ℕ)) (lists : List (Vec Assign Global)) (place : ℕ) (list : Vec Assign Global)
    → map string_bytes keys ≡ names → length names ≡ length lists → Some place ≡ position (λ (k : String Global). bytes_eq name (string_bytes k)) keys
    → list ≡ get_or lists place list → list.items ≡ assigns_of (sections_of names lists) name
section_found name keys names lists place list keyed h at is =
    let parts = cond_some _ _ _ (sym at) in
    let n : position_or_len (bytes_eq name) names ≡ place = sym (names_place name keys names keyed) ∙ parts.1 in
    let lt : position_or_len (bytes_eq name) names < length names =
    let less = ltb-true _ _ parts.0 in let place = names_place name keys names keyed in let size = names_length keys names keyed in omega (arith, less, place, size) in
    ap (λ (v : Vec Assign Global). v.items) is ∙ ap (λ k. (get_or lists k list).items) (sym n) ∙ sym (assigns_of-at name names lists list h lt)

pub section_missing : (name : List ℕ) (keys : List (String Global)) (names : List (List ℕ)) (lists : List (Vec Assign Global))
    → map string_bytes keys ≡ names → None ≡ position (λ (k : String Global). bytes_eq name (string_bytes k)) keys
    → [] ≡ assigns_of (sections_of names lists) name
section_missing name keys names lists keyed at = by_test (nat_lt (position_or_len (λ (k : String Global). bytes_eq name (string_bytes k)) keys) (length keys)) refl where
  by_test : (b : Bool) → nat_lt (position_or_len (λ (k : String Global). bytes_eq name (string_bytes k)) keys) (length keys) ≡ b → [] ≡ assigns_of (sections_of names lists) name
  by_test true is = absurd (none-some _ (at ∙ ap (λ b. cond b (Some (position_or_len (λ (k : String Global). bytes_eq name (string_bytes k)) keys)) None) is))
  by_test false is =
      let more = ltb-false _ _ is in let place = names_place name keys names keyed in let size = names_length keys names keyed in
      let le : length names ≤ position_or_len (bytes_eq name) names = omega (arith, more, place, size) in
      sym (assigns_of-absent name names lists le)

at_most : (b : Bool) (m size : ℕ) → m ≤ size → cond (not b) (1 + m) 0 ≤ suc size
at_most true m size h = omega arith
at_most false m size h = omega arith

pub position_or_len-le : {A : Type 0} (p : A → Bool) (xs : List A) → position_or_len p xs ≤ length xs
position_or_len-le p [] = omega arith
position_or_len-le p (x ∷ xs) = at_most (p x) (position_or_len p xs) (length xs) (position_or_len-le p xs)

below : (b : Bool) (m size : ℕ) (rest : Bool) → (b || rest) ≡ true → (rest ≡ true → m < size) → cond (not b) (1 + m) 0 < suc size
below true m size rest h then = omega arith
below false m size rest h then = let lt = then h in omega arith

pub position_or_len-lt : {A : Type 0} (p : A → Bool) (xs : List A) → list_any p xs ≡ true → position_or_len p xs < length xs
position_or_len-lt p [] h = absurd (false≢true h)
position_or_len-lt p (x ∷ xs) h = below (p x) (position_or_len p xs) (length xs) (list_any p xs) h (position_or_len-lt p xs)

flipped : (a b : Bool) → a ≡ not b → a ≡ true → b ≡ false
flipped a true h t = absurd (false≢true (sym h ∙ t))
flipped a false h t = refl

flipped_back : (a b : Bool) → a ≡ not b → a ≡ false → b ≡ true
flipped_back a true h f = refl
flipped_back a false h f = absurd (false≢true (sym f ∙ h))

-- a name that is new gets a section at the end
pub section_added : (name : List ℕ) (key : String Global) (keys : List (String Global)) (names : List (List ℕ)) (lists : List (Vec Assign Global)) (list : Vec Assign Global) (is_new : Bool)
    → map string_bytes keys ≡ names → length names ≡ length lists → string_bytes key ≡ name → is_new ≡ not (list_any (λ (k : String Global). bytes_eq (string_bytes key) (string_bytes k)) keys)
    → is_new ≡ true → list.items ≡ [] → sections_of (names ++ name ∷ []) (lists ++ list ∷ []) ≡ with_section name (sections_of names lists)
section_added name key keys names lists list is_new keyed h same added new empty =
    let fresh : list_any (is_named name) (sections_of names lists) ≡ false =
    sym (any_of-keys name keys names lists keyed h) ∙ ap (λ n. list_any (λ (k : String Global). bytes_eq n (string_bytes k)) keys) (sym same) ∙ flipped is_new _ added new in
    rw fresh (sections_of-push names lists name list h ∙ ap (λ items. sections_of names lists ++ record { name = name; assigns = items } ∷ []) empty)

-- a name that isn't new adds none
pub section_kept : (name : List ℕ) (key : String Global) (keys : List (String Global)) (names : List (List ℕ)) (lists : List (Vec Assign Global)) (is_new : Bool)
    → map string_bytes keys ≡ names → length names ≡ length lists → string_bytes key ≡ name → is_new ≡ not (list_any (λ (k : String Global). bytes_eq (string_bytes key) (string_bytes k)) keys)
    → is_new ≡ false → list_any (is_named name) (sections_of names lists) ≡ true
section_kept name key keys names lists is_new keyed h same added old =
    sym (any_of-keys name keys names lists keyed h) ∙ ap (λ n. list_any (λ (k : String Global). bytes_eq n (string_bytes k)) keys) (sym same) ∙ flipped_back is_new _ added old

pub place_found : (name : List ℕ) (key : String Global) (keys : List (String Global)) (names : List (List ℕ)) (lists : List (Vec Assign Global)) (place : ℕ)
    → map string_bytes keys ≡ names → length names ≡ length lists → string_bytes key ≡ name → place ≡ position_or_len (λ (k : String Global). bytes_eq (string_bytes key) (string_bytes k)) keys
    → place ≡ place_of name (sections_of names lists)
place_found name key keys names lists place keyed h same is =
    is ∙ ap (λ n. position_or_len (λ (k : String Global). bytes_eq n (string_bytes k)) keys) same ∙ place_of-keys name keys names lists keyed h

pub section_same : (name : List ℕ) (sections : List Section) → list_any (is_named name) sections ≡ true → sections ≡ with_section name sections
section_same name sections h = rw h refl

pub place_within : (name : List ℕ) (sections : List Section) (place : ℕ) → place ≡ place_of name sections → list_any (is_named name) sections ≡ true → place < length sections
place_within name sections place is h = let lt = position_or_len-lt (is_named name) sections h in omega (arith, is, lt)

pub place_at_end : (name : List ℕ) (sections more : List Section) (section : Section) (place : ℕ) → place ≡ place_of name sections → more ≡ sections ++ section ∷ [] → place < length more
place_at_end name sections more section place is grown =
    let le = position_or_len-le (is_named name) sections in
    let size = ap length grown ∙ length-append sections (section ∷ []) in
    omega (arith, is, le, size)
