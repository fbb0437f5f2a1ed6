-- The names of the keys, and their places.
use Rattle.std.proofs.Common.{◌≡◌, ℕ, zero, suc, ◌+◌, ◌<◌, List, [], ◌∷◌, Bool, true, false, cond, Some, None, length, map, get_or}
use Rattle.std.proofs.Common.{position, refl, ap, sym, ◌∙◌, arith}
use Prim.Native.Nat.compare
use Rattle.std.specs.Prelude.{nat_lt, not, ◌||◌, is_some}
use Rattle.std.specs.Borrow.{Bor}
use Rattle.std.specs.List.{list_any, position_or_len}
use Rattle.std.specs.Str.{bytes_eq}
use Rattle.std.proofs.lemmas.Bool.{lt-ltb}
use Rattle.std.proofs.lemmas.List.{length-map}
use Rattle.rp_ini.proofs.FileLemmas.{position_or_len-map}
use Rattle.rp_defs.specs.declared.keys.Reader.{Reader}
use Rattle.rp_defs.specs.declared.keys.Reader.TheVariants.{Refused}
use Rattle.rp_defs.specs.Keys.{key_names, key_name, is_key}
use Rattle.rp_defs.specs.Readers.{keys, reader_of}

-- a row as it was lent
abbrev Lent : Type 0
Lent = Bor (List ℕ) × Reader

abbrev pub as_listed : Lent → List ℕ × Reader
as_listed row = (row.0.now, row.1)

position-map : {A B : Type 0} (f : A → B) (p : B → Bool) (xs : List A) → position p (map f xs) ≡ position (λ x. p (f x)) xs
position-map f p xs =
    ap (λ n. cond (nat_lt n (length (map f xs))) (Some n) None) (position_or_len-map f p xs)
    ∙ ap (λ n. cond (nat_lt (position_or_len (λ x. p (f x)) xs) n) (Some (position_or_len (λ x. p (f x)) xs)) None) (length-map xs f)

pub place_of-lent : (name : List ℕ) (lent : List Lent) → map as_listed lent ≡ keys
    → position (λ (row : Lent). bytes_eq name row.0.now) lent ≡ position (bytes_eq name) key_names
place_of-lent name lent is =
    sym (position-map as_listed (λ (row : List ℕ × Reader). bytes_eq name row.0) lent)
    ∙ ap (position (λ (row : List ℕ × Reader). bytes_eq name row.0)) is
    ∙ sym (position-map (λ (row : List ℕ × Reader). row.0) (bytes_eq name) keys)

get_or-map : {A B : Type 0} (f : A → B) (xs : List A) (place : ℕ) (d : A) (e : B) → place < length xs
    → f (get_or xs place d) ≡ get_or (map f xs) place e
get_or-map f [] place d e lt = absurd (omega arith)
get_or-map f (x ∷ xs) zero d e lt = refl
get_or-map f (x ∷ xs) (suc place) d e lt = get_or-map f xs place d e (omega arith)

-- the row of a number
row_at : (number : ℕ) (lent : List Lent) (none : Lent) → map as_listed lent ≡ keys → number < 26
    → as_listed (get_or lent number none) ≡ get_or keys number ([], Refused)
row_at number lent none is lt =
    let many = length-map lent as_listed in let all = ap length is in
    get_or-map as_listed lent number none ([], Refused) (omega (arith, many, all, lt)) ∙ ap (λ rows. get_or rows number ([], Refused)) is

pub key_name-lent : (number : ℕ) (lent : List Lent) (none : Lent) → map as_listed lent ≡ keys → number < 26
    → (get_or lent number none).0.now ≡ key_name number
unfolding key_name
key_name-lent number lent none is lt =
    ap (λ (row : List ℕ × Reader). row.0) (row_at number lent none is lt)
    ∙ get_or-map (λ (row : List ℕ × Reader). row.0) keys number ([], Refused) [] lt

pub reader_of-lent : (number : ℕ) (lent : List Lent) (none : Lent) → map as_listed lent ≡ keys → number < 26
    → (get_or lent number none).1 ≡ reader_of number
unfolding reader_of
reader_of-lent number lent none is lt = ap (λ (row : List ℕ × Reader). row.1) (row_at number lent none is lt)

next_is_some : (b rest : Bool) (n size : ℕ) → nat_lt n size ≡ rest → nat_lt (cond (not b) (1 + n) 0) (suc size) ≡ (b || rest)
next_is_some true rest n size is = lt-ltb zero (suc size) (omega arith)
next_is_some false rest n size is = let e : 1 + n ≡ suc n = omega arith in rw (e, compare.suc-suc) is

-- a place is found where an element passes
is_found : {A : Type 0} (p : A → Bool) (xs : List A) → nat_lt (position_or_len p xs) (length xs) ≡ list_any p xs
is_found p [] = refl
is_found p (x ∷ xs) = next_is_some (p x) (list_any p xs) (position_or_len p xs) (length xs) (is_found p xs)

some_where : (b : Bool) (n : ℕ) → is_some (cond b (Some n) None) ≡ b
some_where true n = refl
some_where false n = refl

pub is_key-place : (name : List ℕ) → is_some (position (bytes_eq name) key_names) ≡ is_key name
unfolding is_key
is_key-place name = some_where (nat_lt (position_or_len (bytes_eq name) key_names) (length key_names))
    (position_or_len (bytes_eq name) key_names) ∙ is_found (bytes_eq name) key_names

-- a name that has no place is no key's
pub absent : (name : List ℕ) → None ≡ position (bytes_eq name) key_names → list_any (bytes_eq name) key_names ≡ false
unfolding is_key
absent name none = sym (is_key-place name) ∙ ap is_some (sym none)
