-- The settings that count after one more assignment: the place of its key takes it.
use Rattle.std.proofs.Common.{◌≡◌, ℕ, suc, ◌+◌, ◌<◌, List, [], ◌∷◌, ◌++◌, Bool, true, false, cond, ◌||◌, not, Option, Some, None, length}
use Rattle.std.proofs.Common.{map, take, get_or, position, refl, ap, sym, ◌∙◌, arith, append_assoc}
use Rattle.std.specs.Prelude.{find, reverse}
use Rattle.std.specs.List.{list_any, position_or_len}
use Rattle.std.specs.Option.{option_and_then}
use Rattle.std.specs.Str.{bytes_eq}
use Rattle.std.proofs.Math.ListN.{set}
use Rattle.std.proofs.lemmas.Bool.{and_parts, ltb-true, not-true}
use Rattle.std.proofs.lemmas.List.{append-nil, reverse-append, take_more, map-append}
use Rattle.std.proofs.lemmas.Option.{cond_some}
use Rattle.std.proofs.lemmas.Slice.Eq.{bytes_eq-Decides}
use Rattle.rp_files.specs.declared.piece.Piece.{Piece}
use Rattle.rp_ini.specs.declared.assign.Assign.{Assign}
use Rattle.rp_defs.specs.declared.setting.Setting.{Setting}
use Rattle.rp_defs.specs.Keys.{key_names}
use Rattle.rp_defs.specs.Kept.{Keyed, keyed, unless_empty, counting, counting_of}
use Rattle.rp_defs.specs.Counting.{CountsAlso, differ}
use Rattle.rp_defs.proofs.KeyLemmas.{absent}

abbrev MaybeSet : Type 0
MaybeSet = Option Setting

keys_differ : differ key_names ≡ true
keys_differ = refl

kept_at : (b rest : Bool) (value setting : MaybeSet) (now before : List MaybeSet) → (b || rest) ≡ false → (rest ≡ false → now ≡ before)
    → cond b value setting ∷ now ≡ setting ∷ before
kept_at true rest value setting now before h then = absurd (cc)
kept_at false rest value setting now before h then = ap (λ settings. setting ∷ settings) (then h)

-- a key without a place changes none
kept : (key : List ℕ) (value : MaybeSet) (f : List ℕ → MaybeSet) (names : List (List ℕ)) → list_any (bytes_eq key) names ≡ false
    → map (λ name. cond (bytes_eq key name) value (f name)) names ≡ map f names
kept key value f [] h = refl
kept key value f (name ∷ names) h =
    kept_at (bytes_eq key name) (list_any (bytes_eq key) names) value (f name) _ _ h (kept key value f names)

taken_at : (b : Bool) (m size : ℕ) (value setting : MaybeSet) (now before : List MaybeSet) → cond (not b) (1 + m) 0 < suc size
    → (b ≡ true → now ≡ before) → (m < size → now ≡ set before m value)
    → cond b value setting ∷ now ≡ set (setting ∷ before) (cond (not b) (1 + m) 0) value
taken_at true m size value setting now before lt same then = ap (λ settings. value ∷ settings) (same refl)
taken_at false m size value setting now before lt same then = let e : 1 + m ≡ suc m =
    omega arith in rw e (ap (λ settings. setting ∷ settings) (then (omega arith)))

-- a key with a place changes that one alone
taken : (key : List ℕ) (value : MaybeSet) (f : List ℕ → MaybeSet) (names : List (List ℕ)) → differ names ≡ true
    → position_or_len (bytes_eq key) names < length names
    → map (λ name. cond (bytes_eq key name) value (f name)) names ≡ set (map f names) (position_or_len (bytes_eq key) names) value
taken key value f [] apart lt = absurd (omega arith)
taken key value f (name ∷ names) apart lt =
    let parts = and_parts _ _ apart in
    taken_at (bytes_eq key name) (position_or_len (bytes_eq key) names) (length names) value (f name) _ _ lt
    (λ same. kept key value f names (ap (λ k. list_any (bytes_eq k) names) ((bytes_eq-Decides key name).0 same) ∙ not-true _ parts.0))
    (taken key value f names parts.1)

chosen : (b : Bool) (one : Keyed) (others : Option Keyed)
    → option_and_then unless_empty (cond b (Some one) others) ≡ cond b (unless_empty one) (option_and_then unless_empty others)
chosen true one others = refl
chosen false one others = refl

-- the last assignment of a name counts
counting-push : (all : List Keyed) (one : Keyed) (name : List ℕ)
    → counting (all ++ one ∷ []) name ≡ cond (bytes_eq one.0 name) (unless_empty one) (counting all name)
counting-push all one name =
    ap (λ (sets : List Keyed). option_and_then unless_empty (find (λ (s : Keyed). bytes_eq s.0 name) sets)) (reverse-append all (one ∷ []))
    ∙ chosen (bytes_eq one.0 name) one (find (λ (s : Keyed). bytes_eq s.0 name) (reverse all))

map_same : {A B : Type 0} (f g : A → B) (xs : List A) → ((x : A) → f x ≡ g x) → map f xs ≡ map g xs
map_same f g [] h = refl
map_same f g (x ∷ xs) h = ap (λ y. y ∷ map f xs) (h x) ∙ ap (λ ys. g x ∷ ys) (map_same f g xs h)

counting_of-push : (all : List Keyed) (one : Keyed)
    → counting_of (all ++ one ∷ []) ≡ map (λ name. cond (bytes_eq one.0 name) (unless_empty one) (counting all name)) key_names
unfolding counting_of
counting_of-push all one =
    map_same (counting (all ++ one ∷ [])) (λ name. cond (bytes_eq one.0 name) (unless_empty one) (counting all name)) key_names
    (counting-push all one)

-- an assignment of an unknown key counts nowhere
pub counts_unknown : (one : Keyed) (settings : List MaybeSet) → None ≡ position (bytes_eq one.0) key_names
    → CountsAlso (one ∷ []) settings settings
unfolding counting_of
counts_unknown one settings none earlier was =
    was ∙ sym (kept one.0 (unless_empty one) (counting earlier) key_names (absent one.0 none)) ∙ sym (counting_of-push earlier one)

-- an assignment of a key counts in its place
pub counts_known : (one : Keyed) (settings now : List MaybeSet) (place : ℕ) → Some place ≡ position (bytes_eq one.0) key_names
    → now ≡ set settings place (unless_empty one) → CountsAlso (one ∷ []) settings now
unfolding counting_of
counts_known one settings now place found is earlier was =
    let parts = cond_some _ _ _ (sym found) in
    is ∙ ap (λ (s : List MaybeSet). set s place (unless_empty one)) was
    ∙ ap (λ p. set (counting_of earlier) p (unless_empty one)) (sym parts.1)
    ∙ sym (taken one.0 (unless_empty one) (counting earlier) key_names keys_differ (ltb-true _ _ parts.0))
    ∙ sym (counting_of-push earlier one)

pub place_within : (key : List ℕ) (place : ℕ) → Some place ≡ position (bytes_eq key) key_names → place < 26
place_within key place found =
    let parts = cond_some _ _ _ (sym found) in let lt = ltb-true _ _ parts.0 in omega (arith, lt, parts.1)

pub counts_then : (first second : List Keyed) (settings then now : List MaybeSet) → CountsAlso first settings then
    → CountsAlso second then now → CountsAlso (first ++ second) settings now
counts_then first second settings then now a b earlier was = b (earlier ++ first) (a earlier was)
    ∙ ap counting_of (append_assoc earlier first second)

pub counts_none : (settings : List MaybeSet) → CountsAlso [] settings settings
counts_none settings earlier was = was ∙ ap counting_of (sym (append-nil earlier))

-- one more of some assignments
pub counts_more : (piece : Piece) (assigns : List Assign) (i : ℕ) (assign : Assign) (settings then now : List MaybeSet) → i < length assigns
    → assign ≡ get_or assigns i assign
    → CountsAlso (map (keyed piece) (take i assigns)) settings then → CountsAlso (keyed piece assign ∷ []) then now
    → CountsAlso (map (keyed piece) (take (i + 1) assigns)) settings now
counts_more piece assigns i assign settings then now lt is a b earlier was =
    counts_then (map (keyed piece) (take i assigns)) (keyed piece assign ∷ []) settings then now a b earlier was
    ∙ ap (λ (sets : List Keyed). counting_of (earlier ++ sets))
    (sym (ap (map (keyed piece)) (take_more assigns i assign lt ∙ ap (λ (x : Assign). take i assigns ++ x ∷ []) (sym is))
    ∙ map-append (keyed piece) (take i assigns) (assign ∷ [])))
