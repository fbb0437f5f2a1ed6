-- The values of keys as the code keeps them are what the keys say.
use Rattle.std.proofs.Common.{◌≡◌, ℕ, List, [], ◌∷◌, ◌++◌, Bool, true, false, cond, Option, Some, None, Ok, Err, map, refl, ap}
use Rattle.std.proofs.Common.{sym, ◌∙◌}
use Rattle.std.specs.Prelude.{find, reverse, option_map}
use Rattle.std.specs.Option.{option_and_then}
use Rattle.std.specs.Str.{bytes_eq}
use Rattle.std.proofs.lemmas.List.{map-append, reverse-append}
use Rattle.rp_types.proofs.Finding.{find-map}
use Rattle.rp_ini.specs.Lines.{Section, assigns_of}
use Rattle.rp_ini.specs.declared.assign.Assign.{Assign}
use Rattle.rp_files.specs.declared.piece.Piece.{Piece}
use Rattle.rp_defs.specs.declared.setting.Setting.{Setting}
use Rattle.rp_defs.specs.declared.value.Value.{Value}
use Rattle.rp_defs.specs.Kept as kept
use Rattle.rp_defs.specs.Settings.{Placed, placed_in, counting, unless_empty, partition, all_placed}
use Rattle.rp_defs.specs.Said.{Said}
use Rattle.rp_defs.specs.Stated.{said_at}
use Rattle.rp_defs.specs.Values.{kept_as, read_at}

-- an assignment as the code keeps it
abbrev pub setting_kept : Placed → Setting
setting_kept placed = record { part = placed.0.part; value = placed.1.value; line = placed.1.line }

abbrev pub keyed_kept : Placed → kept.Keyed
keyed_kept placed = (placed.1.key, setting_kept placed)

map_reverse : {A B : Type 0} (f : A → B) (xs : List A) → reverse (map f xs) ≡ map f (reverse xs)
map_reverse f [] = refl
map_reverse f (x ∷ xs) =
    reverse-append (f x ∷ []) (map f xs) ∙ ap (λ ys. ys ++ f x ∷ []) (map_reverse f xs) ∙ sym (map-append f (reverse xs) (x ∷ []))
    ∙ ap (map f) (sym (reverse-append (x ∷ []) xs))

kept_unless : (b : Bool) (placed : Placed) → cond b None (Some (setting_kept placed)) ≡ option_map setting_kept (cond b None (Some placed))
kept_unless true placed = refl
kept_unless false placed = refl

kept_found : (found : Option Placed)
    → option_and_then kept.unless_empty (option_map keyed_kept found) ≡ option_map setting_kept (option_and_then unless_empty found)
kept_found None = refl
kept_found (Some placed) = kept_unless _ placed

-- the setting that counts is that of the assignment that counts
pub counting_kept : (all : List Placed) (name : List ℕ)
    → kept.counting (map keyed_kept all) name ≡ option_map setting_kept (counting all name)
counting_kept all name =
    ap (λ (sets : List kept.Keyed). option_and_then kept.unless_empty (find (λ (s : kept.Keyed). bytes_eq s.0 name) sets))
    (map_reverse keyed_kept all)
    ∙ ap (option_and_then kept.unless_empty) (find-map keyed_kept (λ (s : kept.Keyed). bytes_eq s.0 name) (reverse all))
    ∙ kept_found (find (λ (placed : Placed). bytes_eq placed.1.key name) (reverse all))

map_map : {A B C : Type 0} (f : B → C) (g : A → B) (xs : List A) → map f (map g xs) ≡ map (λ x. f (g x)) xs
map_map f g [] = refl
map_map f g (x ∷ xs) = ap (λ ys. f (g x) ∷ ys) (map_map f g xs)

pub all_kept : (read : List (Piece × List Section)) → kept.all_keyed read ≡ map keyed_kept (all_placed read)
all_kept [] = refl
all_kept (one ∷ read) =
    ap (λ (sets : List kept.Keyed). kept.keyed_in one ++ sets) (all_kept read)
    ∙ ap (λ (sets : List kept.Keyed). sets ++ map keyed_kept (all_placed read))
    (sym (map_map keyed_kept (λ (a : Assign). (one.0, a)) (assigns_of one.1 partition)))
    ∙ sym (map-append keyed_kept (placed_in one) (all_placed read))

-- what is read of the setting of an assignment
pub read_kept : {T : Type 0} (make : T → Value) (file : List ℕ) (placed : Placed) (said : Said T)
    → read_at file (setting_kept placed) (kept_as make said) ≡ kept_as make (said_at file placed said)
read_kept make file placed (Ok value) = refl
read_kept make file placed (Err kind) = refl

-- a value of the code says what it was made of
pub said_back : {T : Type 0} (make : T → Value) (back : Value → Option T) → ((x : T) → back (make x) ≡ Some x)
    → (said : Option T) → option_and_then back (option_map make said) ≡ said
said_back make back is None = refl
said_back make back is (Some x) = is x
