-- A setting that counts has a value, and there is a place for each key.
use Rattle.std.proofs.Common.{◌≡◌, ◌≢◌, ℕ, List, [], ◌∷◌, Bool, true, false, cond, eqb, get_or, length, Option, Some, None, Result, Ok, Err}
use Rattle.std.proofs.Common.{inl, inr, refl, subst}
use Rattle.std.specs.Prelude.{All, find, reverse}
use Rattle.std.specs.Option.{option_and_then}
use Rattle.std.specs.Str.{bytes_eq}
use Rattle.std.proofs.lemmas.List.Elements.{All-map}
use Rattle.rp_base.specs.Answers.{Gives}
use Rattle.rp_ini.specs.Lines.{Section}
use Rattle.rp_files.specs.declared.piece.Piece.{Piece}
use Rattle.rp_defs.specs.declared.fault.DefFault.{DefFault}
use Rattle.rp_defs.specs.declared.sections.Settings.{Settings}
use Rattle.rp_defs.specs.declared.setting.Setting.{Setting}
use Rattle.rp_defs.specs.Answers.{after}
use Rattle.rp_defs.specs.Faults.{no_memory}
use Rattle.rp_defs.specs.Keys.{key_names}
use Rattle.rp_defs.specs.Kept.{IsSet, Keyed, all_keyed, counting, counting_of, unless_empty}
use Rattle.rp_defs.specs.Settings.{all_ignored, read_pieces}

value_there : (value : List ℕ) → eqb (length value) 0 ≡ false → value ≢ []
value_there [] is = absurd (cc)
value_there (byte ∷ bytes) is = λ empty. cc

unless_empty_set : (set : Keyed) → IsSet (unless_empty set)
unless_empty_set set = by_test (eqb (length set.1.value) 0) refl where
  by_test : (b : Bool) → eqb (length set.1.value) 0 ≡ b → IsSet (cond b None (Some set.1))
  by_test true is = tt
  by_test false is = value_there set.1.value is

counting_set : (all : List Keyed) (name : List ℕ) → IsSet (counting all name)
counting_set all name = by_find (find (λ set. bytes_eq set.0 name) (reverse all)) where
  by_find : (found : Option Keyed) → IsSet (option_and_then unless_empty found)
  by_find None = tt
  by_find (Some set) = unless_empty_set set

-- a setting that counts has a value
pub counting_of_set : (all : List Keyed) → All IsSet (counting_of all)
unfolding counting_of
counting_of_set all = All-map IsSet (counting all) key_names (λ k d within. counting_set all (get_or key_names k d))

-- there is a place for each of the 26 keys
pub length-counting_of : (all : List Keyed) → length (counting_of all) ≡ 26
unfolding counting_of
length-counting_of all = refl

abbrev Read : Type 0
Read = List (Piece × List Section)

-- the same of the settings that pieces give
pub settings_set : (pieces : List Piece) (settings : Settings)
    → Gives no_memory
    (after (read_pieces pieces) (λ read. Ok (record { counting = counting_of (all_keyed read); ignored = all_ignored read })))
    (Ok settings)
    → All IsSet settings.counting
settings_set pieces settings gives = by_read (read_pieces pieces) gives where
  by_counting : (all : List Keyed) → counting_of all ≡ settings.counting → All IsSet settings.counting
  by_counting all same = subst (λ (counting : List (Option Setting)). All IsSet counting) same (counting_of_set all)

  by_read : (told : Result Read DefFault)
      → Gives no_memory (after told (λ read. Ok (record { counting = counting_of (all_keyed read); ignored = all_ignored read })))
      (Ok settings)
      → All IsSet settings.counting
  by_read (Ok read) (inl is) = by_counting (all_keyed read) (cc)
  by_read (Ok read) (inr is) = absurd (cc)
  by_read (Err fault) (inl is) = absurd (cc)
  by_read (Err fault) (inr is) = absurd (cc)
