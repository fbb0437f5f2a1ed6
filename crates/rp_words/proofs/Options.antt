-- The search in the table of options is the search in what it lends.
use Rattle.std.proofs.Common.{◌≡◌, ℕ, List, map, sym, ap, ◌∙◌, Bor}
use Rattle.std.proofs.lemmas.List.Folds.{flat_map-map}
use Rattle.std.specs.List.{flat_map}
use Rattle.rp_words.specs.declared.table.Command.{Command}
use Rattle.rp_words.specs.declared.table.Opt.{Opt}
use Rattle.rp_words.specs.declared.table.OptionRow.{OptionRow}
use Rattle.rp_words.specs.Faults.{called, wanting}
use Rattle.rp_words.specs.Entry.{own}
use Rattle.rp_words.specs.Table.{Entry, option_entry, options}
use Rattle.rp_words.specs.Words.{first_of}
use Rattle.rp_words.proofs.First.{first_in_map}

pub called_in : (name : List ℕ) (lent : List (Bor (List ℕ) × Bor (List ℕ) × Bor (List ℕ) × OptionRow × Bor (List ℕ))) → map option_entry lent ≡ options
    → first_of (called name) options ≡ first_of (λ entry. called name (option_entry entry)) lent
called_in name lent e = ap (first_of (called name)) (sym e) ∙ first_in_map (called name) option_entry lent

pub wanting_in : (command : Command) (words : List (List ℕ)) (lent : List (Bor (List ℕ) × Bor (List ℕ) × Bor (List ℕ) × OptionRow × Bor (List ℕ))) → map option_entry lent ≡ options
    → first_of (wanting command words) options ≡ first_of (λ entry. wanting command words (option_entry entry)) lent
wanting_in command words lent e = ap (first_of (wanting command words)) (sym e) ∙ first_in_map (wanting command words) option_entry lent

pub own_in : (option : Opt) (lent : List (Bor (List ℕ) × Bor (List ℕ) × Bor (List ℕ) × OptionRow × Bor (List ℕ))) → map option_entry lent ≡ options
    → first_of (own option) options ≡ first_of (λ entry. own option (option_entry entry)) lent
own_in option lent e = ap (first_of (own option)) (sym e) ∙ first_in_map (own option) option_entry lent

-- the pieces of all options, from what the table lends
pub options_pieces : (f : Entry → List ℕ) (lent : List (Bor (List ℕ) × Bor (List ℕ) × Bor (List ℕ) × OptionRow × Bor (List ℕ))) → map option_entry lent ≡ options
    → flat_map f options ≡ flat_map (λ entry. f (option_entry entry)) lent
options_pieces f lent e = ap (flat_map f) (sym e) ∙ flat_map-map f option_entry lent
