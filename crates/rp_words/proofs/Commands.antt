-- What is said of the table of commands is said of what it lends.
use Rattle.std.proofs.Common.{◌≡◌, ℕ, List, [], ◌∷◌, Bool, ◌||◌, map, refl, sym, ap, ◌∙◌, Bor}
use Rattle.std.proofs.lemmas.List.Folds.{flat_map-map}
use Rattle.std.specs.List.{flat_map, list_any}
use Rattle.rp_words.specs.declared.table.CommandRow.{CommandRow}
use Rattle.rp_words.specs.Line.{named}
use Rattle.rp_words.specs.Table.{CommandEntry, command_entry, commands}
use Rattle.rp_words.specs.Words.{first_of}
use Rattle.rp_words.proofs.First.{first_in_map}

pub named_in : (name : List ℕ) (lent : List (Bor (List ℕ) × CommandRow × Bor (List ℕ))) → map command_entry lent ≡ commands
    → first_of (named name) commands ≡ first_of (λ entry. named name (command_entry entry)) lent
named_in name lent e = ap (first_of (named name)) (sym e) ∙ first_in_map (named name) command_entry lent

-- the pieces of all commands
pub commands_pieces : (f : CommandEntry → List ℕ) (lent : List (Bor (List ℕ) × CommandRow × Bor (List ℕ))) → map command_entry lent ≡ commands
    → flat_map f commands ≡ flat_map (λ entry. f (command_entry entry)) lent
commands_pieces f lent e = ap (flat_map f) (sym e) ∙ flat_map-map f command_entry lent

any_in_map : {W X : Type 0} (p : X → Bool) (g : W → X) (xs : List W) → list_any p (map g xs) ≡ list_any (λ x. p (g x)) xs
any_in_map p g [] = refl
any_in_map p g (x ∷ xs) = ap (λ b. p (g x) || b) (any_in_map p g xs)

-- whether one of all commands passes a test
pub any_command : (p : CommandEntry → Bool) (lent : List (Bor (List ℕ) × CommandRow × Bor (List ℕ))) → map command_entry lent ≡ commands
    → list_any p commands ≡ list_any (λ entry. p (command_entry entry)) lent
any_command p lent e = ap (list_any p) (sym e) ∙ any_in_map p command_entry lent
