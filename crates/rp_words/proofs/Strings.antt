-- The fault at a place of words that are strings.
use Rattle.std.proofs.Common.{◌≡◌, ℕ, ◌<◌, List, [], length, map, get_or, take, sym, ap, ◌∙◌, refl, suc, ◌∷◌, string_bytes, String, Global}
use Rattle.std.specs.List.{take-map}
use Rattle.std.proofs.lemmas.List.{get_or-map}
use Rattle.rp_words.specs.declared.table.Command.{Command}
use Rattle.rp_words.specs.Faults.{fault_of}
use Rattle.rp_words.proofs.Places.{fault_at}

pub fault_at-strings : (command : Command) (words : List (String Global)) (place : ℕ) (word : String Global) (text : List ℕ) → place < length words
    → word ≡ get_or words place word → text ≡ string_bytes word
    → fault_at command (map string_bytes words) place ≡ fault_of command (map string_bytes (take place words)) text
fault_at-strings command words place word text within is read =
    ap (λ before. fault_of command before (get_or (map string_bytes words) place [])) (take-map string_bytes place words)
    ∙ ap (fault_of command (map string_bytes (take place words))) (get_or-map string_bytes words place word [] within ∙ ap string_bytes (sym is) ∙ sym read)

pub length-strings : (words : List (String Global)) → length (map string_bytes words) ≡ length words
length-strings [] = refl
length-strings (word ∷ words) = ap suc (length-strings words)
