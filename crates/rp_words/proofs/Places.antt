-- The first fault among words, as a loop over their places comes upon it.
use Rattle.std.proofs.Common.{◌≡◌, ℕ, ◌+◌, ◌<◌, ◌≤◌, List, [], length, get_or, take, drop, Option, None, Some, ap, ◌∙◌, arith}
use Rattle.std.specs.List.{range_with_len}
use Rattle.std.specs.Prelude.{slice_index_or}
use Rattle.std.proofs.lemmas.List.FromFn.{get_or-range_with_len, length-range_with_len}
use Rattle.rp_words.specs.declared.table.Command.{Command}
use Rattle.rp_words.specs.declared.fault.WordFault.{WordFault}
use Rattle.rp_words.specs.Faults.{fault_of}
use Rattle.rp_words.specs.Words.{first_of}
use Rattle.rp_words.proofs.First.{passed, found_here, found_none}

-- what is wrong with the word at a place
abbrev pub fault_at : Command → List (List ℕ) → ℕ → Option WordFault
fault_at command words place = fault_of command (take place words) (slice_index_or words place [])

-- the first fault from a place on
abbrev pub faults_from : Command → List (List ℕ) → ℕ → Option WordFault
faults_from command words place = first_of (fault_at command words) (drop place (range_with_len 0 (length words)))

module _ (command : Command) (words : List (List ℕ)) (place : ℕ) where
  judged : place < length words → fault_at command words (get_or (range_with_len 0 (length words)) place 0) ≡ fault_at command words place
  judged within =
      let same : 0 + place ≡ place = omega arith in
      ap (fault_at command words) (get_or-range_with_len 0 (length words) place 0 within ∙ same)

  within_range : place < length words → place < length (range_with_len 0 (length words))
  within_range within = omega (arith, length-range_with_len 0 (length words))

  pub passed_place : place < length words → fault_at command words place ≡ None → faults_from command words place ≡ faults_from command words (place + 1)
  passed_place within none =
      passed (fault_at command words) (range_with_len 0 (length words)) place 0 (within_range within) (judged within ∙ none)

  pub found_place : place < length words → (fault : WordFault) → fault_at command words place ≡ Some fault → faults_from command words place ≡ Some fault
  found_place within fault some =
      found_here (fault_at command words) (range_with_len 0 (length words)) place 0 (within_range within) fault (judged within ∙ some)

  pub no_place : length words ≤ place → faults_from command words place ≡ None
  no_place past =
      found_none (fault_at command words) (range_with_len 0 (length words)) place (omega (arith, length-range_with_len 0 (length words)))
