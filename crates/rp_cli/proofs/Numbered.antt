-- The number of a line is at most 100.
use Rattle.std.proofs.Common.{ℕ, ◌≡◌, ◌≤◌, List, [], ◌∷◌, Bool, true, false, ◌&&◌, ◌==◌, cond, leb, Option, Some, None, Result, Ok, Err, if◌then◌else◌, refl, sym, ap, subst, arith}
use Rattle.std.specs.Prelude.{codes, not, option_map, slice_index}
use Rattle.std.specs.Option.{unwrap_or}
use Rattle.std.proofs.lemmas.Bool.{leb-true}
use Rattle.rp_values.specs.Numbers.{at_most, number_of}
use Rattle.rp_words.specs.declared.line.Line.{Line}
use Rattle.rp_words.specs.declared.fault.WordFault.{WordFault}
use Rattle.rp_words.specs.declared.fault.WordFault.TheVariants.{Missing, NoImage}
use Rattle.rp_words.specs.Faults.{first_fault, missing}
use Rattle.rp_words.specs.Line.{command_of, line_behind, line_by, line_of, line_with, options_in, unless, value_or}
use Rattle.rp_words.specs.Values.{number_in}
use Rattle.rp_words.specs.Words.{is_image, last_of}

by_test : (n : ℕ) (b : Bool) → leb n 100 ≡ b → unwrap_or (cond b (Some n) None) 0 ≤ 100
by_test n true e = leb-true n 100 e
by_test n false e = omega arith

at_most_is : (number : Option ℕ) → unwrap_or (at_most 100 number) 0 ≤ 100
at_most_is None = omega arith
at_most_is (Some n) = by_test n (leb n 100) refl

number_is : (text : List ℕ) → unwrap_or (number_in text) 0 ≤ 100
number_is text = go (slice_index text 0 == 48) where
  go : (b : Bool) → unwrap_or (if b then None else at_most 100 (number_of text)) 0 ≤ 100
  go true = omega arith
  go false = at_most_is (number_of text)

behind_row : (row : _) (words : List (List ℕ)) (line : Line) → line_with row words ≡ Ok line → line.number ≤ 100
behind_row row words line e =
    go (first_fault row.command (options_in row.image words)) (option_map (λ option. Missing option) (missing row.command words))
    (row.image && not (is_image (last_of words))) e where
      its : line_by row.command words ≡ line → line.number ≤ 100
      its e = subst (λ (n : ℕ). n ≤ 100) (ap (λ (line : Line). line.number) e) (number_is (value_or (codes "number") words))

      go : (fault wanting : Option WordFault) (imageless : Bool)
          → unless fault (unless wanting (if imageless then Err NoImage else Ok (line_by row.command words))) ≡ Ok line → line.number ≤ 100
      go (Some fault) wanting imageless e = absurd (cc)
      go None (Some fault) imageless e = absurd (cc)
      go None None true e = absurd (cc)
      go None None false e = its (cc)

pub number_most : (words : List (List ℕ)) (line : Line) → line_of words ≡ Ok line → line.number ≤ 100
number_most [] line e = absurd (cc)
number_most (name ∷ words) line e = go (command_of name) e where
  go : (found : _) → line_behind found words ≡ Ok line → line.number ≤ 100
  go None e = absurd (cc)
  go (Some row) e = behind_row row words line e
