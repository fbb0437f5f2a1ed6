-- The line of an image that is too long, by its pieces.
use Rattle.std.proofs.Common.{ℕ, ◌≡◌, ◌++◌, ◌∙◌, List, [], Result, Ok, Err, OnOk, OnErr, refl, sym, ap, subst, inl, inr, append-nil, arith}
use Rattle.std.proofs.lemmas.Fmt.{decimal_digit}
use Rattle.std.specs.Fmt.{decimal}
use Rattle.std.specs.Prelude.{codes}
use Rattle.rp_base.specs.declared.faults.Failed.{Failed}
use Rattle.rp_outcome.specs.Output.{Output, Prints, PrintsAll, PrintsPart, Refuses}
use Rattle.rp_outcome.specs.Refusals.{line_of}
use Rattle.rp_make_room.specs.Room.{length_refusal}

line_is : (len : ℕ) (number : List ℕ) → number ≡ decimal len
    → codes "error 4 MakeLength " ++ (number ++ (codes "\n" ++ [])) ≡ line_of (length_refusal len)
unfolding line_of
line_is len number is = rw is (sym
    (ap (λ (d : List ℕ). codes "error " ++ ((d ++ (codes " MakeLength " ++ (decimal len ++ []))) ++ codes "\n")) (decimal_digit 4 (omega arith))
    ∙ ap (λ (d : List ℕ). codes "error 4 MakeLength " ++ (d ++ codes "\n")) (append-nil (decimal len))))

printed_as : (out after : Output) (text : List ℕ) (result : Result (Unit {0}) Failed) → OnOk result (PrintsAll out after text)
    → OnErr result (PrintsPart out after text) → Prints out after text
printed_as out after text (Ok done) all part = inl all
printed_as out after text (Err failed) all part = inr part

-- the line was printed, as far as the sink took it
pub refuses_length : (len : ℕ) (number : List ℕ) (out after : Output) (result : Result (Unit {0}) Failed) → number ≡ decimal len
    → OnOk result (PrintsAll out after (codes "error 4 MakeLength " ++ (number ++ (codes "\n" ++ []))))
    → OnErr result (PrintsPart out after (codes "error 4 MakeLength " ++ (number ++ (codes "\n" ++ []))))
    → Refuses out after (length_refusal len) 4
refuses_length len number out after result is all part = record {
  answers = refl;
  printed = subst (Prints out after) (line_is len number is) (printed_as out after _ result all part);
}
