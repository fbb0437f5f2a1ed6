-- How many pieces are added, and how long each is.
use Rattle.std.proofs.Common.{◌≡◌, ℕ, ◌+◌, ◌<◌, List, [], ◌∷◌, ◌++◌, Bool, true, false, cond, Result, Ok, Err, map, length, take, get_or}
use Rattle.std.proofs.Common.{sym, subst, arith}
use Rattle.std.specs.Prelude.{IfOk, ◌==◌}
use Rattle.std.proofs.lemmas.Grind.{common_steps}
use Rattle.std.proofs.lemmas.List.Elements.{All-nil, All-cons, All-append}
use Rattle.rp_files.specs.declared.found.Group.{Group as Kept}
use Rattle.rp_files.specs.declared.piece.Piece.{Piece}
use Rattle.rp_files.specs.declared.fault.LoadFault.{LoadFault}
use Rattle.rp_files.specs.Pieces.{IsShort, count_of}
use Rattle.rp_files.specs.Reading.{AddsAtMost, with_piece}
use Rattle.rp_files.specs.Found.{group_of}

pub adds_more : (m n : ℕ) (before between after : List Piece) → AddsAtMost m before between → AddsAtMost n between after
    → AddsAtMost (m + n) before after
adds_more m n before between after first second = record {
  few = omega (arith, first.few, second.few);
  short = λ all. second.short (first.short all);
}

pub adds_piece : (before after : List Piece) (piece : Piece) → IsShort piece → after ≡ with_piece before piece → AddsAtMost 1 before after
adds_piece before after piece short is =
    subst (λ (pieces : List Piece). AddsAtMost 1 before pieces) (sym is) (chosen (length piece.bytes == 0)) where
      chosen : (b : Bool) → AddsAtMost 1 before (cond b before (before ++ piece ∷ []))
      chosen true = record { few = omega arith; short = λ all. all }
      chosen false = record {
        few = grind (arith, common_steps);
        short = λ all. All-append IsShort before (piece ∷ []) all (All-cons IsShort piece [] short (All-nil IsShort));
      }

-- a main file and then its drop-ins
pub adds_parts : (result : Result (List Piece) LoadFault) (parts count : ℕ) (before between : List Piece) → parts ≡ count
    → AddsAtMost 1 before between → IfOk result (AddsAtMost parts between)
    → IfOk result (AddsAtMost (count + 1) before)
adds_parts (Ok after) parts count before between same main rest = record {
  few = omega (arith, main.few, rest.few, same);
  short = λ all. rest.short (main.short all);
}
adds_parts (Err fault) parts count before between same main rest = tt

count_step : (groups : List Kept) (i : ℕ) (group : Kept) → i < length groups → group ≡ get_or groups i group
    → count_of (map group_of (take (i + 1) groups)) ≡ count_of (map group_of (take i groups)) + (length group.parts.items + 1)
count_step groups i group lt is = grind (arith, common_steps)

-- one group more
pub adds_group : (groups : List Kept) (i : ℕ) (group : Kept) (before between after : List Piece) → i < length groups
    → group ≡ get_or groups i group
    → AddsAtMost (count_of (map group_of (take i groups))) before between → AddsAtMost (length group.parts.items + 1) between after
    → AddsAtMost (count_of (map group_of (take (i + 1) groups))) before after
adds_group groups i group before between after lt is first second =
    rw (count_step groups i group lt is) (adds_more _ _ before between after first second)

pub adds_one : (before : List Piece) (piece : Piece) (result : Result (List Piece) LoadFault) → IsShort piece
    → IfOk result (λ after. after ≡ with_piece before piece) → IfOk result (AddsAtMost 1 before)
adds_one before piece (Ok after) short is = adds_piece before after piece short is
adds_one before piece (Err fault) short is = tt
