-- A group of pieces is a main file with the drop-ins behind it.
use Rattle.std.proofs.Common.{◌≡◌, ℕ, suc, ◌+◌, ◌-◌, ◌<◌, ◌≤◌, Bool, true, false, cond, List, [], ◌∷◌, length, get_or, take, drop, refl, ap}
use Rattle.std.proofs.Common.{sym, ◌∙◌, arith, eqb, length-drop}
use Rattle.std.specs.Prelude.{not}
use Rattle.std.specs.List.{prefix_len}
use Rattle.std.proofs.lemmas.List.{drop_more, drop-drop, get_or-drop}
use Rattle.std.proofs.lemmas.List.Sums.{prefix_len_is}
use Rattle.rp_files.specs.declared.piece.Piece.{Piece}
use Rattle.rp_defs.specs.Drafting.{is_part}
use Rattle.rp_defs.specs.Settings.{before_groups, groups_of}

no_piece : Piece
no_piece = record { file = []; part = []; bytes = [] }

-- the group of the first piece, and those behind it
abbrev behind : Piece → List Piece → ℕ → List (List Piece)
behind piece pieces n = (piece ∷ take n pieces) ∷ groups_of (drop n pieces)

groups_step : (piece next : Piece) (pieces : List Piece) (n : ℕ) (main : Bool) → eqb (length next.part) 0 ≡ main
    → groups_of (next ∷ pieces) ≡ behind next pieces n
    → before_groups piece (groups_of (next ∷ pieces)) ≡ behind piece (next ∷ pieces) (cond (not main) (1 + n) 0)
groups_step piece next pieces n true is rest =
    let groups : List (List Piece) = groups_of (drop n pieces) in
    ap (before_groups piece) rest
    ∙ ap (λ (b : Bool). cond b ((piece ∷ []) ∷ (next ∷ take n pieces) ∷ groups) ((piece ∷ next ∷ take n pieces) ∷ groups)) is
    ∙ ap (λ (gs : List (List Piece)). (piece ∷ []) ∷ gs) (sym rest)
groups_step piece next pieces n false is rest =
    let groups : List (List Piece) = groups_of (drop n pieces) in
    let one : 1 + n ≡ suc n = omega arith in
    ap (before_groups piece) rest
    ∙ ap (λ (b : Bool). cond b ((piece ∷ []) ∷ (next ∷ take n pieces) ∷ groups) ((piece ∷ next ∷ take n pieces) ∷ groups)) is
    ∙ ap (λ m. behind piece (next ∷ pieces) m) (sym one)

groups_first : (piece : Piece) (pieces : List Piece) → groups_of (piece ∷ pieces) ≡ behind piece pieces (prefix_len is_part pieces)
unfolding groups_of
groups_first piece [] = refl
groups_first piece (next ∷ pieces) =
    groups_step piece next pieces (prefix_len is_part pieces) (eqb (length next.part) 0) refl (groups_first next pieces)

-- the group at a place that ends before the next main file
pub groups_at : (pieces : List Piece) (start end : ℕ) → start < length pieces
    → end ≡ start + 1 + prefix_len is_part (drop (start + 1) pieces)
    → groups_of (drop start pieces) ≡ take (end - start) (drop start pieces) ∷ groups_of (drop end pieces)
groups_at pieces start end within is =
    let rest : List Piece = drop (start + 1) pieces in
    let n : ℕ = prefix_len is_part rest in
    let piece : Piece = get_or pieces start no_piece in
    let split : drop start pieces ≡ piece ∷ rest = drop_more pieces start no_piece within in
    let size : suc n ≡ end - start = omega (arith, is) in
    let ends : start + 1 + n ≡ end = sym is in
    ap groups_of split ∙ groups_first piece rest
    ∙ ap (λ (m : ℕ). take m (piece ∷ rest) ∷ groups_of (drop n rest)) size
    ∙ ap (λ (ps : List Piece). take (end - start) ps ∷ groups_of (drop n rest)) (sym split)
    ∙ ap (λ (ps : List Piece). take (end - start) (drop start pieces) ∷ groups_of ps)
    (drop-drop n (start + 1) pieces ∙ ap (λ m. drop m pieces) ends)

-- a loop over the drop-ins behind a piece finds the end of its group
pub end_is : (pieces : List Piece) (start place : ℕ) → start + 1 ≤ place → place ≤ length pieces
    → ((k : ℕ) (d : Piece) → start < k → k < place → is_part (get_or pieces k d) ≡ true)
    → (place < length pieces → (d : Piece) → is_part (get_or pieces place d) ≡ false)
    → place ≡ start + 1 + prefix_len is_part (drop (start + 1) pieces)
end_is pieces start place after within parts main =
    let rest : List Piece = drop (start + 1) pieces in
    let n : ℕ = place - (start + 1) in
    let size : length rest ≡ length pieces - (start + 1) = length-drop (start + 1) pieces in
    let there : start + 1 + n ≡ place = omega arith in
    let is : prefix_len is_part rest ≡ n =
    prefix_len_is is_part rest n no_piece (omega (arith, size))
    (λ k below. ap is_part (get_or-drop (start + 1) pieces k no_piece) ∙ parts (start + 1 + k) no_piece (omega arith) (omega arith))
    (λ below. ap is_part (get_or-drop (start + 1) pieces n no_piece ∙ ap (λ m. get_or pieces m no_piece) there)
    ∙ main (omega (arith, size)) no_piece) in
    omega (arith, is, there)
