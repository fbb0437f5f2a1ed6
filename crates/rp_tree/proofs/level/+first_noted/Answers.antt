-- The levels above, then the lowest one.
use Rattle.std.proofs.Common.{◌≡◌, ◌-◌, List, ℕ, Option, length, take, drop, ◌∙◌, arith, length-drop}
use Rattle.std.proofs.lemmas.List.{take_all}
use Rattle.rp_verity.specs.Tree.{runs}
use Rattle.rp_tree.proofs.StandingLemmas.{noted-first, noted-none}
use Rattle.rp_tree.proofs.level.+first_noted.Goals as goal

pub returns-then-levels-le1 : goal.returns-then-levels-le1
returns-then-levels-le1 t c image salt hash total room stands = noted-none image salt hash c.args.levels total c.if-levels-le1.true

pub returns : goal.returns
returns t c image salt hash total room stands =
    let notes : List (Option ℕ) = c.args.notes.now in
    let rest : take (length notes - 1) (drop 1 notes) ≡ drop 1 notes = take_all (length notes - 1) (drop 1 notes) (omega (arith, length-drop 1 notes)) in
    c.or.ensures
    ∙ noted-first image salt hash c.args.levels total room notes c.first_noted.result (omega (arith, c.if-levels-le1.false))
    (λ above. c.first_noted.ensures image salt hash (runs total) (drop 4096 room) (rw rest above)) stands
