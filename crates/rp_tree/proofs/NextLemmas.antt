-- A block of the lowest level, with those above it that are wanted.
use Rattle.std.proofs.Common.{◌≡◌, ◌≢◌, ℕ, ◌+◌, ◌-◌, ◌/◌, ◌%◌, ◌≤◌, List, [], ◌∷◌, ◌++◌, Option, None, Result, Ok, length, drop, get_or, refl, ◌∙◌, arith}
use Rattle.std.specs.Prelude.{OnOk}
use Rattle.rp_base.specs.declared.faults.Failed.{Failed}
use Rattle.rp_base.specs.declared.table.Row.{Row}
use Rattle.rp_verity.specs.Tree.{runs}
use Rattle.rp_tree.specs.Standing.{IsNoted, IsShape, Stands}
use Rattle.rp_tree.proofs.StandingLemmas.{drop-front, shape-next, stands-parts}

-- what the call that reads the lowest block does, where those above it stand, and what the one does that reads those too
abbrev pub OwnGoes : List ℕ → List ℕ → Row → ℕ → ℕ → ℕ → List ℕ → List (Option ℕ) → Result (Unit {0}) Failed → List ℕ → List (Option ℕ) → Type 0
OwnGoes image salt hash levels total index room notes result after noted =
    IsNoted image salt hash levels total index notes
    → Stands image salt hash (levels - 1) (runs total) (index / 128 + 1) (drop 4096 room) (drop 1 notes)
    → OnOk result (Stands image salt hash levels total (index + 1) after noted)

abbrev pub NextGoes : List ℕ → List ℕ → Row → ℕ → ℕ → ℕ → List ℕ → List (Option ℕ) → Result (Unit {0}) Failed → List ℕ → List (Option ℕ) → Type 0
NextGoes image salt hash levels total index room notes result after noted =
    Stands image salt hash levels total index room notes
    → OnOk result (Stands image salt hash levels total (index + 1) after noted)

pub next-short : (image salt : List ℕ) (hash : Row) (levels total index : ℕ) (room : List ℕ) (notes : List (Option ℕ))
    (result : Result (Unit {0}) Failed) (after : List ℕ) (noted : List (Option ℕ)) → 2 ≤ levels → index % 128 ≢ 0
    → OwnGoes image salt hash levels total index room notes result after noted → NextGoes image salt hash levels total index room notes result after noted
next-short image salt hash levels total index room notes result after noted more short own stands =
    let parts = stands-parts image salt hash levels total index room notes more stands in
    let reached : runs index ≡ index / 128 + 1 = omega arith in
    own parts.0 (rw reached at parts.1)

first-of : (mine more other : List (Option ℕ)) → length mine ≡ 1 → get_or (mine ++ more) 0 None ≡ get_or (mine ++ other) 0 None
first-of [] more other one = absurd (omega arith)
first-of (entry ∷ notes) more other one = refl

behind-first : (mine more : List (Option ℕ)) → length mine ≡ 1 → drop 1 (mine ++ more) ≡ more
behind-first [] more one = absurd (omega arith)
behind-first (entry ∷ []) more one = refl
behind-first (entry ∷ other ∷ notes) more one = absurd (omega arith)

pub next-long : (image salt : List ℕ) (hash : Row) (levels total index : ℕ) (block below above : List ℕ)
    (mine lower higher : List (Option ℕ)) (done : Unit {0}) (result : Result (Unit {0}) Failed) (after : List ℕ) (noted : List (Option ℕ))
    → 2 ≤ levels → length block ≡ 4096 → length mine ≡ 1 → index % 128 ≡ 0
    → NextGoes image salt hash (levels - 1) (runs total) (index / 128) below lower (Ok done) above higher
    → OwnGoes image salt hash levels total index (block ++ above) (mine ++ higher) result after noted
    → NextGoes image salt hash levels total index (block ++ below) (mine ++ lower) result after noted
next-long image salt hash levels total index block below above mine lower higher done result after noted more long one full inner own stands =
    let parts = stands-parts image salt hash levels total index (block ++ below) (mine ++ lower) more stands in
    let reached : runs index ≡ index / 128 = omega arith in
    let rest : Stands image salt hash (levels - 1) (runs total) (index / 128) below lower =
    rw (reached, drop-front block below long, behind-first mine lower one) at parts.1 in
    own (first-of mine higher lower one ∙ parts.0) (rw (drop-front block above long, behind-first mine higher one) (inner rest))

-- the levels above have their shape, as the code hands them over
pub shape-call : (hash : Row) (levels total count room notes above higher : ℕ) → 2 ≤ levels → count ≡ runs total → above ≡ room - 4096 → higher ≡ notes - 1
    → IsShape hash levels total room notes → IsShape hash (levels - 1) count above higher
shape-call hash levels total count room notes above higher more is above_is higher_is shape =
    rw (is, above_is, higher_is) (shape-next hash levels total room notes more shape)
