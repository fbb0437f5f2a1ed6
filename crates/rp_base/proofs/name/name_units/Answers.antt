use Rattle.std.proofs.Common.{◌≡◌, ℕ, ◌+◌, List, [], ◌∷◌, ◌++◌, take, set, IsUtf8, refl, sym, ap, subst, ◌∙◌, arith, length-take-le}
use Rattle.std.specs.Str.Iter.{encode_utf16_rest, encode_utf16_pending}
use Rattle.std.proofs.lemmas.List.{append_assoc, append-nil}
use Rattle.rp_base.specs.Name.{units_of}
use Rattle.rp_base.proofs.Units.{HasFront, HasFront-more, units_left, units_left-all, units_left-more, units_left-none, name_of-short, name_of-long, name_of-zero}
use Rattle.rp_base.proofs.name.name_units.Goals as goal
use Rattle.rp_base.proofs.name.name_units.Goals.{then-len-eq-UNITS-via-then-len-eq-UNITS, then-len-eq-UNITS-via-else-len-eq-UNITS+then-unit-eq0}

pub loop-unit-init : goal.loop-unit-init
loop-unit-init c =
    let it = c.into_iter-unit-iterator.result in
    let same = c.into_iter-unit-iterator.ensures.into_iter_gives in
    let rest = ap encode_utf16_rest same ∙ c.encode_utf16-unit-items.ensures.text in
    let pending = ap encode_utf16_pending same ∙ c.encode_utf16-unit-items.ensures.pending in
    record {
      can = tt;
      finite = tt;
      text = subst IsUtf8 (sym rest) c.utf8.text;
      all = units_left-all it c.args.text.now pending rest;
      front = record { long = refl; fits = omega arith; is = refl; nonzero = refl; zeros = refl };
    }

pub returns : goal.returns
returns c =
    let inv = c.loop-unit.invariant in
    let none = units_left-none c.loop-unit.unit-iterator c.in-None.ensures.steps.0 c.in-None.ensures.steps.1 in
    sym (name_of-short c.args.text.now c.loop-unit.units _ c.loop-unit.len inv.front (inv.all ∙ rw (none, append-nil) refl))

pub returns-then-len-eq-UNITS : goal.returns-then-len-eq-UNITS
returns-then-len-eq-UNITS c =
    let inv = c.loop-unit.invariant in
    let units = c.loop-unit.units in
    let len = c.loop-unit.len in
    let unit = c.in-Some.unit in
    let left = units_left c.next.new.self in
    let step = units_left-more c.loop-unit.unit-iterator c.next.new.self unit inv.text c.in-Some.ensures.steps in
    let all : units_of c.args.text.now ≡ take len units ++ unit ∷ left = inv.all ∙ ap (λ xs. take len units ++ xs) step.0 in
    elim c.then-len-eq-UNITS.branch [
      | then-len-eq-UNITS-via-then-len-eq-UNITS w ↦
          sym (name_of-long c.args.text.now (take len units) left unit all (length-take-le len units (omega (arith, inv.front.long, inv.front.fits)) ∙ w.if-len-eq-UNITS.true))
      | then-len-eq-UNITS-via-else-len-eq-UNITS+then-unit-eq0 w ↦
          sym (name_of-zero c.args.text.now (take len units) left (all ∙ ap (λ u. take len units ++ u ∷ left) w.if-unit-eq0.true))
    ]

pub loop-unit-preserved : goal.loop-unit-preserved
loop-unit-preserved c =
    let inv = c.loop-unit.invariant in
    let units = c.loop-unit.units in
    let len = c.loop-unit.len in
    let unit = c.in-Some.unit in
    let left = units_left c.next.new.self in
    let step = units_left-more c.loop-unit.unit-iterator c.next.new.self unit inv.text c.in-Some.ensures.steps in
    let more = HasFront-more units (take len units) len unit inv.front (omega (arith, inv.front.fits)) c.if-unit-eq0.false in
    record {
      can = tt;
      finite = tt;
      text = step.1;
      all =
          inv.all ∙ ap (λ xs. take len units ++ xs) step.0 ∙ sym (append_assoc (take len units) (unit ∷ []) left)
          ∙ ap (λ xs. xs ++ left) (sym more.is);
      front = subst (λ (front : List ℕ). HasFront (set units len unit) front (len + 1)) (sym more.is) more;
    }
