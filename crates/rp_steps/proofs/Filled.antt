-- Ranges that calls fill with what is planned for them.
use Rattle.std.proofs.Common.{◌≡◌, ℕ, ◌+◌, ◌-◌, ◌*◌, ◌<◌, ◌≤◌, ◌⊎◌, inl, inr, Bool, true, false, cond, eqb, leb, List, [], ◌∷◌, ◌++◌, length, get_or, replicate, refl, sym, ap, ◌∙◌, subst, arith}
use Rattle.std.proofs.lemmas.Bool.{cases_lt, eqb-true, leb-false}
use Rattle.std.proofs.lemmas.List.{append-nil, get_or-append_right, get_or-replicate, get_or_append_left, length-append, length-replicate}
use Rattle.rp_base.specs.Image.{bytes_at}
use Rattle.rp_base.specs.declared.plan.Plan.{Plan}
use Rattle.rp_base.specs.declared.plan.Role.{Role}
use Rattle.rp_base.specs.declared.plan.Role.TheVariants.{Plain, Data, Hash}
use Rattle.rp_disk.specs.declared.call.Call.{Call}
use Rattle.rp_disk.specs.declared.call.Call.TheVariants.{Write, Sync, SetLen}
use Rattle.rp_disk.specs.Stops.{Each}
use Rattle.rp_disk.proofs.Blocks.{Each-imp}
use Rattle.rp_disk.proofs.Ranges.{length-bytes_at}
use Rattle.rp_steps.specs.Calls.{calls_of, calls_of_steps, in_pieces}
use Rattle.rp_steps.specs.Contents.{Sources, plain_rest}
use Rattle.rp_steps.specs.Steps.{mebibyte, rest_steps, zero_steps}
use Rattle.rp_steps.specs.declared.step.Step.TheVariants as steps
use Rattle.rp_steps.proofs.Pieces.{pieces_cover, pieces_write, zeros_cover, zeros_write}
use Rattle.rp_steps.proofs.Written.{Covered, Covered-left, Covered-right, Each-append, Writes, get_or-range}

-- the calls write what is planned inside a range, and what they don't cover of it is there already
pub record Fill (value : ℕ → ℕ) (low high : ℕ) (image : List ℕ) (calls : List Call) : Type 0 where
  pub writes : Each (Writes value low high) calls
  pub right : (k : ℕ) → low ≤ k → k < high → (get_or image k 0 ≡ value k) ⊎ Covered k calls

wider : (value : ℕ → ℕ) (low high least most : ℕ) (call : Call) → least ≤ low → high ≤ most → Writes value low high call → Writes value least most call
wider value low high least most (Write at bytes) from to writes = let a = writes.0 in let b = writes.1 in (omega arith, omega arith, writes.2)
wider value low high least most Sync from to writes = absurd writes
wider value low high least most (SetLen len) from to writes = absurd writes

-- one range behind the other
pub fill_both : (value : ℕ → ℕ) (low mid high : ℕ) (image : List ℕ) (xs ys : List Call) → low ≤ mid → mid ≤ high
    → Fill value low mid image xs → Fill value mid high image ys → Fill value low high image (xs ++ ys)
fill_both value low mid high image xs ys from to x y = record {
  writes = Each-append (Writes value low high) xs ys
      (Each-imp (Writes value low mid) (Writes value low high) (λ c w. wider value low mid low high c (omega arith) to w) xs x.writes)
      (Each-imp (Writes value mid high) (Writes value low high) (λ c w. wider value mid high low high c from (omega arith) w) ys y.writes);
  right = λ k above below. side k above below (cases_lt k mid);
} where
  first : (k : ℕ) → (get_or image k 0 ≡ value k) ⊎ Covered k xs → (get_or image k 0 ≡ value k) ⊎ Covered k (xs ++ ys)
  first k (inl was) = inl was
  first k (inr covered) = inr (Covered-left k xs ys covered)

  second : (k : ℕ) → (get_or image k 0 ≡ value k) ⊎ Covered k ys → (get_or image k 0 ≡ value k) ⊎ Covered k (xs ++ ys)
  second k (inl was) = inl was
  second k (inr covered) = inr (Covered-right k xs ys covered)

  side : (k : ℕ) → low ≤ k → k < high → (k < mid) ⊎ (mid ≤ k) → (get_or image k 0 ≡ value k) ⊎ Covered k (xs ++ ys)
  side k above below (inl before) = first k (x.right k above before)
  side k above below (inr behind) = second k (y.right k behind below)

-- the same where the calls of the second range come first
pub fill_other : (value : ℕ → ℕ) (low mid high : ℕ) (image : List ℕ) (xs ys : List Call) → low ≤ mid → mid ≤ high
    → Fill value mid high image xs → Fill value low mid image ys → Fill value low high image (xs ++ ys)
fill_other value low mid high image xs ys from to x y = record {
  writes = Each-append (Writes value low high) xs ys
      (Each-imp (Writes value mid high) (Writes value low high) (λ c w. wider value mid high low high c from (omega arith) w) xs x.writes)
      (Each-imp (Writes value low mid) (Writes value low high) (λ c w. wider value low mid low high c (omega arith) to w) ys y.writes);
  right = λ k above below. side k above below (cases_lt k mid);
} where
  first : (k : ℕ) → (get_or image k 0 ≡ value k) ⊎ Covered k xs → (get_or image k 0 ≡ value k) ⊎ Covered k (xs ++ ys)
  first k (inl was) = inl was
  first k (inr covered) = inr (Covered-left k xs ys covered)

  second : (k : ℕ) → (get_or image k 0 ≡ value k) ⊎ Covered k ys → (get_or image k 0 ≡ value k) ⊎ Covered k (xs ++ ys)
  second k (inl was) = inl was
  second k (inr covered) = inr (Covered-right k xs ys covered)

  side : (k : ℕ) → low ≤ k → k < high → (k < mid) ⊎ (mid ≤ k) → (get_or image k 0 ≡ value k) ⊎ Covered k (xs ++ ys)
  side k above below (inl before) = second k (y.right k above before)
  side k above below (inr behind) = first k (x.right k behind below)

-- one write
pub fill_write : (value : ℕ → ℕ) (at high : ℕ) (bytes image : List ℕ) → at + length bytes ≡ high
    → ((i : ℕ) → i < length bytes → get_or bytes i 0 ≡ value (at + i)) → Fill value at high image (Write at bytes ∷ [])
fill_write value at high bytes image ends are = record {
  writes = ((omega arith, omega arith, are), tt);
  right = λ k above below. inr (inl (above, omega arith));
}

-- a range that holds it already
pub fill_kept : (value : ℕ → ℕ) (low high : ℕ) (image : List ℕ) → ((k : ℕ) → low ≤ k → k < high → get_or image k 0 ≡ value k) → Fill value low high image []
fill_kept value low high image kept = record { writes = tt; right = λ k above below. inl (kept k above below) }

pub fill_pieces : (value : ℕ → ℕ) (at high : ℕ) (bytes image : List ℕ) → at + length bytes ≡ high
    → ((i : ℕ) → i < length bytes → get_or bytes i 0 ≡ value (at + i)) → Fill value at high image (in_pieces at bytes)
fill_pieces value at high bytes image ends are = record {
  writes = pieces_write value at high at bytes (omega arith) (omega arith) are;
  right = λ k above below. inr (pieces_cover k at bytes above (omega arith));
}

pub fill_zeros : (value : ℕ → ℕ) (at len : ℕ) (image : List ℕ) → ((k : ℕ) → at ≤ k → k < at + len → value k ≡ 0)
    → Fill value at (at + len) image (in_pieces at (replicate len 0))
fill_zeros value at len image zero = record {
  writes = zeros_write value at (at + len) at len (omega arith) (omega arith) zero;
  right = λ k above below. inr (zeros_cover k at len above below);
}

-- how many bytes a plain row's rest has
length-rest_as : (m at len : ℕ) (image : List ℕ) (b : Bool) → leb len (2 * m) ≡ b → at + len ≤ length image
    → length (cond b (replicate len 0) ((replicate m 0 ++ bytes_at image (at + m) (len - 2 * m)) ++ replicate m 0)) ≡ len
length-rest_as m at len image true short fits = length-replicate {A = ℕ} len 0
length-rest_as m at len image false long fits =
    let more = leb-false len (2 * m) long in
    let ends : List ℕ = replicate m 0 in
    let middle = bytes_at image (at + m) (len - 2 * m) in
    let ends_long = length-replicate {A = ℕ} m 0 in
    let middle_long : length middle ≡ len - 2 * m = length-bytes_at image (at + m) (len - 2 * m) (omega arith) in
    omega (arith, length-append (ends ++ middle) ends, length-append ends middle, ends_long, middle_long)

pub length-plain_rest : (image : List ℕ) (at len : ℕ) → at + len ≤ length image → length (plain_rest image at len) ≡ len
unfolding plain_rest
length-plain_rest image at len fits = length-rest_as mebibyte at len image (leb len (2 * mebibyte)) refl fits

module _ (plan : Plan) (sources : Sources) where
  -- zeros from a place on
  zero_as : (value : ℕ → ℕ) (at len : ℕ) (image : List ℕ) (b : Bool) → eqb len 0 ≡ b → ((k : ℕ) → at ≤ k → k < at + len → value k ≡ 0)
      → Fill value at (at + len) image (calls_of_steps plan sources (cond b [] (steps.Zero at len ∷ [])))
  unfolding calls_of
  zero_as value at len image true none zero =
      let empty : len ≡ 0 = eqb-true len 0 none in
      fill_kept value at (at + len) image (λ k above below. absurd (omega arith))
  zero_as value at len image false some zero =
      subst (λ (calls : List Call). Fill value at (at + len) image calls) (sym (append-nil (in_pieces at (replicate len 0))))
      (fill_zeros value at len image zero)

  pub zeros_fill : (value : ℕ → ℕ) (at len : ℕ) (image : List ℕ) → ((k : ℕ) → at ≤ k → k < at + len → value k ≡ 0)
      → Fill value at (at + len) image (calls_of_steps plan sources (zero_steps at len))
  unfolding zero_steps
  zeros_fill value at len image zero = zero_as value at len image (eqb len 0) refl zero

  -- what a rest holds, by the row's role
  abbrev pub rest_of : Role → List ℕ → ℕ → ℕ → List ℕ
  rest_of Plain image at len = plain_rest image at len
  rest_of other image at len = replicate len 0

  -- a list that is zeros is zero
  all_zero : (value : ℕ → ℕ) (at len : ℕ) → ((k : ℕ) → at ≤ k → k < at + len → value k ≡ get_or (replicate len 0) (k - at) 0)
      → (k : ℕ) → at ≤ k → k < at + len → value k ≡ 0
  all_zero value at len are k above below = are k above below ∙ get_or-replicate len (k - at) 0 0 (omega arith)

  -- zeros, what is between, zeros
  long_rest : (m : ℕ) (value : ℕ → ℕ) (at len : ℕ) (image : List ℕ) → 2 * m < len → at + len ≤ length image
      → ((k : ℕ) → at ≤ k → k < at + len
      → value k ≡ get_or ((replicate m 0 ++ bytes_at image (at + m) (len - 2 * m)) ++ replicate m 0) (k - at) 0)
      → Fill value at (at + len) image (in_pieces at (replicate m 0) ++ (in_pieces (at + (len - m)) (replicate m 0) ++ []))
  long_rest m value at len image long fits are =
      let ends : List ℕ = replicate m 0 in
      let middle = bytes_at image (at + m) (len - 2 * m) in
      let from = at + (len - m) in
      let ends_long = length-replicate {A = ℕ} m 0 in
      let middle_long : length middle ≡ len - 2 * m = length-bytes_at image (at + m) (len - 2 * m) (omega arith) in
      let front_long : length (ends ++ middle) ≡ len - m = omega (arith, length-append ends middle, ends_long, middle_long) in
      let first = fill_zeros value at m image (λ k above below.
      are k above (omega arith) ∙ get_or_append_left (ends ++ middle) ends 0 (k - at) (omega (arith, front_long))
      ∙ get_or_append_left ends middle 0 (k - at) (omega (arith, ends_long)) ∙ get_or-replicate m (k - at) 0 0 (omega arith)) in
      let between = fill_kept value (at + m) from image (λ k above below.
      sym (are k (omega arith) (omega arith) ∙ get_or_append_left (ends ++ middle) ends 0 (k - at) (omega (arith, front_long))
      ∙ get_or-append_right ends middle m (k - at) 0 ends_long (omega arith)
      ∙ get_or-range image (at + m) (len - 2 * m) (k - at - m) (omega arith)
      ∙ ap (λ (i : ℕ). get_or image i 0) (let e : at + m + (k - at - m) ≡ k = omega arith in e))) in
      let last = fill_zeros value from m image (λ k above below.
      are k (omega arith) (omega arith) ∙ get_or-append_right (ends ++ middle) ends (len - m) (k - at) 0 front_long (omega arith)
      ∙ get_or-replicate m (k - at - (len - m)) 0 0 (omega arith)) in
      let end : from + m ≡ at + len = omega arith in
      let last_here = subst (λ (high : ℕ). Fill value from high image (in_pieces from ends)) end last in
      let last_alone = subst (λ (calls : List Call). Fill value from (at + len) image calls) (sym (append-nil (in_pieces from ends))) last_here in
      let behind = fill_both value (at + m) from (at + len) image [] (in_pieces from ends ++ []) (omega arith) (omega arith) between last_alone in
      fill_both value at (at + m) (at + len) image (in_pieces at ends) (in_pieces from ends ++ []) (omega arith) (omega arith) first behind

  plain_as : (value : ℕ → ℕ) (at len : ℕ) (image : List ℕ) (b : Bool) → leb len (2 * mebibyte) ≡ b → at + len ≤ length image
      → ((k : ℕ) → at ≤ k → k < at + len → value k ≡ get_or (cond b (replicate len 0)
      ((replicate mebibyte 0 ++ bytes_at image (at + mebibyte) (len - 2 * mebibyte)) ++ replicate mebibyte 0)) (k - at) 0)
      → Fill value at (at + len) image (calls_of_steps plan sources
      (cond b (zero_steps at len) (steps.Zero at mebibyte ∷ steps.Zero (at + (len - mebibyte)) mebibyte ∷ [])))
  unfolding calls_of
  plain_as value at len image true short fits are = zeros_fill value at len image (all_zero value at len are)
  plain_as value at len image false long fits are =
      long_rest mebibyte value at len image (leb-false len (2 * mebibyte) long) fits are

  -- a rest is filled
  pub rest_fill : (role : Role) (value : ℕ → ℕ) (at len : ℕ) (image : List ℕ) → at + len ≤ length image
      → ((k : ℕ) → at ≤ k → k < at + len → value k ≡ get_or (rest_of role image at len) (k - at) 0)
      → Fill value at (at + len) image (calls_of_steps plan sources (rest_steps role at len))
  unfolding rest_steps plain_rest
  rest_fill Plain value at len image fits are = plain_as value at len image (leb len (2 * mebibyte)) refl fits are
  rest_fill (Data partner root) value at len image fits are = zeros_fill value at len image (all_zero value at len are)
  rest_fill (Hash partner blocks salt uuid root) value at len image fits are = zeros_fill value at len image (all_zero value at len are)
