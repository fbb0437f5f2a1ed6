use Rattle.std.proofs.Common.{◌≡◌, ◌≢◌, ℕ, ◌-◌, ◌<◌, ◌≤◌, List, ◌++◌, length, get_or, replicate, inl, inr, refl, sym, ◌∙◌, arith, below_more, get_or-set_other, get_or-set_same, length-append}
use Rattle.std.proofs.Math.ListN.{length-set, length-replicate}
use Rattle.std.proofs.lemmas.Bool.{cases_lt}
use Rattle.std.proofs.lemmas.List.{get_or-replicate, get_or_past, get_or_default, get_or_append_left, get_or-append_right, same_lists}
use Rattle.rp_types.specs.Types.{padded}
use Rattle.rp_types.proofs.label.units_of.Goals as goal

abbrev zeros : ℕ → List ℕ
zeros n = replicate n 0

length-zeros : (n : ℕ) → length (zeros n) ≡ n
length-zeros n = length-replicate {A = ℕ} n 0

zeros_at : (n k : ℕ) → get_or (zeros n) k 0 ≡ 0
zeros_at n k = elim (cases_lt k n) [
  | inl h ↦ get_or-replicate n k 0 0 h
  | inr h ↦ get_or_past (zeros n) k 0 (omega (arith, length-zeros n))
]

-- units that are those of a text and then zeros
is_padded : (n : ℕ) (units text : List ℕ) → length text ≤ n → length units ≡ n
    → ((k : ℕ) → k < length text → get_or units k 0 ≡ get_or text k 0)
    → ((k : ℕ) → length text ≤ k → get_or units k 0 ≡ 0) → units ≡ padded n text
is_padded n units text fits long written rest =
    let rest_of : List ℕ = zeros (n - length text) in
    let same_length : length units ≡ length (text ++ rest_of) =
    omega (arith, length-append text rest_of, length-zeros (n - length text)) in
    let front : (k : ℕ) → k < length text → get_or units k 0 ≡ get_or (text ++ rest_of) k 0 =
    λ k h. written k h ∙ sym (get_or_append_left text rest_of 0 k h) in
    let back : (k : ℕ) → length text ≤ k → get_or units k 0 ≡ get_or (text ++ rest_of) k 0 =
    λ k h. rest k h ∙ sym (get_or-append_right text rest_of (length text) k 0 refl h ∙ zeros_at (n - length text) (k - length text)) in
    same_lists units (text ++ rest_of) same_length (λ k d h.
    get_or_default units k d 0 h
    ∙ elim (cases_lt k (length text)) [ inl below ↦ front k below | inr above ↦ back k above ]
    ∙ sym (get_or_default (text ++ rest_of) k d 0 (omega arith)))

pub loop-i-init : goal.loop-i-init
loop-i-init c = record { long = refl; written = λ k h. absurd (omega arith); rest = λ k h. zeros_at 36 k }

pub loop-i-preserved : goal.loop-i-preserved
loop-i-preserved c =
    record {
      long = length-set _ _ _ ∙ c.loop-i.invariant.long;
      written = below_more _ _
          (λ k h. let ne : k ≢ c.loop-i.i = omega arith in rw get_or-set_other (c.loop-i.invariant.written k h))
          (let lt : c.loop-i.i < length c.loop-i.units = omega arith in rw get_or-set_same c.from.ensures);
      rest = λ k h. let ne : k ≢ c.loop-i.i = omega arith in rw get_or-set_other (c.loop-i.invariant.rest k (omega arith));
    }

pub returns : goal.returns
returns c = is_padded 36 c.loop-i.units c.args.text.now c.requires c.loop-i.invariant.long
    (λ k h. c.loop-i.invariant.written k (omega arith)) (λ k h. c.loop-i.invariant.rest k (omega arith))
