-- What holds of zeros and copies within a row holds of the steps that give the row its contents.
use Rattle.std.proofs.Common.{◌≡◌, ◌≢◌, ℕ, ◌+◌, ◌*◌, ◌-◌, ◌≤◌, Bool, true, false, cond, eqb, leb, List, [], ◌∷◌, ◌++◌, Option, Some, None, refl, arith, All}
use Rattle.std.specs.Option.{option_map_or}
use Rattle.std.proofs.lemmas.Bool.{eqb-false, leb-false}
use Rattle.std.proofs.lemmas.List.Elements.{All-append, All-cons, All-nil}
use Rattle.rp_base.specs.Plan.{Noted}
use Rattle.rp_base.specs.declared.plan.Role.{Role}
use Rattle.rp_base.specs.declared.plan.Role.TheVariants.{Plain, Data, Hash}
use Rattle.rp_steps.specs.Steps.{byte_count, copy_steps, from_byte, mebibyte, payload_steps, rest_steps, source_len, zero_steps}
use Rattle.rp_steps.specs.declared.step.Step.{Step}
use Rattle.rp_steps.specs.declared.step.Step.TheVariants.{Zero, Copy}

-- it holds of zeros and of copies within a range, of one byte at least
pub record OfRange (P : Step → Type 0) (low high : ℕ) : Type 0 where
  pub zero : (at len : ℕ) → 1 ≤ len → low ≤ at → at + len ≤ high → P (Zero at len)
  pub copy : (file at len : ℕ) → 1 ≤ len → low ≤ at → at + len ≤ high → P (Copy file at len)

module _ (P : Step → Type 0) (low high : ℕ) (of : OfRange P low high) where
  either : (b : Bool) (xs ys : List Step) → (b ≡ true → All P xs) → (b ≡ false → All P ys) → All P (cond b xs ys)
  either true xs ys x y = x refl
  either false xs ys x y = y refl

  one : (step : Step) → P step → All P (step ∷ [])
  one step has = All-cons P step [] has (All-nil P)

  pub zeros_each : (at len : ℕ) → low ≤ at → at + len ≤ high → All P (zero_steps at len)
  unfolding zero_steps
  zeros_each at len from to = either (eqb len 0) [] (Zero at len ∷ []) (λ e. All-nil P)
      (λ e. let some : len ≢ 0 = eqb-false len 0 e in one (Zero at len) (of.zero at len (omega (arith, some)) from to))

  rest : (role : Role) (at len : ℕ) → low ≤ at → at + len ≤ high → All P (rest_steps role at len)
  unfolding rest_steps mebibyte
  rest Plain at len from to =
      either (leb len (2 * mebibyte)) (zero_steps at len) (Zero at mebibyte ∷ Zero (at + (len - mebibyte)) mebibyte ∷ [])
      (λ e. zeros_each at len from to)
      (λ e.
      let more = leb-false len (2 * mebibyte) e in
      All-cons P (Zero at mebibyte) (Zero (at + (len - mebibyte)) mebibyte ∷ []) (of.zero at mebibyte (omega arith) from (omega (arith, more, to)))
      (one (Zero (at + (len - mebibyte)) mebibyte) (of.zero (at + (len - mebibyte)) mebibyte (omega arith) (omega (arith, from)) (omega (arith, more, to)))))
  rest (Data partner root) at len from to = zeros_each at len from to
  rest (Hash partner blocks salt uuid root) at len from to = zeros_each at len from to

  of_file : (file : Option ℕ) (at len : ℕ) → 1 ≤ len → low ≤ at → at + len ≤ high → All P (option_map_or (λ f. Copy f at len ∷ []) file [])
  of_file None at len some from to = All-nil P
  of_file (Some file) at len some from to = one (Copy file at len) (of.copy file at len some from to)

  copying : (noted : Noted) → low ≤ from_byte noted.0 → from_byte noted.0 + source_len noted.1 ≤ high → All P (copy_steps noted)
  unfolding copy_steps
  copying noted from to =
      either (eqb (source_len noted.1) 0) [] (option_map_or (λ f. Copy f (from_byte noted.0) (source_len noted.1) ∷ []) noted.1.file [])
      (λ e. All-nil P)
      (λ e. let some : source_len noted.1 ≢ 0 = eqb-false (source_len noted.1) 0 e in of_file noted.1.file (from_byte noted.0) (source_len noted.1) (omega (arith, some)) from to)

filling : (P : Step → Type 0) (noted : Noted) (role : Role) → source_len noted.1 ≤ byte_count noted.0
    → OfRange P (from_byte noted.0) (from_byte noted.0 + byte_count noted.0)
    → All P (copy_steps noted ++ rest_steps role (from_byte noted.0 + source_len noted.1) (byte_count noted.0 - source_len noted.1))
filling P noted role room of =
    let low = from_byte noted.0 in
    let high = from_byte noted.0 + byte_count noted.0 in
    All-append P _ _ (copying P low high of noted (omega arith) (omega (arith, room)))
    (rest P low high of role (from_byte noted.0 + source_len noted.1) (byte_count noted.0 - source_len noted.1) (omega arith) (omega (arith, room)))

-- the steps of a row that holds no tree
pub payload_each : (P : Step → Type 0) (noted : Noted) (role : Role) → source_len noted.1 ≤ byte_count noted.0
    → OfRange P (from_byte noted.0) (from_byte noted.0 + byte_count noted.0) → All P (payload_steps noted role)
unfolding payload_steps
payload_each P noted Plain room of = filling P noted Plain room of
payload_each P noted (Data partner root) room of = filling P noted (Data partner root) room of
payload_each P noted (Hash partner blocks salt uuid root) room of = All-nil P
