-- Products.
use Rattle.std.proofs.Common.{ℕ, ◌<◌, ◌≤◌, ◌+◌, ◌-◌, ◌*◌, ◌^◌, arith}
use Rattle.std.proofs.Math.Nat.{mul-lt-mul_of_pos_right, mul-le-mul_right, mul-le-mul, lt_of_mul-lt-mul_right}

-- a / u < b / v ≤ c / w, without quotients
pub below_then_within : (a u b v c w : ℕ) → 0 < w → a * v < b * u → b * w ≤ c * v → a * w < c * u
below_then_within a u b v c w weighs first second =
    let left : (a * v) * w < (b * u) * w = mul-lt-mul_of_pos_right first weighs in
    let right : (b * w) * u ≤ (c * v) * u = mul-le-mul_right u second in
    let product : (a * w) * v < (c * u) * v = omega arith in
    lt_of_mul-lt-mul_right v product

-- a / u ≤ b / v < c / w, without quotients
pub within_then_below : (a u b v c w : ℕ) → 0 < u → a * v ≤ b * u → b * w < c * v → a * w < c * u
within_then_below a u b v c w weighs first second =
    let left : (a * v) * w ≤ (b * u) * w = mul-le-mul_right w first in
    let right : (b * w) * u < (c * v) * u = mul-lt-mul_of_pos_right second weighs in
    let product : (a * w) * v < (c * u) * v = omega arith in
    lt_of_mul-lt-mul_right v product

-- the product of a number of 64 bits, plus one, and another has 128 bits
pub product_fits : (a b : ℕ) → a < 2 ^ 64 → b < 2 ^ 64 → (a + 1) * b < 2 ^ 128
product_fits a b p q =
    let most : (a + 1) * b ≤ 2 ^ 64 * (2 ^ 64 - 1) = mul-le-mul {n₂ = 2 ^ 64} {m₂ = 2 ^ 64 - 1} (omega arith) (omega arith) in
    omega arith
