-- A stamped identifier isn't zero, since its version isn't.
use Rattle.std.proofs.Common.{◌≡◌, ℕ, ◌<◌, ◌+◌, ◌%◌, List, length, get_or, replicate, take, ap, arith, get_or-set_same, get_or-set_other, length-set}
use Rattle.std.proofs.lemmas.List.{length-take-le}
use Rattle.sha2.proofs.Facts256.{length-sha256}
use Rattle.rp_base.specs.declared.guid.Guid.{Guid}
use Rattle.rp_hmac.specs.Hmac.{hmac}
use Rattle.rp_hmac.specs.Derived.{derived, numbered, stamped}

-- the version stands in a stamped identifier
stamped-version : (bytes : List ℕ) → length bytes ≡ 16 → get_or (stamped bytes) 6 0 ≡ 0x40 + get_or bytes 6 0 % 16
stamped-version bytes long =
    let inside : 6 < length bytes = omega arith in
    grind (arith, get_or-set_other, get_or-set_same, length-set)

-- so it isn't zero
pub stamped-not_zero : (bytes : List ℕ) → length bytes ≡ 16 → stamped bytes ≡ replicate 16 0 → ⊥
stamped-not_zero bytes long zeros =
    let version : get_or (stamped bytes) 6 0 ≡ 0x40 + get_or bytes 6 0 % 16 = stamped-version bytes long in
    let none : get_or (stamped bytes) 6 0 ≡ 0 = ap (λ (id : List ℕ). get_or id 6 0) zeros in
    omega arith

length-hmac : (key message : List ℕ) → length (hmac key message) ≡ 32
unfolding hmac
length-hmac key message = length-sha256 _

-- nor is one that is derived
pub derived-not_zero : (seed : Guid) (text : List ℕ) (k : ℕ) → (derived seed text k).0 ≡ replicate 16 0 → ⊥
unfolding derived
derived-not_zero seed text k =
    let code : List ℕ = hmac seed.0 (numbered text k) in
    let long : length code ≡ 32 = length-hmac seed.0 (numbered text k) in
    stamped-not_zero (take 16 code) (length-take-le 16 code (omega arith))
