-- The text of flags in full is read back: tried for each of the 1,024 values.
use Rattle.std.proofs.Common.{inl, inr, subst, ◌≡◌, ◌≢◌, ℕ, zero, suc, ◌+◌, ◌*◌, ◌/◌, ◌<◌, ◌≤◌, Bool, true, false, not, ◌&&◌, ◌||◌, cond, List, [], ◌∷◌, length, get_or, map, Option, Some, None, Result, Ok, Err, arith, refl, ap, sym, ◌∙◌}
use Rattle.std.specs.Prelude.{bit_and, bit_or, nat_le, nat_lt, ◌==◌}
use Rattle.std.specs.List.{list_all, list_any, range_with_len, slice_split}
use Rattle.std.specs.Option.{option_map_or}
use Rattle.std.proofs.lemmas.Bool.{and_parts, cases_Bool, eqb-true, leb-true, ltb-true}
use Rattle.std.proofs.lemmas.Bool.Decides.{nat_tests}
use Rattle.std.proofs.lemmas.List.FromFn.{get_or-map-range_with_len}
use Rattle.rp_policy.specs.declared.policy.PolicyFault.{PolicyFault}
use Rattle.rp_policy.specs.declared.policy.PolicyKind.TheVariants.{UnknownFlag}
use Rattle.rp_policy.specs.Flags.{IsExpanded, expanded}
use Rattle.rp_policy.specs.Reading.{bits_named, fault, flags_in, with_named}
use Rattle.rp_policy.specs.Written.{flags_text}
use Rattle.rp_policy.proofs.Full.{is_full, passes_in}

-- a fact of each item, in order
abbrev pub Each : {X : Type 0} → (X → Type 0) → List X → Type 0
Each P [] = Unit {0}
Each P (x ∷ xs) = P x × Each P xs

each_at : {X : Type 0} (P : X → Type 0) (xs : List X) (i : ℕ) (d : X) → i < length xs → Each P xs → P (get_or xs i d)
each_at P [] i d below each = absurd (omega arith)
each_at P (x ∷ xs) zero d below each = each.0
each_at P (x ∷ xs) (suc i) d below each = each_at P xs i d (omega arith) each.1

abbrev is_ok : Result ℕ PolicyFault → ℕ → Bool
is_ok (Ok flags) wanted = flags == wanted
is_ok (Err f) wanted = false

-- whether a text is read as these flags, has no colon, and is some bytes and few
abbrev is_read : ℕ → List ℕ → Bool
is_read flags text = (is_ok (flags_in 0 text) flags && (expanded flags == flags))
    && (not (list_any (λ byte. byte == 58) text) && (nat_lt 0 (length text) && nat_le (length text) 90))

abbrev passes : ℕ → Bool
passes flags = not (is_full flags) || is_read flags (flags_text flags)

from_0 : list_all passes (range_with_len 0 32) ≡ true
from_0 = refl

from_32 : list_all passes (range_with_len 32 32) ≡ true
from_32 = refl

from_64 : list_all passes (range_with_len 64 32) ≡ true
from_64 = refl

from_96 : list_all passes (range_with_len 96 32) ≡ true
from_96 = refl

from_128 : list_all passes (range_with_len 128 32) ≡ true
from_128 = refl

from_160 : list_all passes (range_with_len 160 32) ≡ true
from_160 = refl

from_192 : list_all passes (range_with_len 192 32) ≡ true
from_192 = refl

from_224 : list_all passes (range_with_len 224 32) ≡ true
from_224 = refl

from_256 : list_all passes (range_with_len 256 32) ≡ true
from_256 = refl

from_288 : list_all passes (range_with_len 288 32) ≡ true
from_288 = refl

from_320 : list_all passes (range_with_len 320 32) ≡ true
from_320 = refl

from_352 : list_all passes (range_with_len 352 32) ≡ true
from_352 = refl

from_384 : list_all passes (range_with_len 384 32) ≡ true
from_384 = refl

from_416 : list_all passes (range_with_len 416 32) ≡ true
from_416 = refl

from_448 : list_all passes (range_with_len 448 32) ≡ true
from_448 = refl

from_480 : list_all passes (range_with_len 480 32) ≡ true
from_480 = refl

from_512 : list_all passes (range_with_len 512 32) ≡ true
from_512 = refl

from_544 : list_all passes (range_with_len 544 32) ≡ true
from_544 = refl

from_576 : list_all passes (range_with_len 576 32) ≡ true
from_576 = refl

from_608 : list_all passes (range_with_len 608 32) ≡ true
from_608 = refl

from_640 : list_all passes (range_with_len 640 32) ≡ true
from_640 = refl

from_672 : list_all passes (range_with_len 672 32) ≡ true
from_672 = refl

from_704 : list_all passes (range_with_len 704 32) ≡ true
from_704 = refl

from_736 : list_all passes (range_with_len 736 32) ≡ true
from_736 = refl

from_768 : list_all passes (range_with_len 768 32) ≡ true
from_768 = refl

from_800 : list_all passes (range_with_len 800 32) ≡ true
from_800 = refl

from_832 : list_all passes (range_with_len 832 32) ≡ true
from_832 = refl

from_864 : list_all passes (range_with_len 864 32) ≡ true
from_864 = refl

from_896 : list_all passes (range_with_len 896 32) ≡ true
from_896 = refl

from_928 : list_all passes (range_with_len 928 32) ≡ true
from_928 = refl

from_960 : list_all passes (range_with_len 960 32) ≡ true
from_960 = refl

from_992 : list_all passes (range_with_len 992 32) ≡ true
from_992 = refl

all_pass : Each (λ a. list_all passes (range_with_len a 32) ≡ true) (map (λ k. 32 * k) (range_with_len 0 32))
all_pass = (
  from_0,
  (
    from_32,
    (
      from_64,
      (
        from_96,
        (
          from_128,
          (
            from_160,
            (
              from_192,
              (
                from_224,
                (
                  from_256,
                  (
                    from_288,
                    (
                      from_320,
                      (
                        from_352,
                        (
                          from_384,
                          (
                            from_416,
                            (
                              from_448,
                              (
                                from_480,
                                (
                                  from_512,
                                  (
                                    from_544,
                                    (
                                      from_576,
                                      (
                                        from_608,
                                        (
                                          from_640,
                                          (
                                            from_672,
                                            (
                                              from_704,
                                              (
                                                from_736,
                                                (
                                                  from_768,
                                                  (
                                                    from_800,
                                                    (
                                                      from_832,
                                                      (from_864, (from_896, (from_928, (from_960, (from_992, tt))))),
                                                    ),
                                                  ),
                                                ),
                                              ),
                                            ),
                                          ),
                                        ),
                                      ),
                                    ),
                                  ),
                                ),
                              ),
                            ),
                          ),
                        ),
                      ),
                    ),
                  ),
                ),
              ),
            ),
          ),
        ),
      ),
    ),
  ),
)

flags_pass : (flags : ℕ) → flags < 1024 → passes flags ≡ true
flags_pass flags below =
    let chunk : flags / 32 < 32 = omega arith in
    let at : get_or (map (λ k. 32 * k) (range_with_len 0 32)) (flags / 32) 0 ≡ 32 * (flags / 32) =
    get_or-map-range_with_len (λ k. 32 * k) 0 32 (flags / 32) (flags / 32) 0 chunk (omega arith) in
    let held = each_at (λ a. list_all passes (range_with_len a 32) ≡ true) (map (λ k. 32 * k) (range_with_len 0 32))
    (flags / 32) 0 chunk all_pass in
    passes_in passes (32 * (flags / 32)) 32 flags (subst (λ a. list_all passes (range_with_len a 32) ≡ true) at held) (omega arith)
    (omega arith)

-- flags in full pass the test of it
test_of_full : (flags : ℕ) → IsExpanded flags → is_full flags ≡ true
test_of_full flags is = tests (bit_and flags 63) (bit_and flags 192) (bit_and flags 768) flags is.some is.read_only is.growfs is.known
  where
    tests : (a b c d : ℕ) → a ≢ 0 → b ≢ 192 → c ≢ 768 → d < 1024
        → ((not (a == 0) && not (b == 192)) && (not (c == 768) && nat_lt d 1024)) ≡ true
    tests a b c d ha hb hc hd = grind (arith, nat_tests)

-- what is known of the text of flags in full
pub record IsText (flags : ℕ) (text : List ℕ) : Type 0 where
  pub read : flags_in 0 text ≡ Ok flags
  pub same : expanded flags ≡ flags
  pub plain : list_any (λ byte. byte == 58) text ≡ false
  pub some : 0 < length text
  pub few : length text ≤ 90

ok_of : (r : Result ℕ PolicyFault) (flags : ℕ) → is_ok r flags ≡ true → r ≡ Ok flags
ok_of (Ok n) flags is = ap Ok (eqb-true n flags is)
ok_of (Err f) flags is = cc

text_of_test : (flags : ℕ) (text : List ℕ) → is_read flags text ≡ true → IsText flags text
text_of_test flags text is =
    let parts = and_parts _ _ is in
    let first = and_parts _ _ parts.0 in
    let second = and_parts _ _ parts.1 in
    let third = and_parts _ _ second.1 in
    record {
      read = ok_of (flags_in 0 text) flags first.0;
      same = eqb-true (expanded flags) flags first.1;
      plain = plain_of (list_any (λ byte. byte == 58) text) second.0;
      some = ltb-true 0 (length text) third.0;
      few = leb-true (length text) 90 third.1;
    }
  where
    plain_of : (b : Bool) → not b ≡ true → b ≡ false
    plain_of true is = sym is
    plain_of false is = refl

or_false : (b : Bool) → (not true || b) ≡ true → b ≡ true
or_false true is = refl
or_false false is = is

pub text_of_full : (flags : ℕ) → IsExpanded flags → IsText flags (flags_text flags)
text_of_full flags is =
    text_of_test flags (flags_text flags) (or_false (is_read flags (flags_text flags))
    (sym (ap (λ b. not b || is_read flags (flags_text flags)) (test_of_full flags is)) ∙ flags_pass flags is.known))

-- flags are read alike wherever they begin
named_anywhere : (flags at other : ℕ) (names : List (List ℕ)) (result : ℕ) → with_named flags at names ≡ Ok result
    → with_named flags other names ≡ Ok result
named_anywhere flags at other [] result is = is
named_anywhere flags at other (name ∷ names) result is =
    by_found (bits_named name) refl (λ bits rest. named_anywhere (bit_or flags bits) (at + length name + 1)
    (other + length name + 1) names result rest)
  where
    by_found : (found : Option ℕ) → bits_named name ≡ found
        → ((bits : ℕ) → with_named (bit_or flags bits) (at + length name + 1) names ≡ Ok result
        → with_named (bit_or flags bits) (other + length name + 1) names ≡ Ok result)
        → with_named flags other (name ∷ names) ≡ Ok result
    by_found None same later =
        let lost : ◌≡◌ {A = Result ℕ PolicyFault} (fault at UnknownFlag) (Ok result) =
        sym (ap (λ o. option_map_or (λ bits. with_named (bit_or flags bits) (at + length name + 1) names) o (fault at UnknownFlag)) same)
        ∙ is in
        cc
    by_found (Some bits) same later =
        ap (λ o. option_map_or (λ b. with_named (bit_or flags b) (other + length name + 1) names) o (fault other UnknownFlag)) same
        ∙ later bits
        (sym (ap (λ o. option_map_or (λ b. with_named (bit_or flags b) (at + length name + 1) names) o (fault at UnknownFlag)) same) ∙ is)

pub flags_anywhere : (at flags : ℕ) (text : List ℕ) → flags_in 0 text ≡ Ok flags → flags_in at text ≡ Ok flags
flags_anywhere at flags text is = elim (cases_Bool (length text == 0)) [
  | inl t ↦
      ap (λ b. cond b (Ok 0) (with_named 0 at (slice_split (λ byte. byte == 43) text))) t
      ∙ sym (ap (λ b. cond b (Ok 0) (with_named 0 0 (slice_split (λ byte. byte == 43) text))) t) ∙ is
  | inr t ↦
      ap (λ b. cond b (Ok 0) (with_named 0 at (slice_split (λ byte. byte == 43) text))) t
      ∙ named_anywhere 0 0 at (slice_split (λ byte. byte == 43) text) flags
      (sym (ap (λ b. cond b (Ok 0) (with_named 0 0 (slice_split (λ byte. byte == 43) text))) t) ∙ is)
]
