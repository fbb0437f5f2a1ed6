-- The units of a text, one after another.
use Rattle.std.proofs.Common.{◌≡◌, ℕ, ◌+◌, ◌-◌, ◌<◌, ◌≤◌, Bool, true, false, not, ◌&&◌, ◌||◌, cond, eqb, leb, List, [], ◌∷◌, ◌++◌, length, take, drop, set, replicate, Option, Some, None, refl, sym, ap, subst, ◌∙◌, arith, inl, inr, ◌⊎◌, IsUtf8, encode_utf8, flat_map, le-leb, ne_eqb, length-take-le, take-append-drop, drop-drop, drop-set-lt}
use Rattle.std.specs.List.{list_any}
use Rattle.std.specs.Str.Iter.{encode_utf16_rest, encode_utf16_pending}
use Rattle.std.specs.declared.str.EncodeUtf16.{EncodeUtf16}
use Rattle.std.specs.Char.Escape.{encode_utf16}
use Rattle.std.proofs.lemmas.Str.{chars_past_char, IsUtf8-past_char, chars-nil}
use Rattle.std.proofs.lemmas.Bool.{lt-leb}
use Rattle.std.proofs.lemmas.List.{length-set, length-append, take_more_set, drop-replicate, nil_from_length}
use Rattle.std.proofs.lemmas.List.Folds.{list_any-append}
use Rattle.rp_base.specs.Name.{units_of, name_of}

-- what an iterator has left
unfoldable pub units_left : EncodeUtf16 → List ℕ
units_left it = encode_utf16_pending it ++ units_of (encode_utf16_rest it)

units_of-nil : units_of [] ≡ []
unfolding units_of
units_of-nil = ap (flat_map encode_utf16) chars-nil

units_of-char : (text rest : List ℕ) (c : ℕ) → IsUtf8 text → text ≡ encode_utf8 c ++ rest → units_of text ≡ encode_utf16 c ++ units_of rest
unfolding units_of
units_of-char text rest c h e = ap (flat_map encode_utf16) (chars_past_char text rest c h e)

-- one unit comes
pub units_left-more : (s t : EncodeUtf16) (unit : ℕ) → IsUtf8 (encode_utf16_rest s) → ((encode_utf16_pending s ≡ unit ∷ []) × (encode_utf16_pending t ≡ []) × (encode_utf16_rest t ≡ encode_utf16_rest s)) ⊎ ((encode_utf16_pending s ≡ []) × ((c : ℕ) × (encode_utf16_rest s ≡ encode_utf8 c ++ encode_utf16_rest t) × (encode_utf16 c ≡ unit ∷ encode_utf16_pending t))) → (units_left s ≡ unit ∷ units_left t) × IsUtf8 (encode_utf16_rest t)
unfolding units_left
units_left-more s t unit h (inl p) = (rw (p.0, p.1, p.2) refl, subst IsUtf8 (sym p.2) h)
units_left-more s t unit h (inr p) =
    (rw (p.0, units_of-char _ _ p.1.0 h p.1.1, p.1.2) refl, IsUtf8-past_char _ _ p.1.0 h p.1.1)

-- all units are left
pub units_left-all : (s : EncodeUtf16) (text : List ℕ) → encode_utf16_pending s ≡ [] → encode_utf16_rest s ≡ text → units_of text ≡ units_left s
unfolding units_left
units_left-all s text p r = rw (p, r) refl

-- no unit is left
pub units_left-none : (s : EncodeUtf16) → encode_utf16_pending s ≡ [] → length (encode_utf16_rest s) ≡ 0 → units_left s ≡ []
unfolding units_left
units_left-none s p r = rw (p, nil_from_length (encode_utf16_rest s) r) units_of-nil

-- an array of 36 units that holds some at its front, none of them zero, and zeros behind them
pub record HasFront (units front : List ℕ) (len : ℕ) : Type 0 where
  pub long : length units ≡ 36
  pub fits : len ≤ 36
  pub is : take len units ≡ front
  pub nonzero : list_any (λ unit. eqb unit 0) front ≡ false
  pub zeros : drop len units ≡ replicate (36 - len) 0

pub HasFront-more : (units front : List ℕ) (len unit : ℕ) → HasFront units front len → len < 36 → (unit ≡ 0 → ⊥) → HasFront (set units len unit) (front ++ unit ∷ []) (len + 1)
HasFront-more units front len unit has below other = record {
  long = length-set units len unit ∙ has.long;
  fits = omega arith;
  is = take_more_set units len unit (omega (arith, has.long)) ∙ ap (λ xs. xs ++ unit ∷ []) has.is;
  nonzero = list_any-append (λ u. eqb u 0) front (unit ∷ []) ∙ rw (has.nonzero, ne_eqb unit 0 other) refl;
  zeros = drop-set-lt (len + 1) units len unit (omega arith) ∙ sym (drop-drop 1 len units) ∙ ap (drop 1) has.zeros ∙ drop-replicate 1 (36 - len) 0 ∙ ap (λ n. replicate n 0) (omega arith);
}

-- the name of a text, when all its units are known
pub name_of-short : (text units front : List ℕ) (len : ℕ) → HasFront units front len → units_of text ≡ front → name_of text ≡ Some units
unfolding name_of
name_of-short text units front len has e =
    let long : length front ≡ len = ap length (sym has.is) ∙ length-take-le len units (omega (arith, has.long, has.fits)) in
    rw (e, le-leb (length front) 36 (omega (arith, long, has.fits)), has.nonzero, long, ← has.zeros, ← has.is)
    (ap Some (take-append-drop len units))

-- a unit too many, and a zero
pub name_of-long : (text front rest : List ℕ) (unit : ℕ) → units_of text ≡ front ++ unit ∷ rest → length front ≡ 36 → name_of text ≡ None
unfolding name_of
name_of-long text front rest unit e long =
    let many : 36 < length (units_of text) = omega (arith, ap length e, length-append front (unit ∷ rest), long) in
    rw (lt-leb (length (units_of text)) 36 many) refl

and-not-true : (b : Bool) (name : Option (List ℕ)) → cond (b && not true) name None ≡ None
and-not-true true name = refl
and-not-true false name = refl

or-true : (b : Bool) → (b || true) ≡ true
or-true true = refl
or-true false = refl

pub name_of-zero : (text front rest : List ℕ) → units_of text ≡ front ++ 0 ∷ rest → name_of text ≡ None
unfolding name_of
name_of-zero text front rest e =
    let zero_in : list_any (λ u. eqb u 0) (units_of text) ≡ true =
    ap (list_any (λ u. eqb u 0)) e ∙ list_any-append (λ u. eqb u 0) front (0 ∷ rest) ∙ or-true (list_any (λ u. eqb u 0) front) in
    rw zero_in (and-not-true (leb (length (units_of text)) 36) _)
