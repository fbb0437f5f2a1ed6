-- The canonical text of a policy is read back.
use Rattle.std.proofs.Common.{inl, inr, subst, ◌≡◌, ℕ, zero, suc, ◌+◌, ◌≤◌, Bool, true, false, not, ◌||◌, cond, List, [], ◌∷◌, ◌++◌, length, take, drop, get_or, set, replicate, Option, Some, None, Ok, All, arith, refl, ap, sym, ◌∙◌, append-nil, append_assoc, length-append, lit≤}
use Rattle.std.specs.Prelude.{if◌then◌else◌, nat_lt, unwrap_or, zip, ◌==◌, is_some}
use Rattle.std.specs.List.{after_first, before_first, flat_map, list_any, position_or_len}
use Rattle.std.proofs.lemmas.Bool.{cases_Bool, eqb-true, lt-ltb, or_parts}
use Rattle.std.proofs.lemmas.List.Elements.{All-cons, All-head, All-nil, All-tail}
use Rattle.std.proofs.Math.Seq.{drop-append-add, take-append_seam}
use Rattle.rp_types.specs.declared.arch.Designator.{Designator}
use Rattle.rp_types.specs.declared.arch.Designator.TheVariants.{Root, Usr, Home, Srv, Esp, Xbootldr, Swap, RootVerity, RootVeritySig, UsrVerity, UsrVeritySig, Tmp, Var}
use Rattle.rp_types.specs.Designators.{designator_name}
use Rattle.rp_policy.specs.declared.policy.Flags.{Flags}
use Rattle.rp_policy.specs.declared.policy.Policy.{Policy}
use Rattle.rp_policy.specs.declared.policy.PolicyKind.TheVariants.{Repeated}
use Rattle.rp_policy.specs.Flags.{IsExpanded, ignore_bits}
use Rattle.rp_policy.specs.Reading.{Entries, cut, designators, fault, flags_in, place_of, policy_with, then_set, with_entries, with_entry, with_flags, with_named_entry, with_parts}
use Rattle.rp_policy.specs.Written.{default_entry, entry_text, flags_text, listed_entry}
use Rattle.rp_policy.proofs.Full.{IsFull}
use Rattle.rp_policy.proofs.Steps.{then_ok}
use Rattle.rp_policy.proofs.Tried.{flags_anywhere, text_of_full}

-- no byte of these passes a test
pub none_of : (p : ℕ → Bool) (xs : List ℕ) → list_any p xs ≡ false → All (λ x. p x ≡ false) xs
none_of p [] none = All-nil (λ x. p x ≡ false)
none_of p (x ∷ xs) none =
    let parts = or_parts (p x) (list_any p xs) none in
    All-cons (λ y. p y ≡ false) x xs parts.0 (none_of p xs parts.1)

pub any-append : (p : ℕ → Bool) (xs ys : List ℕ) → list_any p xs ≡ false → list_any p ys ≡ false → list_any p (xs ++ ys) ≡ false
any-append p [] ys first second = second
any-append p (x ∷ xs) ys first second =
    let parts = or_parts (p x) (list_any p xs) first in
    ap (λ b. b || list_any p (xs ++ ys)) parts.0 ∙ any-append p xs ys parts.1 second

-- names have neither mark, and are found at their places
pub record IsName (name : List ℕ) (place : ℕ) : Type 0 where
  pub equals : list_any (λ byte. byte == 61) name ≡ false
  pub colons : list_any (λ byte. byte == 58) name ≡ false
  pub found : place_of name ≡ Some place
  pub few : length name ≤ 20

-- the first byte that is an equals sign stands behind the name
equals_at : (name rest : List ℕ) → list_any (λ byte. byte == 61) name ≡ false
    → position_or_len (λ byte. byte == 61) (name ++ 61 ∷ rest) ≡ length name
equals_at [] rest none = refl
equals_at (x ∷ xs) rest none =
    let parts = or_parts (x == 61) (list_any (λ byte. byte == 61) xs) none in
    let more = equals_at xs rest parts.1 in
    let first : position_or_len (λ byte. byte == 61) (x ∷ (xs ++ 61 ∷ rest))
    ≡ 1 + position_or_len (λ byte. byte == 61) (xs ++ 61 ∷ rest) =
    ap (λ b. cond (not b) (1 + position_or_len (λ byte. byte == 61) (xs ++ 61 ∷ rest)) 0) parts.0 in
    first ∙ omega arith

-- an entry is cut behind its name
cut_entry : (name rest : List ℕ) → list_any (λ byte. byte == 61) name ≡ false → cut 61 (name ++ 61 ∷ rest) ≡ Some (name, rest)
cut_entry name rest none =
    let at = equals_at name rest none in
    let size = length-append name (61 ∷ rest) in
    let below : nat_lt (position_or_len (λ byte. byte == 61) (name ++ 61 ∷ rest)) (length (name ++ 61 ∷ rest)) ≡ true =
    lt-ltb _ _ (omega arith) in
    ap (λ b. cond b (Some (
      before_first (λ byte. byte == 61) (name ++ 61 ∷ rest),
      after_first (λ byte. byte == 61)
          (name ++ 61 ∷ rest),
    )) None) below
    ∙ ap (λ n. Some (take n (name ++ 61 ∷ rest), drop (n + 1) (name ++ 61 ∷ rest))) at
    ∙ ap (λ front. Some (front, drop (length name + 1) (name ++ 61 ∷ rest))) (take-append_seam name (61 ∷ rest))
    ∙ ap (λ back. Some (name, back)) (drop-append-add name (61 ∷ rest) 1)

-- an entry that isn't set yet is set
entry_set : (at place : ℕ) (name : List ℕ) (flags : ℕ) (entries : Entries) → IsName name place → IsExpanded flags
    → get_or entries place None ≡ None
    → with_entry at (entry_text name flags) entries ≡ Ok (set entries place (Some (record { 0 = flags })))
entry_set at place name flags entries is full none =
    let text = text_of_full flags full in
    let behind : ℕ = at + length name + 1 in
    ap (λ c. with_parts at c entries) (cut_entry name (flags_text flags) is.equals)
    ∙ ap (λ p. with_named_entry at (at + length name + 1) p (flags_text flags) entries) is.found
    ∙ ap (λ o. cond (is_some o) (fault at Repeated) (with_flags place entries (flags_in (at + length name + 1) (flags_text flags)))) none
    ∙ ap (with_flags place entries) (flags_anywhere (at + length name + 1) flags (flags_text flags) text.read)
    ∙ ap (λ n. Ok (set entries place (Some (record { 0 = n })))) text.same

set_seam : (front : Entries) (x y : Option Flags) (rest : Entries) → set (front ++ x ∷ rest) (length front) y ≡ front ++ y ∷ rest
set_seam [] x y rest = refl
set_seam (f ∷ front) x y rest = ap (λ r. f ∷ r) (set_seam front x y rest)

get_seam : (front : Entries) (x : Option Flags) (rest : Entries) → get_or (front ++ x ∷ rest) (length front) None ≡ x
get_seam [] x rest = refl
get_seam (f ∷ front) x rest = get_seam front x rest

-- designators stand at their places
abbrev pub AreNames : ℕ → List Designator → Type 0
AreNames k [] = Unit {0}
AreNames k (d ∷ ds) = IsName (designator_name d) k × AreNames (k + 1) ds

name_at : (name : List ℕ) (place : ℕ) → list_any (λ byte. byte == 61) name ≡ false → list_any (λ byte. byte == 58) name ≡ false
    → place_of name ≡ Some place → length name ≤ 20 → IsName name place
name_at name place equals colons found few = record { equals = equals; colons = colons; found = found; few = few }

pub default_name : IsName [] 13
default_name = name_at [] 13 refl refl refl (lit≤ tt)

pub all_names : AreNames 0 designators
all_names = (
  name_at (designator_name Root) 0 refl refl refl (lit≤ tt),
  (
    name_at (designator_name Usr) 1 refl refl refl (lit≤ tt),
    (
      name_at (designator_name Home) 2 refl refl refl (lit≤ tt),
      (
        name_at (designator_name Srv) 3 refl refl refl (lit≤ tt),
        (
          name_at (designator_name Esp) 4 refl refl refl (lit≤ tt),
          (
            name_at (designator_name Xbootldr) 5 refl refl refl (lit≤ tt),
            (
              name_at (designator_name Swap) 6 refl refl refl (lit≤ tt),
              (
                name_at (designator_name RootVerity) 7 refl refl refl (lit≤ tt),
                (
                  name_at (designator_name RootVeritySig) 8 refl refl refl (lit≤ tt),
                  (
                    name_at (designator_name UsrVerity) 9 refl refl refl (lit≤ tt),
                    (
                      name_at (designator_name UsrVeritySig) 10 refl refl refl (lit≤ tt),
                      (
                        name_at (designator_name Tmp) 11 refl refl refl (lit≤ tt),
                        (name_at (designator_name Var) 12 refl refl refl (lit≤ tt), tt),
                      ),
                    ),
                  ),
                ),
              ),
            ),
          ),
        ),
      ),
    ),
  ),
)

-- what the default's entry sets
abbrev pub default_slot : Flags → Option Flags
default_slot default = if default.0 == ignore_bits then None else Some default

default_set : (at : ℕ) (front : Entries) (default : Flags) → length front ≡ 13 → IsExpanded default.0
    → with_entries at (default_entry default.0) (front ++ None ∷ []) ≡ Ok (front ++ default_slot default ∷ [])
default_set at front default size full = elim (cases_Bool (default.0 == ignore_bits)) [
  | inl t ↦
      ap (λ b. with_entries at (cond b [] (entry_text [] default.0 ∷ [])) (front ++ None ∷ [])) t
      ∙ ap (λ b. Ok (front ++ cond b None (Some default) ∷ [])) (sym t)
  | inr t ↦
      let place : 13 ≡ length front = sym size in
      let empty : get_or (front ++ None ∷ []) 13 None ≡ None =
      ap (λ k. get_or (front ++ None ∷ []) k None) place ∙ get_seam front None [] in
      ap (λ b. with_entries at (cond b [] (entry_text [] default.0 ∷ [])) (front ++ None ∷ [])) t
      ∙ then_ok (with_entry at (entry_text [] default.0) (front ++ None ∷ []))
      ∙ entry_set at 13 [] default.0 (front ++ None ∷ []) default_name full empty
      ∙ ap (λ k. Ok (set (front ++ None ∷ []) k (Some default))) place
      ∙ ap Ok (set_seam front None (Some default) [])
      ∙ ap (λ b. Ok (front ++ cond b None (Some default) ∷ [])) (sym t)
]

-- the entries of a policy set what it lists, one designator behind another
pub fill : (ds : List Designator) (ls front : Entries) (n at : ℕ) (default : Flags) → AreNames (length front) ds → length ds ≡ n
    → length ls ≡ n
    → length front + n ≡ 13 → All IsFull ls → IsExpanded default.0
    → with_entries at (flat_map (λ (e : Designator × Option Flags). listed_entry e.0 e.1) (zip ds ls) ++ default_entry default.0)
    (front ++ replicate (suc n) None)
    ≡ Ok ((front ++ ls) ++ default_slot default ∷ [])
fill [] [] front zero at default names ds_size ls_size size full default_full =
    default_set at front default (omega arith) default_full
    ∙ ap (λ f. Ok (f ++ default_slot default ∷ [])) (sym (append-nil front))
fill [] (l ∷ ls) front zero at default names ds_size ls_size size full default_full = absurd (omega arith)
fill [] ls front (suc n) at default names ds_size ls_size size full default_full = absurd (omega arith)
fill (d ∷ ds) ls front zero at default names ds_size ls_size size full default_full = absurd (omega arith)
fill (d ∷ ds) [] front (suc n) at default names ds_size ls_size size full default_full = absurd (omega arith)
fill (d ∷ ds) (None ∷ ls) front (suc n) at default names ds_size ls_size size full default_full =
    let longer : length front + 1 ≡ length (front ++ None ∷ []) = sym (length-append front (None ∷ [])) in
    ap (with_entries at (flat_map (λ (e : Designator × Option Flags). listed_entry e.0 e.1) (zip ds ls) ++ default_entry default.0))
    (sym (append_assoc front (None ∷ []) (replicate (suc n) None)))
    ∙ fill ds ls (front ++ None ∷ []) n at default (subst (λ k. AreNames k ds) longer names.1) (omega arith) (omega arith) (omega arith)
    (All-tail IsFull None ls full) default_full
    ∙ ap (λ f. Ok (f ++ default_slot default ∷ [])) (append_assoc front (None ∷ []) ls)
fill (d ∷ ds) (Some f ∷ ls) front (suc n) at default names ds_size ls_size size full default_full =
    let longer : length front + 1 ≡ length (front ++ Some f ∷ []) = sym (length-append front (Some f ∷ [])) in
    let later : ℕ = at + length (entry_text (designator_name d) f.0) + 1 in
    let empty : get_or (front ++ replicate (suc (suc n)) None) (length front) None ≡ None =
    get_seam front None (replicate (suc n) None) in
    let placed : set (front ++ replicate (suc (suc n)) None) (length front) (Some f) ≡ (front ++ Some f ∷ []) ++ replicate (suc n) None =
    set_seam front None (Some f) (replicate (suc n) None) ∙ sym (append_assoc front (Some f ∷ []) (replicate (suc n) None)) in
    ap (λ e. then_set e (λ m. with_entries (at + length (entry_text (designator_name d) f.0) + 1)
    (flat_map (λ (e : Designator × Option Flags). listed_entry e.0 e.1) (zip ds ls) ++ default_entry default.0) m))
    (entry_set at (length front) (designator_name d) f.0 (front ++ replicate (suc (suc n)) None) names.0
    (All-head IsFull (Some f) ls full) empty)
    ∙ ap (with_entries (at + length (entry_text (designator_name d) f.0) + 1)
    (flat_map (λ (e : Designator × Option Flags). listed_entry e.0 e.1) (zip ds ls) ++ default_entry default.0)) placed
    ∙ fill ds ls (front ++ Some f ∷ []) n (at + length (entry_text (designator_name d) f.0) + 1) default
    (subst (λ k. AreNames k ds) longer names.1)
    (omega arith) (omega arith) (omega arith) (All-tail IsFull (Some f) ls full) default_full
    ∙ ap (λ g. Ok (g ++ default_slot default ∷ [])) (append_assoc front (Some f ∷ []) ls)

-- what a policy is made of gives it back
pub made_back : (policy : Policy) → length policy.listed ≡ 13
    → policy_with (Ok (policy.listed ++ default_slot policy.default ∷ [])) ≡ Ok policy
made_back policy size =
    let place : 13 ≡ length policy.listed = sym size in
    let slot : get_or (policy.listed ++ default_slot policy.default ∷ []) 13 None ≡ default_slot policy.default =
    ap (λ k. get_or (policy.listed ++ default_slot policy.default ∷ []) k None) place
    ∙ get_seam policy.listed (default_slot policy.default) [] in
    let front : take 13 (policy.listed ++ default_slot policy.default ∷ []) ≡ policy.listed =
    ap (λ k. take k (policy.listed ++ default_slot policy.default ∷ [])) place
    ∙ take-append_seam policy.listed (default_slot policy.default ∷ []) in
    ap (λ o. Ok (record {
      default = unwrap_or o (record { 0 = ignore_bits });
      listed =
          take 13 (policy.listed ++ default_slot policy.default ∷ []);
    })) slot
    ∙ ap (λ l. Ok (record { default = unwrap_or (default_slot policy.default) (record { 0 = ignore_bits }); listed = l })) front
    ∙ ap (λ d. Ok (record { default = d; listed = policy.listed })) (default_back policy.default)
  where
    default_back : (default : Flags) → unwrap_or (default_slot default) (record { 0 = ignore_bits }) ≡ default
    default_back default = elim (cases_Bool (default.0 == ignore_bits)) [
      | inl t ↦
          ap (λ b. unwrap_or (cond b None (Some default)) (record { 0 = ignore_bits })) t
          ∙ ap (λ n. record { 0 = n }) (sym (eqb-true default.0 ignore_bits t))
      | inr t ↦ ap (λ b. unwrap_or (cond b None (Some default)) (record { 0 = ignore_bits })) t
    ]
