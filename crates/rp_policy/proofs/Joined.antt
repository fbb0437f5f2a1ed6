-- Texts that are joined one behind another.
use Rattle.std.proofs.Common.{◌≡◌, ℕ, suc, ◌+◌, ◌<◌, Bool, true, false, ◌&&◌, cond, List, [], ◌∷◌, ◌++◌, map, length, drop, get_or, Option, arith, refl, ap, sym, ◌∙◌, append-nil, append_assoc, drop-cons}
use Rattle.std.specs.Prelude.{filter, zip, ◌==◌}
use Rattle.std.specs.List.{flat_map, join_with_byte}
use Rattle.std.proofs.lemmas.Bool.{eq-eqb, ne_eqb}
use Rattle.rp_types.specs.declared.arch.Designator.{Designator}
use Rattle.rp_policy.specs.declared.policy.Flags.{Flags}
use Rattle.rp_policy.specs.Flags.{has}
use Rattle.rp_policy.specs.Joining.{is_none, joined, led}
use Rattle.rp_policy.specs.declared.policy.Policy.{Policy}
use Rattle.rp_policy.specs.Reading.{designators}
use Rattle.rp_policy.specs.Written.{default_entry, default_text, entry_text, listed_entries, listed_entry, names_set, policy_text}

joined_behind : (mark : ℕ) (text : List ℕ) (texts : List (List ℕ)) → join_with_byte mark (text ∷ texts) ≡ text ++ joined mark false texts
joined_behind mark text [] = sym (append-nil text)
joined_behind mark text (next ∷ texts) = ap (λ rest. text ++ (mark ∷ rest)) (joined_behind mark next texts)

-- joined from the first on they have the byte between them
pub joined_all : (mark : ℕ) (texts : List (List ℕ)) → joined mark true texts ≡ join_with_byte mark texts
joined_all mark [] = refl
joined_all mark (text ∷ texts) = sym (joined_behind mark text texts)

pub joined-append : (mark : ℕ) (first : Bool) (xs ys : List (List ℕ))
    → joined mark first (xs ++ ys) ≡ joined mark first xs ++ joined mark (first && is_none xs) ys
joined-append mark true [] ys = refl
joined-append mark false [] ys = refl
joined-append mark true (x ∷ xs) ys = ap (λ rest. x ++ rest) (joined-append mark false xs ys)
    ∙ sym (append_assoc x (joined mark false xs) (joined mark false ys))
joined-append mark false (x ∷ xs) ys = ap (λ rest. (mark ∷ x) ++ rest) (joined-append mark false xs ys)
    ∙ sym (append_assoc (mark ∷ x) (joined mark false xs) (joined mark false ys))

-- a text that grows by what is still to be joined
pub record Grows (mark : ℕ) (begun : Bool) (old : List ℕ) (all : List (List ℕ)) (first : Bool) (new : List ℕ)
    (rest : List (List ℕ)) : Type 0 where
  pub text : new ++ joined mark first rest ≡ old ++ joined mark begun all
  pub none : (first && is_none rest) ≡ (begun && is_none all)

pub grows_start : (mark : ℕ) (begun : Bool) (old : List ℕ) (all : List (List ℕ)) → Grows mark begun old all begun old all
grows_start mark begun old all = record { text = refl; none = refl }

-- one more text
pub grows_more : (mark : ℕ) (begun : Bool) (old : List ℕ) (all : List (List ℕ)) (first : Bool) (new text : List ℕ) (rest : List (List ℕ))
    → Grows mark begun old all first new (text ∷ rest) → Grows mark begun old all false (new ++ led mark first text) rest
grows_more mark begun old all first new text rest r = record {
  text = append_assoc new (led mark first text) (joined mark false rest) ∙ r.text;
  none = none_left first ∙ r.none;
} where
  none_left : (b : Bool) → false ≡ (b && false)
  none_left true = refl
  none_left false = refl

-- all is joined
pub grows_end : (mark : ℕ) (begun : Bool) (old : List ℕ) (all : List (List ℕ)) (first : Bool) (new : List ℕ)
    → Grows mark begun old all first new []
    → (new ≡ old ++ joined mark begun all) × (first ≡ (begun && is_none all))
grows_end mark begun old all first new r = (sym (append-nil new) ∙ r.text, and_true first ∙ r.none) where
  and_true : (b : Bool) → b ≡ (b && true)
  and_true true = refl
  and_true false = refl

-- the names of flags from an entry on
pub names_yes : (flags : ℕ) (e : List ℕ × ℕ) (es : List (List ℕ × ℕ)) → has flags e.1 ≡ true
    → names_set flags (e ∷ es) ≡ e.0 ∷ names_set flags es
names_yes flags e es is = ap (λ b. map (λ (x : List ℕ × ℕ). x.0)
    (cond b (e ∷ filter (λ x. has flags x.1) es) (filter (λ x. has flags x.1) es))) is

pub names_no : (flags : ℕ) (e : List ℕ × ℕ) (es : List (List ℕ × ℕ)) → has flags e.1 ≡ false
    → names_set flags (e ∷ es) ≡ names_set flags es
names_no flags e es is = ap (λ b. map (λ (x : List ℕ × ℕ). x.0)
    (cond b (e ∷ filter (λ x. has flags x.1) es) (filter (λ x. has flags x.1) es))) is

none-append : (xs ys : List (List ℕ)) → is_none (xs ++ ys) ≡ (is_none xs && is_none ys)
none-append [] ys = refl
none-append (x ∷ xs) ys = refl

-- some more texts
pub grows_by : (mark : ℕ) (begun : Bool) (old : List ℕ) (all : List (List ℕ)) (first still : Bool) (new more : List ℕ)
    (xs rest : List (List ℕ))
    → Grows mark begun old all first new (xs ++ rest) → more ≡ new ++ joined mark first xs → still ≡ (first && is_none xs)
    → Grows mark begun old all still more rest
grows_by mark begun old all first still new more xs rest r text none = record {
  text = ap (λ t. t ++ joined mark still rest) text ∙ append_assoc new (joined mark first xs) (joined mark still rest)
      ∙ ap (λ b. new ++ (joined mark first xs ++ joined mark b rest)) none
      ∙ ap (λ t. new ++ t) (sym (joined-append mark first xs rest)) ∙ r.text;
  none = ap (λ b. b && is_none rest) none ∙ and_assoc first (is_none xs) (is_none rest) ∙ ap (λ b. first && b) (sym (none-append xs rest))
      ∙ r.none;
} where
  and_assoc : (a b c : Bool) → ((a && b) && c) ≡ (a && (b && c))
  and_assoc true b c = refl
  and_assoc false b c = refl

-- two runs of texts are one
pub joined_two : (mark : ℕ) (old a b : List ℕ) (xs ys : List (List ℕ)) (first : Bool) → a ≡ old ++ joined mark true xs
    → b ≡ a ++ joined mark first ys
    → first ≡ is_none xs → b ≡ old ++ join_with_byte mark (xs ++ ys)
joined_two mark old a b xs ys first a_is b_is none =
    b_is ∙ ap (λ t. t ++ joined mark first ys) a_is ∙ append_assoc old (joined mark true xs) (joined mark first ys)
    ∙ ap (λ n. old ++ (joined mark true xs ++ joined mark n ys)) none
    ∙ ap (λ t. old ++ t) (sym (joined-append mark true xs ys) ∙ joined_all mark (xs ++ ys))

-- the designators from a place on
abbrev pub listed_from : Policy → ℕ → List (List ℕ)
listed_from policy i = flat_map (λ (e : Designator × Option Flags). listed_entry e.0 e.1)
    (zip (drop i designators) (drop i policy.listed))

pub listed_step : (policy : Policy) (i : ℕ) (d0 : Designator) (f0 : Option Flags) → i < 13 → length policy.listed ≡ 13
    → listed_from policy i ≡ listed_entry (get_or designators i d0) (get_or policy.listed i f0) ++ listed_from policy (i + 1)
listed_step policy i d0 f0 below size =
    let in_list : i < length policy.listed = omega arith in
    let next : suc i ≡ i + 1 = omega arith in
    ap (λ ds. flat_map (λ (e : Designator × Option Flags). listed_entry e.0 e.1) (zip ds (drop i policy.listed)))
    (drop-cons designators i d0 below)
    ∙ ap (λ ls. flat_map (λ (e : Designator × Option Flags). listed_entry e.0 e.1)
    (zip (get_or designators i d0 ∷ drop (suc i) designators) ls))
    (drop-cons policy.listed i f0 in_list)
    ∙ ap (λ n. listed_entry (get_or designators i d0) (get_or policy.listed i f0) ++ listed_from policy n) next

-- nothing is listed
pub text_alone : (policy : Policy) (old a b : List ℕ) → a ≡ old ++ joined 58 true (listed_entries policy)
    → b ≡ a ++ default_text policy.default.0
    → is_none (listed_entries policy) ≡ true → b ≡ old ++ policy_text policy
text_alone policy old a b a_is b_is none = by_entries (listed_entries policy) refl
  where
    by_entries : (entries : List (List ℕ)) → listed_entries policy ≡ entries
        → b ≡ old ++ cond (length entries == 0) (default_text policy.default.0)
        (join_with_byte 58 (entries ++ default_entry policy.default.0))
    by_entries [] same =
        b_is ∙ ap (λ t. t ++ default_text policy.default.0) (a_is ∙ ap (λ e. old ++ joined 58 true e) same ∙ append-nil old)
    by_entries (x ∷ xs) same = let no : false ≡ true = sym (ap is_none same) ∙ none in cc

-- something is listed, and then comes the default's entry
pub text_listed : (policy : Policy) (old a b : List ℕ) → a ≡ old ++ joined 58 true (listed_entries policy)
    → b ≡ a ++ joined 58 false (default_entry policy.default.0) → is_none (listed_entries policy) ≡ false → b ≡ old ++ policy_text policy
text_listed policy old a b a_is b_is none = by_entries (listed_entries policy) refl
  where
    by_entries : (entries : List (List ℕ)) → listed_entries policy ≡ entries
        → b ≡ old ++ cond (length entries == 0) (default_text policy.default.0)
        (join_with_byte 58 (entries ++ default_entry policy.default.0))
    by_entries [] same = let no : true ≡ false = sym (ap is_none same) ∙ none in cc
    by_entries (x ∷ xs) same =
        let some : (length (x ∷ xs) == 0) ≡ false = ne_eqb (length (x ∷ xs)) 0 (omega arith) in
        joined_two 58 old a b (x ∷ xs) (default_entry policy.default.0) false (a_is ∙ ap (λ e. old ++ joined 58 true e) same) b_is refl
        ∙ ap (λ t. old ++ cond t (default_text policy.default.0) (join_with_byte 58 ((x ∷ xs) ++ default_entry policy.default.0)))
        (sym some)

-- the default's entry behind others
pub default_ignored : (default : ℕ) (a : List ℕ) → default ≡ 48 → a ≡ a ++ joined 58 false (default_entry default)
default_ignored default a is =
    sym (append-nil a) ∙ ap (λ b. a ++ joined 58 false (cond b [] (entry_text [] default ∷ []))) (sym (eq-eqb default 48 is))

pub default_pushed : (default : ℕ) (a b c : List ℕ) → (default ≡ 48 → ⊥) → b ≡ a ++ 58 ∷ [] → c ≡ b ++ entry_text [] default
    → c ≡ a ++ joined 58 false (default_entry default)
default_pushed default a b c other b_is c_is =
    c_is ∙ ap (λ t. t ++ entry_text [] default) b_is ∙ append_assoc a (58 ∷ []) (entry_text [] default)
    ∙ ap (λ t. a ++ (58 ∷ t)) (sym (append-nil (entry_text [] default)))
    ∙ ap (λ t. a ++ joined 58 false (cond t [] (entry_text [] default ∷ []))) (sym (ne_eqb default 48 other))
