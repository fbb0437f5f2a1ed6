-- The whole text of a policy is one that entries are read of.
use Rattle.std.proofs.Common.{subst, ◌≡◌, ℕ, zero, suc, ◌+◌, ◌*◌, ◌≤◌, Bool, true, false, ◌||◌, cond, List, [], ◌∷◌, ◌++◌, length, replicate, Option, Some, None, Ok, All, arith, refl, ap, sym, ◌∙◌, length-append}
use Rattle.std.specs.Prelude.{codes, nat_lt, zip, ◌==◌}
use Rattle.std.specs.List.{flat_map, join_with_byte, list_any, slice_split}
use Rattle.std.specs.Str.{bytes_eq}
use Rattle.std.proofs.lemmas.Bool.{eqb-true, false_from_ne_true, le-ltb, ne_eqb}
use Rattle.std.proofs.lemmas.List.Elements.{All-head, All-tail}
use Rattle.std.proofs.lemmas.List.Splits.{slice_split_at, slice_split_none}
use Rattle.std.proofs.lemmas.Slice.Eq.{bytes_eq-Decides}
use Rattle.rp_types.specs.declared.arch.Designator.{Designator}
use Rattle.rp_types.specs.Designators.{designator_name}
use Rattle.rp_policy.specs.declared.policy.Flags.{Flags}
use Rattle.rp_policy.specs.declared.policy.Policy.{Policy}
use Rattle.rp_policy.specs.declared.policy.PolicyKind.TheVariants.{TooLong}
use Rattle.rp_policy.specs.Flags.{AreExpanded, IsExpanded, absent_bits, ignore_bits, open_bits}
use Rattle.rp_policy.specs.Reading.{Entries, default_alone, designators, fault, policy_of, policy_with, with_entries}
use Rattle.rp_policy.specs.Written.{default_entry, default_text, entry_text, flags_text, listed_entries, listed_entry, policy_text}
use Rattle.rp_policy.proofs.Full.{IsFull}
use Rattle.rp_policy.proofs.Tried.{Each, text_of_full}
use Rattle.rp_policy.proofs.Back.{AreNames, IsName, all_names, any-append, default_name, fill, made_back, none_of}

-- a text of an entry: no colon, two bytes at least, and few
pub record IsEntry (text : List ℕ) : Type 0 where
  pub plain : list_any (λ byte. byte == 58) text ≡ false
  pub some : 2 ≤ length text
  pub few : length text ≤ 120

entry_of : (name : List ℕ) (place flags : ℕ) → IsName name place → IsExpanded flags → IsEntry (entry_text name flags)
entry_of name place flags is full =
    let text = text_of_full flags full in
    let some = text.some in
    let few = text.few in
    let short = is.few in
    let size = length-append name (61 ∷ flags_text flags) in
    record {
      plain = any-append (λ byte. byte == 58) name (61 ∷ flags_text flags) is.colons text.plain;
      some = omega arith;
      few = omega arith;
    }

-- texts without colons that are joined by them are cut into themselves
split_join : (text : List ℕ) (texts : List (List ℕ)) → Each IsEntry (text ∷ texts)
    → slice_split (λ byte. byte == 58) (join_with_byte 58 (text ∷ texts)) ≡ text ∷ texts
split_join text [] is = slice_split_none (λ byte. byte == 58) text (none_of (λ byte. byte == 58) text is.0.plain)
split_join text (next ∷ texts) is =
    slice_split_at (λ byte. byte == 58) text 58 (join_with_byte 58 (next ∷ texts)) (none_of (λ byte. byte == 58) text is.0.plain) refl
    ∙ ap (λ rest. text ∷ rest) (split_join next texts is.1)

-- how long they are
join_few : (text : List ℕ) (texts : List (List ℕ)) → Each IsEntry (text ∷ texts)
    → length (join_with_byte 58 (text ∷ texts)) ≤ 121 * length (text ∷ texts)
join_few text [] is = let few = is.0.few in omega arith
join_few text (next ∷ texts) is =
    let few = is.0.few in
    let rest = join_few next texts is.1 in
    let size = length-append text (58 ∷ join_with_byte 58 (next ∷ texts)) in
    omega arith

join_some : (text : List ℕ) (texts : List (List ℕ)) → Each IsEntry (text ∷ texts) → 2 ≤ length (join_with_byte 58 (text ∷ texts))
join_some text [] is = is.0.some
join_some text (next ∷ texts) is =
    let some = is.0.some in
    let size = length-append text (58 ∷ join_with_byte 58 (next ∷ texts)) in
    omega arith

differs : (text other : List ℕ) → length other ≡ 1 → 2 ≤ length text → bytes_eq text other ≡ false
differs text other one some = false_from_ne_true (bytes_eq text other) (λ same.
    let equal = ap length ((bytes_eq-Decides text other).0 same) in
    absurd (omega arith))

-- a text of two bytes or more is read entry by entry
by_entries : (text : List ℕ) → 2 ≤ length text → length text ≤ 4096
    → policy_of text ≡ policy_with (with_entries 0 (slice_split (λ byte. byte == 58) text) (replicate 14 None))
by_entries text some few =
    let read = policy_with (with_entries 0 (slice_split (λ byte. byte == 58) text) (replicate 14 None)) in
    let long : nat_lt 4096 (length text) ≡ false = le-ltb 4096 (length text) few in
    let empty : (length text == 0) ≡ false = ne_eqb (length text) 0 (omega arith) in
    let dash : (bytes_eq text (codes "-") || (length text == 0)) ≡ false =
    ap (λ b. b || (length text == 0)) (differs text (codes "-") refl some) ∙ empty in
    ap (λ b. cond b (fault 4096 TooLong) (cond (bytes_eq text (codes "*")) (Ok (default_alone open_bits))
    (cond (bytes_eq text (codes "-") || (length text == 0)) (Ok (default_alone ignore_bits))
    (cond (bytes_eq text (codes "~")) (Ok (default_alone absent_bits)) read)))) long
    ∙ ap (λ b. cond b (Ok (default_alone open_bits))
    (cond (bytes_eq text (codes "-") || (length text == 0)) (Ok (default_alone ignore_bits))
    (cond (bytes_eq text (codes "~")) (Ok (default_alone absent_bits)) read))) (differs text (codes "*") refl some)
    ∙ ap (λ b. cond b (Ok (default_alone ignore_bits)) (cond (bytes_eq text (codes "~")) (Ok (default_alone absent_bits)) read)) dash
    ∙ ap (λ b. cond b (Ok (default_alone absent_bits)) read) (differs text (codes "~") refl some)

-- joined entries are read one after another
joined_read : (text : List ℕ) (texts : List (List ℕ)) → Each IsEntry (text ∷ texts) → length texts ≤ 13
    → policy_of (join_with_byte 58 (text ∷ texts)) ≡ policy_with (with_entries 0 (text ∷ texts) (replicate 14 None))
joined_read text texts is count =
    let few = join_few text texts is in
    by_entries (join_with_byte 58 (text ∷ texts)) (join_some text texts is) (omega arith)
    ∙ ap (λ parts. policy_with (with_entries 0 parts (replicate 14 None))) (split_join text texts is)

-- the entries of a policy are entries
listed_are : (ds : List Designator) (ls : Entries) (k : ℕ) (more : List (List ℕ)) → AreNames k ds → All IsFull ls → Each IsEntry more
    → Each IsEntry (flat_map (λ (e : Designator × Option Flags). listed_entry e.0 e.1) (zip ds ls) ++ more)
listed_are [] ls k more names full is = is
listed_are (d ∷ ds) [] k more names full is = is
listed_are (d ∷ ds) (None ∷ ls) k more names full is = listed_are ds ls (k + 1) more names.1 (All-tail IsFull None ls full) is
listed_are (d ∷ ds) (Some f ∷ ls) k more names full is = (
  entry_of (designator_name d) k f.0 names.0 (All-head IsFull (Some f) ls full),
  listed_are ds ls (k + 1) more names.1 (All-tail IsFull (Some f) ls full) is,
)

listed_few : (ds : List Designator) (ls : Entries) (more : List (List ℕ))
    → length (flat_map (λ (e : Designator × Option Flags). listed_entry e.0 e.1) (zip ds ls) ++ more) ≤ length ds + length more
listed_few [] ls more = omega arith
listed_few (d ∷ ds) [] more = omega arith
listed_few (d ∷ ds) (None ∷ ls) more = let rest = listed_few ds ls more in omega arith
listed_few (d ∷ ds) (Some f ∷ ls) more = let rest = listed_few ds ls more in omega arith

default_is : (default : Flags) → IsExpanded default.0 → Each IsEntry (default_entry default.0)
default_is default full = by_test (default.0 == ignore_bits)
  where
    by_test : (b : Bool) → Each IsEntry (cond b [] (entry_text [] default.0 ∷ []))
    by_test true = tt
    by_test false = (entry_of [] 13 default.0 default_name full, tt)

default_few : (flags : ℕ) → length (default_entry flags) ≤ 1
default_few flags = by_test (flags == ignore_bits)
  where
    by_test : (b : Bool) → length (cond b [] (entry_text [] flags ∷ [])) ≤ 1
    by_test true = omega arith
    by_test false = omega arith

-- where nothing is listed, nothing was
none_listed : (ds : List Designator) (ls : Entries) (n : ℕ) → length ds ≡ n → length ls ≡ n
    → flat_map (λ (e : Designator × Option Flags). listed_entry e.0 e.1) (zip ds ls) ≡ [] → ls ≡ replicate n None
none_listed [] [] zero ds_size ls_size is = refl
none_listed [] (l ∷ ls) zero ds_size ls_size is = absurd (omega arith)
none_listed [] ls (suc n) ds_size ls_size is = absurd (omega arith)
none_listed (d ∷ ds) ls zero ds_size ls_size is = absurd (omega arith)
none_listed (d ∷ ds) [] (suc n) ds_size ls_size is = absurd (omega arith)
none_listed (d ∷ ds) (None ∷ ls) (suc n) ds_size ls_size is = ap (λ r. None ∷ r) (none_listed ds ls n (omega arith) (omega arith) is)
none_listed (d ∷ ds) (Some f ∷ ls) (suc n) ds_size ls_size is = cc

alone_is : (policy : Policy) (flags : ℕ) → policy.listed ≡ replicate 13 None → policy.default.0 ≡ flags → default_alone flags ≡ policy
alone_is policy flags listed default =
    ap (λ n. record { default = record { 0 = n }; listed = replicate 13 None }) (sym default)
    ∙ ap (λ l. record { default = policy.default; listed = l }) (sym listed)

-- a policy that lists nothing is read back
alone_back : (policy : Policy) → length policy.listed ≡ 13 → AreExpanded policy → listed_entries policy ≡ []
    → policy_of (default_text policy.default.0) ≡ Ok policy
alone_back policy size full none = by_open (policy.default.0 == open_bits) refl
  where
    listed : policy.listed ≡ replicate 13 None
    listed = none_listed designators policy.listed 13 refl size none

    by_absent : (b : Bool) → (policy.default.0 == absent_bits) ≡ b → (policy.default.0 == ignore_bits) ≡ false
        → policy_of (cond b (codes "~") (entry_text [] policy.default.0)) ≡ Ok policy
    by_absent true same other = ap Ok (alone_is policy absent_bits listed (eqb-true policy.default.0 absent_bits same))
    by_absent false same other =
        let is = entry_of [] 13 policy.default.0 default_name full.default in
        joined_read (entry_text [] policy.default.0) [] (is, tt) (omega arith)
        ∙ ap (λ b. policy_with (with_entries 0 (cond b [] (entry_text [] policy.default.0 ∷ [])) (replicate 14 None))) (sym other)
        ∙ ap (λ parts. policy_with (with_entries 0 (parts ++ default_entry policy.default.0) (replicate 14 None))) (sym none)
        ∙ ap policy_with (fill designators policy.listed [] 13 0 policy.default all_names refl size refl full.listed full.default)
        ∙ made_back policy size

    by_ignore : (b : Bool) → (policy.default.0 == ignore_bits) ≡ b
        → policy_of (cond b (codes "-") (cond (policy.default.0 == absent_bits) (codes "~") (entry_text [] policy.default.0))) ≡ Ok policy
    by_ignore true same = ap Ok (alone_is policy ignore_bits listed (eqb-true policy.default.0 ignore_bits same))
    by_ignore false same = by_absent (policy.default.0 == absent_bits) refl same

    by_open : (b : Bool) → (policy.default.0 == open_bits) ≡ b
        → policy_of (cond b (codes "*") (cond (policy.default.0 == ignore_bits) (codes "-")
        (cond (policy.default.0 == absent_bits) (codes "~") (entry_text [] policy.default.0)))) ≡ Ok policy
    by_open true same = ap Ok (alone_is policy open_bits listed (eqb-true policy.default.0 open_bits same))
    by_open false same = by_ignore (policy.default.0 == ignore_bits) refl

-- the canonical text of a policy in full is read as the policy
pub text_back : (policy : Policy) → length policy.listed ≡ 13 → AreExpanded policy → policy_of (policy_text policy) ≡ Ok policy
text_back policy size full = by_listed (listed_entries policy) refl
  where
    by_listed : (entries : List (List ℕ)) → listed_entries policy ≡ entries
        → policy_of (cond (length entries == 0) (default_text policy.default.0)
        (join_with_byte 58 (entries ++ default_entry policy.default.0))) ≡ Ok policy
    by_listed [] same = alone_back policy size full same
    by_listed (text ∷ texts) same =
        let are = listed_are designators policy.listed 0 (default_entry policy.default.0) all_names full.listed
        (default_is policy.default full.default) in
        let all : Each IsEntry ((text ∷ texts) ++ default_entry policy.default.0) =
        subst (λ e. Each IsEntry (e ++ default_entry policy.default.0)) same are in
        let few = listed_few designators policy.listed (default_entry policy.default.0) in
        let few' : length ((text ∷ texts) ++ default_entry policy.default.0) ≤ 13 + length (default_entry policy.default.0) =
        subst (λ e. length (e ++ default_entry policy.default.0) ≤ 13 + length (default_entry policy.default.0)) same few in
        let one = default_few policy.default.0 in
        let some : (length (text ∷ texts) == 0) ≡ false = ne_eqb (length (text ∷ texts)) 0 (omega arith) in
        ap (λ b. policy_of (cond b (default_text policy.default.0)
        (join_with_byte 58 ((text ∷ texts) ++ default_entry policy.default.0)))) some
        ∙ joined_read text (texts ++ default_entry policy.default.0) all (omega arith)
        ∙ ap (λ e. policy_with (with_entries 0 (e ++ default_entry policy.default.0) (replicate 14 None))) (sym same)
        ∙ ap policy_with (fill designators policy.listed [] 13 0 policy.default all_names refl size refl full.listed full.default)
        ∙ made_back policy size
