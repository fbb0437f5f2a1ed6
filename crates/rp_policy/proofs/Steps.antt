-- What reading a policy's text does part by part.
use Rattle.std.proofs.Common.{◌≡◌, ℕ, ◌+◌, ◌≤◌, false, List, [], ◌∷◌, length, Option, Some, None, Result, Ok, Err, arith, refl, ap, sym, ◌∙◌, cond}
use Rattle.std.specs.Prelude.{bit_or, codes, ◌==◌, ◌++◌, find, option_map, replicate}
use Rattle.std.specs.List.{slice_split}
use Rattle.std.specs.Option.{option_map_or}
use Rattle.std.specs.Str.{bytes_eq}
use Rattle.std.proofs.lemmas.Bool.{false_from_ne_true}
use Rattle.rp_policy.specs.declared.policy.PolicyFault.{PolicyFault}
use Rattle.rp_policy.specs.declared.policy.PolicyKind.TheVariants.{UnknownFlag}
use Rattle.std.proofs.lemmas.Slice.Eq.{bytes_eq-Decides}
use Rattle.rp_policy.specs.Flags.{ignore_bits, open_bits, state_names, use_names}
use Rattle.rp_policy.specs.Reading.{Entries, bits_named, cut, fault, then_set, with_entries, with_entry, with_named}
use Rattle.rp_policy.proofs.Cuts.{cut_none, cut_some}

-- a flag that is known
known : (flags at bits : ℕ) (name : List ℕ) (names : List (List ℕ)) (found : Option ℕ) → bits_named name ≡ found
    → Ok bits ≡ option_map_or Ok found (fault at UnknownFlag)
    → with_named flags at (name ∷ names) ≡ with_named (bit_or flags bits) (at + length name + 1) names
known flags at bits name names None same is = cc
known flags at bits name names (Some b) same is =
    let e : bits ≡ b = cc in
    ap (λ f. option_map_or (λ x. with_named (bit_or flags x) (at + length name + 1) names) f (fault at UnknownFlag)) same
    ∙ ap (λ x. with_named (bit_or flags x) (at + length name + 1) names) (sym e)

-- one that isn't
unknown : (flags at : ℕ) (f : PolicyFault) (name : List ℕ) (names : List (List ℕ)) (found : Option ℕ) → bits_named name ≡ found
    → Err f ≡ option_map_or Ok found (fault at UnknownFlag) → with_named flags at (name ∷ names) ≡ Err f
unknown flags at f name names None same is =
    ap (λ o. option_map_or (λ x. with_named (bit_or flags x) (at + length name + 1) names) o (fault at UnknownFlag)) same ∙ sym is
unknown flags at f name names (Some b) same is = cc

-- flags that were read of a text, of which the rest begins at a place
pub record FlagsRead (at : ℕ) (text : List ℕ) (flags place : ℕ) (rest : List ℕ) : Type 0 where
  pub read : with_named flags place (slice_split (λ byte. byte == 43) rest) ≡ with_named 0 at (slice_split (λ byte. byte == 43) text)
  pub room : place + length rest ≤ 4096

pub flag_next : (at : ℕ) (text : List ℕ) (flags place : ℕ) (rest name behind : List ℕ) (bits : ℕ) → FlagsRead at text flags place rest
    → Some (name, behind) ≡ cut 43 rest → Ok bits ≡ option_map_or Ok (bits_named name) (fault place UnknownFlag)
    → FlagsRead at text (bit_or flags bits) (place + (length name + 1)) behind
flag_next at text flags place rest name behind bits r is found =
    let parts = cut_some 43 rest name behind is in
    let size = parts.size in
    let room = r.room in
    let same : place + length name + 1 ≡ place + (length name + 1) = omega arith in
    record {
      read = ap (λ p. with_named (bit_or flags bits) p (slice_split (λ byte. byte == 43) behind)) (sym same)
          ∙ sym (known flags place bits name (slice_split (λ byte. byte == 43) behind) (bits_named name) refl found)
          ∙ ap (with_named flags place) (sym parts.split) ∙ r.read;
      room = omega arith;
    }

pub flag_lost : (at : ℕ) (text : List ℕ) (flags place : ℕ) (rest name behind : List ℕ) (f : PolicyFault)
    → FlagsRead at text flags place rest
    → Some (name, behind) ≡ cut 43 rest → Err f ≡ option_map_or Ok (bits_named name) (fault place UnknownFlag)
    → Err f ≡ with_named 0 at (slice_split (λ byte. byte == 43) text)
flag_lost at text flags place rest name behind f r is found =
    let parts = cut_some 43 rest name behind is in
    sym (unknown flags place f name (slice_split (λ byte. byte == 43) behind) (bits_named name) refl found)
    ∙ ap (with_named flags place) (sym parts.split) ∙ r.read

pub flag_last : (at : ℕ) (text : List ℕ) (flags place : ℕ) (rest : List ℕ) (bits : ℕ) → FlagsRead at text flags place rest
    → None ≡ cut 43 rest → Ok bits ≡ option_map_or Ok (bits_named rest) (fault place UnknownFlag)
    → Ok (bit_or flags bits) ≡ with_named 0 at (slice_split (λ byte. byte == 43) text)
flag_last at text flags place rest bits r is found =
    sym (known flags place bits rest [] (bits_named rest) refl found) ∙ ap (with_named flags place) (sym (cut_none 43 rest is)) ∙ r.read

pub flag_last_lost : (at : ℕ) (text : List ℕ) (flags place : ℕ) (rest : List ℕ) (f : PolicyFault) → FlagsRead at text flags place rest
    → None ≡ cut 43 rest → Err f ≡ option_map_or Ok (bits_named rest) (fault place UnknownFlag)
    → Err f ≡ with_named 0 at (slice_split (λ byte. byte == 43) text)
flag_last_lost at text flags place rest f r is found =
    sym (unknown flags place f rest [] (bits_named rest) refl found) ∙ ap (with_named flags place) (sym (cut_none 43 rest is)) ∙ r.read

-- entries that were read of a text, of which the rest begins at a place
pub record EntriesRead (text : List ℕ) (entries : Entries) (place : ℕ) (rest : List ℕ) : Type 0 where
  pub read : with_entries place (slice_split (λ byte. byte == 58) rest) entries
      ≡ with_entries 0 (slice_split (λ byte. byte == 58) text) (replicate 14 None)
  pub room : place + length rest ≤ 4096

pub entry_next : (text : List ℕ) (entries : Entries) (place : ℕ) (rest entry behind : List ℕ) (more : Entries)
    → EntriesRead text entries place rest
    → Some (entry, behind) ≡ cut 58 rest → Ok more ≡ with_entry place entry entries
    → EntriesRead text more (place + (length entry + 1)) behind
entry_next text entries place rest entry behind more r is set =
    let parts = cut_some 58 rest entry behind is in
    let size = parts.size in
    let room = r.room in
    let same : place + length entry + 1 ≡ place + (length entry + 1) = omega arith in
    record {
      read = ap (λ p. with_entries p (slice_split (λ byte. byte == 58) behind) more) (sym same)
          ∙ ap (λ e. then_set e (λ m. with_entries (place + length entry + 1) (slice_split (λ byte. byte == 58) behind) m)) set
          ∙ ap (λ texts. with_entries place texts entries) (sym parts.split) ∙ r.read;
      room = omega arith;
    }

pub entry_lost : (text : List ℕ) (entries : Entries) (place : ℕ) (rest entry behind : List ℕ) (f : PolicyFault)
    → EntriesRead text entries place rest
    → Some (entry, behind) ≡ cut 58 rest → Err f ≡ with_entry place entry entries
    → Err f ≡ with_entries 0 (slice_split (λ byte. byte == 58) text) (replicate 14 None)
entry_lost text entries place rest entry behind f r is set =
    let parts = cut_some 58 rest entry behind is in
    ap (λ e. then_set e (λ m. with_entries (place + length entry + 1) (slice_split (λ byte. byte == 58) behind) m)) set
    ∙ ap (λ texts. with_entries place texts entries) (sym parts.split) ∙ r.read

-- the last entry decides
pub then_ok : (r : Result Entries PolicyFault) → then_set r Ok ≡ r
then_ok (Ok entries) = refl
then_ok (Err f) = refl

pub entry_last : (text : List ℕ) (entries : Entries) (place : ℕ) (rest : List ℕ) (r : Result Entries PolicyFault)
    → EntriesRead text entries place rest
    → None ≡ cut 58 rest → r ≡ with_entry place rest entries
    → r ≡ with_entries 0 (slice_split (λ byte. byte == 58) text) (replicate 14 None)
entry_last text entries place rest answer r is set =
    set ∙ sym (then_ok (with_entry place rest entries)) ∙ ap (λ texts. with_entries place texts entries) (sym (cut_none 58 rest is))
    ∙ r.read

-- a name is none of these
abbrev pub IsNone_of : List ℕ → List (List ℕ × ℕ) → Type 0
IsNone_of name [] = Unit {0}
IsNone_of name (e ∷ es) = (name ≡ e.0 → ⊥) × IsNone_of name es

none_in : (name : List ℕ) (names : List (List ℕ × ℕ)) → IsNone_of name names → find (λ e. bytes_eq e.0 name) names ≡ None
none_in name [] none = refl
none_in name (e ∷ es) none =
    let other : bytes_eq e.0 name ≡ false =
    false_from_ne_true (bytes_eq e.0 name) (λ same. none.0 (sym ((bytes_eq-Decides e.0 name).0 same))) in
    ap (λ b. cond b (Some e) (find (λ x. bytes_eq x.0 name) es)) other ∙ none_in name es none.1

pub none_named : (name : List ℕ) → IsNone_of name
    (use_names ++ (state_names ++ (codes "open", open_bits) ∷ (codes "ignore", ignore_bits) ∷ []))
    → None ≡ bits_named name
none_named name none = ap (option_map (λ (e : List ℕ × ℕ). e.1))
    (sym (none_in name (use_names ++ (state_names ++ (codes "open", open_bits) ∷ (codes "ignore", ignore_bits) ∷ [])) none))
