-- The drafts of groups of pieces, one group after another.
use Rattle.std.proofs.Common.{◌≡◌, ℕ, ◌+◌, ◌-◌, ◌<◌, ◌≤◌, List, [], ◌∷◌, ◌++◌, length, take, drop, map, Result, Ok, Err, refl, ap, sym, ◌∙◌}
use Rattle.std.proofs.Common.{arith, append-nil, append_assoc, add-zero, zero-add, inl, inr}
use Rattle.std.specs.Prelude.{sum_by}
use Rattle.std.specs.List.{prefix_len}
use Rattle.std.proofs.lemmas.List.{drop_all}
use Rattle.std.proofs.lemmas.List.Sums.{sum_by-cons}
use Rattle.rp_base.specs.Answers.{Gives}
use Rattle.rp_types.specs.declared.arch.Arch.{Arch}
use Rattle.rp_files.specs.declared.piece.Piece.{Piece}
use Rattle.rp_defs.specs.declared.definition.Definitions.{Definitions}
use Rattle.rp_defs.specs.declared.draft.Draft.{Draft}
use Rattle.rp_defs.specs.declared.draft.Drafts.{Drafts}
use Rattle.rp_defs.specs.declared.fault.DefFault.{DefFault}
use Rattle.rp_defs.specs.Answers.{after, each}
use Rattle.rp_defs.specs.Drafting.{drafts_from, drafts_of, with_draft, with_group, is_part}
use Rattle.rp_defs.specs.Pairs.{paired}
use Rattle.rp_defs.specs.Drafts.{Drafted, drafted_group, drafted_records}
use Rattle.rp_defs.specs.Settings.{groups_of}
use Rattle.rp_defs.proofs.GroupLemmas.{groups_at}

-- drafts, and those behind them
abbrev pub followed : Drafts → Drafts → Drafts
followed a b = record { list = a.list ++ b.list; ignored = a.ignored + b.ignored }

abbrev pub with_groups : Arch → Drafts → List (List Piece) → Result Drafts DefFault
with_groups arch drafts groups = after (each (drafted_group arch) groups) (λ all. Ok (followed drafts (drafts_from all)))

-- drafts with those of the pieces that are left
abbrev pub with_rest : Arch → Drafts → List Piece → Result Drafts DefFault
with_rest arch drafts pieces = with_groups arch drafts (groups_of pieces)

drafts_same : (a b : List Draft) (m n : ℕ) → a ≡ b → m ≡ n
    → (λ (x y : Drafts). x ≡ y) (record { list = a; ignored = m }) (record { list = b; ignored = n })
drafts_same a b m n lists numbers =
    let with_list : List Draft → ℕ → Drafts = λ list ignored. record { list = list; ignored = ignored } in
    ap (λ l. with_list l m) lists ∙ ap (with_list b) numbers

one_more : (drafts : Drafts) (one : Drafted) (all : List Drafted)
    → followed drafts (drafts_from (one ∷ all)) ≡ followed (with_draft drafts one) (drafts_from all)
one_more drafts one all =
    let sums : sum_by (λ (d : Drafted). d.ignored) (one ∷ all) ≡ one.ignored + sum_by (λ (d : Drafted). d.ignored) all =
    sum_by-cons (λ (d : Drafted). d.ignored) one all in
    drafts_same _ _ _ _ (sym (append_assoc drafts.list (one.draft ∷ []) (map (λ (d : Drafted). d.draft) all))) (omega (arith, sums))

groups_step : (first : Result Drafted DefFault) (rest : Result (List Drafted) DefFault) (drafts : Drafts)
    → after (after first (λ value. after rest (λ values. Ok (value ∷ values)))) (λ all. Ok (followed drafts (drafts_from all)))
    ≡ after (after first (λ one. Ok (with_draft drafts one))) (λ more. after rest (λ all. Ok (followed more (drafts_from all))))
groups_step (Err fault) rest drafts = refl
groups_step (Ok one) (Err fault) drafts = refl
groups_step (Ok one) (Ok all) drafts = ap Ok (one_more drafts one all)

with_groups-cons : (arch : Arch) (drafts : Drafts) (group : List Piece) (groups : List (List Piece))
    → with_groups arch drafts (group ∷ groups) ≡ after (with_group arch drafts group) (λ more. with_groups arch more groups)
with_groups-cons arch drafts group groups = groups_step (drafted_group arch group) (each (drafted_group arch) groups) drafts

-- no drafts yet
abbrev pub no_drafts : Drafts
no_drafts = record { list = []; ignored = 0 }

all_from_none : (all : Result (List Drafted) DefFault)
    → after all (λ all. Ok (drafts_from all)) ≡ after all (λ all. Ok (followed no_drafts (drafts_from all)))
all_from_none (Err fault) = refl
all_from_none (Ok all) = ap Ok (drafts_same _ _ _ _ refl (sym (zero-add (sum_by (λ (d : Drafted). d.ignored) all))))

pub rest_first : (arch : Arch) (pieces : List Piece) → drafts_of arch pieces ≡ with_rest arch no_drafts pieces
unfolding drafts_of
rest_first arch pieces = all_from_none (each (drafted_group arch) (groups_of pieces))

-- where none is left
rest_nil : (arch : Arch) (drafts : Drafts) → with_rest arch drafts [] ≡ Ok drafts
unfolding groups_of
rest_nil arch drafts = ap Ok (drafts_same _ _ _ _ (append-nil drafts.list) (add-zero drafts.ignored))

pub rest_last : (arch : Arch) (drafts : Drafts) (pieces : List Piece) (start : ℕ) → length pieces ≤ start
    → with_rest arch drafts (drop start pieces) ≡ Ok drafts
rest_last arch drafts pieces start all = ap (with_rest arch drafts) (drop_all start pieces all) ∙ rest_nil arch drafts

-- the group at a place, and those behind it
pub rest_step : (arch : Arch) (drafts : Drafts) (pieces : List Piece) (start end : ℕ) → start < length pieces
    → end ≡ start + 1 + prefix_len is_part (drop (start + 1) pieces)
    → with_rest arch drafts (drop start pieces) ≡ after (with_group arch drafts (take (end - start) (drop start pieces)))
    (λ more. with_rest arch more (drop end pieces))
rest_step arch drafts pieces start end within is =
    ap (with_groups arch drafts) (groups_at pieces start end within is)
    ∙ with_groups-cons arch drafts (take (end - start) (drop start pieces)) (groups_of (drop end pieces))

-- a fault of an answer is one of what comes after it
pub gives_fault : {S T E : Type 0} (memory : E) (answer : Result S E) (next : S → Result T E) (fault : E) → Gives memory answer (Err fault)
    → Gives memory (after answer next) (Err fault)
gives_fault memory answer next fault gives = elim gives [
  | inl is ↦ inl (ap (λ a. after a next) is)
  | inr is ↦ inr (cc)
]

-- a value of an answer goes on to what comes after it
pub gives_value : {S T E : Type 0} (memory : E) (answer : Result S E) (next : S → Result T E) (value : S) → Gives memory answer (Ok value)
    → after answer next ≡ next value
gives_value memory answer next value gives = elim gives [
  | inl is ↦ ap (λ a. after a next) (sym is)
  | inr is ↦ absurd (cc)
]

pub gives_same : {T E : Type 0} (memory : E) (a b : Result T E) (result : Result T E) → a ≡ b → Gives memory b result
    → Gives memory a result
gives_same memory a b result same gives = elim gives [
  | inl is ↦ inl (is ∙ sym same)
  | inr is ↦ inr is
]

-- all definitions, from the drafts
abbrev pub with_pairs : Drafts → Result Definitions DefFault
with_pairs drafts = after (paired drafts.list) (λ list. Ok (record { list = list; ignored = drafts.ignored }))

-- their drafts, then their pairs
abbrev paired_all : List Drafted → Result Definitions DefFault
paired_all all = after (paired (map (λ (one : Drafted). one.draft) all))
    (λ list. Ok (record { list = list; ignored = sum_by (λ (one : Drafted). one.ignored) all }))

from_all : (all : Result (List Drafted) DefFault) → after all paired_all ≡ after (after all (λ all. Ok (drafts_from all))) with_pairs
from_all (Err fault) = refl
from_all (Ok all) = refl

pub records_is : (arch : Arch) (pieces : List Piece) → drafted_records arch pieces ≡ after (drafts_of arch pieces) with_pairs
unfolding drafted_records drafts_of
records_is arch pieces = from_all (each (drafted_group arch) (groups_of pieces))
