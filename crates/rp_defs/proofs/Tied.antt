-- The definitions from drafts are what the pieces say.
use Rattle.std.proofs.Common.{◌≡◌, ℕ, ◌+◌, List, [], ◌∷◌, Result, Ok, Err, map, refl, ap, sym, ◌∙◌}
use Rattle.std.specs.Prelude.{sum_by}
use Rattle.std.proofs.lemmas.List.Sums.{sum_by-cons}
use Rattle.rp_ini.specs.Lines.{Section}
use Rattle.rp_types.specs.declared.arch.Arch.{Arch}
use Rattle.rp_files.specs.declared.piece.Piece.{Piece}
use Rattle.rp_defs.specs.declared.definition.Definition.{Definition}
use Rattle.rp_defs.specs.declared.definition.Definitions.{Definitions}
use Rattle.rp_defs.specs.declared.draft.Draft.{Draft}
use Rattle.rp_defs.specs.declared.fault.DefFault.{DefFault}
use Rattle.rp_defs.specs.Answers.{after, each}
use Rattle.rp_defs.specs.Drafts.{Drafted, drafted_group, drafted_records, draft_of}
use Rattle.rp_defs.specs.Halves.{paired}
use Rattle.rp_defs.specs.Kept.{counting_of, all_keyed}
use Rattle.rp_defs.specs.Pairs.{paired as paired_drafts}
use Rattle.rp_defs.specs.Records.{records}
use Rattle.rp_defs.specs.Settings.{read_pieces, all_placed, all_ignored, groups_of}
use Rattle.rp_defs.specs.Stated.{Stated, stated_by, stated}
use Rattle.rp_defs.proofs.TiedValues.{all_kept}
use Rattle.rp_defs.proofs.TiedDraft.{draft_kept, ok_map, draft_said}
use Rattle.rp_defs.proofs.TiedPairs.{paired_is}

abbrev One : Type 0
One = Stated × ℕ

abbrev Read : Type 0
Read = List (Piece × List Section)

-- what is stated, as the code drafts it
abbrev drafted_kept : One → Drafted
drafted_kept one = record { draft = draft_kept one.0; ignored = one.1 }

counted : (n : ℕ) (r : Result Stated DefFault)
    → after (ok_map draft_kept r) (λ (draft : Draft). Ok (record { draft = draft; ignored = n })) ≡ ok_map drafted_kept
    (after r (λ one. Ok (one, n)))
counted n (Ok one) = refl
counted n (Err fault) = refl

drafted_by : (arch : Arch) (file : List ℕ) (read : Result Read DefFault)
    → after read (λ read. after (draft_of arch file (counting_of (all_keyed read)))
    (λ (draft : Draft). Ok (record { draft = draft; ignored = all_ignored read })))
    ≡ ok_map drafted_kept (after read (λ read. after (stated_by arch file (all_placed read)) (λ one. Ok (one, all_ignored read))))
drafted_by arch file (Err fault) = refl
drafted_by arch file (Ok read) =
    ap (λ (r : Result Draft DefFault). after r (λ (draft : Draft). count draft))
    (ap (λ sets. draft_of arch file (counting_of sets)) (all_kept read)
    ∙ draft_said arch file (all_placed read))
    ∙ counted (all_ignored read) (stated_by arch file (all_placed read)) where
      count : Draft → Result Drafted DefFault
      count draft = Ok (record { draft = draft; ignored = all_ignored read })

group_is : (arch : Arch) (group : List Piece) → drafted_group arch group ≡ ok_map drafted_kept (stated arch group)
group_is arch [] = drafted_by arch [] (read_pieces [])
group_is arch (main ∷ parts) = drafted_by arch main.file (read_pieces (main ∷ parts))

both : (one : Result One DefFault) (more : Result (List One) DefFault)
    → after (ok_map drafted_kept one) (λ v. after (ok_map (map drafted_kept) more) (λ vs. Ok (v ∷ vs)))
    ≡ ok_map (map drafted_kept) (after one (λ v. after more (λ vs. Ok (v ∷ vs))))
both (Err fault) more = refl
both (Ok one) (Err fault) = refl
both (Ok one) (Ok more) = refl

groups_are : (arch : Arch) (groups : List (List Piece))
    → each (drafted_group arch) groups ≡ ok_map (map drafted_kept) (each (stated arch) groups)
groups_are arch [] = refl
groups_are arch (group ∷ groups) =
    ap (λ (one : Result Drafted DefFault). after one (λ v. after (each (drafted_group arch) groups) (λ vs. Ok (v ∷ vs))))
    (group_is arch group)
    ∙ ap (λ (more : Result (List Drafted) DefFault). after (ok_map drafted_kept (stated arch group)) (λ v. after more (λ vs. Ok (v ∷ vs))))
    (groups_are arch groups)
    ∙ both (stated arch group) (each (stated arch) groups)

drafts_are : (all : List One) → map (λ (one : Drafted). one.draft) (map drafted_kept all) ≡ map draft_kept (map (λ (one : One). one.0) all)
drafts_are [] = refl
drafts_are (one ∷ all) = ap (λ ds. draft_kept one.0 ∷ ds) (drafts_are all)

sums_are : (all : List One) → sum_by (λ (one : Drafted). one.ignored) (map drafted_kept all) ≡ sum_by (λ (one : One). one.1) all
sums_are [] = refl
sums_are (one ∷ all) =
    sum_by-cons (λ (d : Drafted). d.ignored) (drafted_kept one) (map drafted_kept all) ∙ ap (λ n. one.1 + n) (sums_are all)
    ∙ sym (sum_by-cons (λ (o : One). o.1) one all)

finished : (ignored : ℕ) → Result (List Definition) DefFault → Result Definitions DefFault
finished ignored r = after r (λ list. Ok (record { list = list; ignored = ignored }))

from_all : (all : Result (List One) DefFault)
    → after (ok_map (map drafted_kept) all)
    (λ all. finished (sum_by (λ (one : Drafted). one.ignored) all) (paired_drafts (map (λ (one : Drafted). one.draft) all)))
    ≡ after all (λ all. finished (sum_by (λ (one : One). one.1) all) (paired (map (λ (one : One). one.0) all)))
from_all (Err fault) = refl
from_all (Ok all) =
    ap (λ n. finished n (paired_drafts (map (λ (one : Drafted). one.draft) (map drafted_kept all)))) (sums_are all)
    ∙ ap (finished (sum_by (λ (one : One). one.1) all)) (ap paired_drafts (drafts_are all) ∙ paired_is (map (λ (one : One). one.0) all))

pub records_drafted : (arch : Arch) (pieces : List Piece) → records arch pieces ≡ drafted_records arch pieces
unfolding records drafted_records finished
records_drafted arch pieces = sym (
    ap (λ (all : Result (List Drafted) DefFault). after all
    (λ all. finished (sum_by (λ (one : Drafted). one.ignored) all) (paired_drafts (map (λ (one : Drafted). one.draft) all))))
    (groups_are arch (groups_of pieces)) ∙ from_all (each (stated arch) (groups_of pieces)))
