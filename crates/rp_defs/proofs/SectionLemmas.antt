-- What the pieces so far set, and what one more sets.
use Rattle.std.proofs.Common.{◌≡◌, ℕ, ◌+◌, ◌<◌, List, [], ◌∷◌, ◌++◌, Result, Ok, Err, Option, length, take, drop, get_or, inl, inr, refl}
use Rattle.std.proofs.Common.{ap, sym, ◌∙◌}
use Rattle.std.specs.Prelude.{sum_by}
use Rattle.std.proofs.lemmas.List.{append-nil, at_drop_more, take_more, take-append-drop}
use Rattle.std.proofs.lemmas.List.Concat.{flat_map-append}
use Rattle.std.proofs.lemmas.List.Sums.{sum_by_push}
use Rattle.rp_base.specs.Answers.{Gives}
use Rattle.rp_ini.specs.Lines.{Section}
use Rattle.rp_files.specs.declared.piece.Piece.{Piece}
use Rattle.rp_defs.specs.declared.fault.DefFault.{DefFault}
use Rattle.rp_defs.specs.declared.setting.Setting.{Setting}
use Rattle.rp_defs.specs.declared.sections.Settings.{Settings}
use Rattle.rp_defs.specs.Answers.{after, each}
use Rattle.rp_defs.specs.Faults.{no_memory}
use Rattle.rp_defs.specs.Kept.{Keyed, keyed_in, all_keyed, counting_of}
use Rattle.rp_defs.specs.Settings.{sections_of, read_pieces, all_ignored, ignored_in}
use Rattle.rp_defs.specs.Counting.{CountsAlso}
use Rattle.rp_defs.proofs.CountingLemmas.{length-counting_of}

-- a piece that was read
abbrev pub Read : Type 0
Read = Piece × List Section

abbrev pub of_piece : Piece → Result (List Section) DefFault → Result Read DefFault
of_piece piece (Ok sections) = Ok (piece, sections)
of_piece piece (Err fault) = Err fault

abbrev pub read_piece : Piece → Result Read DefFault
read_piece piece = of_piece piece (sections_of piece)

read_pieces-each : (pieces : List Piece) → read_pieces pieces ≡ each read_piece pieces
read_pieces-each pieces = refl

abbrev total : List Read → Settings
total read = record { counting = counting_of (all_keyed read); ignored = all_ignored read }

-- what pieces set
abbrev pub set_by : List Piece → Result Settings DefFault
set_by pieces = after (read_pieces pieces) (λ read. Ok (total read))

step : {T E : Type 0} (first : Result T E) (r now : Result (List T) E) (found : List T) (value : T)
    → after first (λ v. after r (λ vs. Ok (v ∷ vs))) ≡ Ok found
    → ((rest : List T) → r ≡ Ok rest → now ≡ Ok (rest ++ value ∷ []))
    → after first (λ v. after now (λ vs. Ok (v ∷ vs))) ≡ Ok (found ++ value ∷ [])
step (Err fault) r now found value is then = absurd (cc)
step (Ok v) (Err fault) now found value is then = absurd (cc)
step {T} {E} (Ok v) (Ok rest) now found value is then =
    let all : v ∷ rest ≡ found = cc in
    ap (λ (r : Result (List T) E). after r (λ vs. Ok (v ∷ vs))) (then rest refl) ∙ ap (λ (vs : List T). Ok (vs ++ value ∷ [])) all

-- one more answer behind the others
pub each-push : {S T E : Type 0} (f : S → Result T E) (items : List S) (item : S) (found : List T) (value : T) → each f items ≡ Ok found
    → f item ≡ Ok value
    → each f (items ++ item ∷ []) ≡ Ok (found ++ value ∷ [])
each-push {S} {T} {E} f [] item found value is one =
    let none : [] ≡ found = cc in
    ap (λ (r : Result T E). after r (λ v. after (Ok []) (λ vs. Ok (v ∷ vs)))) one ∙ ap (λ (vs : List T). Ok (vs ++ value ∷ [])) none
each-push f (first ∷ items) item found value is one =
    step (f first) (each f items) (each f (items ++ item ∷ [])) found value is (λ rest before. each-push f items item rest value before one)

fault_step : {T E : Type 0} (first : Result T E) (r now : Result (List T) E) (found : List T) (fault : E)
    → after first (λ v. after r (λ vs. Ok (v ∷ vs))) ≡ Ok found
    → ((rest : List T) → r ≡ Ok rest → now ≡ Err fault) → after first (λ v. after now (λ vs. Ok (v ∷ vs))) ≡ Err fault
fault_step (Err fault) r now found error is then = absurd (cc)
fault_step (Ok v) (Err fault) now found error is then = absurd (cc)
fault_step {T} {E} (Ok v) (Ok rest) now found error is then = ap (λ (r : Result (List T) E). after r (λ vs. Ok (v ∷ vs))) (then rest refl)

-- the first fault, whatever stands behind it
pub each-fault : {S T E : Type 0} (f : S → Result T E) (items : List S) (item : S) (behind : List S) (found : List T) (fault : E)
    → each f items ≡ Ok found → f item ≡ Err fault
    → each f (items ++ item ∷ behind) ≡ Err fault
each-fault {S} {T} {E} f [] item behind found fault is one =
    ap (λ (r : Result T E). after r (λ v. after (each f behind) (λ vs. Ok (v ∷ vs)))) one
each-fault f (first ∷ items) item behind found fault is one =
    fault_step (f first) (each f items) (each f (items ++ item ∷ behind)) found fault is
    (λ rest before. each-fault f items item behind rest fault before one)

same_settings : (a b : Settings) → a.counting ≡ b.counting → a.ignored ≡ b.ignored → a ≡ b
same_settings a b counting ignored =
    ap (λ (c : List (Option Setting)). record { counting = c; ignored = a.ignored }) counting
    ∙ ap (λ n. record { counting = b.counting; ignored = n }) ignored

all_keyed-push : (read : List Read) (one : Read) → all_keyed (read ++ one ∷ []) ≡ all_keyed read ++ keyed_in one
all_keyed-push read one = flat_map-append keyed_in read (one ∷ [])
    ∙ ap (λ (more : List Keyed). all_keyed read ++ more) (append-nil (keyed_in one))

set_step : (so_far now : Result (List Read) DefFault) (piece : Piece) (sections : List Section) (settings next : Settings)
    → after so_far (λ read. Ok (total read)) ≡ Ok settings
    → ((read : List Read) → so_far ≡ Ok read → now ≡ Ok (read ++ (piece, sections) ∷ []))
    → CountsAlso (keyed_in (piece, sections)) settings.counting next.counting → next.ignored ≡ settings.ignored + sum_by ignored_in sections
    → after now (λ read. Ok (total read)) ≡ Ok next
set_step (Err fault) now piece sections settings next is then counts ignores = absurd (cc)
set_step (Ok read) now piece sections settings next is then counts ignores =
    let same : total read ≡ settings = cc in
    let one : Read = (piece, sections) in
    let counting : counting_of (all_keyed (read ++ one ∷ [])) ≡ next.counting =
    ap counting_of (all_keyed-push read one) ∙ sym (counts (all_keyed read) (sym (ap (λ (s : Settings). s.counting) same))) in
    let ignored : all_ignored (read ++ one ∷ []) ≡ next.ignored =
    sum_by_push (λ (r : Read). sum_by ignored_in r.1) read one
    ∙ ap (λ n. n + sum_by ignored_in sections) (ap (λ (s : Settings). s.ignored) same) ∙ sym ignores in
    ap (λ (r : Result (List Read) DefFault). after r (λ all. Ok (total all))) (then read refl)
    ∙ ap (λ (s : Settings). Ok s) (same_settings (total (read ++ one ∷ [])) next counting ignored)

-- with one more piece
pub set_more : (pieces : List Piece) (i : ℕ) (piece : Piece) (sections : List Section) (settings next : Settings) → i < length pieces
    → piece ≡ get_or pieces i piece
    → set_by (take i pieces) ≡ Ok settings → sections_of piece ≡ Ok sections
    → CountsAlso (keyed_in (piece, sections)) settings.counting next.counting → next.ignored ≡ settings.ignored + sum_by ignored_in sections
    → set_by (take (i + 1) pieces) ≡ Ok next
set_more pieces i piece sections settings next lt is so_far read counts ignores =
    ap set_by (take_more pieces i piece lt ∙ ap (λ (p : Piece). take i pieces ++ p ∷ []) (sym is))
    ∙ set_step (read_pieces (take i pieces)) (read_pieces (take i pieces ++ piece ∷ [])) piece sections settings next so_far
    (λ found before. each-push read_piece (take i pieces) piece found (piece, sections) before (ap (of_piece piece) read)) counts ignores

set_fault_step : (so_far now : Result (List Read) DefFault) (fault : DefFault) (settings : Settings)
    → after so_far (λ read. Ok (total read)) ≡ Ok settings
    → ((read : List Read) → so_far ≡ Ok read → now ≡ Err fault) → after now (λ read. Ok (total read)) ≡ Err fault
set_fault_step (Err error) now fault settings is then = absurd (cc)
set_fault_step (Ok read) now fault settings is then =
    ap (λ (r : Result (List Read) DefFault). after r (λ all. Ok (total all))) (then read refl)

-- with a piece that has a fault
pub set_fault : (pieces : List Piece) (i : ℕ) (piece : Piece) (fault : DefFault) (settings : Settings) → i < length pieces
    → piece ≡ get_or pieces i piece
    → set_by (take i pieces) ≡ Ok settings → sections_of piece ≡ Err fault → set_by pieces ≡ Err fault
set_fault pieces i piece fault settings lt is so_far read =
    ap set_by (sym (take-append-drop i pieces)
    ∙ ap (λ (ps : List Piece). take i pieces ++ ps) (drop_at_more ∙ ap (λ (p : Piece). p ∷ drop (i + 1) pieces) (sym is)))
    ∙ set_fault_step (read_pieces (take i pieces)) (read_pieces (take i pieces ++ piece ∷ drop (i + 1) pieces)) fault settings so_far
    (λ found before. each-fault read_piece (take i pieces) piece (drop (i + 1) pieces) found fault before (ap (of_piece piece) read)) where
      drop_at_more : drop i pieces ≡ get_or pieces i piece ∷ drop (i + 1) pieces
      drop_at_more = at_drop_more (λ (ps : List Piece). ps) pieces i piece lt

-- the same of what a call says of the piece
pub set_faulty : (pieces : List Piece) (i : ℕ) (piece : Piece) (fault : DefFault) (settings : Settings) → i < length pieces
    → piece ≡ get_or pieces i piece
    → set_by (take i pieces) ≡ Ok settings → Gives no_memory (sections_of piece) (Err fault) → Gives no_memory (set_by pieces) (Err fault)
set_faulty pieces i piece fault settings lt is so_far (inl read) =
    inl (sym (set_fault pieces i piece fault settings lt is so_far (sym read)))
set_faulty pieces i piece fault settings lt is so_far (inr none) = let same : fault ≡ no_memory =
    cc in inr (ap (λ (f : DefFault). Err f) same)

pub read_well : (r : Result (List Section) DefFault) (sections : List Section) → Gives no_memory r (Ok sections) → r ≡ Ok sections
read_well r sections (inl is) = sym is
read_well r sections (inr none) = absurd (cc)

full_step : (so_far : Result (List Read) DefFault) (settings : Settings) → after so_far (λ read. Ok (total read)) ≡ Ok settings
    → length settings.counting ≡ 26
full_step (Err fault) settings is = absurd (cc)
full_step (Ok read) settings is = let same : total read ≡ settings = cc in sym (ap (λ (s : Settings). length s.counting) same)
    ∙ length-counting_of (all_keyed read)

-- there is a place for each key
pub set_full : (pieces : List Piece) (settings : Settings) → set_by pieces ≡ Ok settings → length settings.counting ≡ 26
set_full pieces settings is = full_step (read_pieces pieces) settings is
