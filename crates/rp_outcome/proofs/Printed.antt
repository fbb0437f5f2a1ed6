-- Texts that are printed one behind the other.
use Rattle.std.proofs.Common.{ℕ, ◌≡◌, ◌≢◌, ◌+◌, ◌++◌, ◌∷◌, [], List, length, take, drop, get_or, ◌<◌, ◌≤◌, Option, Some, None, Result, Ok, Err, IfSome, OnOk, OnErr, sym, ◌∙◌, ap, subst, append_assoc, append-nil, refl, inl, inr, arith}
use Rattle.std.proofs.Math.Seq.{take-append_seam, take-append-add}
use Rattle.std.proofs.lemmas.List.{take-append-drop, take_all, take_more}
use Rattle.std.proofs.lemmas.List.Elements.{filter_map-append}
use Rattle.std.proofs.lemmas.Grind.{flat_map-append}
use Rattle.std.specs.Fmt.{decimal}
use Rattle.std.specs.List.{flat_map}
use Rattle.std.specs.Prelude.{codes, filter_map}
use Rattle.rp_base.specs.Faults.{Rose}
use Rattle.rp_io.specs.Sink.{TookPart}
use Rattle.rp_outcome.specs.Output.{Differs, Output, Prints, PrintsAll, PrintsPart}
use Rattle.rp_outcome.specs.Refusals.{Refusal, line_of}
use Rattle.rp_outcome.specs.Words.{behind_blank, word_text, words_text}
use Rattle.rp_outcome.specs.declared.refusal.Word.{Word}

front : (x y b : List ℕ) → take (length x) ((x ++ y) ++ b) ≡ x
front x y b = ap (λ s. take (length x) s) (append_assoc x y b) ∙ take-append_seam x (y ++ b)

front_of : (k : ℕ) (a b : List ℕ) → take (length (take k a)) (a ++ b) ≡ take k a
front_of k a b = ap (λ s. take (length (take k a)) (s ++ b)) (sym (take-append-drop k a)) ∙ front (take k a) (drop k a) b

-- a part of a first piece is a part of the whole
took_more : (taken a b : List ℕ) (now : Option (List ℕ)) → TookPart taken a now → TookPart taken (a ++ b) now
took_more taken a b now (k, e) = (length (take k a), e ∙ ap (λ part. Some (taken ++ part)) (sym (front_of k a b)))

-- a part of a piece behind a first one that was printed is a part of both
took_then : (taken a b : List ℕ) (now : Option (List ℕ)) → TookPart (taken ++ a) b now → TookPart taken (a ++ b) now
took_then taken a b now (k, e) =
    (length a + k, e ∙ (ap Some (append_assoc taken a (take k b)) ∙ ap (λ part. Some (taken ++ part)) (sym (take-append-add a b k))))

all_taken : (before mid now : Option (List ℕ)) (a b : List ℕ) → IfSome before (λ taken. mid ≡ Some (taken ++ a))
    → IfSome mid (λ taken. now ≡ Some (taken ++ b)) → IfSome before (λ taken. now ≡ Some (taken ++ (a ++ b)))
all_taken None mid now a b p q = tt
all_taken (Some taken) mid now a b p q =
    let here : IfSome (Some (taken ++ a)) (λ taken. now ≡ Some (taken ++ b)) =
    subst (λ (o : Option (List ℕ)). IfSome o (λ taken. now ≡ Some (taken ++ b))) p q in
    here ∙ ap Some (append_assoc taken a b)

part_taken : (before mid now : Option (List ℕ)) (a b : List ℕ) → IfSome before (λ taken. mid ≡ Some (taken ++ a))
    → IfSome mid (λ taken. TookPart taken b now) → IfSome before (λ taken. TookPart taken (a ++ b) now)
part_taken None mid now a b p q = tt
part_taken (Some taken) mid now a b p q =
    let here : IfSome (Some (taken ++ a)) (λ taken. TookPart taken b now) =
    subst (λ (o : Option (List ℕ)). IfSome o (λ taken. TookPart taken b now)) p q in
    took_then taken a b now here

more_taken : (before now : Option (List ℕ)) (a b : List ℕ) → IfSome before (λ taken. TookPart taken a now)
    → IfSome before (λ taken. TookPart taken (a ++ b) now)
more_taken None now a b p = tt
more_taken (Some taken) now a b p = took_more taken a b now p

none_taken : (now : Option (List ℕ)) → IfSome now (λ taken. now ≡ Some (taken ++ []))
none_taken None = tt
none_taken (Some taken) = ap Some (sym (append-nil taken))

-- two texts were printed
pub then_all : (before mid now : Output) (a b : List ℕ) → PrintsAll before mid a → PrintsAll mid now b → PrintsAll before now (a ++ b)
then_all before mid now a b p q = record { taken = all_taken before.taken mid.taken now.taken a b p.taken q.taken; kept = q.kept ∙ p.kept }

-- a text was printed, and of a second one a part
pub then_part : (before mid now : Output) (a b : List ℕ) → PrintsAll before mid a → PrintsPart mid now b → PrintsPart before now (a ++ b)
then_part before mid now a b p q = record {
  taken = part_taken before.taken mid.taken now.taken a b p.taken q.taken;
  rose = subst (λ (n : ℕ). Rose n now.faults) p.kept q.rose;
}

-- a text was printed, and of a second one a part where that call failed
pub then_failed : {E : Type 0} (before mid now : Output) (a b : List ℕ) (result : Result (Unit {0}) E) → PrintsAll before mid a
    → OnErr result (PrintsPart mid now b) → OnErr result (PrintsPart before now (a ++ b))
then_failed before mid now a b (Ok u) p q = tt
then_failed before mid now a b (Err e) p q = then_part before mid now a b p q

pub on_err : {T E P : Type 0} (result : Result T E) → P → OnErr result P
on_err (Ok value) p = tt
on_err (Err error) p = p

-- a part of a first text is a part of both
pub part_more : (before now : Output) (a b : List ℕ) → PrintsPart before now a → PrintsPart before now (a ++ b)
part_more before now a b p = record { taken = more_taken before.taken now.taken a b p.taken; rose = p.rose }

-- where nothing was done nothing was printed
pub prints_none : (now : Output) → PrintsAll now now []
prints_none now = record { taken = none_taken now.taken; kept = refl }

-- the words behind a first part of them
pub words_text-append : (a b : List Word) → words_text (a ++ b) ≡ words_text a ++ words_text b
unfolding words_text
words_text-append a b =
    ap (λ texts. flat_map behind_blank texts) (filter_map-append word_text a b)
    ∙ flat_map-append behind_blank (filter_map word_text a) (filter_map word_text b)

pub words_text-one : (word : Word) (text : List ℕ) → word_text word ≡ Some text → words_text (word ∷ []) ≡ codes " " ++ text
unfolding words_text
words_text-one word text e = rw e (append-nil (codes " " ++ text))

pub words_text-more : (words : List Word) (i : ℕ) (d : Word) → i < length words
    → words_text (take (i + 1) words) ≡ words_text (take i words) ++ words_text (get_or words i d ∷ [])
words_text-more words i d below = ap words_text (take_more words i d below) ∙ words_text-append (take i words) (get_or words i d ∷ [])

-- all words: those before one, it, and those behind it
pub words_text-at : (words : List Word) (i : ℕ) (d : Word) → i < length words
    → words_text words ≡ (words_text (take i words) ++ words_text (get_or words i d ∷ [])) ++ words_text (drop (i + 1) words)
words_text-at words i d below =
    ap words_text (sym (take-append-drop (i + 1) words)) ∙ words_text-append (take (i + 1) words) (drop (i + 1) words)
    ∙ ap (λ texts. texts ++ words_text (drop (i + 1) words)) (words_text-more words i d below)

pub all_as : (before now : Output) (a b : List ℕ) → a ≡ b → PrintsAll before now a → PrintsAll before now b
all_as before now a b e p = subst (λ (bytes : List ℕ). PrintsAll before now bytes) e p

pub part_as : (before now : Output) (a b : List ℕ) → a ≡ b → PrintsPart before now a → PrintsPart before now b
part_as before now a b e p = subst (λ (bytes : List ℕ). PrintsPart before now bytes) e p

-- texts behind a first part of them
pub pieces-more : {A : Type 0} (text : A → List ℕ) (items : List A) (i : ℕ) (d : A) → i < length items
    → flat_map text (take (i + 1) items) ≡ flat_map text (take i items) ++ text (get_or items i d)
pieces-more text items i d below =
    ap (flat_map text) (take_more items i d below) ∙ flat_map-append text (take i items) (get_or items i d ∷ [])
    ∙ ap (λ s. flat_map text (take i items) ++ s) (append-nil (text (get_or items i d)))

-- all texts: those before one, it, and those behind it
pub pieces-at : {A : Type 0} (text : A → List ℕ) (items : List A) (i : ℕ) (d : A) → i < length items
    → flat_map text items ≡ (flat_map text (take i items) ++ text (get_or items i d)) ++ flat_map text (drop (i + 1) items)
pieces-at text items i d below =
    ap (flat_map text) (sym (take-append-drop (i + 1) items)) ∙ flat_map-append text (take (i + 1) items) (drop (i + 1) items)
    ∙ ap (λ s. s ++ flat_map text (drop (i + 1) items)) (pieces-more text items i d below)

-- no text is left
pub pieces-all : {A : Type 0} (text : A → List ℕ) (items : List A) (i : ℕ) → length items ≤ i → flat_map text (take i items) ≡ flat_map text items
pieces-all text items i past = ap (flat_map text) (take_all i items past)

-- what was printed as far as the sink took it, in other words
pub prints_as : {E : Type 0} (before now : Output) (a b : List ℕ) (result : Result (Unit {0}) E) → a ≡ b → OnOk result (PrintsAll before now a)
    → OnErr result (PrintsPart before now a) → Prints before now b
prints_as before now a b (Ok u) e done failed = inl (all_as before now a b e done)
prints_as before now a b (Err error) e done failed = inr (part_as before now a b e failed)

-- the text of a difference in other words
pub differs_as : (before now : Output) (a b : List ℕ) (status : ℕ) → a ≡ b → Differs before now a status → Differs before now b status
differs_as before now a b status e told = subst (λ (bytes : List ℕ). Differs before now bytes status) e told

-- the line of a refusal, by its words
line_of-words : (status : ℕ) (words : List Word) → status ≢ 10
    → line_of (record { status = status; words = filter_map word_text words })
    ≡ codes "error " ++ decimal status ++ words_text words ++ codes "\n"
unfolding line_of words_text
line_of-words status words other = grind arith

-- where nothing was done, the line of want of memory was printed
pub prints_memory : (now : Output) (refusal : Refusal) → refusal.status ≡ 10 → Prints now now (line_of refusal)
unfolding line_of
prints_memory now refusal e = rw e (inl (prints_none now))

-- the line was printed as far as the sink took it
pub prints_line : {E : Type 0} (before now : Output) (refusal : Refusal) (status : ℕ) (words : List Word) (result : Result (Unit {0}) E)
    → record { status = status; words = filter_map word_text words } ≡ refusal → status ≢ 10
    → OnOk result (PrintsAll before now (codes "error " ++ decimal status ++ words_text words ++ codes "\n"))
    → OnErr result (PrintsPart before now (codes "error " ++ decimal status ++ words_text words ++ codes "\n"))
    → Prints before now (line_of refusal)
prints_line before now refusal status words result view other done failed =
    prints_as before now _ _ result (sym (line_of-words status words other) ∙ ap line_of view) done failed
