-- What is made of the new ones among the first rows of a plan.
use Rattle.std.proofs.Common.{◌≡◌, ℕ, ◌+◌, ◌<◌, ◌≤◌, Bool, true, false, cond, List, [], ◌∷◌, ◌++◌, length, get_or, take, refl, sym, ap, ap₂, ◌∙◌, subst, append_assoc, arith, All, filter, flat_map, zip}
use Rattle.std.proofs.lemmas.Grind.{flat_map-append}
use Rattle.std.proofs.lemmas.List.{append-nil, take_all, take_more}
use Rattle.std.proofs.lemmas.List.Elements.{filter-append}
use Rattle.std.proofs.lemmas.Slice.Zip.{get_or-zip, length-zip}
use Rattle.rp_base.specs.Plan.{Noted}
use Rattle.rp_base.specs.declared.plan.Note.{Note}
use Rattle.rp_base.specs.declared.table.Row.{Row}
use Rattle.rp_steps.specs.Steps.{is_new}
use Rattle.rp_steps.specs.declared.step.Step.{Step}

-- a row is new
abbrev pub is_new_row : Noted → Bool
is_new_row noted = is_new noted.1.change

-- what is made of the new ones among the first rows
abbrev pub news_among : (Noted → List Step) → List Noted → ℕ → List Step
news_among f rows n = flat_map f (filter is_new_row (take n rows))

-- what is made of one row, if it is new
abbrev pub if_new : (Noted → List Step) → Noted → List Step
if_new f noted = cond (is_new_row noted) (f noted) []

one : (f : Noted → List Step) (noted : Noted) (b : Bool) → is_new_row noted ≡ b
    → flat_map f (filter is_new_row (noted ∷ [])) ≡ if_new f noted
one f noted true is = rw is (append-nil (f noted))
one f noted false is = rw is refl

-- one row more
pub news_more : (f : Noted → List Step) (rows : List Noted) (n : ℕ) (d : Noted) → n < length rows
    → news_among f rows (n + 1) ≡ news_among f rows n ++ if_new f (get_or rows n d)
news_more f rows n d below =
    ap (λ l. flat_map f (filter is_new_row l)) (take_more rows n d below)
    ∙ ap (flat_map f) (filter-append is_new_row (take n rows) (get_or rows n d ∷ []))
    ∙ flat_map-append f (filter is_new_row (take n rows)) (filter is_new_row (get_or rows n d ∷ []))
    ∙ ap (λ l. news_among f rows n ++ l) (one f (get_or rows n d) (is_new_row (get_or rows n d)) refl)

-- all rows
pub news_all : (f : Noted → List Step) (rows : List Noted) (n : ℕ) → length rows ≤ n
    → news_among f rows n ≡ flat_map f (filter is_new_row rows)
news_all f rows n all = ap (λ l. flat_map f (filter is_new_row l)) (take_all n rows all)

-- a row with its note, of which P holds
pub one_of : (P : Noted → Type 0) (all rows : List Row) (every notes : List Note) (k : ℕ) (d : Row) (e : Note)
    → rows ≡ all → notes ≡ every → length every ≡ length all → k < length rows → All P (zip all every) → P (get_or rows k d, get_or notes k e)
one_of P all rows every notes k d e same_rows same_notes long below holds =
    let here : k < length all = omega (arith, ap length same_rows) in
    let there : k < length every = omega arith in
    let there' : k < length (zip all every) = omega (arith, length-zip all every) in
    let pair : get_or (zip all every) k (d, e) ≡ (get_or rows k d, get_or notes k e) =
    get_or-zip all every k (d, e) here there ∙ ap₂ (λ r n. (get_or r k d, get_or n k e)) (sym same_rows) (sym same_notes) in
    subst P pair (holds k (d, e) there')

-- a loop that has made the first ones goes on
pub loop_more : (f : Noted → List Step) (all rows : List Row) (every notes : List Note) (k : ℕ) (d : Row) (e : Note) (old before after : List Step)
    → rows ≡ all → notes ≡ every → length every ≡ length all → k < length rows → before ≡ old ++ news_among f (zip all every) k
    → after ≡ before ++ if_new f (get_or rows k d, get_or notes k e) → after ≡ old ++ news_among f (zip all every) (k + 1)
loop_more f all rows every notes k d e old before after same_rows same_notes long below made more =
    let here : k < length all = omega (arith, ap length same_rows) in
    let there : k < length every = omega arith in
    let there' : k < length (zip all every) = omega (arith, length-zip all every) in
    let pair : get_or (zip all every) k (d, e) ≡ (get_or rows k d, get_or notes k e) =
    get_or-zip all every k (d, e) here there ∙ ap₂ (λ r n. (get_or r k d, get_or n k e)) (sym same_rows) (sym same_notes) in
    more ∙ ap₂ (λ l m. l ++ m) made (ap (if_new f) (sym pair)) ∙ append_assoc old (news_among f (zip all every) k) (if_new f (get_or (zip all every) k (d, e)))
    ∙ ap (λ l. old ++ l) (sym (news_more f (zip all every) k (d, e) there'))

-- a loop that has made all
pub loop_all : (f : Noted → List Step) (all rows : List Row) (every : List Note) (k : ℕ) (old now : List Step)
    → rows ≡ all → length every ≡ length all → length rows ≤ k → now ≡ old ++ news_among f (zip all every) k
    → now ≡ old ++ flat_map f (filter is_new_row (zip all every))
loop_all f all rows every k old now same_rows long past made =
    let past' : length (zip all every) ≤ k = omega (arith, length-zip all every, ap length same_rows) in
    made ∙ ap (λ l. old ++ l) (news_all f (zip all every) k past')
