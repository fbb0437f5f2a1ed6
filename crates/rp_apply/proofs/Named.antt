-- Each copy names the path of its source.
use Rattle.std.proofs.Common.{◌≡◌, ◌≢◌, ℕ, ◌*◌, ◌+◌, ◌-◌, Bool, true, false, cond, eqb, leb, List, [], ◌∷◌, ◌++◌, Option, Some, None, refl, arith, All, IfSome}
use Rattle.std.specs.Option.{option_map_or}
use Rattle.std.specs.Prelude.{IsSome, slice_get, unwrap_or, zip}
use Rattle.std.proofs.lemmas.Bool.{eqb-false}
use Rattle.std.proofs.lemmas.List.{length-map}
use Rattle.std.proofs.lemmas.Option.{slice_get_within}
use Rattle.std.proofs.lemmas.List.Elements.{All-append, All-cons, All-nil, All-tail}
use Rattle.rp_base.specs.Plan.{Noted, noted_of}
use Rattle.rp_base.specs.declared.plan.Note.{Note}
use Rattle.rp_base.specs.declared.plan.Plan.{Plan}
use Rattle.rp_base.specs.declared.plan.Role.{Role}
use Rattle.rp_base.specs.declared.plan.Role.TheVariants.{Plain, Data, Hash}
use Rattle.rp_base.specs.declared.seen.Seen.{Seen}
use Rattle.rp_base.specs.declared.table.Row.{Row}
use Rattle.rp_defs.specs.declared.definition.Definition.{Definition}
use Rattle.rp_steps.specs.Steps.{byte_count, copy_steps, from_byte, mebibyte, payload_steps, rest_steps, source_len, steps, tree_steps, zero_steps}
use Rattle.rp_steps.specs.declared.step.Step.{Step}
use Rattle.rp_steps.specs.declared.step.Step.TheVariants.{Copy, Zero}
use Rattle.rp_apply.specs.Ready.{NamesPath}
use Rattle.rp_apply.specs.Sourced.{NamesSource, path_in, paths_of}
use Rattle.rp_apply.proofs.Every.{every_step}

either : (P : Step → Type 0) (b : Bool) (xs ys : List Step) → All P xs → All P ys → All P (cond b xs ys)
either P true xs ys x y = x
either P false xs ys x y = y

module _ (paths : List (List ℕ)) where
  single : (step : Step) → NamesPath paths step → All (NamesPath paths) (step ∷ [])
  single step named = All-cons (NamesPath paths) step [] named (All-nil (NamesPath paths))

  zeros : (at len : ℕ) → All (NamesPath paths) (zero_steps at len)
  unfolding zero_steps
  zeros at len = either (NamesPath paths) (eqb len 0) [] (Zero at len ∷ []) (All-nil (NamesPath paths)) (single (Zero at len) tt)

  rest : (role : Role) (at len : ℕ) → All (NamesPath paths) (rest_steps role at len)
  unfolding rest_steps
  rest Plain at len =
      either (NamesPath paths) (leb len (2 * mebibyte)) (zero_steps at len) (Zero at mebibyte ∷ Zero (at + (len - mebibyte)) mebibyte ∷ []) (zeros at len)
      (All-cons (NamesPath paths) (Zero at mebibyte) (Zero (at + (len - mebibyte)) mebibyte ∷ []) tt (single (Zero (at + (len - mebibyte)) mebibyte) tt))
  rest (Data partner root) at len = zeros at len
  rest (Hash partner blocks salt uuid root) at len = zeros at len

copy_of : (defs : List Definition) (source file : Option ℕ) (at len : ℕ)
    → IfSome source (λ bytes. IfSome file (λ f. (definition : Definition) × (slice_get defs f ≡ Some definition) × IsSome definition.source))
    → (len ≢ 0 → IsSome source) → len ≢ 0
    → All (NamesPath (paths_of defs)) (option_map_or (λ f. Copy f at len ∷ []) file [])
copy_of defs source None at len names has some = All-nil (NamesPath (paths_of defs))
copy_of defs None (Some file) at len names has some = absurd (cc_none (has some)) where
  cc_none : IsSome {T = ℕ} None → ⊥
  cc_none is = cc
copy_of defs (Some bytes) (Some file) at len names has some =
    let below = slice_get_within defs file names.0 names.1 in
    All-cons (NamesPath (paths_of defs)) (Copy file at len) [] (omega (arith, below, length-map defs path_in)) (All-nil (NamesPath (paths_of defs)))

-- of a row whose source is one of a definition
abbrev pub RowNames : List Definition → Noted → Type 0
RowNames defs noted = NamesSource defs noted.1

has_source : (source : Option ℕ) → unwrap_or source 0 ≢ 0 → IsSome source
has_source None some = absurd (some refl)
has_source (Some bytes) some = refl

module _ (defs : List Definition) where
  copy_as : (noted : Noted) → RowNames defs noted → (b : Bool) → eqb (source_len noted.1) 0 ≡ b
      → All (NamesPath (paths_of defs)) (cond b [] (option_map_or (λ f. Copy f (from_byte noted.0) (source_len noted.1) ∷ []) noted.1.file []))
  copy_as noted names true is = All-nil (NamesPath (paths_of defs))
  copy_as noted names false is =
      let some = eqb-false (source_len noted.1) 0 is in
      copy_of defs noted.1.source noted.1.file (from_byte noted.0) (source_len noted.1) names (λ s. has_source noted.1.source some) some

  copied : (noted : Noted) → RowNames defs noted → All (NamesPath (paths_of defs)) (copy_steps noted)
  unfolding copy_steps
  copied noted names = copy_as noted names (eqb (source_len noted.1) 0) refl

  filled : (noted : Noted) (role : Role) → RowNames defs noted
      → All (NamesPath (paths_of defs)) (copy_steps noted ++ rest_steps role (from_byte noted.0 + source_len noted.1) (byte_count noted.0 - source_len noted.1))
  filled noted role names = All-append (NamesPath (paths_of defs)) _ _ (copied noted names) (rest (paths_of defs) role _ _)

  payload : (noted : Noted) (role : Role) → RowNames defs noted → All (NamesPath (paths_of defs)) (payload_steps noted role)
  unfolding payload_steps
  payload noted Plain names = filled noted Plain names
  payload noted (Data partner root) names = filled noted (Data partner root) names
  payload noted (Hash partner blocks salt uuid root) names = All-nil (NamesPath (paths_of defs))

  tree : (rows : List Row) (row : Row) (role : Role) → All (NamesPath (paths_of defs)) (tree_steps rows row role)
  unfolding tree_steps
  tree rows row Plain = All-nil (NamesPath (paths_of defs))
  tree rows row (Data partner root) = All-nil (NamesPath (paths_of defs))
  tree rows row (Hash partner blocks salt uuid root) = All-cons (NamesPath (paths_of defs)) _ _ tt (zeros (paths_of defs) _ _)

  -- each copy of a plan names the path of a definition
  pub named : (seen : Seen) (plan : Plan) → All (RowNames defs) (noted_of plan) → All (NamesPath (paths_of defs)) (steps plan seen)
  named seen plan names = every_step (NamesPath (paths_of defs)) plan (RowNames defs) record {
    sync = tt;
    grow = tt;
    mbr = tt;
    primary = (tt, tt, tt);
    backup = (tt, tt, tt);
    payload = λ noted names. payload noted noted.1.role names;
    tree = λ noted names. tree plan.goal.rows noted.0 noted.1.role;
  } seen names

-- the notes of a well formed plan stand beside its rows
rows_name : (defs : List Definition) (rows : List Row) (notes : List Note) → All (NamesSource defs) notes → All (RowNames defs) (zip rows notes)
rows_name defs [] notes names = All-nil (RowNames defs)
rows_name defs (row ∷ rows) [] names = All-nil (RowNames defs)
rows_name defs (row ∷ rows) (note ∷ notes) names =
    All-cons (RowNames defs) (row, note) (zip rows notes) (names 0 note (omega arith)) (rows_name defs rows notes (All-tail (NamesSource defs) note notes names))

pub paths_named : (defs : List Definition) (seen : Seen) (plan : Plan) → All (NamesSource defs) plan.notes
    → All (NamesPath (paths_of defs)) (steps plan seen)
paths_named defs seen plan names = named defs seen plan (rows_name defs plan.goal.rows plan.notes names)
