-- Each copy of what is planned from the source that is made has its file.
use Rattle.std.proofs.Common.{◌≡◌, ◌≢◌, ◌∙◌, ℕ, ◌*◌, ◌+◌, ◌-◌, ◌≤◌, Bool, true, false, cond, eqb, leb, List, [], ◌∷◌, ◌++◌, length, Option, Some, None, refl, ap, subst, arith, All, IfSome}
use Rattle.std.specs.Option.{option_map_or, option_map}
use Rattle.std.specs.Prelude.{IsSome, codes, nat_lt, slice_get, unwrap_or, zip}
use Rattle.std.proofs.lemmas.Bool.{eqb-false}
use Rattle.std.proofs.lemmas.Bool.Decides.{nat_tests}
use Rattle.std.proofs.lemmas.Option.{get_or_from_slice_get, slice_get-map, slice_get_within}
use Rattle.std.proofs.lemmas.List.Elements.{All-append, All-cons, All-head, All-nil, All-tail}
use Rattle.rp_apply.specs.Sourced.{NamesSource, path_in, paths_of}
use Rattle.rp_apply.proofs.Every.{every_step}
use Rattle.rp_base.specs.Plan.{Noted, noted_of}
use Rattle.rp_base.specs.declared.plan.Note.{Note}
use Rattle.rp_base.specs.declared.plan.Plan.{Plan}
use Rattle.rp_base.specs.declared.plan.Role.{Role}
use Rattle.rp_base.specs.declared.plan.Role.TheVariants.{Plain, Data, Hash}
use Rattle.rp_base.specs.declared.seen.Seen.{Seen}
use Rattle.rp_base.specs.declared.table.Row.{Row}
use Rattle.rp_defs.specs.declared.definition.Definition.{Definition}
use Rattle.rp_io.specs.Files.{content, passes}
use Rattle.rp_io.specs.declared.stored.Stored.{Stored}
use Rattle.rp_roots.specs.Whole.{HasWholeSource}
use Rattle.rp_step.specs.Found.{HasFile}
use Rattle.rp_step.specs.Sourced.{path_at, sources_in}
use Rattle.rp_steps.specs.Steps.{byte_count, copy_steps, from_byte, mebibyte, payload_steps, rest_steps, source_len, steps, tree_steps, zero_steps}
use Rattle.rp_steps.specs.declared.step.Step.{Step}
use Rattle.rp_steps.specs.declared.step.Step.TheVariants.{Copy, Zero}
use Rattle.rp_make_definitions.specs.Made.{IsMade}

either : (P : Step → Type 0) (b : Bool) (xs ys : List Step) → All P xs → All P ys → All P (cond b xs ys)
either P true xs ys x y = x
either P false xs ys x y = y

has_source : (source : Option ℕ) → unwrap_or source 0 ≢ 0 → IsSome source
has_source None some = absurd (some refl)
has_source (Some bytes) some = refl

-- a source is the one that is made
of_source : (o : Option (List ℕ)) → IsSome o → IfSome o (λ path. path ≡ codes "make.raw") → unwrap_or o [] ≡ codes "make.raw"
of_source None is made = absurd (cc)
of_source (Some path) is made = made

module _ (list : List Definition) (files : List Stored) (each : All IsMade list) (raw : List ℕ)
    (there : content files (codes "make.raw") ≡ Some raw) where
  abbrev P : Step → Type 0
  P = HasFile files (paths_of list)

  path_is : (file : ℕ) (definition : Definition) → slice_get list file ≡ Some definition → IsSome definition.source
      → path_at (paths_of list) file ≡ codes "make.raw"
  path_is file definition at has =
      let path : path_at (paths_of list) file ≡ path_in definition =
      get_or_from_slice_get (paths_of list) file (path_in definition) [] (slice_get-map path_in list file ∙ ap (option_map path_in) at) in
      let made : IsMade definition = subst IsMade (get_or_from_slice_get list file definition definition at)
      (each file definition (slice_get_within list file definition at)) in
      path ∙ of_source definition.source has made.source

  has_file : (file : ℕ) (definition : Definition) → slice_get list file ≡ Some definition → IsSome definition.source → (len : ℕ)
      → len ≡ length (sources_in files (paths_of list) file) → passes (content files (path_at (paths_of list) file)) len ≡ false
  has_file file definition at has len whole =
      let found : content files (path_at (paths_of list) file) ≡ Some raw =
      ap (content files) (path_is file definition at has) ∙ there in
      let long : len ≡ length raw = whole ∙ ap (λ (o : Option (List ℕ)). length (unwrap_or o [])) found in
      let within : length raw ≤ len → nat_lt (length raw) len ≡ false = λ h. by long in
      ap (λ (o : Option (List ℕ)). passes o len) found ∙ by long where
        by : len ≡ length raw → nat_lt (length raw) len ≡ false
        by e = grind (arith, nat_tests, e)

  single : (step : Step) → P step → All P (step ∷ [])
  single step has = All-cons P step [] has (All-nil P)

  zeros : (at len : ℕ) → All P (zero_steps at len)
  unfolding zero_steps
  zeros at len = either P (eqb len 0) [] (Zero at len ∷ []) (All-nil P) (single (Zero at len) tt)

  rest : (role : Role) (at len : ℕ) → All P (rest_steps role at len)
  unfolding rest_steps
  rest Plain at len =
      either P (leb len (2 * mebibyte)) (zero_steps at len) (Zero at mebibyte ∷ Zero (at + (len - mebibyte)) mebibyte ∷ []) (zeros at len)
      (All-cons P (Zero at mebibyte) (Zero (at + (len - mebibyte)) mebibyte ∷ []) tt (single (Zero (at + (len - mebibyte)) mebibyte) tt))
  rest (Data partner root) at len = zeros at len
  rest (Hash partner blocks salt uuid root) at len = zeros at len

  copy_of : (source file : Option ℕ) (at : ℕ)
      → IfSome source (λ bytes. IfSome file (λ f. (definition : Definition) × (slice_get list f ≡ Some definition) × IsSome definition.source))
      → IfSome file (λ f. IfSome source (λ len. len ≡ length (sources_in files (paths_of list) f))) → IsSome source
      → All P (option_map_or (λ f. Copy f at (unwrap_or source 0) ∷ []) file [])
  copy_of source None at names whole has = All-nil P
  copy_of None (Some file) at names whole has = absurd (cc)
  copy_of (Some bytes) (Some file) at names whole has =
      single (Copy file at bytes) (has_file file names.0 names.1 names.2 bytes whole)

  -- a row whose source is one of a definition, and is planned whole
  abbrev Sourced : Noted → Type 0
  Sourced noted = NamesSource list noted.1 × HasWholeSource (sources_in files (paths_of list)) noted

  copy_as : (noted : Noted) → Sourced noted → (b : Bool) → eqb (source_len noted.1) 0 ≡ b
      → All P (cond b [] (option_map_or (λ f. Copy f (from_byte noted.0) (source_len noted.1) ∷ []) noted.1.file []))
  copy_as noted is true e = All-nil P
  copy_as noted is false e =
      copy_of noted.1.source noted.1.file (from_byte noted.0) is.0 is.1 (has_source noted.1.source (eqb-false (source_len noted.1) 0 e))

  copied : (noted : Noted) → Sourced noted → All P (copy_steps noted)
  unfolding copy_steps
  copied noted is = copy_as noted is (eqb (source_len noted.1) 0) refl

  filled : (noted : Noted) (role : Role) → Sourced noted
      → All P (copy_steps noted ++ rest_steps role (from_byte noted.0 + source_len noted.1) (byte_count noted.0 - source_len noted.1))
  filled noted role is = All-append P _ _ (copied noted is) (rest role _ _)

  payload : (noted : Noted) (role : Role) → Sourced noted → All P (payload_steps noted role)
  unfolding payload_steps
  payload noted Plain is = filled noted Plain is
  payload noted (Data partner root) is = filled noted (Data partner root) is
  payload noted (Hash partner blocks salt uuid root) is = All-nil P

  tree : (rows : List Row) (row : Row) (role : Role) → All P (tree_steps rows row role)
  unfolding tree_steps
  tree rows row Plain = All-nil P
  tree rows row (Data partner root) = All-nil P
  tree rows row (Hash partner blocks salt uuid root) = All-cons P _ _ tt (zeros _ _)

  each_sourced : (rows : List Row) (notes : List Note) → All (NamesSource list) notes
      → All (HasWholeSource (sources_in files (paths_of list))) (zip rows notes) → All Sourced (zip rows notes)
  each_sourced [] notes names whole = All-nil Sourced
  each_sourced (row ∷ rows) [] names whole = All-nil Sourced
  each_sourced (row ∷ rows) (note ∷ notes) names whole =
      All-cons Sourced (row, note) (zip rows notes)
      (All-head (NamesSource list) note notes names, All-head (HasWholeSource (sources_in files (paths_of list))) (row, note) (zip rows notes) whole)
      (each_sourced rows notes (All-tail (NamesSource list) note notes names)
      (All-tail (HasWholeSource (sources_in files (paths_of list))) (row, note) (zip rows notes) whole))

  -- each step of a plan has its file
  pub have_files : (seen : Seen) (plan : Plan) → All (NamesSource list) plan.notes
      → All (HasWholeSource (sources_in files (paths_of list))) (noted_of plan) → All P (steps plan seen)
  have_files seen plan names whole = every_step P plan Sourced record {
    sync = tt;
    grow = tt;
    mbr = tt;
    primary = (tt, tt, tt);
    backup = (tt, tt, tt);
    payload = λ noted is. payload noted noted.1.role is;
    tree = λ noted is. tree plan.goal.rows noted.0 noted.1.role;
  } seen (each_sourced plan.goal.rows plan.notes names whole)
