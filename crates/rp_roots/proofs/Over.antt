-- The root hash over what a data row is to hold is that over its source and zeros.
use Rattle.std.proofs.Common.{◌≡◌, ◌∙◌, ℕ, ◌-◌, ◌*◌, ◌^◌, ◌≤◌, Bool, cond, List, [], ◌++◌, length, replicate, Option, Some, None, IsSome, arith, refl, ap, slice_get}
use Rattle.std.specs.Prelude.{option_and_then, option_map, unwrap_or}
use Rattle.std.proofs.lemmas.Bool.{le-leb}
use Rattle.std.proofs.lemmas.List.{append-nil, take_all}
use Rattle.std.proofs.lemmas.Option.{get_or_from_slice_get, slice_get-map}
use Rattle.rp_apply.specs.Sourced.{path_in, paths_of}
use Rattle.rp_base.specs.declared.guid.Guid.{Guid}
use Rattle.rp_defs.specs.declared.definition.Definition.{Definition}
use Rattle.rp_disk.specs.Calls.{resized}
use Rattle.rp_io.specs.Files.{content}
use Rattle.rp_io.specs.declared.stored.Stored.{Stored}
use Rattle.rp_sizes.specs.Facts.{root_of, source_of}
use Rattle.rp_sizes.specs.Pairs.{bytes_grains, pair_blocks, salt_of}
use Rattle.rp_step.specs.Sourced.{path_at, sources_in}
use Rattle.rp_verity.specs.Filled.{cut, filled}
use Rattle.rp_verity.specs.Tree.{root_hash}

-- bytes cut to their own length are the same
pub own_length : (bytes : List ℕ) → resized bytes (length bytes) ≡ bytes
own_length bytes =
    let none : length bytes - length bytes ≡ 0 = omega arith in
    ap (λ (l : List ℕ). l ++ replicate (length bytes - length bytes) 0) (take_all (length bytes) bytes (omega arith))
    ∙ ap (λ (n : ℕ). bytes ++ replicate n 0) none ∙ append-nil bytes

-- up to more blocks than they have, they are filled with zeros
pub filled_up : (blocks : ℕ) (bytes : List ℕ) → length bytes ≤ 4096 * blocks → resized bytes (4096 * blocks) ≡ filled blocks bytes
filled_up blocks bytes fits =
    ap (λ (l : List ℕ). l ++ replicate (4096 * blocks - length bytes) 0) (take_all (4096 * blocks) bytes fits)

-- data has room for its source
pub blocks_fit : (def : Definition) (len : ℕ) → len ≤ 4096 * pair_blocks def len
blocks_fit def len =
    let grains : bytes_grains len ≤ pair_blocks def len = omega arith in
    let whole : len ≤ 4096 * bytes_grains len = omega arith in
    omega (arith, grains, whole)

-- the root hash of data that a tree can be over
pub root_is : (seed : Guid) (def : Definition) (bytes : List ℕ) → pair_blocks def (length bytes) ≤ 2 ^ 32
    → root_of seed def bytes ≡ root_hash (salt_of seed def.kind) (cut (pair_blocks def (length bytes)) (filled (pair_blocks def (length bytes)) bytes))
unfolding root_of
root_is seed def bytes few =
    ap (λ (b : Bool). cond b (root_hash (salt_of seed def.kind) (cut (pair_blocks def (length bytes)) (filled (pair_blocks def (length bytes)) bytes)))
    (replicate 32 0)) (le-leb (pair_blocks def (length bytes)) (2 ^ 32) few)

source_as : (files : List Stored) (o : Option (List ℕ)) → IsSome o
    → unwrap_or (content files (unwrap_or o [])) [] ≡ unwrap_or (option_and_then (content files) o) []
source_as files None has = absurd (cc)
source_as files (Some path) has = refl

-- the source of a definition by its place is that of its path
pub source_is : (files : List Stored) (defs : List Definition) (k : ℕ) (def : Definition) → slice_get defs k ≡ Some def → IsSome def.source
    → sources_in files (paths_of defs) k ≡ source_of files def
source_is files defs k def at has =
    let path : path_at (paths_of defs) k ≡ path_in def =
    get_or_from_slice_get (paths_of defs) k (path_in def) [] (slice_get-map path_in defs k ∙ ap (option_map path_in) at) in
    ap (λ (p : List ℕ). unwrap_or (content files p) []) path ∙ source_as files def.source has
