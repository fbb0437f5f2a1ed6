-- The pairs of a plan, and that nothing is wrong of their hash trees (Discoverable Partitions Specification: the identifiers of a pair
-- are the halves of its root hash).
use Rattle.std.specs.Prelude.{ℕ, ◌≡◌, List, ◌++◌, All, None, ⊤}
use Rattle.rp_base.specs.Plan.{IsPair, noted_of}
use Rattle.rp_base.specs.declared.plan.Plan.{Plan}
use Rattle.rp_base.specs.declared.plan.Role.{Role}
use Rattle.rp_base.specs.declared.plan.Role.TheVariants.{Hash}
use Rattle.rp_tree.specs.Checked.{first_bad}

-- the root hash that is planned for a row's tree is this
abbrev pub HasRoot : List ℕ → Role → Type 0
HasRoot ids (Hash partner blocks salt uuid root) = ids ≡ root
HasRoot ids other = ⊤

-- the identifiers of each pair are the root hash that is planned for it
abbrev pub HaveRootIds : Plan → Type 0
HaveRootIds plan =
    All (λ payload. All (λ hash. IsPair payload hash → HasRoot (payload.0.id.0 ++ hash.0.id.0) hash.1.role) (noted_of plan))
    (noted_of plan)

-- nothing is wrong of the hash tree of any pair
abbrev pub HaveRightTrees : Plan → List ℕ → Type 0
HaveRightTrees plan image =
    All (λ payload. All (λ hash. IsPair payload hash → first_bad image payload.0 hash.0 ≡ None) (noted_of plan)) (noted_of plan)
