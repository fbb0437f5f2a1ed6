-- The files, one by one.
use Rattle.std.proofs.Common.{◌≡◌, ◌∙◌, ℕ, ◌≤◌, List, [], ◌∷◌, ◌++◌, ap, append_assoc, arith}
use Rattle.rp_io.specs.declared.stored.Stored.{Stored}
use Rattle.rp_make_input.specs.Texts.{definition_files, part_files, root_file, root_hash_file}

-- the partitions, and the pair behind them
pub with_pair : (files : List Stored) (i number : ℕ) → files ≡ part_files i → i ≤ number → number ≤ i
    → (files ++ root_file ∷ []) ++ root_hash_file ∷ [] ≡ definition_files number
with_pair files i number are low high =
    let same : i ≡ number = omega arith in
    append_assoc files (root_file ∷ []) (root_hash_file ∷ [])
    ∙ ap (λ (l : List Stored). l ++ root_file ∷ root_hash_file ∷ []) (are ∙ ap part_files same)
