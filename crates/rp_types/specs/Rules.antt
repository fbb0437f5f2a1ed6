-- What holds of the list of types as a whole.
use Rattle.std.specs.Prelude.{ℕ, ◌==◌, List, not, IsTrue, count_by, replicate}
use Rattle.std.specs.List.{list_all}
use Rattle.std.specs.Str.{bytes_eq}
use Rattle.rp_types.specs.declared.table.PartitionType.{PartitionType}

-- own: each name and each GUID stands once, and no GUID is zero
pub record IsTable (entries : List (List ℕ × PartitionType)) : Type 0 where
  pub names_once : IsTrue (list_all (λ e. count_by (λ other. bytes_eq other.0 e.0) entries == 1) entries)
  pub kinds_once : IsTrue (list_all (λ e. count_by (λ other. bytes_eq other.1.kind.0 e.1.kind.0) entries == 1) entries)
  pub used : IsTrue (list_all (λ e. not (bytes_eq e.1.kind.0 (replicate 16 0))) entries)
