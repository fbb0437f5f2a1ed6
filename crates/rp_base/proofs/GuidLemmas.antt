-- The two orders of a GUID's bytes.
use Rattle.std.proofs.Common.{ℕ, ◌≡◌, List, length, get_or, sym, refl}
use Rattle.std.proofs.lemmas.List.FromFn.{fill_by_all}
use Rattle.rp_base.specs.Guid.{disk_order}

-- turning the bytes twice gives them back
pub twice : (bytes : List ℕ) → length bytes ≡ 16 → disk_order (disk_order bytes) ≡ bytes
twice bytes len = sym (fill_by_all (λ k. get_or bytes k 0) bytes 16 0 len (λ k below. refl))
