-- A path, once its specifiers are replaced.
use Rattle.std.proofs.Common.{◌≡◌, List, ℕ, true, false, Some, None, refl}
use Rattle.rp_types.specs.declared.arch.Arch.{Arch}
use Rattle.rp_values.specs.Texts.{expanded, is_path, path_of}

pub path_of-none : (arch : Arch) (text : List ℕ) → None ≡ expanded arch text → None ≡ path_of arch text
unfolding path_of
path_of-none arch text e = rw (← e) refl

pub path_of-path : (arch : Arch) (text path : List ℕ) → Some path ≡ expanded arch text → is_path path ≡ true → Some path ≡ path_of arch text
unfolding path_of
path_of-path arch text path e is = rw (← e, is) refl

pub path_of-other : (arch : Arch) (text other : List ℕ) → Some other ≡ expanded arch text → is_path other ≡ false → None ≡ path_of arch text
unfolding path_of
path_of-other arch text other e is = rw (← e, is) refl
