-- The name of a split file, once its specifiers are replaced.
use Rattle.std.proofs.Common.{◌≡◌, List, ℕ, true, false, Some, None, Ok, Err, refl}
use Rattle.std.specs.Prelude.{codes}
use Rattle.std.specs.Str.{bytes_eq}
use Rattle.rp_types.specs.declared.arch.Arch.{Arch}
use Rattle.rp_values.specs.declared.split.SplitFault.TheVariants.{BadName}
use Rattle.rp_values.specs.Texts.{expanded, file_name, is_file_name, split_name_of}

pub split_name_of-none : (arch : Arch) (text : List ℕ) → None ≡ expanded arch text → Err BadName ≡ split_name_of arch text
unfolding split_name_of
split_name_of-none arch text e = rw (← e) refl

split_name_of-some : (arch : Arch) (text whole : List ℕ) → Some whole ≡ expanded arch text → file_name whole ≡ split_name_of arch text
unfolding split_name_of
split_name_of-some arch text whole e = rw (← e) refl

pub split_name_of-unset : (arch : Arch) (text whole : List ℕ) → Some whole ≡ expanded arch text → bytes_eq whole (codes "-") ≡ true
    → Ok None ≡ split_name_of arch text
split_name_of-unset arch text whole e dash = rw (← split_name_of-some arch text whole e, dash) refl

pub split_name_of-name : (arch : Arch) (text whole : List ℕ) → Some whole ≡ expanded arch text → bytes_eq whole (codes "-") ≡ false
    → is_file_name whole ≡ true → Ok (Some whole) ≡ split_name_of arch text
split_name_of-name arch text whole e other is = rw (← split_name_of-some arch text whole e, other, is) refl

pub split_name_of-other : (arch : Arch) (text whole : List ℕ) → Some whole ≡ expanded arch text → bytes_eq whole (codes "-") ≡ false
    → is_file_name whole ≡ false → Err BadName ≡ split_name_of arch text
split_name_of-other arch text whole e other is = rw (← split_name_of-some arch text whole e, other, is) refl
