-- What the maps hold that count rows and definitions by their types.
use Rattle.std.specs.Prelude.{ℕ, Option, unwrap_or, nat_eq, List, ◌&&◌, Bool}
use Rattle.std.specs.HashMap.{HashMap, get}
use Rattle.std.specs.declared.hash.FoldHasher.{FoldHasher}
use Rattle.std.specs.declared.hash.BuildHasherDefault.{BuildHasherDefault}
use Rattle.std.specs.Str.{bytes_eq}
use Rattle.rp_base.specs.declared.guid.Guid.{Guid}

-- how many of a type were seen
abbrev pub seen_of : HashMap (List ℕ) ℕ (BuildHasherDefault FoldHasher) → Guid → ℕ
seen_of seen kind = unwrap_or (get bytes_eq seen kind.0) 0

-- whether two types with ranks are the same
abbrev pub is_key : List ℕ × ℕ → List ℕ × ℕ → Bool
is_key a b = bytes_eq a.0 b.0 && nat_eq a.1 b.1

-- the place that stands under a type and a rank
abbrev pub place_in : HashMap (List ℕ × ℕ) ℕ (BuildHasherDefault FoldHasher) → Guid → ℕ → Option ℕ
place_in places kind rank = get is_key places (kind.0, rank)
