-- The settings that count while pieces are read, and the files that they are read from.
use Rattle.std.specs.Prelude.{ℕ, ◌≡◌, ◌≤◌, List, [], ◌∷◌, ◌++◌, Bool, true, not, ◌&&◌, Option, length, map, sum_by}
use Rattle.std.specs.List.{list_any}
use Rattle.std.specs.Str.{bytes_eq}
use Rattle.rp_ini.specs.Lines.{Section}
use Rattle.rp_defs.specs.declared.setting.Setting.{Setting}
use Rattle.rp_defs.specs.Kept.{Keyed, counting_of}

-- where the settings before are those of some assignments, the settings after are those of these assignments too
abbrev pub CountsAlso : List Keyed → List (Option Setting) → List (Option Setting) → Type 0
CountsAlso more before now = (earlier : List Keyed) → before ≡ counting_of earlier → now ≡ counting_of (earlier ++ more)

-- the names differ from each other
abbrev pub differ : List (List ℕ) → Bool
differ [] = true
differ (name ∷ names) = not (list_any (bytes_eq name) names) && differ names

-- the sections of a piece's text: their names differ, and there are at most as many assignments as bytes
pub record IsParsed (sections : List Section) : Type 0 where
  pub apart : differ (map (λ (section : Section). section.name) sections) ≡ true
  pub few : sum_by (λ (section : Section). length section.assigns) sections ≤ 65536
