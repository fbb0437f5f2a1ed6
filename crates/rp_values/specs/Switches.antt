-- Booleans in definition files (systemd.syntax(7); systemd reads the single letters too).
use Rattle.std.specs.Prelude.{ℕ, List, [], ◌∷◌, Bool, true, false, Option, Some, None, codes, if◌then◌else◌}
use Rattle.std.specs.List.{list_any}
use Rattle.std.specs.Str.{str_eq_ignore_ascii_case}

-- what says yes, and what says no
abbrev pub on_texts : List (List ℕ)
on_texts = codes "1" ∷ codes "yes" ∷ codes "y" ∷ codes "true" ∷ codes "t" ∷ codes "on" ∷ []

abbrev pub off_texts : List (List ℕ)
off_texts = codes "0" ∷ codes "no" ∷ codes "n" ∷ codes "false" ∷ codes "f" ∷ codes "off" ∷ []

-- whether a text is one of these, in any case of ASCII
abbrev pub is_among : List (List ℕ) → List ℕ → Bool
is_among texts text = list_any (λ each. str_eq_ignore_ascii_case text each) texts

-- a boolean
unfoldable pub switch_of : List ℕ → Option Bool
switch_of text = if is_among on_texts text then Some true else if is_among off_texts text then Some false else None
