-- Texts with a byte between them, built one behind another.
use Rattle.std.specs.Prelude.{ℕ, Bool, true, false, List, [], ◌∷◌, ◌++◌}

-- a text behind the byte, unless it is the first
abbrev pub led : ℕ → Bool → List ℕ → List ℕ
led mark true text = text
led mark false text = mark ∷ text

-- texts, each behind the byte but the first of all
abbrev pub joined : ℕ → Bool → List (List ℕ) → List ℕ
joined mark first [] = []
joined mark first (text ∷ texts) = led mark first text ++ joined mark false texts

-- whether there is no text
abbrev pub is_none : List (List ℕ) → Bool
is_none [] = true
is_none (text ∷ texts) = false
