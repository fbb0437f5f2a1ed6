-- The words of a command line: options and the image (own).
use Rattle.std.specs.Prelude.{ℕ, ◌-◌, List, [], ◌∷◌, Bool, false, not, ◌==◌, nat_lt, if◌then◌else◌, length, Option, Some, None, option_and_then, slice_index_or}
use Rattle.std.specs.Option.{option_or}
use Rattle.std.specs.List.{after_first, before_first, position_or_len}
use Rattle.std.specs.Str.{bytes_eq}

-- the first value that a function gives of these
abbrev pub first_of : {X Y : Type 0} → (X → Option Y) → List X → Option Y
first_of f [] = None
first_of f (x ∷ xs) = option_or (f x) (first_of f xs)

-- what stands behind a hyphen at the front
abbrev pub behind_hyphen : List ℕ → Option (List ℕ)
behind_hyphen [] = None
behind_hyphen (byte ∷ rest) = if byte == 45 then Some rest else None

-- what stands before and behind the first equals sign
abbrev pub at_equals : List ℕ → Option (List ℕ × List ℕ)
at_equals text =
    if nat_lt (position_or_len (λ byte. byte == 61) text) (length text)
    then Some (before_first (λ byte. byte == 61) text, after_first (λ byte. byte == 61) text) else None

-- an option's name and its value: it is two hyphens, the name, an equals sign and the value
abbrev pub option_in : List ℕ → Option (List ℕ × List ℕ)
option_in word = option_and_then at_equals (option_and_then behind_hyphen (behind_hyphen word))

-- the value that a word gives to the option of this name
abbrev pub value_of : List ℕ → List ℕ → Option (List ℕ)
value_of name word = option_and_then (λ parts. if bytes_eq parts.0 name then Some parts.1 else None) (option_in word)

-- the value that the first of these words to do so gives to the option
abbrev pub value_in : List ℕ → List (List ℕ) → Option (List ℕ)
value_in name words = first_of (value_of name) words

-- an image is a word that isn't empty and doesn't begin with a hyphen
abbrev pub is_image : List ℕ → Bool
is_image [] = false
is_image (byte ∷ rest) = not (byte == 45)

-- the last word, empty where there is none
abbrev pub last_of : List (List ℕ) → List ℕ
last_of words = slice_index_or words (length words - 1) []
