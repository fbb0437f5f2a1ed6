-- Numbers in definition files (repart.d(5): Priority=, Weight=, SizeMinBytes= and the like).
use Rattle.std.specs.Prelude.{ℕ, ◌-◌, ◌*◌, ◌^◌, ℤ, pos, neg_ℤ, List, Bool, Option, Some, None, ◌&&◌, not, ◌==◌, nat_le, int_le, if◌then◌else◌, length, take, slice_index}
use Rattle.std.specs.Option.{option_and_then, option_map, option_map_or}
use Rattle.std.specs.Str.{all_ascii_digits}
use Rattle.std.specs.Str.Parse.{digits_value, signed_digits_value, without_leading_sign}

-- decimal digits, one at least
abbrev pub is_number : List ℕ → Bool
is_number text = not (length text == 0) && all_ascii_digits text

-- the number that a text's digits write, none where it isn't digits alone
abbrev pub number_of : List ℕ → Option ℕ
number_of text = if is_number text then Some (digits_value 10 text) else None

-- a number, where it is at most so much
abbrev pub at_most : ℕ → Option ℕ → Option ℕ
at_most most number = option_and_then (λ n. if nat_le n most then Some n else None) number

-- a weight: digits, at most 1,000,000
unfoldable pub weight_of : List ℕ → Option ℕ
weight_of text = at_most 1000000 (number_of text)

-- the bytes that a size's last letter stands for: B, K, M, G, T
abbrev pub factor_of : ℕ → Option ℕ
factor_of letter =
    if letter == 66 then Some 1
    else if letter == 75 then Some 1024
    else if letter == 77 then Some (1024 ^ 2)
    else if letter == 71 then Some (1024 ^ 3)
    else if letter == 84 then Some (1024 ^ 4)
    else None

-- a size in bytes: digits with one of these letters behind them or none, at most 2^60
unfoldable pub size_of : List ℕ → Option ℕ
size_of text = at_most (2 ^ 60) (option_map_or (λ factor. option_map (λ n. n * factor) (number_of (take (length text - 1) text)))
    (factor_of (slice_index text (length text - 1))) (number_of text))

-- a priority: digits with a sign before them or none, within the bounds of a number of 32 bits
unfoldable pub priority_of : List ℕ → Option ℤ
priority_of text =
    let number = signed_digits_value 10 text in
    if is_number (without_leading_sign text) && int_le (neg_ℤ (pos (2 ^ 31))) number && int_le number (pos (2 ^ 31 - 1))
    then Some number else None
