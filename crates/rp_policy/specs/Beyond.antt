-- What one policy allows and another doesn't (own).
use Rattle.std.specs.Prelude.{ℕ, ◌≤◌, Bool, true, false, not, ◌&&◌, List, [], ◌∷◌, map, find, Option, Some, None, option_map, IfSome}
use Rattle.std.specs.List.{flat_map, range_with_len}
use Rattle.std.specs.Option.{option_or}
use Rattle.rp_types.specs.declared.arch.Designator.{Designator}
use Rattle.rp_policy.specs.declared.policy.Policy.{Policy}
use Rattle.rp_policy.specs.declared.judging.Found.{Found}
use Rattle.rp_policy.specs.declared.judging.Judged.{Judged}
use Rattle.rp_policy.specs.declared.judging.Judged.TheVariants.{Absent, Ignored, Use, Denied}
use Rattle.rp_policy.specs.declared.beyond.Counter.{Counter}
use Rattle.rp_policy.specs.Judging.{flags_of, judged}

abbrev pub is_allowed : Judged → Bool
is_allowed Absent = true
is_allowed Ignored = true
is_allowed (Use kind) = true
is_allowed (Denied rule) = false

-- whether flags allow what was found
abbrev pub allows : ℕ → Option Found → Bool
allows flags found = is_allowed (judged flags found)

-- what may be found with these kinds: writable before read-only, and of each that doesn't grow before that which does
abbrev pub states_of : ℕ → List Found
states_of kinds = flat_map (λ read_only. map (λ growfs. record { kinds = record { 0 = kinds }; read_only = read_only; growfs = growfs })
    (false ∷ true ∷ [])) (false ∷ true ∷ [])

-- all that may be found, in order: nothing first, then by the number of the kinds, of which there is one at least
unfoldable pub all_found : List (Option Found)
all_found = None ∷ map Some (flat_map states_of (range_with_len 1 15))

-- whether flags allow what others deny
unfoldable pub is_beyond : ℕ → ℕ → Option Found → Bool
is_beyond a b found = allows a found && not (allows b found)

-- what of a designator is found first that the first flags allow and the second deny
abbrev pub first_beyond : Policy → Policy → Designator → Option Counter
first_beyond a b d = option_map (λ found. record { designator = d; found = found })
    (find (is_beyond (flags_of a d).0 (flags_of b d).0) all_found)

-- the first of all, by the order of designators
abbrev pub counter_of : List Designator → Policy → Policy → Option Counter
counter_of [] a b = None
counter_of (d ∷ ds) a b = option_or (first_beyond a b d) (counter_of ds a b)

-- found with one kind at least, and no other bits
abbrev pub IsFound : Option Found → Type 0
IsFound found = IfSome found (λ f. (1 ≤ f.kinds.0) × (f.kinds.0 ≤ 15))
