-- What was written of zeros so far.
use Rattle.std.proofs.Common.{◌≡◌, ℕ, ◌+◌, ◌-◌, ◌*◌, ◌<◌, ◌≤◌, ◌⊎◌, min, List, [], ◌∷◌, ◌++◌, length, take, replicate, sym, ap, ◌∙◌, arith}
use Rattle.std.proofs.lemmas.List.{length-replicate}
use Rattle.rp_disk.specs.Made.{Made, Done, Broke, dones}
use Rattle.rp_disk.specs.Runs.{BrokeOff}
use Rattle.rp_disk.specs.declared.call.Call.TheVariants.{Write}
use Rattle.rp_disk.proofs.Runs.{broke_off_in, one_more}
use Rattle.rp_steps.specs.Calls.{in_pieces}
use Rattle.rp_steps.specs.Writes.{piece, pieces}
use Rattle.rp_fill.proofs.Pieces.{all_pieces, piece_call, piece_in, pieces-more, some_pieces, zero_call}

-- so many pieces of zeros were written
abbrev pub ZerosSoFar : ℕ → ℕ → ℕ → List Made → List Made → Type 0
ZerosSoFar at len k old now = now ≡ old ++ dones (some_pieces at (replicate len 0) k)

-- what is written next are zeros
abbrev pub AreNext : ℕ → ℕ → List ℕ → List ℕ → Type 0
AreNext len k room bytes = (size : ℕ) × (size ≡ min piece (len - piece * k)) × (size ≤ length room) × (bytes ≡ take size room)

next_call : (at len k : ℕ) (room bytes : List ℕ) → room ≡ replicate (length room) 0 → AreNext len k room bytes
    → Write (at + piece * k) bytes ≡ piece_call at (replicate len 0) k
next_call at len k room bytes zeros next = ap (Write (at + piece * k)) next.3 ∙ zero_call at len k next.0 room zeros next.1 next.2

pub zeros_more : (at len k : ℕ) (room bytes : List ℕ) (old now new : List Made) → ZerosSoFar at len k old now → room ≡ replicate (length room) 0
    → AreNext len k room bytes → new ≡ now ++ Done (Write (at + piece * k) bytes) ∷ [] → ZerosSoFar at len (k + 1) old new
zeros_more at len k room bytes old now new so zeros next done =
    let e = next_call at len k room bytes zeros next in
    one_more old now new (some_pieces at (replicate len 0) k) (piece_call at (replicate len 0) k) so (done ∙ ap (λ c. now ++ Done c ∷ []) e)
    ∙ ap (λ l. old ++ dones l) (sym (pieces-more at (replicate len 0) k))

pub zeros_all : (at len k : ℕ) (old new : List Made) → ZerosSoFar at len k old new → k ≡ pieces len
    → new ≡ old ++ dones (in_pieces at (replicate len 0))
zeros_all at len k old new so all =
    so ∙ ap (λ l. old ++ dones l)
    (ap (some_pieces at (replicate len 0)) (all ∙ ap pieces (sym (length-replicate {A = ℕ} len 0))) ∙ sym (all_pieces at (replicate len 0)))

pub zeros_part : (at len k : ℕ) (room bytes : List ℕ) (old now new : List Made) → ZerosSoFar at len k old now → room ≡ replicate (length room) 0
    → AreNext len k room bytes → k < pieces len
    → (new ≡ now) ⊎ (new ≡ now ++ Broke (Write (at + piece * k) bytes) ∷ [])
    → BrokeOff old (in_pieces at (replicate len 0)) new
zeros_part at len k room bytes old now new so zeros next below failed =
    let e = next_call at len k room bytes zeros next in
    let s = piece_in at (replicate len 0) k (let long = length-replicate {A = ℕ} len 0 in omega arith) in
    broke_off_in old now new (some_pieces at (replicate len 0) k) (Write (at + piece * k) bytes) s.0 (in_pieces at (replicate len 0))
    (s.1 ∙ ap (λ c. some_pieces at (replicate len 0) k ++ c ∷ s.0) (sym e)) so failed
