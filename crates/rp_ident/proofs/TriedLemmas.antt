-- Candidates that were tried before are left out.
use Rattle.std.proofs.Common.{◌≡◌, ℕ, zero, suc, ◌+◌, ◌-◌, ◌<◌, ◌≤◌, Bool, true, false, List, [], ◌∷◌, map, replicate, refl, sym, ◌∙◌, ap, arith, below_more, true≢false}
use Rattle.std.specs.Prelude.{◌||◌, All, find, not}
use Rattle.std.specs.List.{range_with_len}
use Rattle.std.proofs.lemmas.List.Elements.{All-cons, All-nil, All-weaker}
use Rattle.rp_base.specs.declared.guid.Guid.{Guid}
use Rattle.rp_base.specs.declared.table.Row.{Row}
use Rattle.rp_hmac.specs.Derived.{derived}
use Rattle.rp_hmac.proofs.Stamped.{derived-not_zero}
use Rattle.std.proofs.lemmas.Slice.Eq.{bytes_eq-Decides}
use Rattle.rp_ident.specs.Naming.{changed, given, is_used, is_zero, same_id, waits}
use Rattle.rp_ident.specs.Tried.{AreTried, IsTried}
use Rattle.rp_ident.specs.declared.tried.Tried.{Tried}
use Rattle.rp_ident.proofs.NamingLemmas.{find-next}
use Rattle.rp_ident.proofs.KeptLemmas.{given-used}

-- the candidates from one on, where those before it fail
pub find-from : (p : Guid → Bool) (f : ℕ → Guid) (n from : ℕ) → from ≤ n → ((k : ℕ) → k < from → p (f k) ≡ false)
    → find p (map f (range_with_len 0 n)) ≡ find p (map f (range_with_len from (n - from)))
find-from p f n zero few before = let all : n - zero ≡ n = omega arith in rw all refl
find-from p f n (suc from) few before =
    let next : suc from ≡ from + 1 = omega arith in
    rw next
    (find-from p f n from (omega arith) (λ k below. before k (omega arith))
    ∙ find-next p f from n (omega arith) (before from (omega arith)))

-- a derived identifier isn't zero
pub derived-some : (seed : Guid) (text : List ℕ) (k : ℕ) → is_zero (derived seed text k) ≡ false
derived-some seed text k = by_test (is_zero (derived seed text k)) refl where
  by_test : (t : Bool) → is_zero (derived seed text k) ≡ t → t ≡ false
  by_test false is = refl
  by_test true is = absurd (derived-not_zero seed text k ((bytes_eq-Decides (derived seed text k).0 (replicate 16 0)).0 is))

pub still : (seed : Guid) (rows : List Row) (place : ℕ) (id kind : Guid) (next : ℕ) → waits rows place ≡ true
    → IsTried seed rows kind next → IsTried seed (given rows place id) kind next
still seed rows place id kind next waiting is = record {
  few = is.few;
  used = λ k below. given-used rows place id (derived seed kind.0 k) (derived-some seed kind.0 k) waiting (is.used k below);
}

-- what was tried stays tried
pub tried-given : (seed : Guid) (rows : List Row) (place : ℕ) (id : Guid) (tried : List Tried) → waits rows place ≡ true
    → AreTried seed rows tried → AreTried seed (given rows place id) tried
tried-given seed rows place id tried waiting all =
    All-weaker (λ (each : Tried). IsTried seed rows each.kind each.next) (λ (each : Tried). IsTried seed (given rows place id) each.kind each.next)
    (λ each is. still seed rows place id each.kind each.next waiting is) tried all

-- a row has the identifier that it was given
given-has : (rows : List Row) (place : ℕ) (id : Guid) → waits rows place ≡ true → is_used (given rows place id) id ≡ true
unfolding changed
given-has [] place id waiting = absurd (true≢false (sym waiting))
given-has (row ∷ rows) zero id waiting = rw ((bytes_eq-Decides id.0 id.0).1 refl) refl
given-has (row ∷ rows) (suc place) id waiting = later (same_id row.id id) (is_used (given rows place id) id) (given-has rows place id waiting) where
  later : (a b : Bool) → b ≡ true → (a || b) ≡ true
  later true b found = refl
  later false b found = found

-- one candidate more was tried: it is given
pub tried-more : (seed : Guid) (rows : List Row) (place : ℕ) (id kind : Guid) (number : ℕ) → waits rows place ≡ true
    → id ≡ derived seed kind.0 number → number < 256 → ((k : ℕ) → k < number → is_used rows (derived seed kind.0 k) ≡ true)
    → IsTried seed (given rows place id) kind (number + 1)
tried-more seed rows place id kind number waiting id_is few before = record {
  few = omega arith;
  used = below_more (λ k. is_used (given rows place id) (derived seed kind.0 k) ≡ true) number
      (λ k below. given-used rows place id (derived seed kind.0 k) (derived-some seed kind.0 k) waiting (before k below))
      (rw (← id_is) (given-has rows place id waiting));
}

-- at first nothing was tried
pub none-tried : (seed : Guid) (rows : List Row) (count : ℕ) (kind : Guid) → AreTried seed rows (replicate count (record { kind = kind; next = 0 }))
none-tried seed rows zero kind = All-nil (λ (each : Tried). IsTried seed rows each.kind each.next)
none-tried seed rows (suc count) kind =
    All-cons (λ (each : Tried). IsTried seed rows each.kind each.next) (record { kind = kind; next = 0 }) (replicate count (record { kind = kind; next = 0 }))
    (record { few = omega arith; used = λ k below. absurd (omega arith) }) (none-tried seed rows count kind)
