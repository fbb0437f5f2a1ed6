-- The headers and arrays of two places, under calls and stops: over lists alone.
use Rattle.std.proofs.Common.{◌≡◌, ℕ, ◌+◌, ◌≤◌, ◌⊎◌, List, [], ◌∷◌, length, replicate, refl, sym, ap, ◌∙◌, subst, inl, inr, arith}
use Rattle.rp_base.specs.Image.{bytes_at, sectors_of}
use Rattle.rp_base.specs.declared.geometry.Which.{Which}
use Rattle.rp_base.specs.declared.geometry.Which.TheVariants.{Primary, Backup}
use Rattle.rp_disk.specs.declared.call.Call.{Call}
use Rattle.rp_disk.specs.declared.call.Call.TheVariants.{Write}
use Rattle.rp_disk.specs.Calls.{all_done, done, overwritten}
use Rattle.rp_disk.specs.Ranges.{Apart, Inside}
use Rattle.rp_disk.specs.Stops.{Agrees, Each}
use Rattle.rp_disk.proofs.Agreeing.{Each-left}
use Rattle.rp_disk.proofs.Blocks.{Each-imp, all_done-append}
use Rattle.rp_disk.proofs.Ranges.{agrees-inside, bytes_at-agrees, bytes_at-all_done, bytes_at-done, bytes_at-overwritten, length-agrees, length-all_done, length-done, no_length}
use Rattle.rp_gpt.specs.Copy.{other}
use Rattle.rp_gpt.specs.Shown.{IsTold, nothing, told_at}
use Rattle.rp_stops.specs.Order.{header_offset}
use Rattle.rp_stops.proofs.Cuts.{Around}
use Rattle.rp_stops.proofs.Stages.{Stop}

-- where the two places and the new rows of an image of so many bytes lie, and the bytes of the goal's copies; a header of
-- zeros tells nothing
pub record Layout : Type 1 where
  pub sector : ℕ
  pub len : ℕ
  pub size : ℕ
  pub head : Which → ℕ
  pub array : Which → ℕ
  pub goal_head : Which → List ℕ
  pub goal_array : Which → List ℕ
  pub IsNew : ℕ → ℕ → Type 0
  pub primary : head Primary + sector ≤ array Primary
  pub middle : array Primary + size ≤ array Backup
  pub backup : array Backup + size ≤ head Backup
  pub end : head Backup + sector ≤ len
  pub head_long : (which : Which) → length (goal_head which) ≡ sector
  pub array_long : (which : Which) → length (goal_array which) ≡ size
  pub news : (at n : ℕ) → IsNew at n → (array Primary + size ≤ at) × (at + n ≤ array Backup)
  pub place : (xs : List ℕ) → length xs ≡ len → (which : Which) → header_offset sector (sectors_of sector xs) which ≡ head which
  pub closed : (xs : List ℕ) → length xs ≡ len → (which : Which) → bytes_at xs (head which) sector ≡ replicate sector 0
      → told_at sector xs which ≡ nothing

-- the call leaves a range alone, or writes it whole
abbrev pub Touches : ℕ → List ℕ → Call → Type 0
Touches at bytes call = Apart at (length bytes) call ⊎ (call ≡ Write at bytes)

module _ (len at : ℕ) (bytes : List ℕ) (fits : at + length bytes ≤ len) where
  -- what some calls, done whole, leave in the range
  pub front_value : (calls : List Call) (image : List ℕ) → length image ≡ len → Each (Inside len) calls → Each (Touches at bytes) calls
      → (bytes_at (all_done image calls) at (length bytes) ≡ bytes_at image at (length bytes)) ⊎
      (bytes_at (all_done image calls) at (length bytes) ≡ bytes)
  front_value [] image long inside touches = inl refl
  front_value (call ∷ calls) image long inside touches =
      let here : Inside (length image) call = let P : ℕ → Type 0 = λ m. Inside m call in subst P (sym long) inside.0 in
      elim (front_value calls (done image call) (length-done call image here ∙ long) inside.1 touches.1) [
        | inr whole ↦ inr whole
        | inl same ↦ elim touches.0 [
          | inl apart ↦ inl (same ∙ bytes_at-done at (length bytes) call image (omega arith) here apart)
          | inr is ↦ inr (same ∙ ap (λ c. bytes_at (done image c) at (length bytes)) is
              ∙ bytes_at-overwritten at bytes image (omega arith))
        ]
      ]

  -- one write of it among calls that leave it alone
  pub part_written : (O : Call → Type 0) → ((call : Call) → O call → Inside len call)
      → ((call : Call) → O call → Apart at (length bytes) call)
      → (calls : List Call) → Around O (Write at bytes) calls → (image : List ℕ) → length image ≡ len
      → bytes_at (all_done image calls) at (length bytes) ≡ bytes
  part_written O inside apart calls a image long =
      let next : length (all_done image a.front) ≡ len =
      length-all_done a.front image len long (Each-imp O (Inside len) inside a.front a.front_others) in
      let here : at + length bytes ≤ length (all_done image a.front) = omega (arith, next) in
      ap (λ l. bytes_at (all_done image l) at (length bytes)) a.are
      ∙ ap (λ l. bytes_at l at (length bytes)) (all_done-append image a.front (Write at bytes ∷ a.back))
      ∙ bytes_at-all_done at (length bytes) a.back (overwritten (all_done image a.front) at bytes) len
      (length-done (Write at bytes) (all_done image a.front) here ∙ next) fits
      (Each-imp O (Inside len) inside a.back a.back_others) (Each-imp O (Apart at (length bytes)) apart a.back a.back_others)
      ∙ bytes_at-overwritten at bytes (all_done image a.front) here

module _ (L : Layout) where
  -- a call that leaves both places alone
  pub record Steady (call : Call) : Type 0 where
    pub inside : Inside L.len call
    pub heads : (which : Which) → Apart (L.head which) L.sector call
    pub arrays : (which : Which) → Apart (L.array which) L.size call

  -- and the new rows too
  pub record Calm (call : Call) : Type 0 where
    pub steady : Steady call
    pub news : (at n : ℕ) → L.IsNew at n → Apart at n call

  -- a call that may write this place, and leaves the other one and the new rows alone
  pub record Own (which : Which) (call : Call) : Type 0 where
    pub inside : Inside L.len call
    pub head : Apart (L.head (other which)) L.sector call
    pub array : Apart (L.array (other which)) L.size call
    pub news : (at n : ℕ) → L.IsNew at n → Apart at n call

  pub calm_own : (which : Which) (call : Call) → Calm call → Own which call
  calm_own which call calm = record {
    inside = calm.steady.inside;
    head = calm.steady.heads (other which);
    array =
        calm.steady.arrays (other which);
    news = calm.news;
  }

  -- a place has the same header and array in two images
  pub record Same (which : Which) (xs ys : List ℕ) : Type 0 where
    pub head : bytes_at ys (L.head which) L.sector ≡ bytes_at xs (L.head which) L.sector
    pub array : bytes_at ys (L.array which) L.size ≡ bytes_at xs (L.array which) L.size

  pub same-then : (which : Which) (xs ys zs : List ℕ) → Same which xs ys → Same which ys zs → Same which xs zs
  same-then which xs ys zs a b = record { head = b.head ∙ a.head; array = b.array ∙ a.array }

  pub same-refl : (which : Which) (xs : List ℕ) → Same which xs xs
  same-refl which xs = record { head = refl; array = refl }

  -- a place has the goal's
  pub record HasGoal (which : Which) (xs : List ℕ) : Type 0 where
    pub head : bytes_at xs (L.head which) L.sector ≡ L.goal_head which
    pub array : bytes_at xs (L.array which) L.size ≡ L.goal_array which

  pub same-goal : (which : Which) (xs ys : List ℕ) → Same which xs ys → HasGoal which xs → HasGoal which ys
  same-goal which xs ys same goal = record { head = same.head ∙ goal.head; array = same.array ∙ goal.array }

  -- the new rows have the same bytes
  abbrev pub SameNews : List ℕ → List ℕ → Type 0
  SameNews xs ys = (at n : ℕ) → L.IsNew at n → bytes_at ys at n ≡ bytes_at xs at n

  pub news-then : (xs ys zs : List ℕ) → SameNews xs ys → SameNews ys zs → SameNews xs zs
  news-then xs ys zs a b at n new = b at n new ∙ a at n new

  pub head_fits : (which : Which) → L.head which + L.sector ≤ L.len
  head_fits Primary = omega (arith, L.primary, L.middle, L.backup, L.end)
  head_fits Backup = L.end

  pub array_fits : (which : Which) → L.array which + L.size ≤ L.len
  array_fits Primary = omega (arith, L.middle, L.backup, L.end)
  array_fits Backup = omega (arith, L.backup, L.end)

  -- a range that all calls of a kind leave alone
  pub kept : (P : Call → Type 0) → ((call : Call) → P call → Inside L.len call) → (at n : ℕ) → ((call : Call) → P call → Apart at n call)
      → at + n ≤ L.len
      → (image : List ℕ) (later : List Call) (new : List ℕ) → length image ≡ L.len → Each P later → Agrees image later new
      → bytes_at new at n ≡ bytes_at image at n
  kept P inside at n apart fits image later new long each agrees =
      let same : length new ≡ length image = length-agrees L.len image later new agrees (Each-imp P (Inside L.len) inside later each) in
      bytes_at-agrees at n image later new agrees (omega arith) (omega arith) (Each-imp P (Apart at n) apart later each)

  pub kept_length : (P : Call → Type 0) → ((call : Call) → P call → Inside L.len call)
      → (image : List ℕ) (later : List Call) (new : List ℕ)
      → length image ≡ L.len → Each P later → Agrees image later new → length new ≡ L.len
  kept_length P inside image later new long each agrees =
      length-agrees L.len image later new agrees (Each-imp P (Inside L.len) inside later each) ∙ long

  -- calls done whole are one of the things that a stop leaves
  pub whole : (P : Call → Type 0) → ((call : Call) → P call → Inside L.len call) → (image : List ℕ) (calls : List Call)
      → length image ≡ L.len → Each P calls
      → Agrees image calls (all_done image calls)
  whole P inside image calls long each = agrees-inside L.len calls image long (Each-imp P (Inside L.len) inside calls each)

  -- places and new rows that calls of a kind leave alone
  pub steady_same : (which : Which) (image : List ℕ) (later : List Call) (new : List ℕ) → length image ≡ L.len → Each Steady later
      → Agrees image later new → Same which image new
  steady_same which image later new long each agrees = record {
    head = kept Steady (λ c s. s.inside) (L.head which) L.sector (λ c s. s.heads which)
        (head_fits which) image later new long each agrees;
    array = kept Steady (λ c s. s.inside) (L.array which) L.size (λ c s. s.arrays which)
        (array_fits which) image later new long each agrees;
  }

  pub calm_news : (image : List ℕ) (later : List Call) (new : List ℕ) → length image ≡ L.len → Each Calm later → Agrees image later new
      → SameNews image new
  calm_news image later new long each agrees at n new_row =
      let between = L.news at n new_row in
      kept Calm (λ c q. q.steady.inside) at n (λ c q. q.news at n new_row)
      (omega (arith, between.1, L.backup, L.end)) image later new long each agrees

  -- what a copy's calls leave alone
  pub record Keeps (which : Which) (image new : List ℕ) : Type 0 where
    pub len : length new ≡ L.len
    pub other : Same (other which) image new
    pub news : SameNews image new

  pub keeps-then : (which : Which) (xs ys zs : List ℕ) → Keeps which xs ys → Keeps which ys zs → Keeps which xs zs
  keeps-then which xs ys zs a b = record {
    len = b.len;
    other = same-then (other which) xs ys zs a.other b.other;
    news =
        news-then xs ys zs a.news b.news;
  }

  pub own_keeps : (which : Which) (image : List ℕ) (later : List Call) (new : List ℕ) → length image ≡ L.len → Each (Own which) later
      → Agrees image later new → Keeps which image new
  own_keeps which image later new long each agrees = record {
    len = kept_length (Own which) (λ c o. o.inside) image later new long each agrees;
    other = record {
      head = kept (Own which) (λ c o. o.inside) (L.head (other which)) L.sector (λ c o. o.head)
          (head_fits (other which)) image later new long each agrees;
      array = kept (Own which) (λ c o. o.inside) (L.array (other which)) L.size (λ c o. o.array)
          (array_fits (other which)) image later new long each agrees;
    };
    news = λ at n new_row.
        let between = L.news at n new_row in
        kept (Own which) (λ c o. o.inside) at n (λ c o. o.news at n new_row)
        (omega (arith, between.1, L.backup, L.end)) image later new long each agrees;
  }

  -- the header of a place that tells is the one before, or the one that is written
  pub stop_header : (which : Which) (bytes : List ℕ) → length bytes ≡ L.sector → (image : List ℕ) (later : List Call) (new : List ℕ)
      → length image ≡ L.len → length new ≡ L.len
      → Each (Inside L.len) later → Each (Touches (L.head which) bytes) later → Stop L.sector image later new
      → IsTold (told_at L.sector new which)
      → (bytes_at new (L.head which) L.sector ≡ bytes_at image (L.head which) L.sector) ⊎ (bytes_at new (L.head which) L.sector ≡ bytes)
  stop_header which bytes size image later new long long' inside touches stop told = elim stop.honest [
    | inl sets ↦ absurd (no_length L.len later sets.0 inside sets.1)
    | inr honest ↦
        let h = honest which told in
        let P : ℕ → Type 0 = λ at. bytes_at new at L.sector ≡ bytes_at (all_done image h.0) at L.sector in
        let here : bytes_at new (L.head which) L.sector ≡ bytes_at (all_done image h.0) (L.head which) L.sector =
        subst P (L.place new long' which) h.2 in
        let Q : ℕ → Type 0 = λ n. (bytes_at (all_done image h.0) (L.head which) n ≡ bytes_at image (L.head which) n) ⊎
        (bytes_at (all_done image h.0) (L.head which) n ≡ bytes) in
        let fits : L.head which + length bytes ≤ L.len = omega (arith, size, head_fits which) in
        elim (subst Q size (front_value L.len (L.head which) bytes fits h.0 image long
        (Each-left (Inside L.len) h.0 h.1.0 (subst (Each (Inside L.len)) (sym h.1.1) inside))
        (Each-left (Touches (L.head which) bytes) h.0 h.1.0 (subst (Each (Touches (L.head which) bytes)) (sym h.1.1) touches)))) [
          | inl same ↦ inl (here ∙ same)
          | inr is ↦ inr (here ∙ is)
        ]
  ]
