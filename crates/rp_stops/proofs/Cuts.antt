-- Events cut by our syncs.
use Rattle.std.proofs.Common.{◌≡◌, ◌⊎◌, List, [], ◌∷◌, ◌++◌, refl, sym, ap, ◌∙◌, subst, inl, inr}
use Rattle.rp_disk.specs.declared.call.Call.{Call}
use Rattle.rp_disk.specs.declared.call.Call.TheVariants.{Write, Sync, SetLen}
use Rattle.rp_disk.specs.Calls.{has_sync}
use Rattle.rp_disk.specs.Stops.{Each}
use Rattle.rp_stops.specs.Writers.{Event, mine, theirs, calls_of, ours, others}

-- the first of a list end before an element of it, or go on behind
pub cut : {X : Type 0} (front rest part : List X) (s : X) (back : List X) → front ++ rest ≡ part ++ s ∷ back
    → ((more : List X) × (front ++ more ≡ part)) ⊎ ((behind : List X) × (front ≡ part ++ s ∷ behind) × (behind ++ rest ≡ back))
cut [] rest part s back e = inl (part, refl)
cut (x ∷ front) rest [] s back e = inr (front, (cc), (cc))
cut (x ∷ front) rest (p ∷ part) s back e =
    elim (cut front rest part s back (cc)) [
      | inl inside ↦ let same : front ++ inside.0 ≡ part = inside.1 in inl (inside.0, (cc))
      | inr behind ↦ let same : front ≡ part ++ s ∷ behind.0 = behind.1 in inr (behind.0, (cc), behind.2)
    ]

-- what holds of our calls and of theirs holds of all
pub each_call : (P : Call → Type 0) (events : List Event) → Each P (ours events) → Each P (others events) → Each P (calls_of events)
each_call P [] a b = tt
each_call P (mine call ∷ events) a b = (a.0, each_call P events a.1 b)
each_call P (theirs at bytes ∷ events) a b = (b.0, each_call P events a b.1)

pub calls-append : (xs ys : List Event) → calls_of (xs ++ ys) ≡ calls_of xs ++ calls_of ys
calls-append [] ys = refl
calls-append (mine call ∷ xs) ys = ap (λ l. call ∷ l) (calls-append xs ys)
calls-append (theirs at bytes ∷ xs) ys = ap (λ l. Write at bytes ∷ l) (calls-append xs ys)

pub ours-append : (xs ys : List Event) → ours (xs ++ ys) ≡ ours xs ++ ours ys
ours-append [] ys = refl
ours-append (mine call ∷ xs) ys = ap (λ l. call ∷ l) (ours-append xs ys)
ours-append (theirs at bytes ∷ xs) ys = ours-append xs ys

pub others-append : (xs ys : List Event) → others (xs ++ ys) ≡ others xs ++ others ys
others-append [] ys = refl
others-append (mine call ∷ xs) ys = others-append xs ys
others-append (theirs at bytes ∷ xs) ys = ap (λ l. Write at bytes ∷ l) (others-append xs ys)

-- others don't sync
pub has_sync_ours : (events : List Event) → has_sync (calls_of events) ≡ has_sync (ours events)
has_sync_ours [] = refl
has_sync_ours (mine (Write at bytes) ∷ events) = has_sync_ours events
has_sync_ours (mine Sync ∷ events) = refl
has_sync_ours (mine (SetLen len) ∷ events) = has_sync_ours events
has_sync_ours (theirs at bytes ∷ events) = has_sync_ours events

-- events behind which nothing of ours is left
pub front_empty : (front rest : List Event) → ours (front ++ rest) ≡ [] → ours front ≡ []
front_empty [] rest e = refl
front_empty (mine call ∷ front) rest e = absurd (cc)
front_empty (theirs at bytes ∷ front) rest e = front_empty front rest e

-- our calls up to one of them
pub live_call : (events : List Event) (block : List Call) (s : Call) (rest : List Call) → ours events ≡ block ++ s ∷ rest
    → (front : List Event) × (back : List Event) × (events ≡ front ++ mine s ∷ back) × (ours front ≡ block) × (ours back ≡ rest)
live_call [] [] s rest e = absurd (cc)
live_call [] (call ∷ block) s rest e = absurd (cc)
live_call (theirs at bytes ∷ events) block s rest e =
    let r = live_call events block s rest e in
    (theirs at bytes ∷ r.0, r.1, ap (λ l. theirs at bytes ∷ l) r.2, r.3, r.4)
live_call (mine call ∷ events) [] s rest e =
    let is : call ≡ s = cc in
    let left : ours events ≡ rest = cc in
    ([], events, ap (λ c. mine c ∷ events) is, refl, left)
live_call (mine call ∷ events) (first ∷ block) s rest e =
    let is : call ≡ first = cc in
    let left : ours events ≡ block ++ s ∷ rest = cc in
    let r = live_call events block s rest left in
    (mine call ∷ r.0, r.1, ap (λ l. mine call ∷ l) {y = r.0 ++ mine s ∷ r.1} r.2, ap (λ l. call ∷ l) r.3 ∙ ap (λ c. c ∷ block) is, r.4)

-- one call of ours among writes of others
pub record Around (O : Call → Type 0) (call : Call) (calls : List Call) : Type 0 where
  pub front : List Call
  pub back : List Call
  pub are : calls ≡ front ++ call ∷ back
  pub front_others : Each O front
  pub back_others : Each O back

pub around : (O : Call → Type 0) (part : List Event) (call : Call) → ours part ≡ call ∷ [] → Each O (others part)
    → Around O call (calls_of part)
around O part call is each =
    let r = live_call part [] call [] is in
    let each_parts : Each O (others r.0 ++ others r.1) = subst (Each O) (ap others r.2 ∙ others-append r.0 (mine call ∷ r.1)) each in
    record {
      front = calls_of r.0;
      back = calls_of r.1;
      are = ap calls_of r.2 ∙ calls-append r.0 (mine call ∷ r.1);
      front_others = each_call O r.0 (subst (Each O) (sym r.3) tt) (left (others r.0) (others r.1) each_parts);
      back_others = each_call O r.1 (subst (Each O) (sym r.4) tt) (right (others r.0) (others r.1) each_parts);
    }
  where
    left : (xs ys : List Call) → Each O (xs ++ ys) → Each O xs
    left [] ys each = tt
    left (x ∷ xs) ys each = (each.0, left xs ys each.1)

    right : (xs ys : List Call) → Each O (xs ++ ys) → Each O ys
    right [] ys each = each
    right (x ∷ xs) ys each = right xs ys each.1
