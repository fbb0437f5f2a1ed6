-- One more call at the end of a list.
use Rattle.std.proofs.Common.{ℕ, List, [], ◌∷◌, ◌++◌, ◌≡◌, ◌||◌, Bool, true, false, cond, refl, ◌∙◌, ap}
use Rattle.rp_disk.specs.declared.call.Call.{Call}
use Rattle.rp_disk.specs.declared.call.Call.TheVariants.{Sync}
use Rattle.rp_disk.specs.Calls.{done, all_done, is_sync, has_sync, settled, pending}

or_false : (a : Bool) → (a || false) ≡ a
or_false true = refl
or_false false = refl

pub or_true : (a : Bool) → (a || true) ≡ true
or_true true = refl
or_true false = refl

or_assoc : (a b c : Bool) → (a || (b || c)) ≡ ((a || b) || c)
or_assoc true b c = refl
or_assoc false b c = refl

has_sync-more : (calls : List Call) (call : Call) → has_sync (calls ++ call ∷ []) ≡ (has_sync calls || is_sync call)
has_sync-more [] call = or_false (is_sync call)
has_sync-more (first ∷ calls) call =
    ap (λ b. is_sync first || b) (has_sync-more calls call) ∙ or_assoc (is_sync first) (has_sync calls) (is_sync call)

has_sync-sync : (calls : List Call) → has_sync (calls ++ Sync ∷ []) ≡ true
has_sync-sync calls = has_sync-more calls Sync ∙ or_true (has_sync calls)

pub has_sync-other : (calls : List Call) (call : Call) → is_sync call ≡ false → has_sync (calls ++ call ∷ []) ≡ has_sync calls
has_sync-other calls call isnt = has_sync-more calls call ∙ ap (λ b. has_sync calls || b) isnt ∙ or_false (has_sync calls)

pub all_done-more : (old : List ℕ) (calls : List Call) (call : Call) → all_done old (calls ++ call ∷ []) ≡ done (all_done old calls) call
all_done-more old [] call = refl
all_done-more old (first ∷ calls) call = all_done-more (done old first) calls call

pub settled-sync : (old : List ℕ) (calls : List Call) → settled old (calls ++ Sync ∷ []) ≡ all_done old calls
settled-sync old [] = refl
settled-sync old (first ∷ calls) =
    ap (λ b. cond b (settled (done old first) (calls ++ Sync ∷ [])) old) (has_sync-sync (first ∷ calls))
    ∙ settled-sync (done old first) calls

pub pending-sync : (calls : List Call) → pending (calls ++ Sync ∷ []) ≡ []
pending-sync [] = refl
pending-sync (first ∷ calls) =
    ap (λ b. cond b (pending (calls ++ Sync ∷ [])) (first ∷ (calls ++ Sync ∷ []))) (has_sync-sync (first ∷ calls)) ∙ pending-sync calls

pub settled-other : (old : List ℕ) (calls : List Call) (call : Call) → is_sync call ≡ false
    → settled old (calls ++ call ∷ []) ≡ settled old calls
settled-other old [] call isnt = ap (λ b. cond b (done old call) old) (has_sync-other [] call isnt)
settled-other old (first ∷ calls) call isnt =
    ap (λ b. cond b (settled (done old first) (calls ++ call ∷ [])) old) (has_sync-other (first ∷ calls) call isnt)
    ∙ ap (λ x. cond (has_sync (first ∷ calls)) x old) (settled-other (done old first) calls call isnt)

cond_push : (b : Bool) (xs ys : List Call) (call : Call) → cond b (xs ++ call ∷ []) (ys ++ call ∷ []) ≡ (cond b xs ys ++ call ∷ [])
cond_push true xs ys call = refl
cond_push false xs ys call = refl

pub pending-other : (calls : List Call) (call : Call) → is_sync call ≡ false → pending (calls ++ call ∷ []) ≡ (pending calls ++ call ∷ [])
pending-other [] call isnt = ap (λ b. cond b [] (call ∷ [])) (has_sync-other [] call isnt)
pending-other (first ∷ calls) call isnt =
    ap (λ b. cond b (pending (calls ++ call ∷ [])) (first ∷ (calls ++ call ∷ []))) (has_sync-other (first ∷ calls) call isnt)
    ∙ ap (λ x. cond (has_sync (first ∷ calls)) x (first ∷ (calls ++ call ∷ []))) (pending-other calls call isnt)
    ∙ cond_push (has_sync (first ∷ calls)) (pending calls) (first ∷ calls) call
