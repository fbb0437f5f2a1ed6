-- How many bytes a disk that tells has when a step is done.
use Rattle.std.proofs.Common.{◌≡◌, ℕ, ◌+◌, ◌*◌, ◌<◌, List, [], ◌∷◌, ◌++◌, length, get_or, drop, replicate, Option, Some, None, Ok, Err, All, refl, sym, ap, ◌∙◌, subst}
use Rattle.std.specs.Prelude.{IfSome}
use Rattle.std.proofs.lemmas.List.{drop_more}
use Rattle.std.proofs.lemmas.List.Elements.{All-get_or}
use Rattle.rp_base.specs.Image.{bytes_at}
use Rattle.rp_base.specs.declared.geometry.Which.TheVariants.{Primary, Backup}
use Rattle.rp_base.specs.declared.plan.Plan.{Plan}
use Rattle.rp_disk.specs.Calls.{all_done}
use Rattle.rp_disk.specs.History.{IsLawful, held}
use Rattle.rp_disk.specs.Made.{Past, Made, dones, history_of, history_told}
use Rattle.rp_disk.specs.Stops.{Each}
use Rattle.rp_disk.specs.declared.call.Call.{Call}
use Rattle.rp_disk.specs.declared.call.Call.TheVariants.{Write, SetLen, Sync as SyncCall}
use Rattle.rp_disk.proofs.Agreeing.{length-resized}
use Rattle.rp_disk.proofs.Runs.{history_of-dones, held-all_did}
use Rattle.rp_format.specs.Written.{tree_calls}
use Rattle.rp_format.proofs.Kept.{writes-are}
use Rattle.rp_format.proofs.Told.{IsWrite, SameLength, same_length}
use Rattle.rp_steps.specs.Calls.{calls_of, in_pieces, tree_writes}
use Rattle.rp_steps.specs.Writes.{piece, pieces}
use Rattle.rp_steps.specs.declared.step.Step.{Step}
use Rattle.rp_steps.specs.declared.step.Step.TheVariants.{Grow, Zero, Copy, Tree, ClosePrimary, ArrayPrimary, HeaderPrimary, CloseBackup, ArrayBackup, HeaderBackup, Mbr, Sync}
use Rattle.rp_steps.proofs.Written.{Each-append, Each-map}
use Rattle.rp_stops.specs.Order.{array_call, close_call, header_call, mbr_call}
use Rattle.rp_verity.specs.Order.{order}
use Rattle.rp_verity.specs.Puts.{placed}
use Rattle.rp_verity.specs.Superblock.{superblock}
use Rattle.rp_verity.specs.Tree.{stored_tree}
use Rattle.rp_io.specs.declared.stored.Stored.{Stored}
use Rattle.rp_step.specs.Found.{Found, HasFile, LiesIn, Outside, calls_with, tree_of}
use Rattle.rp_step.specs.Made.{MakesStep}
use Rattle.rp_step.specs.Run.{AllLieIn, size_after}
use Rattle.rp_step.specs.declared.fault.ApplyFault.{ApplyFault}

pieces-are : (at : ℕ) (bytes : List ℕ) → Each IsWrite (in_pieces at bytes)
unfolding in_pieces
pieces-are at bytes = Each-map IsWrite (λ k. Write (at + piece * k) (bytes_at bytes (piece * k) piece)) 0 (pieces (length bytes))
    (λ j low high. refl)

tree-are : (hash_at blocks : ℕ) (tree : List (List ℕ)) → Each IsWrite (tree_writes hash_at blocks tree)
unfolding tree_writes
tree-are hash_at blocks tree = writes-are hash_at (placed tree (order blocks))

-- writes keep the length
kept : (first : Past) (old new : List Made) (calls : List Call) → new ≡ old ++ dones calls → Each IsWrite calls
    → IfSome (history_told (Some first) new) IsLawful → length (held (history_of first new)) ≡ length (held (history_of first old))
unfolding SameLength
kept first old new calls done writes lawful = same_length (Some first) old new calls done writes lawful

now_shown : (first : Past) (old new : List Made) (calls : List Call) → new ≡ old ++ dones calls
    → held (history_of first new) ≡ all_done (held (history_of first old)) calls
now_shown first old new calls done =
    ap (λ (l : List Made). held (history_of first l)) done ∙ ap held (history_of-dones first old calls)
    ∙ held-all_did (history_of first old) calls

pub length_after : (plan : Plan) (found : Found) (step : Step) (first : Past) (old new : List Made)
    → new ≡ old ++ dones (calls_with plan found step)
    → IfSome (history_told (Some first) new) IsLawful
    → length (held (history_of first new)) ≡ size_after (length (held (history_of first old))) step
unfolding calls_with calls_of
length_after plan found (Grow len) first old new done lawful =
    ap length (now_shown first old new (SetLen len ∷ []) done) ∙ length-resized (held (history_of first old)) len
length_after plan found Sync first old new done lawful = ap length (now_shown first old new (SyncCall ∷ []) done)
length_after plan found (Zero at len) first old new done lawful =
    kept first old new (in_pieces at (replicate len 0)) done (pieces-are at (replicate len 0)) lawful
length_after plan found (Copy file at len) first old new done lawful =
    kept first old new (in_pieces at found.bytes) done (pieces-are at found.bytes) lawful
length_after plan found (Tree data_at hash_at blocks salt uuid root) first old new done lawful =
    kept first old new (tree_calls (tree_of data_at hash_at blocks salt uuid root) found.blocks) done
    (Each-append IsWrite (tree_writes hash_at blocks (stored_tree salt found.blocks)) (Write hash_at (superblock uuid blocks salt) ∷ [])
    (tree-are hash_at blocks (stored_tree salt found.blocks)) (refl, tt)) lawful
length_after plan found ClosePrimary first old new done lawful = kept first old new (close_call plan Primary ∷ []) done (refl, tt) lawful
length_after plan found ArrayPrimary first old new done lawful = kept first old new (array_call plan Primary ∷ []) done (refl, tt) lawful
length_after plan found HeaderPrimary first old new done lawful = kept first old new (header_call plan Primary ∷ []) done (refl, tt) lawful
length_after plan found CloseBackup first old new done lawful = kept first old new (close_call plan Backup ∷ []) done (refl, tt) lawful
length_after plan found ArrayBackup first old new done lawful = kept first old new (array_call plan Backup ∷ []) done (refl, tt) lawful
length_after plan found HeaderBackup first old new done lawful = kept first old new (header_call plan Backup ∷ []) done (refl, tt) lawful
length_after plan found Mbr first old new done lawful = kept first old new (mbr_call plan ∷ []) done (refl, tt) lawful

-- no call of the steps so far passed the disk's end, where all lie in it; and the steps that are left do
unfoldable pub LieSoFar : Plan → Option Past → List Step → List Step → List Made → List Made → ℕ → ℕ → Type 0
LieSoFar plan first steps left old now before strays = IfSome first (λ bytes. AllLieIn plan (length (held (history_of bytes old))) steps
    → (strays ≡ before) × AllLieIn plan (length (held (history_of bytes now))) left)

pub lie_none : (plan : Plan) (first : Option Past) (steps : List Step) (old : List Made) (before : ℕ)
    → LieSoFar plan first steps steps old old before before
unfolding LieSoFar
lie_none plan None steps old before = tt
lie_none plan (Some bytes) steps old before = λ lies. (refl, lies)

pub lie_more : (plan : Plan) (first : Option Past) (found : Found) (steps left : List Step) (step : Step) (old mid now : List Made)
    (before then strays : ℕ)
    → LieSoFar plan first steps (step ∷ left) old mid before then → now ≡ mid ++ dones (calls_with plan found step)
    → IfSome (history_told first now) IsLawful
    → IfSome (history_told first mid) (λ h. LiesIn plan (length (held h)) step → strays ≡ then)
    → LieSoFar plan first steps left old now before strays
unfolding LieSoFar
lie_more plan None found steps left step old mid now before then strays so done lawful stays = tt
lie_more plan (Some bytes) found steps left step old mid now before then strays so done lawful stays = λ lies.
    let all = so lies in
    let P : ℕ → Type 0 = λ n. AllLieIn plan n left in
    (stays all.1.0 ∙ all.0, subst P (sym (length_after plan found step bytes mid now done lawful)) all.1.1)

-- at the end, and at a fault
pub lie_all : (plan : Plan) (first : Option Past) (steps left : List Step) (old now : List Made) (before strays : ℕ)
    → LieSoFar plan first steps left old now before strays
    → IfSome (history_told first old) (λ h. AllLieIn plan (length (held h)) steps → strays ≡ before)
unfolding LieSoFar
lie_all plan None steps left old now before strays so = tt
lie_all plan (Some bytes) steps left old now before strays so = λ lies. (so lies).0

pub lie_broke : (plan : Plan) (first : Option Past) (steps left : List Step) (step : Step) (old mid : List Made)
    (before then strays : ℕ)
    → LieSoFar plan first steps (step ∷ left) old mid before then
    → IfSome (history_told first mid) (λ h. LiesIn plan (length (held h)) step → strays ≡ then)
    → IfSome (history_told first old) (λ h. AllLieIn plan (length (held h)) steps → strays ≡ before)
unfolding LieSoFar
lie_broke plan None steps left step old mid before then strays so stays = tt
lie_broke plan (Some bytes) steps left step old mid before then strays so stays = λ lies. let all = so lies in stays all.1.0 ∙ all.0

-- the same at a place of a list of steps
pub lie_at : {T : Type 0} (plan : Plan) (outside : Outside) (first : Option Past) (found : Found) (steps : List Step) (i : ℕ)
    (d : Step)
    (old mid now : List Made) (before then strays : ℕ) (value : T) → i < length steps
    → LieSoFar plan first steps (drop i steps) old mid before then
    → MakesStep {T = T} plan outside (get_or steps i d) found mid now (Ok value) → IfSome (history_told first now) IsLawful
    → IfSome (history_told first mid) (λ h. LiesIn plan (length (held h)) (get_or steps i d) → strays ≡ then)
    → LieSoFar plan first steps (drop (i + 1) steps) old now before strays
lie_at plan outside first found steps i d old mid now before then strays value below so makes lawful stays =
    lie_more plan first found steps (drop (i + 1) steps) (get_or steps i d) old mid now before then strays
    (subst (λ (l : List Step). LieSoFar plan first steps l old mid before then) (drop_more steps i d below) so) makes.ran.ok lawful stays

pub lie_broken_at : {T : Type 0} (plan : Plan) (outside : Outside) (first : Option Past) (found : Found) (steps : List Step) (i : ℕ)
    (d : Step)
    (old mid now : List Made) (before then strays : ℕ) (fault : ApplyFault) → i < length steps
    → LieSoFar plan first steps (drop i steps) old mid before then
    → MakesStep {T = T} plan outside (get_or steps i d) found mid now (Err fault)
    → IfSome (history_told first mid) (λ h. LiesIn plan (length (held h)) (get_or steps i d) → strays ≡ then)
    → IfSome (history_told first old) (λ h. AllLieIn plan (length (held h)) steps → strays ≡ before)
lie_broken_at plan outside first found steps i d old mid now before then strays fault below so makes stays =
    lie_broke plan first steps (drop (i + 1) steps) (get_or steps i d) old mid before then strays
    (subst (λ (l : List Step). LieSoFar plan first steps l old mid before then) (drop_more steps i d below) so) stays

-- no call of the steps so far asked for what its source lacks, where all find their files; and one step more
pub files_at : (told : Option (List Stored)) (paths : List (List ℕ)) (steps : List Step) (i : ℕ) (d : Step) (before then strays : ℕ)
    → i < length steps
    → IfSome told (λ files. All (HasFile files paths) steps → then ≡ before)
    → IfSome told (λ files. HasFile files paths (get_or steps i d) → strays ≡ then)
    → IfSome told (λ files. All (HasFile files paths) steps → strays ≡ before)
files_at None paths steps i d before then strays below so stays = tt
files_at (Some files) paths steps i d before then strays below so stays = λ all.
    stays (All-get_or (HasFile files paths) steps i d below all) ∙ so all
