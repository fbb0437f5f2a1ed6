-- What writes make of a disk that tells its bytes: its length stays, and each byte that they don't cover.
use Rattle.std.proofs.Common.{◌≡◌, ℕ, ◌+◌, ◌≤◌, List, [], ◌∷◌, ◌++◌, length, refl, sym, ◌∙◌, ap, subst, arith}
use Rattle.std.specs.Prelude.{Option, Some, None, IfSome, true}
use Rattle.rp_base.specs.Image.{bytes_at}
use Rattle.rp_disk.specs.declared.call.Call.{Call}
use Rattle.rp_disk.specs.declared.call.Call.TheVariants.{Write, Sync, SetLen}
use Rattle.rp_disk.specs.Calls.{all_done, is_write}
use Rattle.rp_disk.specs.Device.{Device, missed, missed_by}
use Rattle.rp_disk.specs.History.{History, Did, IsLawful, all_did, held}
use Rattle.rp_disk.specs.Made.{Past, Made, dones, history_of, history_told}
use Rattle.rp_disk.specs.Ranges.{Apart, Inside}
use Rattle.rp_disk.specs.Stops.{Each}
use Rattle.rp_disk.proofs.Ranges.{bytes_at-all_done, length-all_done, length-done}
use Rattle.rp_disk.proofs.Runs.{history_of-dones, held-all_did}

-- a call is a write
abbrev pub IsWrite : Call → Type 0
IsWrite call = is_write call ≡ true

lawful_before : (h : History) (calls : List Call) → IsLawful (all_did h calls) → IsLawful h
lawful_before h [] lawful = lawful
lawful_before h (call ∷ calls) lawful = (lawful_before (Did h call) calls lawful).0

-- writes that were done whole lay within the bytes shown at the start
lawful_inside : (h : History) (calls : List Call) → Each IsWrite calls → IsLawful (all_did h calls)
    → Each (Inside (length (held h))) calls
lawful_inside h [] writes lawful = tt
lawful_inside h (Write at bytes ∷ calls) writes lawful =
    let here : at + length bytes ≤ length (held h) = (lawful_before (Did h (Write at bytes)) calls lawful).1 in
    let P : ℕ → Type 0 = λ n. Each (Inside n) calls in
    (here, subst P (length-done (Write at bytes) (held h) here) (lawful_inside (Did h (Write at bytes)) calls writes.1 lawful))
lawful_inside h (Sync ∷ calls) writes lawful = absurd (let no = writes.0 in cc)
lawful_inside h (SetLen len ∷ calls) writes lawful = absurd (let no = writes.0 in cc)

-- where a disk tells, its length is as it was
unfoldable pub SameLength : Option Past → List Made → List Made → Type 0
SameLength first old new = IfSome first (λ bytes. length (held (history_of bytes new)) ≡ length (held (history_of bytes old)))

-- where it tells, a range within its bytes is as it was
unfoldable pub SameRange : ℕ → ℕ → Option Past → List Made → List Made → Type 0
SameRange at size first old new = IfSome first (λ bytes. at + size ≤ length (held (history_of bytes old))
    → bytes_at (held (history_of bytes new)) at size ≡ bytes_at (held (history_of bytes old)) at size)

inside_told : (bytes : Past) (old new : List Made) (calls : List Call) → new ≡ old ++ dones calls → Each IsWrite calls
    → IsLawful (history_of bytes new) → Each (Inside (length (held (history_of bytes old)))) calls
inside_told bytes old new calls so writes lawful =
    lawful_inside (history_of bytes old) calls writes (subst IsLawful (ap (history_of bytes) so ∙ history_of-dones bytes old calls) lawful)

shown_told : (bytes : Past) (old new : List Made) (calls : List Call) → new ≡ old ++ dones calls
    → held (history_of bytes new) ≡ all_done (held (history_of bytes old)) calls
shown_told bytes old new calls so =
    ap (λ (l : List Made). held (history_of bytes l)) so ∙ ap held (history_of-dones bytes old calls)
    ∙ held-all_did (history_of bytes old) calls

pub same_length : (first : Option Past) (old new : List Made) (calls : List Call) → new ≡ old ++ dones calls → Each IsWrite calls
    → IfSome (history_told first new) IsLawful → SameLength first old new
unfolding SameLength
same_length None old new calls so writes lawful = tt
same_length (Some bytes) old new calls so writes lawful =
    ap length (shown_told bytes old new calls so)
    ∙ length-all_done calls (held (history_of bytes old)) (length (held (history_of bytes old))) refl
    (inside_told bytes old new calls so writes lawful)

pub same_range : (at size : ℕ) (first : Option Past) (old new : List Made) (calls : List Call) → new ≡ old ++ dones calls
    → Each IsWrite calls
    → Each (Apart at size) calls → IfSome (history_told first new) IsLawful → SameRange at size first old new
unfolding SameRange
same_range at size None old new calls so writes apart lawful = tt
same_range at size (Some bytes) old new calls so writes apart lawful = λ fits.
    ap (λ (l : List ℕ). bytes_at l at size) (shown_told bytes old new calls so)
    ∙ bytes_at-all_done at size calls (held (history_of bytes old)) (length (held (history_of bytes old))) refl fits
    (inside_told bytes old new calls so writes lawful) apart

-- bytes that are read of such a range are as they were
pub still_shown : (at size : ℕ) (first : Option Past) (old new : List Made) (read : List ℕ) → SameLength first old new
    → SameRange at size first old new → IfSome (history_told first new) (λ h. at + size ≤ length (held h))
    → IfSome (history_told first new) (λ h. read ≡ bytes_at (held h) at size)
    → IfSome (history_told first old) (λ h. read ≡ bytes_at (held h) at size)
unfolding SameLength SameRange
still_shown at size None old new read same range reaches is = tt
still_shown at size (Some bytes) old new read same range reaches is = is ∙ range (omega arith)

-- where a disk tells, the count of its stray calls stays if its length is one of these
unfoldable pub Stays : (ℕ → Type 0) → Option Past → List Made → ℕ → ℕ → Type 0
Stays P first made old new = IfSome (history_told first made) (λ h. P (length (held h)) → new ≡ old)

pub stays_of : (P : ℕ → Type 0) (first : Option Past) (made : List Made) (old new : ℕ)
    → IfSome (history_told first made) (λ h. P (length (held h)) → new ≡ old) → Stays P first made old new
unfolding Stays
stays_of P first made old new said = said

pub stays_says : (P : ℕ → Type 0) (first : Option Past) (made : List Made) (old new : ℕ)
    → Stays P first made old new → IfSome (history_told first made) (λ h. P (length (held h)) → new ≡ old)
unfolding Stays
stays_says P first made old new said = said

pub stays_none : (P : ℕ → Type 0) (first : Option Past) (made : List Made) (old : ℕ) → Stays P first made old old
unfolding Stays
stays_none P None made old = tt
stays_none P (Some bytes) made old = λ lies. refl

pub stays_weaker : (P Q : ℕ → Type 0) (first : Option Past) (made : List Made) (old new : ℕ) → ((n : ℕ) → Q n → P n)
    → Stays P first made old new → Stays Q first made old new
unfolding Stays
stays_weaker P Q None made old new weaker stays = tt
stays_weaker P Q (Some bytes) made old new weaker stays = λ lies. stays (weaker (length (held (history_of bytes made))) lies)

-- calls behind others that kept the length
pub stays_more : (P : ℕ → Type 0) (first : Option Past) (old mid : List Made) (before between now : ℕ) → SameLength first old mid
    → Stays P first old before between → Stays P first mid between now → Stays P first old before now
unfolding Stays SameLength
stays_more P None old mid before between now same one more = tt
stays_more P (Some bytes) old mid before between now same one more = λ lies. more (subst P (sym same) lies) ∙ one lies

pub stays_both : (P : ℕ → Type 0) (first : Option Past) (made : List Made) (before between now : ℕ)
    → Stays P first made before between → Stays P first made between now → Stays P first made before now
unfolding Stays
stays_both P None made before between now one more = tt
stays_both P (Some bytes) made before between now one more = λ lies. more lies ∙ one lies

-- what is known where a disk tells, and what follows from it
pub told_so : {H : Type 0} (told : Option H) (P Q : H → Type 0) → ((h : H) → P h → Q h) → IfSome told P → IfSome told Q
told_so None P Q so is = tt
told_so (Some h) P Q so is = so h is

-- one call
pub stays_call : (P : ℕ → Type 0) (first : Option Past) (old new : Device) (end : ℕ) → ((n : ℕ) → P n → end ≤ n)
    → ((past : Past) → end ≤ length (held (history_of past old.calls)) → missed past new.answers ≡ missed past old.answers)
    → Stays P first old.calls (missed_by first old.answers) (missed_by first new.answers)
unfolding Stays
stays_call P None old new end within kept = tt
stays_call P (Some past) old new end within kept = λ lies. kept past (within (length (held (history_of past old.calls))) lies)
