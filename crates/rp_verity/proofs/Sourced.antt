-- What a builder has taken of a source, where the source tells.
use Rattle.std.proofs.Common.{◌≡◌, ℕ, ◌+◌, ◌*◌, ◌<◌, ◌≤◌, List, [], ◌∷◌, ◌++◌, length, take, refl, ◌∙◌, arith}
use Rattle.std.specs.Prelude.{Option, Some, None, Result, false, IfSome, IfOk}
use Rattle.rp_base.specs.Image.{bytes_at}
use Rattle.rp_io.specs.declared.stored.Stored.{Stored}
use Rattle.rp_io.specs.Files.{content, passes}
use Rattle.rp_verity.specs.declared.builder.Builder.{Builder}
use Rattle.rp_verity.specs.Builder.{HasTaken}
use Rattle.rp_verity.specs.Tree.{root_hash}
use Rattle.rp_verity.specs.Filled.{cut, filled}
use Rattle.rp_verity.proofs.Cutting.{cut-more}

-- the builder has taken the first so many blocks of a source
unfoldable pub TakenFrom : Option (List Stored) → List ℕ → ℕ → ℕ → Builder → List ℕ → ℕ → Type 0
TakenFrom told path len blocks builder salt k =
    IfSome told (λ files. IfSome (content files path) (λ bytes. HasTaken builder salt (cut k (filled blocks (take len bytes)))))

-- the count of stray calls stays where the source has all that is asked for
unfoldable pub Stays : Option (List Stored) → List ℕ → ℕ → ℕ → ℕ → Type 0
Stays told path len old new = IfSome told (λ files. passes (content files path) len ≡ false → new ≡ old)

-- blocks of a source
unfoldable pub RunOf : Option (List Stored) → List ℕ → ℕ → ℕ → ℕ → List ℕ → Type 0
RunOf told path len k n run = IfSome told (λ files. IfSome (content files path) (λ bytes.
    (blocks : ℕ) → 4096 * k + n ≤ 4096 * blocks → len ≤ 4096 * blocks → run ≡ bytes_at (filled blocks (take len bytes)) (4096 * k) n))

-- what these words say
pub stays_of : (told : Option (List Stored)) (path : List ℕ) (len old new : ℕ)
    → IfSome told (λ files. passes (content files path) len ≡ false → new ≡ old) → Stays told path len old new
unfolding Stays
stays_of told path len old new said = said

pub stays_says : (told : Option (List Stored)) (path : List ℕ) (len old new : ℕ)
    → Stays told path len old new → IfSome told (λ files. passes (content files path) len ≡ false → new ≡ old)
unfolding Stays
stays_says told path len old new said = said

pub run_of : (told : Option (List Stored)) (path : List ℕ) (len k n : ℕ) (run : List ℕ)
    → IfSome told (λ files. IfSome (content files path) (λ bytes.
    (blocks : ℕ) → 4096 * k + n ≤ 4096 * blocks → len ≤ 4096 * blocks → run ≡ bytes_at (filled blocks (take len bytes)) (4096 * k) n))
    → RunOf told path len k n run
unfolding RunOf
run_of told path len k n run said = said

pub stays-none : (told : Option (List Stored)) (path : List ℕ) (len strays : ℕ) → Stays told path len strays strays
unfolding Stays
stays-none None path len strays = tt
stays-none (Some files) path len strays = λ reaches. refl

pub stays-more : (told : Option (List Stored)) (path : List ℕ) (len old mid new : ℕ)
    → Stays told path len old mid → Stays told path len mid new → Stays told path len old new
unfolding Stays
stays-more None path len old mid new first then' = tt
stays-more (Some files) path len old mid new first then' = λ reaches. then' reaches ∙ first reaches

taken_found : (found : Option (List ℕ)) (len blocks : ℕ) (builder : Builder) (salt : List ℕ) → HasTaken builder salt []
    → IfSome found (λ bytes. HasTaken builder salt (cut 0 (filled blocks (take len bytes))))
taken_found None len blocks builder salt has = tt
taken_found (Some bytes) len blocks builder salt has = has

pub taken-none : (told : Option (List Stored)) (path : List ℕ) (len blocks : ℕ) (builder : Builder) (salt : List ℕ)
    → HasTaken builder salt [] → TakenFrom told path len blocks builder salt 0
unfolding TakenFrom
taken-none None path len blocks builder salt has = tt
taken-none (Some files) path len blocks builder salt has = taken_found (content files path) len blocks builder salt has

-- more blocks
more_found : (found : Option (List ℕ)) (len blocks k count : ℕ) (builder after : Builder) (salt run : List ℕ) → k + count ≤ blocks
    → len ≤ 4096 * blocks → IfSome found (λ bytes. HasTaken builder salt (cut k (filled blocks (take len bytes))))
    → IfSome found (λ bytes. (all : ℕ) → 4096 * k + 4096 * count ≤ 4096 * all → len ≤ 4096 * all
    → run ≡ bytes_at (filled all (take len bytes)) (4096 * k) (4096 * count))
    → ((taken : List (List ℕ)) → HasTaken builder salt taken → HasTaken after salt (taken ++ cut count run))
    → IfSome found (λ bytes. HasTaken after salt (cut (k + count) (filled blocks (take len bytes))))
more_found None len blocks k count builder after salt run fits few has read pushed = tt
more_found (Some bytes) len blocks k count builder after salt run fits few has read pushed =
    let all : List ℕ = filled blocks (take len bytes) in
    let here : run ≡ bytes_at all (4096 * k) (4096 * count) = read blocks (omega arith) few in
    rw (cut-more all k count count (omega arith), ← here) (pushed (cut k all) has)

pub taken-more : (told : Option (List Stored)) (path : List ℕ) (len blocks k count : ℕ) (builder after : Builder) (salt run : List ℕ)
    → k + count ≤ blocks → len ≤ 4096 * blocks → TakenFrom told path len blocks builder salt k → RunOf told path len k (4096 * count) run
    → ((taken : List (List ℕ)) → HasTaken builder salt taken → HasTaken after salt (taken ++ cut count run))
    → TakenFrom told path len blocks after salt (k + count)
unfolding TakenFrom RunOf
taken-more None path len blocks k count builder after salt run fits few has read pushed = tt
taken-more (Some files) path len blocks k count builder after salt run fits few has read pushed =
    more_found (content files path) len blocks k count builder after salt run fits few has read pushed

-- the root hash of what was taken of a source
root_found : {E : Type 0} (result : Result (List ℕ) E) (found : Option (List ℕ)) (len blocks : ℕ) (builder : Builder) (salt : List ℕ)
    → IfSome found (λ bytes. HasTaken builder salt (cut blocks (filled blocks (take len bytes))))
    → ((taken : List (List ℕ)) → HasTaken builder salt taken → IfOk result (λ root. root ≡ root_hash salt taken))
    → IfSome found (λ bytes. IfOk result (λ root. root ≡ root_hash salt (cut blocks (filled blocks (take len bytes)))))
root_found result None len blocks builder salt has root = tt
root_found result (Some bytes) len blocks builder salt has root = root (cut blocks (filled blocks (take len bytes))) has

pub taken-root : {E : Type 0} (result : Result (List ℕ) E) (told : Option (List Stored)) (path : List ℕ) (len blocks : ℕ)
    (builder : Builder) (salt : List ℕ) → TakenFrom told path len blocks builder salt blocks
    → ((taken : List (List ℕ)) → HasTaken builder salt taken → IfOk result (λ root. root ≡ root_hash salt taken))
    → IfSome told (λ files. IfSome (content files path) (λ bytes.
    IfOk result (λ root. root ≡ root_hash salt (cut blocks (filled blocks (take len bytes))))))
unfolding TakenFrom
taken-root result None path len blocks builder salt has root = tt
taken-root result (Some files) path len blocks builder salt has root =
    root_found result (content files path) len blocks builder salt has root
