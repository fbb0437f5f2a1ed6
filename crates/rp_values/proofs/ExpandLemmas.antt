-- Specifiers in a text, one after another.
use Rattle.std.proofs.Common.{◌≡◌, ◌≢◌, ℕ, suc, ◌<◌, List, [], ◌∷◌, ◌++◌, length, get_or, refl, ap, sym, ◌∙◌, arith, ne_eqb, Option, Some, None}
use Rattle.std.proofs.lemmas.List.{append_assoc, append-nil}
use Rattle.rp_types.specs.Designators.{arch_name}
use Rattle.rp_types.specs.declared.arch.Arch.{Arch}
use Rattle.rp_values.specs.Texts.{expanded, joined}

-- no byte of the text is a percent sign
abbrev pub HasNoPercent : List ℕ → Type 0
HasNoPercent text = (i : ℕ) → i < length text → get_or text i 0 ≢ 37

pub joined-nil : (rest : Option (List ℕ)) → joined (Some []) rest ≡ rest
joined-nil None = refl
joined-nil (Some r) = refl

pub joined-joined : (a b : List ℕ) (rest : Option (List ℕ)) → joined (Some a) (joined (Some b) rest) ≡ joined (Some (a ++ b)) rest
joined-joined a b None = refl
joined-joined a b (Some r) = ap Some (sym (append_assoc a b r))

expanded-byte : (arch : Arch) (b : ℕ) (rest : List ℕ) → b ≢ 37 → expanded arch (b ∷ rest) ≡ joined (Some (b ∷ [])) (expanded arch rest)
unfolding expanded
expanded-byte arch b [] ne = rw (ne_eqb b 37 ne) refl
expanded-byte arch b (x ∷ xs) ne = rw (ne_eqb b 37 ne) refl

-- what stands before a percent sign stays
pub expanded-front : (arch : Arch) (front rest : List ℕ) → HasNoPercent front → expanded arch (front ++ rest) ≡ joined (Some front) (expanded arch rest)
expanded-front arch [] rest none = sym (joined-nil (expanded arch rest))
expanded-front arch (b ∷ bs) rest none =
    expanded-byte arch b (bs ++ rest) (none 0 (omega arith))
    ∙ ap (joined (Some (b ∷ []))) (expanded-front arch bs rest (λ i h. none (suc i) (omega arith)))
    ∙ joined-joined (b ∷ []) bs (expanded arch rest)

-- a text without a percent sign stays
pub expanded-plain : (arch : Arch) (text : List ℕ) → HasNoPercent text → expanded arch text ≡ Some text
unfolding expanded
expanded-plain arch text none = ap (expanded arch) (sym (append-nil text)) ∙ expanded-front arch text [] none ∙ ap Some (append-nil text)

pub expanded-percent : (arch : Arch) (text after : List ℕ) → text ≡ 37 ∷ after → expanded arch (37 ∷ text) ≡ joined (Some (37 ∷ [])) (expanded arch after)
unfolding expanded
expanded-percent arch text after e = rw e refl

pub expanded-arch : (arch : Arch) (text after : List ℕ) → text ≡ 97 ∷ after → expanded arch (37 ∷ text) ≡ joined (Some (arch_name arch)) (expanded arch after)
unfolding expanded
expanded-arch arch text after e = rw e refl

pub expanded-unknown : (arch : Arch) (text : List ℕ) → ((after : List ℕ) → text ≢ 37 ∷ after) → ((after : List ℕ) → text ≢ 97 ∷ after) → expanded arch (37 ∷ text) ≡ None
unfolding expanded
expanded-unknown arch [] percent letter = refl
expanded-unknown arch (b ∷ after) percent letter =
    rw (ne_eqb b 37 (λ e. percent after (ap (λ x. x ∷ after) e)), ne_eqb b 97 (λ e. letter after (ap (λ x. x ∷ after) e))) refl

-- a text is cut at its first percent sign
expanded-cut : (arch : Arch) (rest front behind : List ℕ) → (rest ≡ front ++ 37 ∷ behind) × HasNoPercent front → expanded arch rest ≡ joined (Some front) (expanded arch (37 ∷ behind))
expanded-cut arch rest front behind cut = ap (expanded arch) cut.0 ∙ expanded-front arch front (37 ∷ behind) cut.1

-- one more specifier is replaced
pub expanded-more : (arch : Arch) (text rest front behind meaning after written more all : List ℕ) → joined (Some written) (expanded arch rest) ≡ expanded arch text → (rest ≡ front ++ 37 ∷ behind) × HasNoPercent front → expanded arch (37 ∷ behind) ≡ joined (Some meaning) (expanded arch after) → more ≡ written ++ front → all ≡ more ++ meaning → joined (Some all) (expanded arch after) ≡ expanded arch text
expanded-more arch text rest front behind meaning after written more all same cut means is_more is_all =
    ap (λ w. joined (Some w) (expanded arch after)) (is_all ∙ ap (λ w. w ++ meaning) is_more)
    ∙ sym (joined-joined (written ++ front) meaning (expanded arch after))
    ∙ ap (joined (Some (written ++ front))) (sym means)
    ∙ sym (joined-joined written front (expanded arch (37 ∷ behind)))
    ∙ ap (joined (Some written)) (sym (expanded-cut arch rest front behind cut))
    ∙ same

-- a percent sign stands before anything else
pub expanded-none : (arch : Arch) (text rest front behind written : List ℕ) → joined (Some written) (expanded arch rest) ≡ expanded arch text → (rest ≡ front ++ 37 ∷ behind) × HasNoPercent front → expanded arch (37 ∷ behind) ≡ None → None ≡ expanded arch text
expanded-none arch text rest front behind written same cut none =
    ap (λ o. joined (Some written) (joined (Some front) o)) (sym none) ∙ ap (joined (Some written)) (sym (expanded-cut arch rest front behind cut)) ∙ same

-- no percent sign is left
pub expanded-last : (arch : Arch) (text rest written all : List ℕ) → joined (Some written) (expanded arch rest) ≡ expanded arch text → HasNoPercent rest → all ≡ written ++ rest → Some all ≡ expanded arch text
expanded-last arch text rest written all same none is =
    ap Some is ∙ ap (joined (Some written)) (sym (expanded-plain arch rest none)) ∙ same
