-- The root hash that a source tells.
use Rattle.std.proofs.Common.{ℕ, ◌≡◌, ◌<◌, ◌≤◌, ◌^◌, ◌∙◌, Bool, true, false, cond, List, [], length, replicate, take, Option, Some, None, IfSome, refl, sym, ap, subst, arith, slice_get}
use Rattle.std.specs.Prelude.{nat_le, option_and_then, option_map, unwrap_or}
use Rattle.std.proofs.lemmas.Bool.Decides.{nat_tests}
use Rattle.std.proofs.lemmas.List.{take_all}
use Rattle.rp_base.specs.declared.guid.Guid.{Guid}
use Rattle.rp_defs.specs.declared.definition.Definition.{Definition}
use Rattle.rp_facts.specs.Sourced.{IsLength, bytes_of, root_on}
use Rattle.rp_io.specs.Files.{content}
use Rattle.rp_io.specs.declared.stored.Stored.{Stored}
use Rattle.rp_sizes.specs.Facts.{root_of, source_of}
use Rattle.rp_sizes.specs.Pairs.{pair_blocks, salt_of}
use Rattle.rp_sizes.specs.declared.need.Need.{Need}
use Rattle.rp_verity.specs.Filled.{cut, filled}
use Rattle.rp_verity.specs.Tree.{root_hash}

le_yes : (a b : ℕ) → a ≤ b → nat_le a b ≡ true
le_yes a b le = grind (arith, nat_tests)

le_no : (a b : ℕ) → b < a → nat_le a b ≡ false
le_no a b less = grind (arith, nat_tests)

same_number : (a b : ℕ) → ◌≡◌ {A = Option ℕ} (Some a) (Some b) → a ≡ b
same_number a b e = cc

no_number : (a : ℕ) → ◌≡◌ {A = Option ℕ} None (Some a) → ⊥
no_number a e = absurd (cc)

module _ (seed : Guid) (definition : Definition) (bytes : List ℕ) where
  abbrev judged : Bool → List ℕ
  judged fits =
      cond fits (root_hash (salt_of seed definition.kind) (cut (pair_blocks definition (length bytes)) (filled (pair_blocks definition (length bytes)) bytes)))
      (replicate 32 0)

  -- no tree can be over so many blocks
  large_root : 2 ^ 32 < pair_blocks definition (length bytes) → root_of seed definition bytes ≡ replicate 32 0
  unfolding root_of
  large_root large = ap judged (le_no (pair_blocks definition (length bytes)) (2 ^ 32) large)

  -- a tree can be over these
  small_root : pair_blocks definition (length bytes) ≤ 2 ^ 32 → root_of seed definition bytes
      ≡ root_hash (salt_of seed definition.kind) (cut (pair_blocks definition (length bytes)) (filled (pair_blocks definition (length bytes)) bytes))
  unfolding root_of
  small_root small = ap judged (le_yes (pair_blocks definition (length bytes)) (2 ^ 32) small)

module _ (seed : Guid) (list : List Definition) (need : Need) (definition : Definition) (blocks len : ℕ)
    (found : slice_get list need.file ≡ Some definition) (sized : blocks ≡ pair_blocks definition len) where
  bytes_told : (files : List Stored) → IsLength files list need len → option_map length (bytes_of files definition) ≡ Some len
  bytes_told files known = sym (ap (λ (o : Option Definition). option_map length (option_and_then (bytes_of files) o)) found) ∙ known

  root_from : (files : List Stored) (root : List ℕ) → root_of seed definition (source_of files definition) ≡ root → root_on seed files list need ≡ Some root
  root_from files root is = ap (option_map (λ (d : Definition). root_of seed d (source_of files d))) found ∙ ap Some is

  none_from : 2 ^ 32 < blocks → (files : List Stored) (o : Option (List ℕ)) → bytes_of files definition ≡ o → option_map length o ≡ Some len
      → root_on seed files list need ≡ Some (replicate 32 0)
  none_from large files None e known = absurd (no_number len known)
  none_from large files (Some bytes) e known =
      let same : length bytes ≡ len = same_number (length bytes) len known in
      root_from files (replicate 32 0)
      (ap (λ (o : Option (List ℕ)). root_of seed definition (unwrap_or o [])) e
      ∙ large_root seed definition bytes (subst (λ (n : ℕ). 2 ^ 32 < n) (sized ∙ ap (pair_blocks definition) (sym same)) large))

  -- no root is taken of data that no tree can be over
  pub no_root : (told : Option (List Stored)) → 2 ^ 32 < blocks
      → IfSome told (λ files. IsLength files list need len → root_on seed files list need ≡ Some (replicate 32 0))
  no_root None large = tt
  no_root (Some files) large = λ known. none_from large files (bytes_of files definition) refl (bytes_told files known)

  hash_from : (path salt root : List ℕ) → definition.source ≡ Some path → blocks ≤ 2 ^ 32 → salt ≡ salt_of seed definition.kind
      → (files : List Stored) (o : Option (List ℕ)) → content files path ≡ o → option_map length o ≡ Some len
      → IfSome o (λ bytes. root ≡ root_hash salt (cut blocks (filled blocks (take len bytes)))) → root_on seed files list need ≡ Some root
  hash_from path salt root from few salted files None e known hash = absurd (no_number len known)
  hash_from path salt root from few salted files (Some bytes) e known hash =
      let same : length bytes ≡ len = same_number (length bytes) len known in
      let here : blocks ≡ pair_blocks definition (length bytes) = sized ∙ ap (pair_blocks definition) (sym same) in
      let whole : take len bytes ≡ bytes = take_all len bytes (omega (arith, same)) in
      root_from files root
      (ap (λ (s : Option (List ℕ)). root_of seed definition (unwrap_or (option_and_then (content files) s) [])) from
      ∙ ap (λ (o : Option (List ℕ)). root_of seed definition (unwrap_or o [])) e
      ∙ small_root seed definition bytes (subst (λ (n : ℕ). n ≤ 2 ^ 32) here few)
      ∙ sym (hash
      ∙ ap (λ (xs : List ℕ). root_hash salt (cut blocks (filled blocks xs))) whole
      ∙ ap (λ (n : ℕ). root_hash salt (cut n (filled n bytes))) here
      ∙ ap (λ (s : List ℕ). root_hash s (cut (pair_blocks definition (length bytes)) (filled (pair_blocks definition (length bytes)) bytes))) salted))

  -- the root is that over the source and zeros behind it
  pub hash_root : (path salt root : List ℕ) (told : Option (List Stored))
      → option_and_then (λ (d : Definition). d.source) (slice_get list need.file) ≡ Some path → blocks ≤ 2 ^ 32 → salt ≡ salt_of seed definition.kind
      → IfSome told (λ files. IfSome (content files path) (λ bytes. root ≡ root_hash salt (cut blocks (filled blocks (take len bytes)))))
      → IfSome told (λ files. IsLength files list need len → root_on seed files list need ≡ Some root)
  hash_root path salt root None from few salted hash = tt
  hash_root path salt root (Some files) from few salted hash = λ known.
      let source : definition.source ≡ Some path = sym (ap (option_and_then (λ (d : Definition). d.source)) found) ∙ from in
      hash_from path salt root source few salted files (content files path) refl
      (sym (ap (λ (s : Option (List ℕ)). option_map length (option_and_then (content files) s)) source) ∙ bytes_told files known) hash
