-- What asking the sources answers, by where it ends.
use Rattle.std.proofs.Common.{ℕ, ◌≡◌, ◌⊎◌, List, Option, Some, None, Result, Ok, Err, IfSome, refl, sym, ap, subst, inl, inr, arith}
use Rattle.std.specs.Prelude.{All, Any}
use Rattle.rp_base.specs.Faults.{Rose}
use Rattle.rp_base.specs.declared.guid.Guid.{Guid}
use Rattle.rp_base.specs.declared.table.Table.{Table}
use Rattle.rp_defs.specs.declared.definition.Definition.{Definition}
use Rattle.rp_facts.specs.Sourced.{IsMissing, IsSourced, StraysAtMissing, facts_on}
use Rattle.rp_facts.proofs.Wanted.{wanted_sourced}
use Rattle.rp_facts.specs.declared.fault.FactFault.{FactFault}
use Rattle.rp_facts.specs.declared.fault.FactFault.TheVariants.{SourceFault, Memory}
use Rattle.rp_io.specs.declared.stored.Stored.{Stored}
use Rattle.rp_outcome.specs.Refusals.{Refusal, memory_refusal, source_refusal}
use Rattle.rp_outcome.specs.Store.{Store}
use Rattle.rp_planned.specs.Planning.{AsksSources}
use Rattle.rp_reading.specs.Stages.{Settles}
use Rattle.rp_sizes.specs.Facts.{facts}
use Rattle.rp_sizes.specs.Needs.{AreFactsOn, wanted_of}
use Rattle.rp_sizes.specs.declared.need.Fact.{Fact}
use Rattle.rp_sizes.specs.declared.need.Need.{Need}

module _ (seed : Guid) (table : Table) (list : List Definition) (before now : Store (List Stored)) where
  abbrev Strayed : Result (List Fact) Refusal → List Stored → Type 0
  Strayed answer files = (now.strays ≡ before.strays) ⊎ ((answer ≡ Err source_refusal) × Any (IsMissing files list) (wanted_of table list))

  strays_ok : (told : Option (List Stored)) (known : List Fact)
      → IfSome told (λ files. StraysAtMissing {T = List Fact} files list (wanted_of table list) before.strays now.strays (Ok known))
      → IfSome told (Strayed (Ok known))
  strays_ok None known strays = tt
  strays_ok (Some files) known (inl same) = inl same
  strays_ok (Some files) known (inr (e, missing)) = absurd (no_err e) where
    no_err : ◌≡◌ {A = Result (List Fact) FactFault} (Ok known) (Err SourceFault) → ⊥
    no_err e = absurd (cc)

  settled_ok : (told : Option (List Stored)) (known : List Fact) → IfSome told (λ files. known ≡ facts_on seed files list (wanted_of table list))
      → IfSome told (λ files. Settles source_refusal (Ok (facts seed files table list)) (Ok known))
  unfolding facts
  settled_ok None known are = tt
  settled_ok (Some files) known are = inl (ap Ok are)

  -- the facts are known
  pub asked_ok : (known : List Fact) → now.told ≡ before.told
      → IfSome before.told (λ files. StraysAtMissing {T = List Fact} files list (wanted_of table list) before.strays now.strays (Ok known))
      → IfSome before.told (λ files. known ≡ facts_on seed files list (wanted_of table list))
      → AreFactsOn (wanted_of table list) known → now.faults ≡ before.faults → AsksSources seed table list before now (Ok known)
  asked_ok known told strays are each kept = record {
    told = told;
    strays = strays_ok before.told known strays;
    settled = settled_ok before.told known are;
    each = each;
    refusal = tt;
    cause = record { failed = λ e. absurd (no_err e); kept = inr kept };
  } where
    no_err : ◌≡◌ {A = Result (List Fact) Refusal} (Ok known) (Err source_refusal) → ⊥
    no_err e = absurd (cc)

  strays_failed : (told : Option (List Stored))
      → IfSome told (λ files. StraysAtMissing {T = List Fact} files list (wanted_of table list) before.strays now.strays (Err SourceFault))
      → IfSome told (Strayed (Err source_refusal))
  strays_failed None strays = tt
  strays_failed (Some files) (inl same) = inl same
  strays_failed (Some files) (inr (e, missing)) = inr (refl, missing)

  settled_failed : (told : Option (List Stored)) → IfSome told (λ files. Settles source_refusal (Ok (facts seed files table list)) (Err source_refusal))
  settled_failed None = tt
  settled_failed (Some files) = inr (inl refl)

  -- a source failed
  pub asked_failed : now.told ≡ before.told
      → IfSome before.told (λ files. StraysAtMissing {T = List Fact} files list (wanted_of table list) before.strays now.strays (Err SourceFault))
      → Rose before.faults now.faults → AsksSources seed table list before now (Err source_refusal)
  asked_failed told strays rose = record {
    told = told;
    strays = strays_failed before.told strays;
    settled = settled_failed before.told;
    each = tt;
    refusal = inl refl;
    cause = record { failed = λ e. rose; kept = inl refl };
  }

  strays_memory : (told : Option (List Stored))
      → IfSome told (λ files. StraysAtMissing {T = List Fact} files list (wanted_of table list) before.strays now.strays (Err Memory))
      → IfSome told (Strayed (Err memory_refusal))
  strays_memory None strays = tt
  strays_memory (Some files) (inl same) = inl same
  strays_memory (Some files) (inr (e, missing)) = absurd (no_fault e) where
    no_fault : ◌≡◌ {A = Result (List Fact) FactFault} (Err Memory) (Err SourceFault) → ⊥
    no_fault e = absurd (cc)

  settled_memory : (told : Option (List Stored)) → IfSome told (λ files. Settles source_refusal (Ok (facts seed files table list)) (Err memory_refusal))
  settled_memory None = tt
  settled_memory (Some files) = inr (inr refl)

  -- there was no memory
  pub asked_memory : now.told ≡ before.told
      → IfSome before.told (λ files. StraysAtMissing {T = List Fact} files list (wanted_of table list) before.strays now.strays (Err Memory))
      → now.faults ≡ before.faults → AsksSources seed table list before now (Err memory_refusal)
  asked_memory told strays kept = record {
    told = told;
    strays = strays_memory before.told strays;
    settled = settled_memory before.told;
    each = tt;
    refusal = inr refl;
    cause = record { failed = λ e. absurd (apart e); kept = inr kept };
  } where
    apart : ◌≡◌ {A = Result (List Fact) Refusal} (Err memory_refusal) (Err source_refusal) → ⊥
    apart e = let h : ◌≡◌ {A = ℕ} 10 8 = ap (λ (r : Refusal). r.status) (same e) in omega arith where
      same : ◌≡◌ {A = Result (List Fact) Refusal} (Err memory_refusal) (Err source_refusal) → memory_refusal ≡ source_refusal
      same e = cc

  abbrev Strays : List Need → Result (List Fact) FactFault → Type 0
  Strays needs result = IfSome before.told (λ files. StraysAtMissing {T = List Fact} files list needs before.strays now.strays result)

  -- the facts on what is wanted are known
  pub known_ok : (needs : List Need) (known : List Fact) → needs ≡ wanted_of table list → now.told ≡ before.told
      → IfSome before.told (λ files. StraysAtMissing {T = List Fact} files list needs before.strays now.strays (Ok known))
      → IfSome before.told (λ files. known ≡ facts_on seed files list needs)
      → AreFactsOn needs known → now.faults ≡ before.faults → AsksSources seed table list before now (Ok known)
  known_ok needs known are told strays tell each kept = asked_ok known told (subst (λ (ns : List Need). Strays ns (Ok known)) are strays)
      (subst (λ (ns : List Need). IfSome before.told (λ files. known ≡ facts_on seed files list ns)) are tell)
      (subst (λ (ns : List Need). AreFactsOn ns known) are each) kept

  -- a wanted source failed
  pub known_failed : (needs : List Need) → needs ≡ wanted_of table list → now.told ≡ before.told
      → IfSome before.told (λ files. StraysAtMissing {T = List Fact} files list needs before.strays now.strays (Err SourceFault))
      → Rose before.faults now.faults → AsksSources seed table list before now (Err source_refusal)
  known_failed needs are told strays rose = asked_failed told (subst (λ (ns : List Need). Strays ns (Err SourceFault)) are strays) rose

  -- there was no memory for the facts
  pub known_memory : (needs : List Need) → needs ≡ wanted_of table list → now.told ≡ before.told
      → IfSome before.told (λ files. StraysAtMissing {T = List Fact} files list needs before.strays now.strays (Err Memory))
      → now.faults ≡ before.faults → AsksSources seed table list before now (Err memory_refusal)
  known_memory needs are told strays kept = asked_memory told (subst (λ (ns : List Need). Strays ns (Err Memory)) are strays) kept

-- there was no memory for the list of what is wanted
pub wanted_nothing : (seed : Guid) (table : Table) (list : List Definition) (before : Store (List Stored)) → AsksSources seed table list before before (Err memory_refusal)
wanted_nothing seed table list before = asked_memory seed table list before before refl (kept before.told) refl where
  kept : (told : Option (List Stored))
      → IfSome told (λ files. StraysAtMissing {T = List Fact} files list (wanted_of table list) before.strays before.strays (Err Memory))
  kept None = tt
  kept (Some files) = inl refl

-- what is wanted are sources of definitions
pub are_sourced : (table : Table) (list : List Definition) (needs : List Need) → needs ≡ wanted_of table list → All (IsSourced list) needs
are_sourced table list needs are = subst (All (IsSourced list)) (sym are) (wanted_sourced table list)
