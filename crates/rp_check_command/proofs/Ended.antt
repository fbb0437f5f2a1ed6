-- What `check` promises at each status, by how it ended.
use Rattle.std.proofs.Common.{ℕ, ◌≡◌, ◌⊎◌, ◌≤◌, List, [], Option, Some, None, false, Result, Ok, Err, IfSome, refl, sym, ◌∙◌, subst, inl, inr, arith}
use Rattle.std.specs.Prelude.{IsErrAnd}
use Rattle.rp_base.specs.Faults.{Rose}
use Rattle.rp_base.specs.declared.guid.Guid.{Guid}
use Rattle.rp_check_command.specs.Checks.{check_request}
use Rattle.rp_check_command.specs.Reports.{check_report, difference_line, same_line}
use Rattle.rp_check_command.specs.Statuses.{CheckByStatus, told_difference}
use Rattle.rp_defs.specs.declared.definition.Definitions.{Definitions}
use Rattle.rp_difference.specs.Difference.{difference}
use Rattle.rp_difference.specs.declared.difference.Difference.{Difference}
use Rattle.rp_disk.specs.History.{held}
use Rattle.rp_disk.specs.Made.{history_told}
use Rattle.rp_disk.proofs.Noting.{can_before, earlier_then}
use Rattle.rp_io.specs.Files.{Tree}
use Rattle.rp_io.specs.declared.stored.Stored.{Stored}
use Rattle.rp_outcome.specs.Device.{Device, IsOnlyRead}
use Rattle.rp_outcome.specs.Output.{Output, Differs, Finishes, Prints, PrintsPart, Refuses}
use Rattle.rp_outcome.specs.Refusals.{Refusal, disk_refusal, line_of, memory_refusal}
use Rattle.rp_outcome.specs.Store.{Store}
use Rattle.rp_plan_command.proofs.Ended.{not_refused}
use Rattle.rp_plan_command.specs.Statuses.{ByStatus, IsRefused, WhereTold, told_plan}
use Rattle.rp_planned.specs.declared.planned.Planned.{Planned}
use Rattle.rp_reading.specs.Stages.{and_then}
use Rattle.rp_types.specs.declared.arch.Arch.{Arch}

-- two numbers that differ are no one status
pub clash : {P : Type 0} (status a b : ℕ) → status ≡ a → status ≡ b → (a ≡ b → ⊥) → P
clash status a b e f differ = absurd (differ (sym e ∙ f))

-- a refusal's status isn't 1
pub not_one : {P : Type 0} (n : ℕ) → IsRefused n → n ≡ 1 → P
not_one n (inl e) same = absurd (omega (arith, e, same))
not_one n (inr (inl e)) same = absurd (omega (arith, e, same))
not_one n (inr (inr e)) same = absurd (omega (arith, e, same))

-- nor 0
not_done : {P : Type 0} (n : ℕ) → IsRefused n → n ≡ 0 → P
not_done n (inl e) same = absurd (omega (arith, e, same))
not_done n (inr (inl e)) same = absurd (omega (arith, e, same))
not_done n (inr (inr e)) same = absurd (omega (arith, e, same))

-- want of memory prints nothing
pub nothing_printed : (out after : Output) (refusal : Refusal) (status : ℕ) → Refuses out after refusal status → status ≡ 10 → Prints out after []
unfolding line_of
nothing_printed out after refusal status refuses ten =
    let e : refusal.status ≡ 10 = sym refuses.answers ∙ ten in rw e at refuses.printed

-- one reading behind another
pub read_twice : (disk seen later : Device) → IsOnlyRead disk seen → IsOnlyRead seen later → IsOnlyRead disk later
read_twice disk seen later one two = record {
  calls = two.calls ∙ one.calls;
  earlier = earlier_then one.earlier two.earlier;
  inside = λ past can. two.inside past can ∙ one.inside past (can_before two.earlier can);
}

-- what follows where all three tell
where_more : {A B C : Type 0} (o : Option A) (p : Option B) (q : Option C) (P Q : A → B → C → Type 0) → ((a : A) (b : B) (c : C) → P a b c → Q a b c)
    → IfSome o (λ a. IfSome p (λ b. IfSome q (λ c. P a b c))) → IfSome o (λ a. IfSome p (λ b. IfSome q (λ c. Q a b c)))
where_more None p q P Q more holds = tt
where_more (Some a) None q P Q more holds = tt
where_more (Some a) (Some b) None P Q more holds = tt
where_more (Some a) (Some b) (Some c) P Q more holds = more a b c holds

-- what is refused before is refused
refused_then : {T U : Type 0} (P : Refusal → Type 0) (r : Result T Refusal) (next : T → Result U Refusal) → IsErrAnd r P → IsErrAnd (and_then r next) P
refused_then P (Ok value) next is = absurd is
refused_then P (Err refusal) next is = is

module _ (seed : Guid) (arch : Arch) (sector : ℕ) (dirs : List (List ℕ)) (folders read : Store Tree) (disk later : Device)
    (sources drained : Store (List Stored)) (out after : Output) (status : ℕ) where
  abbrev pub Known : Type 0
  Known = CheckByStatus seed arch sector dirs folders read disk later sources drained out after status

  -- nothing is planned, as is known of `plan`
  pub by_plan : ByStatus (check_request seed arch sector) false dirs folders read disk later sources drained out after status
      → (status ≡ 0 → ⊥) → (status ≡ 1 → ⊥) → (status ≡ 9 → ⊥) → (status ≡ 10 → Prints out after []) → Known
  by_plan known not_0 not_1 not_9 nothing = record {
    only_read = known.only_read;
    causes = known.causes;
    files = known.files;
    one_of = go known.one_of;
    same = λ f. absurd (not_0 f);
    other = λ f. absurd (not_1 f);
    kept = λ f. absurd (not_1 f);
    cut = λ f. absurd (not_9 f);
    refused = λ f. λ o can.
        where_more folders.told (history_told o disk.calls) sources.told _ _
        (λ tree h files is. refused_then (λ refusal. (refusal.status ≡ status) × Prints out after (line_of refusal))
        (told_plan (check_request seed arch sector) dirs tree (held h) files)
        (λ told. Ok (difference (held h) arch told.1.seen told.1.plan)) is) (known.refused f o can);
    disk_line = known.disk_line;
    nothing = nothing;
  } where
    go : IsRefused status ⊎ (status ≡ 0) ⊎ (status ≡ 7) ⊎ (status ≡ 8) ⊎ (status ≡ 9) ⊎ (status ≡ 10)
        → IsRefused status ⊎ (status ≡ 0) ⊎ (status ≡ 1) ⊎ (status ≡ 7) ⊎ (status ≡ 8) ⊎ (status ≡ 9) ⊎ (status ≡ 10)
    go (inl e) = inl e
    go (inr (inl e)) = inr (inl e)
    go (inr (inr (inl e))) = inr (inr (inr (inl e)))
    go (inr (inr (inr (inl e)))) = inr (inr (inr (inr (inl e))))
    go (inr (inr (inr (inr (inl e))))) = inr (inr (inr (inr (inr (inl e)))))
    go (inr (inr (inr (inr (inr e))))) = inr (inr (inr (inr (inr (inr e)))))

  module _ (only_read : IsOnlyRead disk later) where
    -- the disk failed
    pub by_disk : Rose disk.faults later.faults → Refuses out after disk_refusal status → Known
    by_disk rose refuses = let e : status ≡ 7 = refuses.answers in record {
      only_read = only_read;
      causes = record {
        disk_failed = λ f. rose;
        disk_kept = inl e;
        sink_failed = λ f. clash status 7 9 e f (λ h. omega arith);
        sink_kept = λ f. clash status 7 0 e f (λ h. omega arith);
      };
      files = record { failed = λ f. clash status 7 8 e f (λ h. omega arith); kept = λ f. clash status 7 0 e f (λ h. omega arith) };
      one_of = inr (inr (inr (inl e)));
      same = λ f. clash status 7 0 e f (λ h. omega arith);
      other = λ f. clash status 7 1 e f (λ h. omega arith);
      kept = λ f. clash status 7 1 e f (λ h. omega arith);
      cut = λ f. clash status 7 9 e f (λ h. omega arith);
      refused = λ f. not_refused status 7 f e (omega arith);
      disk_line = λ f. refuses.printed;
      nothing = λ f. clash status 7 10 e f (λ h. omega arith);
    }

    -- there was no memory
    pub by_memory : later.faults ≡ disk.faults → Refuses out after memory_refusal status → Known
    by_memory kept refuses = let e : status ≡ 10 = refuses.answers in record {
      only_read = only_read;
      causes = record {
        disk_failed = λ f. clash status 10 7 e f (λ h. omega arith);
        disk_kept = inr kept;
        sink_failed = λ f. clash status 10 9 e f (λ h. omega arith);
        sink_kept = λ f. clash status 10 0 e f (λ h. omega arith);
      };
      files = record { failed = λ f. clash status 10 8 e f (λ h. omega arith); kept = λ f. clash status 10 0 e f (λ h. omega arith) };
      one_of = inr (inr (inr (inr (inr (inr e)))));
      same = λ f. clash status 10 0 e f (λ h. omega arith);
      other = λ f. clash status 10 1 e f (λ h. omega arith);
      kept = λ f. clash status 10 1 e f (λ h. omega arith);
      cut = λ f. clash status 10 9 e f (λ h. omega arith);
      refused = λ f. not_refused status 10 f e (omega arith);
      disk_line = λ f. clash status 10 7 e f (λ h. omega arith);
      nothing = λ f. nothing_printed out after memory_refusal status refuses e;
    }

    module _ (kept : later.faults ≡ disk.faults) (folders_kept : read.faults ≡ folders.faults) (sources_kept : drained.faults ≡ sources.faults) where
      abbrev Says : Option Difference → Type 0
      Says found = WhereTold folders disk later sources (λ tree image files. told_difference seed arch sector dirs tree image files ≡ Ok found)

      -- a part was printed
      by_part : (found : Option Difference) → Says found → status ≡ 9 → Rose out.faults after.faults
          → PrintsPart out after (check_report found) → Known
      by_part found says e rose printed = record {
        only_read = only_read;
        causes = record {
          disk_failed = λ f. clash status 9 7 e f (λ h. omega arith);
          disk_kept = inr kept;
          sink_failed = λ f. rose;
          sink_kept = λ f. clash status 9 0 e f (λ h. omega arith);
        };
        files = record { failed = λ f. clash status 9 8 e f (λ h. omega arith); kept = λ f. clash status 9 0 e f (λ h. omega arith) };
        one_of = inr (inr (inr (inr (inr (inl e)))));
        same = λ f. clash status 9 0 e f (λ h. omega arith);
        other = λ f. clash status 9 1 e f (λ h. omega arith);
        kept = λ f. clash status 9 1 e f (λ h. omega arith);
        cut = λ f. (found, says, printed);
        refused = λ f. not_refused status 9 f e (omega arith);
        disk_line = λ f. clash status 9 7 e f (λ h. omega arith);
        nothing = λ f. clash status 9 10 e f (λ h. omega arith);
      }

      -- nothing differs
      pub by_same : Says None → Finishes out after same_line status → Known
      by_same says (inr (e, printed)) = by_part None says e printed.rose printed
      by_same says (inl (e, printed)) = record {
        only_read = only_read;
        causes = record {
          disk_failed = λ f. clash status 0 7 e f (λ h. omega arith);
          disk_kept = inr kept;
          sink_failed = λ f. clash status 0 9 e f (λ h. omega arith);
          sink_kept = λ f. printed.kept;
        };
        files = record { failed = λ f. clash status 0 8 e f (λ h. omega arith); kept = λ f. (folders_kept, sources_kept) };
        one_of = inr (inl e);
        same = λ f. (says, printed);
        other = λ f. clash status 0 1 e f (λ h. omega arith);
        kept = λ f. clash status 0 1 e f (λ h. omega arith);
        cut = λ f. clash status 0 9 e f (λ h. omega arith);
        refused = λ f. not_done status f e;
        disk_line = λ f. clash status 0 7 e f (λ h. omega arith);
        nothing = λ f. clash status 0 10 e f (λ h. omega arith);
      }

      -- this differs first
      pub by_difference : (found : Difference) → Says (Some found) → Differs out after (difference_line found) status → Known
      by_difference found says (inr (e, printed)) = by_part (Some found) says e printed.rose printed
      by_difference found says (inl (e, printed)) = record {
        only_read = only_read;
        causes = record {
          disk_failed = λ f. clash status 1 7 e f (λ h. omega arith);
          disk_kept = inr kept;
          sink_failed = λ f. clash status 1 9 e f (λ h. omega arith);
          sink_kept = λ f. clash status 1 0 e f (λ h. omega arith);
        };
        files = record { failed = λ f. clash status 1 8 e f (λ h. omega arith); kept = λ f. clash status 1 0 e f (λ h. omega arith) };
        one_of = inr (inr (inl e));
        same = λ f. clash status 1 0 e f (λ h. omega arith);
        other = λ f. (found, says, printed);
        kept = λ f. (folders_kept, sources_kept);
        cut = λ f. clash status 1 9 e f (λ h. omega arith);
        refused = λ f. not_one status f e;
        disk_line = λ f. clash status 1 7 e f (λ h. omega arith);
        nothing = λ f. clash status 1 10 e f (λ h. omega arith);
      }
