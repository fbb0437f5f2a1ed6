-- Each sentence of what `apply` promises of an image, by how a run of it ends.
use Rattle.std.proofs.Common.{ℕ, ◌≡◌, ◌≤◌, List, [], ◌∷◌, Bool, Option, Some, None, IfSome, Ok, refl, sym, subst, inl, inr, arith}
use Rattle.std.specs.Prelude.{length}
use Rattle.rp_apply_command.proofs.Ended.{ends_idle, ends_so}
use Rattle.rp_apply_command.proofs.Moments.{leaves_all}
use Rattle.rp_apply_command.proofs.Runs.{made_none}
use Rattle.rp_apply_command.specs.Ends.{Ends, IsBefore, IsBehind, IsBetween, LeavesAll, StopsExactly}
use Rattle.rp_apply_command.specs.Ends.Ends.{before, behind, broken, between}
use Rattle.rp_base.specs.Geometry.{IsSector}
use Rattle.rp_cli.specs.Applied.{AppliesAsked, IsApplied, IsSafeThroughout, WritesNothingIdle}
use Rattle.rp_defs.specs.declared.definition.Definitions.{Definitions}
use Rattle.rp_disk.specs.Device.{CanHave}
use Rattle.rp_disk.specs.History.{held}
use Rattle.rp_disk.specs.Made.{Past, history_of}
use Rattle.rp_disk.specs.Runs.{MadeFirst}
use Rattle.rp_disk.specs.declared.call.Call.{Call}
use Rattle.rp_disk.specs.declared.call.Call.TheVariants.{Sync}
use Rattle.rp_idle.specs.Idle.{IsIdle}
use Rattle.rp_io.specs.Files.{Tree}
use Rattle.rp_io.specs.declared.stored.Stored.{Stored}
use Rattle.rp_outcome.specs.Device.{Device}
use Rattle.rp_outcome.specs.Output.{Output}
use Rattle.rp_outcome.specs.Store.{Store}
use Rattle.rp_planned.specs.Planning.{planned_of}
use Rattle.rp_planned.specs.declared.planned.Planned.{Planned}
use Rattle.rp_planned.specs.declared.request.Request.{Request}
use Rattle.rp_reading.specs.Reading.{definitions_in}
use Rattle.rp_words.specs.Values.{IsSize}

-- a status of a run that is done is none at which nothing was carried out, or not all
pub done_before : {P : Type 0} (n : ℕ) → IsBefore n → IsBehind n → P
done_before n (inl a) (inl b) = absurd (omega (arith, a, b))
done_before n (inl a) (inr b) = absurd (omega (arith, a, b))
done_before n (inr (inl a)) (inl b) = absurd (omega (arith, a, b))
done_before n (inr (inl a)) (inr b) = absurd (omega (arith, a, b))
done_before n (inr (inr (inl a))) (inl b) = absurd (omega (arith, a, b))
done_before n (inr (inr (inl a))) (inr b) = absurd (omega (arith, a, b))
done_before n (inr (inr (inr a))) (inl b) = absurd (omega (arith, a, b))
done_before n (inr (inr (inr a))) (inr b) = absurd (omega (arith, a, b))

pub done_between : {P : Type 0} (n : ℕ) → IsBetween n → IsBehind n → P
done_between n (inl a) (inl b) = absurd (omega (arith, a, b))
done_between n (inl a) (inr b) = absurd (omega (arith, a, b))
done_between n (inr (inl a)) (inl b) = absurd (omega (arith, a, b))
done_between n (inr (inl a)) (inr b) = absurd (omega (arith, a, b))
done_between n (inr (inr a)) (inl b) = absurd (omega (arith, a, b))
done_between n (inr (inr a)) (inr b) = absurd (omega (arith, a, b))

-- nor is it between where it is a refusal before
pub before_between : {P : Type 0} (n : ℕ) → IsBetween n → IsBefore n → P
before_between n (inl a) (inl b) = absurd (omega (arith, a, b))
before_between n (inl a) (inr (inl b)) = absurd (omega (arith, a, b))
before_between n (inl a) (inr (inr (inl b))) = absurd (omega (arith, a, b))
before_between n (inl a) (inr (inr (inr b))) = absurd (omega (arith, a, b))
before_between n (inr (inl a)) (inl b) = absurd (omega (arith, a, b))
before_between n (inr (inl a)) (inr (inl b)) = absurd (omega (arith, a, b))
before_between n (inr (inl a)) (inr (inr (inl b))) = absurd (omega (arith, a, b))
before_between n (inr (inl a)) (inr (inr (inr b))) = absurd (omega (arith, a, b))
before_between n (inr (inr a)) (inl b) = absurd (omega (arith, a, b))
before_between n (inr (inr a)) (inr (inl b)) = absurd (omega (arith, a, b))
before_between n (inr (inr a)) (inr (inr (inl b))) = absurd (omega (arith, a, b))
before_between n (inr (inr a)) (inr (inr (inr b))) = absurd (omega (arith, a, b))

module _ (request : Request) (json : Bool) (dirs : List (List ℕ)) (folders read : Store Tree) (disk later : Device)
    (sources drained : Store (List Stored)) (out after : Output) (status : ℕ) (sector : IsSector request.sector) (size : IsSize request.size)
  where
    abbrev Asked : Type 0
    Asked = AppliesAsked request json dirs folders read disk later sources drained out after status

    abbrev End : Type 0
    End = Ends request json dirs folders disk later sources out after status

    -- where there was no memory for the paths of the folders, nothing was carried out
    unasked : later ≡ disk → LeavesAll disk later
    unasked same = leaves_all disk later (subst (λ (d : Device). MadeFirst disk.calls (Sync ∷ []) d.calls) (sym same) (made_none disk.calls (Sync ∷ [])))

    -- the plan that was carried out is the goal by what the sources tell
    of_exact : (definitions : Definitions) (planned : Planned) (calls : List Call) (past : Past) (s : Option (List Stored))
        → IfSome s (StopsExactly request definitions.list disk later planned calls past)
        → IfSome s (λ files. planned_of request definitions.list (held (history_of past disk.calls)) files ≡ Ok planned)
    of_exact definitions planned calls past None stops = tt
    of_exact definitions planned calls past (Some files) stops = stops.goal

    pub apply_applied : Asked → IsBehind status → IsApplied request dirs folders disk later sources
    apply_applied (inr (same, refuses)) is = done_before status (inr (inr (inr refuses.answers))) is
    apply_applied (inl applies) is =
        by_end (ends_so request json dirs folders read disk later sources drained out after status sector size.whole size.most applies) where
          by_end : End → IsApplied request dirs folders disk later sources
          by_end (before at leaves) = done_before status at is
          by_end (broken at leaves) = done_between status at is
          by_end (between at definitions planned are some refusal cause refuses) = done_between status at is
          by_end (behind at definitions planned are all finishes) = record {
            definitions = definitions;
            planned = planned;
            read = are;
            goal = λ past can. (all (Some past) can).1.some.stops.goal;
            exact_goal = λ past can.
                of_exact definitions planned (all (Some past) can).0 past sources.told (all (Some past) can).1.some.stops_exactly;
            shows_goal = λ past can. (all (Some past) can).1.ends;
            holds_contents = λ past can. (all (Some past) can).1.ends_exactly;
          }

    pub apply_safe : Asked → IsSafeThroughout request dirs folders disk later sources
    apply_safe (inr (same, refuses)) = inl (unasked same.1)
    apply_safe (inl applies) =
        by_end (ends_so request json dirs folders read disk later sources drained out after status sector size.whole size.most applies) where
          by_end : End → IsSafeThroughout request dirs folders disk later sources
          by_end (before at leaves) = inl leaves
          by_end (broken at leaves) = inl leaves
          by_end (behind at definitions planned are all finishes) =
              inr (definitions, planned, are, λ o can. ((all o can).0, (all o can).1.some))
          by_end (between at definitions planned are some refusal cause refuses) = inr (definitions, planned, are, some)

    pub apply_refused : Asked → IsBefore status → LeavesAll disk later
    apply_refused (inr (same, refuses)) is = unasked same.1
    apply_refused (inl applies) is =
        by_end (ends_so request json dirs folders read disk later sources drained out after status sector size.whole size.most applies) where
          by_end : End → LeavesAll disk later
          by_end (before at leaves) = leaves
          by_end (broken at leaves) = leaves
          by_end (behind at definitions planned are all finishes) = done_before status is at
          by_end (between at definitions planned are some refusal cause refuses) = before_between status at is

    pub apply_idle : Asked → WritesNothingIdle request dirs folders disk later
    apply_idle asked past can = by_folders folders.told refl where
      by_asked : (tree : Tree) → folders.told ≡ Some tree → (definitions : Definitions)
          → definitions_in request.arch tree dirs ≡ Ok definitions
          → IsIdle request.sector (held (history_of past disk.calls)) definitions.list request.seed
          → request.size ≤ length (held (history_of past disk.calls)) → Asked → MadeFirst disk.calls (Sync ∷ []) later.calls
      by_asked tree told definitions are idle long (inr (same, refuses)) = (unasked same.1).made
      by_asked tree told definitions are idle long (inl applies) =
          ends_idle request json dirs folders read disk later sources drained out after status sector size.whole size.most applies
          past tree definitions can told are idle long

      by_folders : (o : Option Tree) → folders.told ≡ o → IfSome o (λ tree. (definitions : Definitions)
          → definitions_in request.arch tree dirs ≡ Ok definitions
          → IsIdle request.sector (held (history_of past disk.calls)) definitions.list request.seed
          → request.size ≤ length (held (history_of past disk.calls)) → MadeFirst disk.calls (Sync ∷ []) later.calls)
      by_folders None told = tt
      by_folders (Some tree) told = λ definitions are idle long. by_asked tree told definitions are idle long asked
