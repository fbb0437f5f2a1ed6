-- What the laws say, for proofs of crates above.
use Rattle.std.proofs.Common.{inl, inr, ◌≡◌, ◌≢◌, ℕ, ◌+◌, ◌-◌, ◌*◌, ◌<◌, ◌≤◌, List, length, take, drop, get_or, arith, ap, sym, ◌∙◌}
use Rattle.std.proofs.lemmas.Bool.{cases_lt}
use Rattle.std.proofs.lemmas.List.{drop-drop, get_or_past}
use Rattle.rp_pool.specs.Region.{IsOut, IsRegion, Region, Run, bytes_of, written}
use Rattle.rp_pool.proofs.Free.{out_apart}
use Rattle.rp_pool.proofs.Written.{over, over_before, over_behind, over_fits, over_same}

-- where a run that is out lies
pub out_within : (region : Region) (run : Run) → IsRegion region → IsOut region run → run.first + run.blocks ≤ length region.out
out_within region run is out =
    let some = out.some in
    let size : get_or region.out run.first 0 ≡ run.blocks = out.out in
    elim (cases_lt run.first (length region.out)) [
      | inl below ↦ omega (arith, is.disjoint.within run.first below)
      | inr past ↦ absurd (omega (arith, get_or_past region.out run.first 0 past))
    ]

-- a write gives the run these bytes
pub written_own : (region : Region) (run : Run) (bytes : List ℕ) → IsRegion region → IsOut region run
    → length bytes ≡ 4096 * run.blocks → bytes_of (written region run bytes) run ≡ bytes
written_own region run bytes is out size =
    let within = out_within region run is out in
    let whole = is.bytes in
    let count : 4096 * (run.first + run.blocks) - 4096 * run.first ≡ length bytes = omega arith in
    ap (λ all. take (4096 * (run.first + run.blocks) - 4096 * run.first) (drop (4096 * run.first) all))
    (over_fits region.bytes (4096 * run.first) bytes (omega arith))
    ∙ ap (λ n. take n (drop (4096 * run.first) (over region.bytes (4096 * run.first) bytes))) count
    ∙ over_same region.bytes (4096 * run.first) bytes (omega arith)

-- and leaves each other run that is out
pub written_other : (region : Region) (run other : Run) (bytes : List ℕ) → IsRegion region → IsOut region run → IsOut region other
    → run.first ≢ other.first → length bytes ≡ 4096 * run.blocks → bytes_of (written region run bytes) other ≡ bytes_of region other
written_other region run other bytes is run_out other_out ne size =
    let within = out_within region run is run_out in
    let whole = is.bytes in
    ap (λ all. take (4096 * (other.first + other.blocks) - 4096 * other.first) (drop (4096 * other.first) all))
    (over_fits region.bytes (4096 * run.first) bytes (omega arith))
    ∙ elim (cases_lt run.first other.first) [
      | inl behind ↦
          let apart = out_apart region run other is.disjoint run_out other_out behind in
          let there : 4096 * run.first + (4096 * other.first - 4096 * run.first) ≡ 4096 * other.first = omega arith in
          ap (take (4096 * (other.first + other.blocks) - 4096 * other.first))
          (ap (λ n. drop n (over region.bytes (4096 * run.first) bytes)) (sym there)
          ∙ over_behind region.bytes (4096 * run.first) (4096 * other.first - 4096 * run.first) bytes (omega arith) (omega arith)
          ∙ drop-drop (4096 * other.first - 4096 * run.first) (4096 * run.first) region.bytes
          ∙ ap (λ n. drop n region.bytes) there)
      | inr before ↦
          let first : other.first < run.first = omega arith in
          let apart = out_apart region other run is.disjoint other_out run_out first in
          over_before region.bytes (4096 * run.first) (4096 * other.first) (4096 * (other.first + other.blocks) - 4096 * other.first)
          bytes (omega arith) (omega arith)
    ]
