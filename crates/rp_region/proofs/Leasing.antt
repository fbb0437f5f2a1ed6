-- The four runs are the first that fit, and when they are given back none is out.
use Rattle.std.proofs.Common.{◌≡◌, ℕ, List, Option, Some, refl, sym, ap, ◌∙◌}
use Rattle.std.specs.Prelude.{IsSome, replicate, slice_set}
use Rattle.rp_pool.specs.Region.{Region, Run, first_fit, lent}
use Rattle.rp_region.specs.Region.{backup_run, levels_run, piece_run, primary_run}

pub fit_primary : first_fit (replicate 136 0) 33 ≡ Some primary_run
fit_primary = refl

pub fit_backup : first_fit (slice_set (replicate 136 0) 0 33) 33 ≡ Some backup_run
fit_backup = refl

pub fit_piece : first_fit (slice_set (slice_set (replicate 136 0) 0 33) 33 33) 64 ≡ Some piece_run
fit_piece = refl

pub fit_levels : first_fit (slice_set (slice_set (slice_set (replicate 136 0) 0 33) 33 33) 66 64) 6 ≡ Some levels_run
fit_levels = refl

is_some : (o : Option Run) (run : Run) → o ≡ Some run → IsSome o
is_some o run is = rw is refl

-- one run more: the first that fits
pub record Lent (region : Region) (out : List ℕ) (run want : Run) : Type 0 where
  pub is : run ≡ want
  pub out_is : region.out ≡ out

pub lent_next : (old new : Region) (run want : Run) (out : List ℕ) (n : ℕ) → old.out ≡ out → first_fit out n ≡ Some want
    → first_fit old.out n ≡ Some run → new ≡ lent old (Some run) → Lent new (slice_set out want.first want.blocks) run want
lent_next old new run want out n was fit found is =
    let e : Some run ≡ Some want = sym found ∙ ap (λ (o : List ℕ). first_fit o n) was ∙ fit in
    let same : run ≡ want = cc in
    record {
      is = same;
      out_is = ap (λ (r : Region). r.out) is ∙ ap (λ (o : List ℕ). slice_set o run.first run.blocks) was
          ∙ ap (λ (r : Run). slice_set out r.first r.blocks) same;
    }

pub is_free : (region : Region) (out : List ℕ) (n : ℕ) (want : Run) → region.out ≡ out → first_fit out n ≡ Some want → IsSome (first_fit region.out n)
is_free region out n want is fit = is_some (first_fit region.out n) want (ap (λ (o : List ℕ). first_fit o n) is ∙ fit)
