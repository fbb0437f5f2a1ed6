-- What the runs of copies hold.
use Rattle.std.proofs.Common.{◌≡◌, ◌≢◌, ℕ, ◌+◌, ◌-◌, ◌*◌, ◌<◌, ◌≤◌, ◌⊎◌, inl, inr, List, ◌++◌, length, take, drop, refl, sym, ap, ◌∙◌, arith}
use Rattle.std.specs.Prelude.{slice_index}
use Rattle.std.proofs.lemmas.Bool.{cases_lt}
use Rattle.std.proofs.lemmas.List.{length-append, length-drop, length-take, length-take-le, take_all}
use Rattle.rp_base.specs.List.{rewritten}
use Rattle.rp_base.specs.declared.geometry.Which.TheVariants.{Primary, Backup}
use Rattle.rp_base.specs.declared.table.Table.{Table}
use Rattle.rp_gpt.specs.Copy.{exact}
use Rattle.rp_pool.specs.Region.{IsOut, IsRegion, Region, Run, bytes_of, written}
use Rattle.rp_pool.proofs.Public.{out_within, written_other, written_own}
use Rattle.rp_region.specs.Region.{HoldsCopies, all_out, backup_run, primary_run}

-- the runs of the copies are out
pub primary_out : (region : Region) (run : Run) → region.out ≡ all_out → run ≡ primary_run → IsOut region run
primary_out region run out is = rw is record { some = omega arith; out = ap (λ (o : List ℕ). slice_index o 0) out }

pub backup_out : (region : Region) (run : Run) → region.out ≡ all_out → run ≡ backup_run → IsOut region run
backup_out region run out is = rw is record { some = omega arith; out = ap (λ (o : List ℕ). slice_index o 33) out }

-- how many bytes a run has
pub length-bytes_of : (region : Region) (run : Run) → IsRegion region → IsOut region run → length (bytes_of region run) ≡ 4096 * run.blocks
length-bytes_of region run is out =
    let within = out_within region run is out in
    let size = length-take (4096 * (run.first + run.blocks) - 4096 * run.first) (drop (4096 * run.first) region.bytes) in
    omega (arith, is.bytes, size, length-drop (4096 * run.first) region.bytes)

length-rewritten : (old items : List ℕ) → length (rewritten old items) ≡ length old
length-rewritten old items =
    omega (arith, length-take (length old) (items ++ drop (length items) old), length-append items (drop (length items) old), length-drop (length items) old)

pub region_written : (region : Region) (run : Run) (bytes : List ℕ) → IsRegion region → IsRegion (written region run bytes)
region_written region run bytes is = record { bytes = length-rewritten region.bytes _ ∙ is.bytes; few = is.few; disjoint = is.disjoint }

-- the run of a copy has 33 blocks
pub primary_size : (region : Region) (run : Run) (bytes : List ℕ) → IsRegion region → region.out ≡ all_out → run ≡ primary_run → bytes ≡ bytes_of region run
    → length bytes ≡ 135168
primary_size region run bytes is out run_is are =
    ap length are ∙ length-bytes_of region run is (primary_out region run out run_is) ∙ ap (λ (r : Run). 4096 * r.blocks) run_is

pub backup_size : (region : Region) (run : Run) (bytes : List ℕ) → IsRegion region → region.out ≡ all_out → run ≡ backup_run → bytes ≡ bytes_of region run
    → length bytes ≡ 135168
backup_size region run bytes is out run_is are =
    ap length are ∙ length-bytes_of region run is (backup_out region run out run_is) ∙ ap (λ (r : Run). 4096 * r.blocks) run_is

-- the first bytes of a list, as many as they are
begins : (n : ℕ) (xs front : List ℕ) → take n xs ≡ front → take (length front) xs ≡ front
begins n xs front is = by (cases_lt n (length xs)) where
  by : (n < length xs) ⊎ (length xs ≤ n) → take (length front) xs ≡ front
  by (inl below) =
      let size : length front ≡ n = sym (ap length is) ∙ length-take-le n xs (omega arith) in
      ap (λ (i : ℕ). take i xs) size ∙ is
  by (inr past) =
      let all : xs ≡ front = sym (take_all n xs past) ∙ is in
      take_all (length front) xs (omega (arith, ap length all)) ∙ all

-- both copies, written one after the other
pub copies_held : (region : Region) (p b : Run) (table : Table) (sectors n : ℕ) (x y : List ℕ) → IsRegion region → region.out ≡ all_out
    → p ≡ primary_run → b ≡ backup_run → length x ≡ 135168 → length y ≡ 135168 → take n x ≡ exact table Primary sectors
    → take n y ≡ exact table Backup sectors → HoldsCopies table sectors (written (written region p x) b y)
copies_held region p b table sectors n x y is out p_is b_is long_x long_y are_x are_y =
    let mid = written region primary_run x in
    let mid_is : IsRegion mid = region_written region primary_run x is in
    let p_out = primary_out mid primary_run out refl in
    let b_out = backup_out mid backup_run out refl in
    let other : 33 ≢ 0 = λ (e : 33 ≡ 0). omega (arith, e) in
    let of_x : bytes_of (written mid backup_run y) primary_run ≡ x =
    written_other mid backup_run primary_run y mid_is b_out p_out other long_y
    ∙ written_own region primary_run x is (primary_out region primary_run out refl) long_x in
    let of_y : bytes_of (written mid backup_run y) backup_run ≡ y = written_own mid backup_run y mid_is b_out long_y in
    rw (p_is, b_is) record {
      primary = ap (λ (l : List ℕ). take (length (exact table Primary sectors)) l) of_x ∙ begins n x (exact table Primary sectors) are_x;
      backup = ap (λ (l : List ℕ). take (length (exact table Backup sectors)) l) of_y ∙ begins n y (exact table Backup sectors) are_y;
    }
