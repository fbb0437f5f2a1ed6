-- The tests on rows and tables tell whether they are equal.
use Rattle.std.proofs.Common.{◌≡◌, ℕ, Bool, true, false, ◌&&◌, eqb, refl, ap, List, eq-eqb}
use Rattle.std.proofs.lemmas.Bool.{eqb-true, and_from, and_parts}
use Rattle.std.proofs.lemmas.Slice.Eq.{bytes_eq-Decides}
use Rattle.std.specs.Bool.{Decides}
use Rattle.std.specs.Cmp.Lexicographic.{pointwise_decides}
use Rattle.rp_base.specs.declared.table.Row.{Row}
use Rattle.rp_base.specs.declared.table.Table.{Table}
use Rattle.rp_steps.specs.Same.{same_row, same_rows, same_table}

numbers : (a b : ℕ) → Decides (eqb a b) (a ≡ b)
numbers a b = (eqb-true a b, eq-eqb a b)

both : {P Q : Type 0} (x y : Bool) → Decides x P → Decides y Q → Decides (x && y) (P × Q)
both x y p q = ((λ e. let parts = and_parts x y e in (p.0 parts.0, q.0 parts.1)), λ holds. and_from x y (p.1 holds.0) (q.1 holds.1))

pub same_row-Decides : (a b : Row) → Decides (same_row a b) (a ≡ b)
unfolding same_row
same_row-Decides a b =
    let parts = both _ _ (numbers a.slot b.slot) (both _ _ (bytes_eq-Decides a.kind.0 b.kind.0) (both _ _ (bytes_eq-Decides a.id.0 b.id.0)
    (both _ _ (numbers a.start b.start) (both _ _ (numbers a.size b.size) (both _ _ (numbers a.attrs b.attrs) (bytes_eq-Decides a.name b.name)))))) in (
      (λ e. let p = parts.0 e in λ i. record {
        slot = p.0 i;
        kind = record { 0 = p.1.0 i };
        id = record { 0 = p.1.1.0 i };
        start = p.1.1.1.0 i;
        size = p.1.1.1.1.0 i;
        attrs = p.1.1.1.1.1.0 i;
        name = p.1.1.1.1.1.1 i;
      }),
      λ e. parts.1 (
        ap (λ r. r.slot) e,
        (
          ap (λ r. r.kind.0) e,
          (
            ap (λ r. r.id.0) e,
            (
              ap (λ r. r.start) e,
              (
                ap (λ r. r.size) e,
                (ap (λ r. r.attrs) e, ap (λ r. r.name) e),
              ),
            ),
          ),
        ),
      ),
    )

pub same_rows-Decides : (a b : List Row) → Decides (same_rows a b) (a ≡ b)
same_rows-Decides = pointwise_decides same_row-Decides

pub same_table-Decides : (a b : Table) → Decides (same_table a b) (a ≡ b)
unfolding same_table
same_table-Decides a b =
    let parts = both _ _ (numbers a.sector b.sector) (both _ _ (numbers a.entries b.entries) (both _ _ (bytes_eq-Decides a.disk.0 b.disk.0)
    (both _ _ (numbers a.first b.first) (both _ _ (numbers a.last b.last) (same_rows-Decides a.rows b.rows))))) in (
      (λ e. let p = parts.0 e in λ i. record {
        sector = p.0 i;
        entries = p.1.0 i;
        disk = record { 0 = p.1.1.0 i };
        first = p.1.1.1.0 i;
        last = p.1.1.1.1.0 i;
        rows = p.1.1.1.1.1 i;
      }),
      λ e. parts.1 (
        ap (λ t. t.sector) e,
        (
          ap (λ t. t.entries) e,
          (
            ap (λ t. t.disk.0) e,
            (
              ap (λ t. t.first) e,
              (
                ap (λ t. t.last) e,
                ap (λ t. t.rows) e,
              ),
            ),
          ),
        ),
      ),
    )

-- a test that tells the same tells as much
pub tests_agree : {P : Type 0} (x y : Bool) → Decides x P → Decides y P → x ≡ y
tests_agree true true p q = refl
tests_agree true false p q = let t = q.1 (p.0 refl) in cc
tests_agree false true p q = let t = p.1 (q.0 refl) in cc
tests_agree false false p q = refl
