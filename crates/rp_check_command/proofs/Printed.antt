-- The lines of what differs, by their pieces.
use Rattle.std.proofs.Common.{ℕ, ◌≡◌, ◌++◌, List, [], sym, ◌∙◌, ap, append_assoc, append-nil, refl}
use Rattle.std.specs.Fmt.{decimal}
use Rattle.std.specs.Prelude.{codes}
use Rattle.rp_check_command.specs.Reports.{difference_line}
use Rattle.rp_difference.specs.declared.difference.Difference.TheVariants as differences
use Rattle.rp_tree.specs.declared.bad.Bad.TheVariants as bads
use Rattle.rp_types.specs.Designators.{designator_name}
use Rattle.rp_types.specs.declared.arch.Designator.{Designator}

pub line_primary : codes "differs primary\n" ++ [] ≡ difference_line differences.Primary
unfolding difference_line
line_primary = refl

pub line_backup : codes "differs backup\n" ++ [] ≡ difference_line differences.Backup
unfolding difference_line
line_backup = refl

pub line_mbr : codes "differs mbr\n" ++ [] ≡ difference_line differences.Mbr
unfolding difference_line
line_mbr = refl

pub line_table : codes "differs table\n" ++ [] ≡ difference_line differences.Table
unfolding difference_line
line_table = refl

pub line_row : (slot : ℕ) (number : List ℕ) → number ≡ decimal slot
    → codes "differs row " ++ (number ++ (codes "\n" ++ [])) ≡ difference_line (differences.Row slot)
unfolding difference_line
line_row slot number is = rw is (simp (append_assoc, append-nil))

module _ (d : Designator) (name : List ℕ) (is : name ≡ designator_name d) where
  pub line_superblock : codes "differs verity " ++ (name ++ (codes " superblock\n" ++ [])) ≡ difference_line (differences.Tree d bads.Superblock)
  unfolding difference_line
  line_superblock = rw is (ap (λ (s : List ℕ). codes "differs verity " ++ s) (sym (append_assoc (designator_name d) (codes " superblock") (codes "\n"))))

  pub line_top : codes "differs verity " ++ (name ++ (codes " top\n" ++ [])) ≡ difference_line (differences.Tree d bads.Top)
  unfolding difference_line
  line_top = rw is (ap (λ (s : List ℕ). codes "differs verity " ++ s) (sym (append_assoc (designator_name d) (codes " top") (codes "\n"))))

  pub line_hash : (block : ℕ) (number : List ℕ) → number ≡ decimal block
      → codes "differs verity " ++ (name ++ (codes " hash " ++ (number ++ (codes "\n" ++ [])))) ≡ difference_line (differences.Tree d (bads.Hash block))
  unfolding difference_line
  line_hash block number says = rw (is, says)
      (ap (λ (t : List ℕ). codes "differs verity " ++ (designator_name d ++ (codes " hash " ++ (t ++ codes "\n")))) (sym (append-nil (decimal block)))
      ∙ ap (λ (s : List ℕ). codes "differs verity " ++ s)
      (sym (append_assoc (designator_name d) (codes " hash " ++ (decimal block ++ [])) (codes "\n"))))

  pub line_data : (block : ℕ) (number : List ℕ) → number ≡ decimal block
      → codes "differs verity " ++ (name ++ (codes " data " ++ (number ++ (codes "\n" ++ [])))) ≡ difference_line (differences.Tree d (bads.Data block))
  unfolding difference_line
  line_data block number says = rw (is, says)
      (ap (λ (t : List ℕ). codes "differs verity " ++ (designator_name d ++ (codes " data " ++ (t ++ codes "\n")))) (sym (append-nil (decimal block)))
      ∙ ap (λ (s : List ℕ). codes "differs verity " ++ s)
      (sym (append_assoc (designator_name d) (codes " data " ++ (decimal block ++ [])) (codes "\n"))))
