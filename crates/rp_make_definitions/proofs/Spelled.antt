-- The files of a number, with their digits spelled.
use Rattle.std.proofs.Common.{◌≡◌, ◌∙◌, ℕ, zero, suc, ◌+◌, ◌*◌, ◌/◌, ◌%◌, ◌<◌, ◌≤◌, List, [], ◌∷◌, ◌++◌, refl, ap, arith}
use Rattle.std.proofs.lemmas.Fmt.{decimal_digit, decimal_step}
use Rattle.std.specs.Fmt.{decimal}
use Rattle.std.specs.Prelude.{codes}
use Rattle.rp_io.specs.Files.{Tree}
use Rattle.rp_io.specs.declared.stored.Stored.{Stored}
use Rattle.rp_make_input.specs.MakeInput.{folders_of, tree_for}
use Rattle.rp_make_input.specs.Texts.{file_of, part_file, part_files, part_path, part_text, root_file, root_hash_file}

abbrev pub weight : ℕ → ℕ
weight i = 100 + 37 * (i % 11)

abbrev pub path : ℕ → List ℕ
path i = codes "make/part-" ++ (48 + i / 100) ∷ (48 + i / 10 % 10) ∷ (48 + i % 10) ∷ codes ".conf"

abbrev pub text : ℕ → List ℕ
text i =
    codes "[Partition]\nType=linux-generic\nSizeMinBytes=" ++ (48 + (1 + i % 7)) ∷ codes "M\nWeight="
    ++ (48 + weight i / 10 / 10) ∷ (48 + weight i / 10 % 10) ∷ (48 + weight i % 10) ∷ codes "\n"

abbrev pub parts : ℕ → List Stored
parts zero = []
parts (suc count) = parts count ++ file_of (path count) (text count) ∷ []

abbrev pub tree : ℕ → Tree
tree n = record { folders = folders_of; files = parts n ++ root_file ∷ root_hash_file ∷ [] }

three : (n : ℕ) → 100 ≤ n → n < 1000 → decimal n ≡ (48 + n / 10 / 10) ∷ (48 + n / 10 % 10) ∷ (48 + n % 10) ∷ []
three n low high =
    decimal_step n (omega arith) (omega arith)
    ∙ ap (λ (l : List ℕ). l ++ (48 + n % 10) ∷ []) (decimal_step (n / 10) (omega arith) (omega arith)
    ∙ ap (λ (l : List ℕ). l ++ (48 + n / 10 % 10) ∷ []) (decimal_digit (n / 10 / 10) (omega arith)))

path_is : (i : ℕ) → i < 1000 → part_path i ≡ path i
unfolding part_path
path_is i small =
    let a = decimal_digit (i / 100) (omega arith) in
    let b = decimal_digit (i / 10 % 10) (omega arith) in
    let c = decimal_digit (i % 10) (omega arith) in
    rw (a, b, c) refl

text_is : (i : ℕ) → part_text i ≡ text i
unfolding part_text
text_is i =
    let a = decimal_digit (1 + i % 7) (omega arith) in
    let b = three (weight i) (omega arith) (omega arith) in
    rw (a, b) refl

parts_are : (count : ℕ) → count ≤ 1000 → part_files count ≡ parts count
parts_are zero few = refl
parts_are (suc count) few =
    ap (λ (l : List Stored). l ++ part_file count ∷ []) (parts_are count (omega arith))
    ∙ ap (λ (p : List ℕ). parts count ++ file_of p (part_text count) ∷ []) (path_is count (omega arith))
    ∙ ap (λ (t : List ℕ). parts count ++ file_of (path count) t ∷ []) (text_is count)

-- the tree of a number
pub tree_is : (number : ℕ) → number ≤ 1000 → tree_for number ≡ tree number
tree_is number few =
    ap (λ (l : List Stored). record { folders = folders_of; files = l ++ root_file ∷ root_hash_file ∷ [] }) (parts_are number few)
