-- A hash block of the lowest level, and the data blocks under it.
use Rattle.std.proofs.Common.{◌≡◌, ℕ, ◌+◌, ◌-◌, ◌*◌, ◌<◌, List, Option, Ok, take, drop, min, arith}
use Rattle.rp_base.specs.declared.table.Row.{Row}
use Rattle.rp_verity.specs.Tree.{runs}
use Rattle.rp_tree.specs.Checked.{begin_of, block_of, first_wrong}
use Rattle.rp_tree.specs.Standing.{IsShape, Stands}
use Rattle.rp_tree.proofs.NextLemmas.{NextGoes}
use Rattle.rp_tree.proofs.StandingLemmas.{lowest-block}

-- what stands and what was found, where the topmost block stood at first
abbrev pub StandsSo : List ℕ → List ℕ → Row → Row → ℕ → ℕ → List ℕ → ℕ → List ℕ → List (Option ℕ) → Option ℕ → Type 0
StandsSo image salt payload hash count blocks start index standing notes found =
    drop (4096 * (count - 1)) start ≡ block_of image hash 1
    → Stands image salt hash count blocks index standing notes
    × (found ≡ first_wrong image salt payload 0 (min (128 * index) blocks) hash (begin_of count blocks))

-- what is found under a hash block
abbrev pub Found : List ℕ → List ℕ → Row → ℕ → ℕ → List ℕ → Option ℕ → Option ℕ → Type 0
Found image salt payload blocks index digests before now =
    (hash : Row) (begin : ℕ) → digests ≡ block_of image hash (begin + index)
    → before ≡ first_wrong image salt payload 0 (128 * index) hash begin
    → now ≡ first_wrong image salt payload 0 (min (128 * index + 128) blocks) hash begin

-- one hash block more with what is under it
pub both-more : (image salt : List ℕ) (payload hash : Row) (count blocks size many : ℕ) (start : List ℕ) (index : ℕ) (standing : List ℕ)
    (notes : List (Option ℕ)) (before : Option ℕ) (done : Unit {0}) (after : List ℕ) (noted : List (Option ℕ)) (now : Option ℕ)
    → IsShape hash count blocks size many → index < runs blocks
    → StandsSo image salt payload hash count blocks start index standing notes before
    → NextGoes image salt hash count blocks index standing notes (Ok done) after noted
    → Found image salt payload blocks index (take 4096 after) before now
    → StandsSo image salt payload hash count blocks start (index + 1) after noted now
both-more image salt payload hash count blocks size many start index standing notes before done after noted now shape below so next found top =
    let old = so top in
    let stands : Stands image salt hash count blocks (index + 1) after noted = next old.0 in
    let lowest : take 4096 after ≡ block_of image hash (begin_of count blocks + index) =
    lowest-block image salt hash count blocks index size many after noted shape below stands in
    let so_far : min (128 * index) blocks ≡ 128 * index = omega arith in
    let more : 128 * (index + 1) ≡ 128 * index + 128 = omega arith in
    (stands, rw more (found hash (begin_of count blocks) lowest (rw so_far at old.1)))
