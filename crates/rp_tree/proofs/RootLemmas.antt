-- What the superblock and the top say of a tree.
use Rattle.std.proofs.Common.{◌≡◌, ◌≢◌, Bool, List, ℕ, false, Option, Some, None, true, ◌+◌, ◌-◌, ◌*◌, ◌/◌, ◌^◌, ◌≤◌, refl, ◌∙◌, ap, arith}
use Rattle.std.specs.Prelude.{MatchOption, option_map, if◌then◌else◌}
use Rattle.std.specs.Option.{option_or}
use Rattle.std.proofs.lemmas.Bool.{ne_eqb}
use Rattle.rp_base.specs.Trees.{hash_blocks, levels}
use Rattle.rp_verity.specs.Superblock.{FitIn}
use Rattle.rp_verity.specs.declared.superblock.Superblock.{Superblock}
use Rattle.rp_verity.specs.Order.{blocks_over}
use Rattle.rp_verity.proofs.ShapeLemmas.{hash_blocks-over}
use Rattle.rp_tree.proofs.Counts.{levels-some}
use Rattle.rp_base.specs.declared.table.Row.{Row}
use Rattle.rp_tree.specs.declared.bad.Bad.{Bad}
use Rattle.rp_tree.specs.declared.bad.Bad.TheVariants as bads
use Rattle.rp_tree.specs.declared.tree.Tree.{Tree}
use Rattle.rp_tree.specs.Checked.{bad_in, begin_of, first_bad, first_wrong, has_root, is_rooted, salt_of, superblock_of, wrong_block, wrong_hash}
use Rattle.rp_tree.specs.Standing.{IsShape, IsTreeOf}

pub root-none : (image : List ℕ) (payload hash : Row) (found : Option Tree) → found ≡ None
    → MatchOption found (superblock_of image payload hash ≡ None) (IsTreeOf image payload hash) → false ≡ has_root image payload hash
unfolding has_root
root-none image payload hash None is none = rw none refl
root-none image payload hash (Some tree) is none = absurd (cc)

pub root-some : (image : List ℕ) (payload hash : Row) (tree : Tree) (right : Bool) → IsTreeOf image payload hash tree
    → right ≡ is_rooted image payload hash tree.said → right ≡ has_root image payload hash
unfolding has_root
root-some image payload hash tree right is judged = judged ∙ rw is.said refl

pub bad-none : (image : List ℕ) (payload hash : Row) (found : Option Tree) → found ≡ None
    → MatchOption found (superblock_of image payload hash ≡ None) (IsTreeOf image payload hash) → Some bads.Superblock ≡ first_bad image payload hash
unfolding first_bad
bad-none image payload hash None is none = rw none refl
bad-none image payload hash (Some tree) is none = absurd (cc)

pub bad-some : (image : List ℕ) (payload hash : Row) (tree : Tree) (bad : Option Bad) → IsTreeOf image payload hash tree
    → bad ≡ bad_in image payload hash tree.said → bad ≡ first_bad image payload hash
unfolding first_bad
bad-some image payload hash tree bad is judged = judged ∙ rw is.said refl

-- what is wrong by the first blocks that are
pub block-bad : (image salt : List ℕ) (payload hash : Row) (blocks count : ℕ) (noted found : Option ℕ) (bad : Option Bad) → blocks ≢ 1
    → count ≡ levels blocks → noted ≡ wrong_hash image salt hash count blocks
    → found ≡ first_wrong image salt payload 0 blocks hash (begin_of count blocks)
    → bad ≡ option_or (option_map (λ block. bads.Hash block) noted) (option_map (λ block. bads.Data block) found)
    → bad ≡ wrong_block image salt payload hash blocks
unfolding wrong_block
block-bad image salt payload hash blocks count noted found bad more count_is noted_is found_is is =
    rw (is, noted_is, found_is, ne_eqb blocks 1 more, count_is) refl

-- without hash blocks, with a wrong root, and with a right one
pub bad-one : (image : List ℕ) (payload hash : Row) (said : Superblock) (rooted : Bool) (bad : Option Bad) → said.blocks ≡ 1
    → rooted ≡ is_rooted image payload hash said → bad ≡ (if rooted then None else Some bads.Top) → bad ≡ bad_in image payload hash said
unfolding wrong_block
bad-one image payload hash said rooted bad one judged is =
    let none : wrong_block image (salt_of image hash said) payload hash said.blocks ≡ None = rw one refl in
    rw (is, judged, none) refl

pub bad-top : (image : List ℕ) (payload hash : Row) (said : Superblock) (rooted : Bool) → rooted ≡ is_rooted image payload hash said → rooted ≡ false
    → Some bads.Top ≡ bad_in image payload hash said
bad-top image payload hash said rooted judged wrong = rw (← judged, wrong) refl

pub bad-more : (image : List ℕ) (payload hash : Row) (said : Superblock) (rooted : Bool) (bad : Option Bad) → rooted ≡ is_rooted image payload hash said
    → rooted ≡ true → bad ≡ wrong_block image (salt_of image hash said) payload hash said.blocks → bad ≡ bad_in image payload hash said
bad-more image payload hash said rooted bad judged right is = rw (← judged, right) is

-- the shape of a tree with hash blocks
pub shape-of : (payload hash : Row) (blocks count size : ℕ) → FitIn blocks payload hash → blocks ≢ 1 → count ≡ levels blocks → count ≤ 5
    → (blocks - 1) / 128 ^ count ≡ 0 → size ≡ 4096 * count → hash.start + hash.size ≤ 2 ^ 35 → IsShape hash count blocks size 5
shape-of payload hash blocks count size fit more count_is low top size_is ends =
    let some : 1 ≤ levels blocks = levels-some blocks fit.some more in
    let all : hash_blocks blocks ≡ 1 + blocks_over (levels blocks) blocks = hash_blocks-over blocks fit.some in
    let here : blocks_over count blocks ≡ blocks_over (levels blocks) blocks = ap (λ (n : ℕ). blocks_over n blocks) count_is in
    record {
      some = omega arith;
      low = low;
      full = fit.some;
      few = fit.few;
      top = top;
      room_size = size_is;
      note_size = low;
      ends = ends;
      fits = omega (arith, fit.tree_fits);
    }
