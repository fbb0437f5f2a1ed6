-- What one step finds.
use Rattle.std.proofs.Common.{◌≡◌, ℕ, zero, suc, ◌+◌, ◌-◌, ◌*◌, ◌<◌, ◌≤◌, List, [], ◌∷◌, ◌++◌, length, map, take, replicate, Option, Some, None, refl, ap, ◌∙◌, arith, All, append-nil}
use Rattle.std.specs.List.{range_with_len}
use Rattle.std.proofs.lemmas.List.{length-replicate, take_all}
use Rattle.std.proofs.lemmas.List.Elements.{All-cons, All-nil}
use Rattle.std.proofs.lemmas.List.FromFn.{length-map-range_with_len}
use Rattle.rp_base.specs.Image.{bytes_at}
use Rattle.rp_disk.specs.Calls.{resized}
use Rattle.rp_disk.specs.History.{held}
use Rattle.rp_disk.specs.Made.{Past, Made, history_of}
use Rattle.rp_disk.proofs.Agreeing.{length-resized}
use Rattle.rp_disk.proofs.Ranges.{length-bytes_at}
use Rattle.rp_fill.specs.Copied.{IsCopyOf, file_bytes}
use Rattle.rp_format.specs.Written.{AreBlocks, AreShown}
use Rattle.rp_format.specs.declared.tree.TreePlan.{TreePlan}
use Rattle.rp_io.specs.declared.stored.Stored.{Stored}
use Rattle.rp_step.specs.Found.{Found, IsFound, Outside, nothing_found, tree_of}
use Rattle.rp_step.specs.Sourced.{path_at}
use Rattle.rp_steps.specs.declared.step.Step.{Step}
use Rattle.rp_steps.specs.declared.step.Step.TheVariants.{Grow, Zero, Copy, Tree, ClosePrimary, ArrayPrimary, HeaderPrimary, CloseBackup, ArrayBackup, HeaderBackup, Mbr, Sync}
use Rattle.rp_verity.specs.Filled.{cut}

-- what holds of each number of a row of them
All-map-range : (P : List ℕ → Type 0) (f : ℕ → List ℕ) (a n : ℕ) → ((k : ℕ) → a ≤ k → k < a + n → P (f k))
    → All P (map f (range_with_len a n))
All-map-range P f a zero each = All-nil P
All-map-range P f a (suc n) each =
    All-cons P (f a) (map f (range_with_len (a + 1) n)) (each a (omega arith) (omega arith))
    (All-map-range P f (a + 1) n (λ k low high. each k (omega arith) (omega arith)))

-- bytes for a copy
some_copy : (told : Option (List Stored)) (path : List ℕ) (len : ℕ) → (bytes : List ℕ) × IsCopyOf told path len bytes
some_copy None path len = (replicate len 0, record { size = length-replicate {A = ℕ} len 0; same = tt })
some_copy (Some files) path len = (
  resized (file_bytes files path) len,
  record { size = length-resized (file_bytes files path) len; same = refl },
)

-- bytes that are cut into blocks
are_blocks : (count : ℕ) (bytes : List ℕ) → length bytes ≡ 4096 * count → AreBlocks count (cut count bytes)
are_blocks count bytes long = record {
  count = length-map-range_with_len (λ k. bytes_at bytes (4096 * k) 4096) 0 count;
  whole = All-map-range (λ block. length block ≡ 4096) (λ k. bytes_at bytes (4096 * k) 4096) 0 count
      (λ k low high. length-bytes_at bytes (4096 * k) 4096 (omega (arith, long)));
}

-- bytes in their own length
resized-same : (bytes : List ℕ) (n : ℕ) → length bytes ≡ n → resized bytes n ≡ bytes
resized-same bytes n long =
    let none : n - length bytes ≡ 0 = omega (arith, long) in
    ap (λ (m : ℕ). take n bytes ++ replicate m 0) none ∙ append-nil (take n bytes) ∙ take_all n bytes (omega (arith, long))

-- data blocks for a tree
some_blocks : (tree : TreePlan) (first : Option Past) (made : List Made)
    → (blocks : List (List ℕ)) × AreBlocks tree.blocks blocks × AreShown tree first made blocks
some_blocks tree None made =
    let bytes : List ℕ = replicate (4096 * tree.blocks) 0 in
    (cut tree.blocks bytes, are_blocks tree.blocks bytes (length-replicate {A = ℕ} (4096 * tree.blocks) 0), tt)
some_blocks tree (Some first) made =
    let under = bytes_at (held (history_of first made)) tree.data_at (4096 * tree.blocks) in
    let bytes = resized under (4096 * tree.blocks) in (
      cut tree.blocks bytes,
      are_blocks tree.blocks bytes (length-resized under (4096 * tree.blocks)),
      λ reaches. ap (cut tree.blocks) (resized-same under (4096 * tree.blocks)
          (length-bytes_at (held (history_of first made)) tree.data_at (4096 * tree.blocks) reaches)),
    )

pub some_found : (outside : Outside) (made : List Made) (step : Step) → (found : Found) × IsFound outside made found step
some_found outside made (Copy file at len) =
    let c = some_copy outside.told (path_at outside.paths file) len in
    (record { bytes = c.0; blocks = [] }, c.1)
some_found outside made (Tree data_at hash_at blocks salt uuid root) =
    let b = some_blocks (tree_of data_at hash_at blocks salt uuid root) outside.first made in
    (record { bytes = []; blocks = b.0 }, (b.1, b.2))
some_found outside made (Grow len) = (nothing_found, tt)
some_found outside made (Zero at len) = (nothing_found, tt)
some_found outside made ClosePrimary = (nothing_found, tt)
some_found outside made ArrayPrimary = (nothing_found, tt)
some_found outside made HeaderPrimary = (nothing_found, tt)
some_found outside made CloseBackup = (nothing_found, tt)
some_found outside made ArrayBackup = (nothing_found, tt)
some_found outside made HeaderBackup = (nothing_found, tt)
some_found outside made Mbr = (nothing_found, tt)
some_found outside made Sync = (nothing_found, tt)
