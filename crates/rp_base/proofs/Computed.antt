-- Sizes that were worked out by hand come out of the definitions.
use Rattle.std.proofs.Common.{◌≡◌, refl}
use Rattle.rp_base.specs.Geometry.{array_sectors, copy_bytes, least_sectors, first_usable, usable_end}
use Rattle.rp_base.specs.Trees.{levels, level_blocks, hash_blocks}

copy_of_128_entries : copy_bytes 128 512 ≡ 16896
copy_of_128_entries = refl

copy_in_large_sectors : copy_bytes 128 4096 ≡ 20480
copy_in_large_sectors = refl

longest_copy : copy_bytes 1024 4096 ≡ 135168
longest_copy = refl

array_of_129_entries : array_sectors 512 129 ≡ 33
array_of_129_entries = refl

least_disk : least_sectors 512 128 ≡ 68
least_disk = refl

first_behind_128_entries : first_usable 512 128 ≡ 34
first_behind_128_entries = refl

end_before_256_entries : usable_end 512 256 131072 ≡ 131007
end_before_256_entries = refl

end_in_large_sectors : usable_end 4096 128 16384 ≡ 131032
end_in_large_sectors = refl

levels_of_one_block : levels 1 ≡ 0
unfolding levels
levels_of_one_block = refl

levels_of_128_blocks : levels 128 ≡ 1
unfolding levels
levels_of_128_blocks = refl

levels_of_129_blocks : levels 129 ≡ 2
unfolding levels
levels_of_129_blocks = refl

tree_of_one_block : hash_blocks 1 ≡ 1
unfolding hash_blocks levels level_blocks
tree_of_one_block = refl

tree_of_128_blocks : hash_blocks 128 ≡ 2
unfolding hash_blocks levels level_blocks
tree_of_128_blocks = refl

tree_of_129_blocks : hash_blocks 129 ≡ 4
unfolding hash_blocks levels level_blocks
tree_of_129_blocks = refl

tree_of_400_mib : hash_blocks 102400 ≡ 809
unfolding hash_blocks levels level_blocks
tree_of_400_mib = refl
