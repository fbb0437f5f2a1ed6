-- The names so far and those left are 256.
use Rattle.std.proofs.Common.{◌≡◌, ◌+◌, take, map}
use Rattle.rp_files.specs.Pieces.{count_of}
use Rattle.rp_files.specs.Found.{group_of}
use Rattle.rp_files.proofs.loader.has_too_many.Given as goal

abbrev pub invariant-loop-group : goal.invariant-loop-group
invariant-loop-group l = l.left + count_of (map group_of (take l.group-index l.groups)) ≡ 256
