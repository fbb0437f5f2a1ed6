-- What is written through a lent slice.
use Rattle.std.specs.Prelude.{List, ◌++◌, take, drop, length}

-- a list after these items were written over its first ones; as many as the list has are the list then
abbrev pub rewritten : {T : Type 0} → List T → List T → List T
rewritten old items = take (length old) (items ++ drop (length items) old)
