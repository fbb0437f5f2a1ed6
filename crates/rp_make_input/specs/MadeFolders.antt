-- What the folders that are made from a number are, from outside.
use Rattle.std.specs.Prelude.{ℕ}
use Rattle.rp_io.specs.Files.{Tree}
use Rattle.rp_io.specs.MemFolders.{failures, stray_calls, tree}
use Rattle.rp_make_input.specs.declared.folders.MadeFolders.{MadeFolders}

-- the files and folders that are there
abbrev pub tree_of : MadeFolders → Tree
tree_of made = tree made.folders

-- how many calls failed
abbrev pub failures_of : MadeFolders → ℕ
failures_of made = failures made.folders

-- how many calls read a path that isn't there
abbrev pub strays_of : MadeFolders → ℕ
strays_of made = stray_calls made.folders
