-- What the sources that are made from a number are, from outside.
use Rattle.std.specs.Prelude.{ℕ, List}
use Rattle.rp_io.specs.MemSources.{failures, files_of, stray_calls}
use Rattle.rp_io.specs.declared.stored.Stored.{Stored}
use Rattle.rp_make_input.specs.declared.sources.MadeSources.{MadeSources}

-- the files
abbrev pub files_in : MadeSources → List Stored
files_in made = files_of made.sources

-- how many calls failed
abbrev pub failures_of : MadeSources → ℕ
failures_of made = failures made.sources

-- how many calls named a path that isn't there or passed a file's end
abbrev pub strays_of : MadeSources → ℕ
strays_of made = stray_calls made.sources
