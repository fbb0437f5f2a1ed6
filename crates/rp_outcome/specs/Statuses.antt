-- The exit statuses.
use Rattle.std.specs.Prelude.{ℕ}

-- the command is done
abbrev pub done : ℕ
done = 0

-- what was asked for is told, and isn't so
abbrev pub differs : ℕ
differs = 1

-- the words aren't canonical
abbrev pub words : ℕ
words = 2

-- the definition files are no list of definitions
abbrev pub definitions : ℕ
definitions = 3

-- the image isn't accepted
abbrev pub image : ℕ
image = 4

-- what the definitions ask for can't be had
abbrev pub demand : ℕ
demand = 5

-- the disk failed
abbrev pub disk : ℕ
disk = 7

-- the folders or the sources failed
abbrev pub files : ℕ
files = 8

-- the sink failed once all else was done
abbrev pub sink : ℕ
sink = 9

-- out of memory
abbrev pub memory : ℕ
memory = 10

-- the bytes that were copied have another root hash than those that were planned
abbrev pub changed : ℕ
changed = 11
