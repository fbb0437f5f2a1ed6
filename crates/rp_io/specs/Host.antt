-- What is made of the answers of the host. No call is made here.
use Rattle.std.specs.Prelude.{ℕ, List, Bool, false, ◌&&◌, ◌||◌, not, if◌then◌else◌, ◌==◌, nat_eq, bit_and, codes, Option, Some, None, Result, Ok, Err, filter, length}
use Rattle.std.specs.List.{slice_split, ends_with}
use Rattle.std.specs.Str.{bytes_eq}
use Rattle.std.specs.Fs.{metadata_mode}
use Rattle.std.specs.IoError.{error_kind}
use Rattle.std.specs.declared.fs.attrs.Metadata.{Metadata}
use Rattle.std.specs.declared.io.Error.{Error}
use Rattle.std.specs.declared.io.ErrorKind.{ErrorKind}
use Rattle.std.specs.declared.io.ErrorKind.TheVariants.{NotFound, InvalidFilename, OutOfMemory}
use Rattle.rp_io.specs.declared.fault.IoFault.{IoFault}
use Rattle.rp_io.specs.declared.fault.IoFault.TheVariants.{Failed, Memory}

-- an error is a failure, but want of memory
abbrev pub fault_at : ErrorKind → IoFault
fault_at OutOfMemory = Memory
fault_at kind = Failed

-- the type of a file (inode(7), S_IFMT)
abbrev pub type_bits : Metadata → ℕ
type_bits metadata = bit_and (metadata_mode metadata) 0o170000

-- a folder (inode(7), S_IFDIR)
abbrev pub is_folder : Metadata → Bool
is_folder metadata = type_bits metadata == 0o040000

-- a pipe or a socket (inode(7), S_IFIFO, S_IFSOCK): its reader may wait for another process
abbrev pub may_wait : Metadata → Bool
may_wait metadata = type_bits metadata == 0o010000 || type_bits metadata == 0o140000

-- whether a name is listed: whatever isn't a folder is; a link to nothing isn't; any other error is a fault
abbrev pub listed_at : ErrorKind → Result Bool IoFault
listed_at NotFound = Ok false
listed_at kind = Err (fault_at kind)

abbrev pub listed : Result Metadata Error → Result Bool IoFault
listed (Ok metadata) = Ok (not (is_folder metadata))
listed (Err error) = listed_at (error_kind error)

-- the folder of the drop-ins of a definition file, by its path
abbrev pub is_drop_in_folder : List ℕ → Bool
is_drop_in_folder dir = ends_with nat_eq dir (codes ".conf.d")

-- a folder that can't be opened: it isn't there where it is missing, and where it is one of drop-ins with too long a name
abbrev pub not_opened : {D : Type 0} → Bool → ErrorKind → Result (Option D) IoFault
not_opened is_drop_in NotFound = Ok None
not_opened is_drop_in InvalidFilename = if is_drop_in then Ok None else Err Failed
not_opened is_drop_in kind = Err (fault_at kind)

-- the folder that was opened, if it is there
abbrev pub opened : {D : Type 0} → Bool → Result D Error → Result (Option D) IoFault
opened is_drop_in (Ok folder) = Ok (Some folder)
opened is_drop_in (Err error) = not_opened is_drop_in (error_kind error)

-- a file's bytes can be read without waiting; an error is a fault
abbrev pub readable : Result Metadata Error → Result Bool IoFault
readable (Ok metadata) = Ok (not (may_wait metadata))
readable (Err error) = Err (fault_at (error_kind error))

-- a source is whatever is neither a folder nor a pipe nor a socket
abbrev pub is_source : Result Metadata Error → Bool
is_source (Ok metadata) = not (is_folder metadata || may_wait metadata)
is_source (Err error) = false

-- a name of a listing, but `.` and `..`
abbrev pub is_entry : List ℕ → Bool
is_entry name = not (length name == 0) && not (bytes_eq name (codes ".") || bytes_eq name (codes ".."))

-- the names in a listing, each ended by a NUL
abbrev pub entries : List ℕ → List (List ℕ)
entries listing = filter is_entry (slice_split (λ byte. byte == 0) listing)
