-- What a copy of a source writes: own rules.
use Rattle.std.specs.Prelude.{ℕ, ◌≡◌, ◌⊎◌, ◌+◌, ◌≤◌, List, [], ◌∷◌, ◌++◌, Option, IfSome, OnOk, Result, Ok, Err, length, unwrap_or}
use Rattle.rp_disk.specs.Calls.{resized}
use Rattle.rp_disk.specs.Made.{Made, Done, Broke}
use Rattle.rp_disk.specs.declared.call.Call.TheVariants.{Write}
use Rattle.rp_io.specs.Files.{Reads, content}
use Rattle.rp_io.specs.declared.stored.Stored.{Stored}
use Rattle.rp_fill.specs.declared.fault.FillFault.{FillFault}
use Rattle.rp_fill.specs.declared.fault.FillFault.TheVariants.{Disk, Source}

-- the bytes of the file at a path, none where there is no such file
abbrev pub file_bytes : List Stored → List ℕ → List ℕ
file_bytes files path = unwrap_or (content files path) []

-- so many bytes; where the sources tell, the first ones of the file, and zeros stand for what it lacks, which no copying reads
pub record IsCopyOf (told : Option (List Stored)) (path : List ℕ) (len : ℕ) (bytes : List ℕ) : Type 0 where
  pub size : length bytes ≡ len
  pub same : IfSome told (λ files. bytes ≡ resized (file_bytes files path) len)

-- where the sources tell, an Ok comes only where the file has so many bytes
abbrev pub HasAll : {T E : Type 0} → Option (List Stored) → List ℕ → ℕ → Result T E → Type 0
HasAll told path len result = IfSome told (λ files. OnOk result (len ≤ length (file_bytes files path)))

-- what was read are these bytes of a file, where the sources tell
abbrev pub IsRead : Option (List Stored) → List ℕ → ℕ → List ℕ → Type 0
IsRead told path from read = IfSome told (λ files. Reads (content files path) from (length read) read)

-- a piece was read and written; it was read and not written whole; or it wasn't read, and nothing was written
abbrev pub CopiesPiece : {T : Type 0} → Option (List Stored) → List ℕ → ℕ → ℕ → List ℕ → List Made → List Made → Result T FillFault → Type 0
CopiesPiece told path from at read old new (Ok value) = IsRead told path from read × (new ≡ old ++ Done (Write (at + from) read) ∷ [])
CopiesPiece told path from at read old new (Err Disk) =
    IsRead told path from read × ((new ≡ old) ⊎ (new ≡ old ++ Broke (Write (at + from) read) ∷ []))
CopiesPiece told path from at read old new (Err Source) = new ≡ old
