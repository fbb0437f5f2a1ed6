-- What a place tells, by what is made of its answer.
use Rattle.std.proofs.Common.{◌≡◌, ℕ, ◌*◌, ◌/◌, List, length, Option, Some, None, Result, Ok, Err, IfSome, IfOk, refl, sym, ap, subst, ◌∙◌, inl, inr, arith}
use Rattle.std.specs.Prelude.{◌⊎◌}
use Rattle.rp_base.specs.Answers.{Gives}
use Rattle.rp_base.specs.Geometry.{IsSector}
use Rattle.rp_base.specs.Image.{sectors_of}
use Rattle.rp_base.specs.Table.{TableFits}
use Rattle.rp_base.specs.declared.geometry.Which.{Which}
use Rattle.rp_base.specs.declared.geometry.Which.TheVariants.{Primary, Backup}
use Rattle.rp_base.specs.declared.table.Table.{Table}
use Rattle.rp_gpt.specs.declared.copy.CopyFault.{CopyFault}
use Rattle.rp_gpt.specs.declared.copy.CopyFault.TheVariants as copies
use Rattle.rp_gpt.specs.declared.table_fault.TableFault.{TableFault}
use Rattle.rp_gpt.specs.declared.table_fault.TableFault.TheVariants as faults
use Rattle.rp_gpt.specs.Copy.{answer, IsPlace}
use Rattle.rp_gpt.specs.Shown.{refuses, told, told_at, answer_at, broken_entries, broken_at}
use Rattle.rp_gpt.specs.Accepted.{IsRead}
use Rattle.rp_gpt.proofs.AnswerRead.{answer-read}
use Rattle.rp_gpt.proofs.ImagePlaces.{may_have-room}
use Rattle.rp_table.specs.declared.pieces.Pieces.{Pieces}
use Rattle.rp_table.specs.declared.pieces.Place.{Place}
use Rattle.rp_table.specs.Pieces.{ArePieces, AreSized, IsPlaceOf, IsSized, TellsTable, place_in, table_or_memory}

-- a table, or none, is what the place tells
tells : (said : Result Table CopyFault) (table : Option Table) → Ok table ≡ table_or_memory said → TellsTable (told said) table
tells (Ok it) (Some table) e = cc
tells (Ok it) None e = cc
tells (Err copies.Signature) (Some table) e = cc
tells (Err copies.Signature) None e = refl
tells (Err copies.Revision) (Some table) e = cc
tells (Err copies.Revision) None e = refl
tells (Err copies.HeaderSize) (Some table) e = cc
tells (Err copies.HeaderSize) None e = refl
tells (Err copies.HeaderCrc) (Some table) e = cc
tells (Err copies.HeaderCrc) None e = refl
tells (Err copies.Place) (Some table) e = cc
tells (Err copies.Place) None e = refl
tells (Err copies.ArrayPlace) table e = cc
tells (Err (copies.Counts count size)) table e = cc
tells (Err copies.ArrayCrc) (Some table) e = cc
tells (Err copies.ArrayCrc) None e = refl
tells (Err (copies.RowOrder slot)) table e = cc
tells (Err copies.Memory) table e = cc

-- a fault is the one for which the place refuses the image, or want of memory
tells_fault : (said : Result Table CopyFault) (fault : TableFault) → Err fault ≡ table_or_memory said → (told said ≡ refuses fault) ⊎ (fault ≡ faults.Memory)
tells_fault (Ok it) fault e = cc
tells_fault (Err copies.Signature) fault e = cc
tells_fault (Err copies.Revision) fault e = cc
tells_fault (Err copies.HeaderSize) fault e = cc
tells_fault (Err copies.HeaderCrc) fault e = cc
tells_fault (Err copies.Place) fault e = cc
tells_fault (Err copies.ArrayPlace) fault e = inl (cc)
tells_fault (Err (copies.Counts count size)) fault e = inl (cc)
tells_fault (Err copies.ArrayCrc) fault e = cc
tells_fault (Err (copies.RowOrder slot)) fault e = inl (cc)
tells_fault (Err copies.Memory) fault e = inr (cc)

-- the answer of which a table was made
says_table : (said : Result Table CopyFault) (table : Table) → Ok (Some table) ≡ table_or_memory said → said ≡ Ok table
says_table (Ok it) table e = cc
says_table (Err copies.Signature) table e = cc
says_table (Err copies.Revision) table e = cc
says_table (Err copies.HeaderSize) table e = cc
says_table (Err copies.HeaderCrc) table e = cc
says_table (Err copies.Place) table e = cc
says_table (Err copies.ArrayPlace) table e = cc
says_table (Err (copies.Counts count size)) table e = cc
says_table (Err copies.ArrayCrc) table e = cc
says_table (Err (copies.RowOrder slot)) table e = cc
says_table (Err copies.Memory) table e = cc

-- the same of a reading of the answer
module _ (right said : Result Table CopyFault) (gives : Gives copies.Memory right said) where
  -- a table, or none, wasn't made of want of memory
  found : (table : Option Table) → Ok table ≡ table_or_memory said → said ≡ right
  found table e = by_gives gives where
    by_gives : Gives copies.Memory right said → said ≡ right
    by_gives (inl same) = same
    by_gives (inr memory) = let never : Ok table ≡ Err faults.Memory = e ∙ ap table_or_memory memory in cc

  read_tells : (table : Option Table) → Ok table ≡ table_or_memory said → TellsTable (told right) table
  read_tells table e = subst (λ s. TellsTable (told s) table) (found table e) (tells said table e)

  read_broken : (table : Option Table) (entries : ℕ) → Ok table ≡ table_or_memory said → broken_entries said entries ≡ broken_entries right entries
  read_broken table entries e = ap (λ s. broken_entries s entries) (found table e)

  read_refuses : (fault : TableFault) → Err fault ≡ table_or_memory said → (told right ≡ refuses fault) ⊎ (fault ≡ faults.Memory)
  read_refuses fault e = by_gives gives where
    by_gives : Gives copies.Memory right said → (told right ≡ refuses fault) ⊎ (fault ≡ faults.Memory)
    by_gives (inl same) = subst (λ s. (told s ≡ refuses fault) ⊎ (fault ≡ faults.Memory)) same (tells_fault said fault e)
    by_gives (inr memory) = let same : Err fault ≡ Err faults.Memory = e ∙ ap table_or_memory memory in inr (cc)

-- a table that was read
pub read_table : (bytes : List ℕ) (which : Which) (sectors sector : ℕ) (said : Result Table CopyFault) (table : Option Table) → IsSector sector → IsPlace sector sectors (length bytes)
    → Gives copies.Memory (answer bytes which sectors sector) said → IfOk said TableFits → Ok table ≡ table_or_memory said → IfSome table (IsRead sector sectors)
read_table bytes which sectors sector said None is place gives fits e = tt
read_table bytes which sectors sector said (Some table) is place gives fits e =
    let made = says_table said table e in
    let right = sym (found (answer bytes which sectors sector) said gives (Some table) e) ∙ made in
    answer-read bytes which sectors sector table is place (subst (λ (s : Result Table CopyFault). IfOk s TableFits) made fits) right

-- the places of pieces that are as long as those of a disk
pub place_sized : (pieces : Pieces) → AreSized pieces → (which : Which) → IsSized pieces.sector pieces.sectors (place_in pieces which)
place_sized pieces sized Primary = sized.primary
place_sized pieces sized Backup = sized.backup

pub sized_place : (sector sectors : ℕ) (place : Place) (bytes : List ℕ) → IsSized sector sectors place → bytes ≡ place.bytes → IsPlace sector sectors (length bytes)
sized_place sector sectors place bytes sized same =
    let has = may_have-room sector sectors place.entries sized.entries in
    record { entries = place.entries; allowed = has.0; whole = ap length same ∙ sized.len; room = has.1 }

-- a place of an image
module _ (image : List ℕ) (pieces : Pieces) (is : IsSector pieces.sector) (are : ArePieces image pieces) where
  pub sectors_are : sectors_of pieces.sector image ≡ pieces.sectors
  sectors_are = by_size pieces.sector is are.len where
    by_size : (sector : ℕ) → IsSector sector → length image ≡ sector * pieces.sectors → length image / sector ≡ pieces.sectors
    by_size sector (inl e) len = let len_is : length image ≡ 512 * pieces.sectors = rw e at len in rw e (omega arith)
    by_size sector (inr e) len = let len_is : length image ≡ 4096 * pieces.sectors = rw e at len in rw e (omega arith)

  pub place_is : (which : Which) → IsPlaceOf pieces.sector image which (place_in pieces which)
  place_is Primary = are.primary
  place_is Backup = are.backup

  -- bytes of a place, as they were read
  module _ (which : Which) (place : Place) (bytes : List ℕ) (here : place ≡ place_in pieces which) (same : bytes ≡ place.bytes) where
    its : IsPlaceOf pieces.sector image which place
    its = rw here (place_is which)

    answer_here : answer bytes which pieces.sectors pieces.sector ≡ answer_at pieces.sector image which
    unfolding answer_at
    answer_here = rw (same, its.bytes, its.entries, ← sectors_are) refl

    module _ (said : Result Table CopyFault) (gives : Gives copies.Memory (answer bytes which pieces.sectors pieces.sector) said) where
      gives_here : Gives copies.Memory (answer_at pieces.sector image which) said
      gives_here = subst (λ (right : Result Table CopyFault). Gives copies.Memory right said) answer_here gives

      pub here_tells : (table : Option Table) → Ok table ≡ table_or_memory said → TellsTable (told_at pieces.sector image which) table
      unfolding told_at
      here_tells table e = read_tells (answer_at pieces.sector image which) said gives_here table e

      pub here_broken : (table : Option Table) → Ok table ≡ table_or_memory said → broken_entries said place.entries ≡ broken_at pieces.sector image which
      unfolding broken_at
      here_broken table e = rw (its.entries) (read_broken (answer_at pieces.sector image which) said gives_here table _ e)

      pub here_refuses : (fault : TableFault) → Err fault ≡ table_or_memory said → (told_at pieces.sector image which ≡ refuses fault) ⊎ (fault ≡ faults.Memory)
      unfolding told_at
      here_refuses fault e = read_refuses (answer_at pieces.sector image which) said gives_here fault e
