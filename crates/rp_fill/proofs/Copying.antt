-- What was written of a source so far.
use Rattle.std.proofs.Common.{◌≡◌, ℕ, ◌+◌, ◌-◌, ◌*◌, ◌<◌, ◌≤◌, inl, min, false, List, [], ◌∷◌, ◌++◌, length, Option, Some, None, Result, Ok, Err, IfSome, OnErr, refl, sym, ap, ◌∙◌, subst, arith, replicate}
use Rattle.std.specs.Prelude.{IsErr, nat_lt, unwrap_or}
use Rattle.std.proofs.lemmas.Bool.{le-ltb}
use Rattle.std.proofs.lemmas.List.{append-nil, length-replicate}
use Rattle.rp_base.specs.Image.{bytes_at}
use Rattle.rp_disk.specs.Calls.{overwritten, resized}
use Rattle.rp_disk.specs.History.{held}
use Rattle.rp_disk.specs.Device.{Device, StaysInsideWhere}
use Rattle.rp_disk.specs.Made.{Made, Done, Past, dones, history_of}
use Rattle.rp_disk.specs.Ranges.{Inside}
use Rattle.rp_disk.specs.Runs.{BrokeOff, Runs}
use Rattle.rp_disk.specs.Stops.{Each}
use Rattle.rp_disk.specs.declared.call.Call.{Call}
use Rattle.rp_disk.specs.declared.call.Call.TheVariants.{Write}
use Rattle.rp_disk.proofs.Agreeing.{length-overwritten, length-resized}
use Rattle.rp_disk.proofs.Ranges.{length-all_done}
use Rattle.rp_disk.proofs.Runs.{broke_off_in, history_of-dones, one_more, held-all_did}
use Rattle.rp_io.specs.Files.{Reads, content, passes}
use Rattle.rp_io.specs.declared.stored.Stored.{Stored}
use Rattle.rp_steps.specs.Calls.{in_pieces}
use Rattle.rp_fill.specs.Copied.{CopiesPiece, HasAll, IsCopyOf, IsRead, file_bytes}
use Rattle.rp_steps.specs.Writes.{piece, pieces}
use Rattle.rp_fill.specs.declared.fault.FillFault.{FillFault}
use Rattle.rp_fill.specs.declared.fault.FillFault.TheVariants.{Disk, Source}
use Rattle.rp_fill.proofs.Pieces.{all_pieces, piece-put, piece_call, piece_in, pieces-inside, pieces-more, pieces-put, put_read, some_pieces}

-- strays

-- no call went past the end of a disk that reaches so far
unfoldable pub StaysIn : Device → Device → ℕ → Type 0
StaysIn old now end = StaysInsideWhere old now (λ h. end ≤ length (held h))

pub stays_in : (old now : Device) (end : ℕ) → StaysInsideWhere old now (λ h. end ≤ length (held h)) → StaysIn old now end
unfolding StaysIn
stays_in old now end stays = stays

pub stays_says : (old now : Device) (end : ℕ) → StaysIn old now end → StaysInsideWhere old now (λ h. end ≤ length (held h))
unfolding StaysIn
stays_says old now end stays = stays

pub stays_none : (old : Device) (end : ℕ) → StaysIn old old end
unfolding StaysIn
stays_none old end = λ past reaches. refl

-- calls inside a disk keep its length
same_length : (past : Past) (old : List Made) (calls : List Call) → Each (Inside (length (held (history_of past old)))) calls
    → length (held (history_of past (old ++ dones calls))) ≡ length (held (history_of past old))
same_length past old calls inside =
    ap (λ h. length (held h)) (history_of-dones past old calls) ∙ ap length (held-all_did (history_of past old) calls)
    ∙ length-all_done calls (held (history_of past old)) _ refl inside

pub stays_more : (old mid now : Device) (calls : List Call) (end some : ℕ) → ((n : ℕ) → end ≤ n → Each (Inside n) calls)
    → mid.calls ≡ old.calls ++ dones calls → some ≤ end → StaysIn old mid end → StaysIn mid now some → StaysIn old now end
unfolding StaysIn
stays_more old mid now calls end some inside so fits before after = λ past reaches.
    let long : length (held (history_of past mid.calls)) ≡ length (held (history_of past old.calls)) =
    ap (λ (l : List Made). length (held (history_of past l))) so ∙ same_length past old.calls calls (inside _ reaches) in
    after past (omega (arith, long, reaches)) ∙ before past reaches

-- no call passed the end of a file that reaches so far
unfoldable pub Reaches : Option (List Stored) → List ℕ → ℕ → ℕ → ℕ → Type 0
Reaches told path end old new = IfSome told (λ files. passes (content files path) end ≡ false → new ≡ old)

pub reaches : (told : Option (List Stored)) (path : List ℕ) (end old new : ℕ)
    → IfSome told (λ files. passes (content files path) end ≡ false → new ≡ old) → Reaches told path end old new
unfolding Reaches
reaches told path end old new says = says

pub reaches_says : (told : Option (List Stored)) (path : List ℕ) (end old new : ℕ) → Reaches told path end old new
    → IfSome told (λ files. passes (content files path) end ≡ false → new ≡ old)
unfolding Reaches
reaches_says told path end old new says = says

pub reaches_none : (told : Option (List Stored)) (path : List ℕ) (end strays : ℕ) → Reaches told path end strays strays
unfolding Reaches
reaches_none None path end strays = tt
reaches_none (Some files) path end strays = λ within. refl

ltb_le : (a b : ℕ) → nat_lt a b ≡ false → b ≤ a
ltb_le a b says = grind arith

passes_less : (found : Option (List ℕ)) (some end : ℕ) → some ≤ end → passes found end ≡ false → passes found some ≡ false
passes_less None some end less within = within
passes_less (Some bytes) some end less within = le-ltb _ _ (let all = ltb_le (length bytes) end within in omega arith)

pub reaches_more : (told then_told : Option (List Stored)) (path : List ℕ) (end some a b c : ℕ) → then_told ≡ told → some ≤ end
    → Reaches told path end a b → Reaches then_told path some b c → Reaches told path end a c
unfolding Reaches
reaches_more None then_told path end some a b c same less before after = tt
reaches_more (Some files) then_told path end some a b c same less before after = λ within.
    let later : IfSome (Some files) (λ files. passes (content files path) some ≡ false → c ≡ b) = rw same at after in
    later (passes_less (content files path) some end less within) ∙ before within

-- bytes

-- so many pieces of a copy were written
pub record CopiedSoFar (told : Option (List Stored)) (path : List ℕ) (len at k : ℕ) (old now : List Made) : Type 0 where
  pub bytes : List ℕ
  pub copy : IsCopyOf told path len bytes
  pub made : now ≡ old ++ dones (some_pieces at bytes k)

first_copy : (told : Option (List Stored)) (path : List ℕ) (len : ℕ) → (bytes : List ℕ) × IsCopyOf told path len bytes
first_copy None path len = (replicate len 0, record { size = length-replicate {A = ℕ} len 0; same = tt })
first_copy (Some files) path len = (resized (file_bytes files path) len, record { size = length-resized (file_bytes files path) len; same = refl })

pub copied_none : (told : Option (List Stored)) (path : List ℕ) (len at : ℕ) (old : List Made) → CopiedSoFar told path len at 0 old old
copied_none told path len at old =
    let c = first_copy told path len in
    record { bytes = c.0; copy = c.1; made = sym (append-nil old) }

-- what was read next, put in its place
read_file : (found : Option (List ℕ)) (from n : ℕ) (read : List ℕ) → Reads found from n read
    → (from + n ≤ length (unwrap_or found [])) × (read ≡ bytes_at (unwrap_or found []) from n)
read_file None from n read is = absurd is
read_file (Some bytes) from n read is = is

pub copy_put : (told : Option (List Stored)) (path : List ℕ) (len from : ℕ) (bytes read : List ℕ) → IsCopyOf told path len bytes
    → from + length read ≤ len → IsRead told path from read → IsCopyOf told path len (overwritten bytes from read)
copy_put None path len from bytes read copy fits is =
    record { size = length-overwritten bytes from read (let size = copy.size in omega arith) ∙ copy.size; same = tt }
copy_put (Some files) path len from bytes read copy fits is =
    let r = read_file (content files path) from (length read) read is in
    record {
      size = length-overwritten bytes from read (let size = copy.size in omega arith) ∙ copy.size;
      same = ap (λ (b : List ℕ). overwritten b from read) copy.same
          ∙ ap (overwritten (resized (file_bytes files path) len) from) r.1
          ∙ put_read (file_bytes files path) len from (length read) r.0 fits;
    }

-- the copy with the piece that was read in its place: the pieces before it are as they were, and this one is what was read
pub record Put (told : Option (List Stored)) (path : List ℕ) (len at k : ℕ) (old now : List Made) (read : List ℕ) : Type 0 where
  pub bytes : List ℕ
  pub copy : IsCopyOf told path len bytes
  pub made : now ≡ old ++ dones (some_pieces at bytes k)
  pub next : piece_call at bytes k ≡ Write (at + piece * k) read

pub put_next : (told : Option (List Stored)) (path : List ℕ) (len at k : ℕ) (old now : List Made) (read : List ℕ)
    → CopiedSoFar told path len at k old now → piece * k ≤ len → length read ≡ min piece (len - piece * k)
    → IsRead told path (piece * k) read → Put told path len at k old now read
put_next told path len at k old now read so from size is =
    let all = so.copy.size in
    let fits : piece * k + length read ≤ len = omega arith in
    let in_bytes : piece * k + length read ≤ length so.bytes = omega arith in
    record {
      bytes = overwritten so.bytes (piece * k) read;
      copy = copy_put told path len (piece * k) so.bytes read so.copy fits is;
      made = so.made ∙ ap (λ l. old ++ dones l) (sym (pieces-put at so.bytes read k in_bytes));
      next = piece-put at so.bytes read k (omega arith) (size ∙ ap (λ (n : ℕ). min piece (n - piece * k)) (sym all));
    }

pub copied_more : (told : Option (List Stored)) (path : List ℕ) (len at k : ℕ) (old now new : List Made) (read : List ℕ)
    → CopiedSoFar told path len at k old now → piece * k ≤ len → length read ≡ min piece (len - piece * k)
    → IsRead told path (piece * k) read → new ≡ now ++ Done (Write (at + piece * k) read) ∷ []
    → CopiedSoFar told path len at (k + 1) old new
copied_more told path len at k old now new read so from size is done =
    let p = put_next told path len at k old now read so from size is in
    record {
      bytes = p.bytes;
      copy = p.copy;
      made = one_more old now new (some_pieces at p.bytes k) (piece_call at p.bytes k) p.made (done ∙ ap (λ c. now ++ Done c ∷ []) (sym p.next))
          ∙ ap (λ l. old ++ dones l) (sym (pieces-more at p.bytes k));
    }

-- where the sources tell, the file has all bytes of so many pieces
unfoldable pub HasPieces : Option (List Stored) → List ℕ → ℕ → ℕ → Type 0
HasPieces told path len k = IfSome told (λ files. min (piece * k) len ≤ length (file_bytes files path))

pub has_none : (told : Option (List Stored)) (path : List ℕ) (len : ℕ) → HasPieces told path len 0
unfolding HasPieces
has_none None path len = tt
has_none (Some files) path len = omega arith

-- one piece more, of sources that tell as at the beginning
pub has_more : (told then_told : Option (List Stored)) (path : List ℕ) (len k : ℕ) (read : List ℕ) → then_told ≡ told → piece * k ≤ len
    → length read ≡ min piece (len - piece * k) → IsRead then_told path (piece * k) read → HasPieces told path len (k + 1)
unfolding HasPieces
has_more None then_told path len k read same from size is = tt
has_more (Some files) then_told path len k read same from size is =
    let here : IsRead (Some files) path (piece * k) read = rw same at is in
    let r = read_file (content files path) (piece * k) (length read) read here in
    let reach : piece * k + length read ≤ length (file_bytes files path) = r.0 in
    omega arith

pub has_all : (told : Option (List Stored)) (path : List ℕ) (len k : ℕ) → HasPieces told path len k → k ≡ pieces len
    → IfSome told (λ files. len ≤ length (file_bytes files path))
unfolding HasPieces
has_all None path len k has all = tt
has_all (Some files) path len k has all = omega arith

pub not_ok : {T E : Type 0} (result : Result T E) (told : Option (List Stored)) (path : List ℕ) (len : ℕ) → IsErr result
    → HasAll told path len result
not_ok (Ok x) told path len err = absurd (let no = err in cc)
not_ok (Err e) None path len err = tt
not_ok (Err e) (Some files) path len err = tt

-- all pieces
pub copied_all : (told : Option (List Stored)) (path : List ℕ) (len at k : ℕ) (old new : List Made) → CopiedSoFar told path len at k old new
    → k ≡ pieces len → (bytes : List ℕ) × IsCopyOf told path len bytes × (new ≡ old ++ dones (in_pieces at bytes))
copied_all told path len at k old new so all = (
  so.bytes,
  so.copy,
  so.made ∙ ap (λ l. old ++ dones l)
      (ap (some_pieces at so.bytes) (all ∙ ap pieces (sym so.copy.size)) ∙ sym (all_pieces at so.bytes)),
)

-- broke off in a piece
unfoldable pub Ended : Option (List Stored) → List ℕ → ℕ → ℕ → List Made → List Made → Type 0
Ended told path len at old new = (bytes : List ℕ) × IsCopyOf told path len bytes × BrokeOff old (in_pieces at bytes) new

pub copied_part : {T : Type 0} (result : Result T FillFault) (told : Option (List Stored)) (path : List ℕ) (len at k : ℕ) (old now new : List Made) (read : List ℕ)
    → CopiedSoFar told path len at k old now → k < pieces len → length read ≡ min piece (len - piece * k)
    → CopiesPiece told path (piece * k) at read now new result → OnErr result (Ended told path len at old new)
unfolding Ended
copied_part (Ok value) told path len at k old now new read so below size is = tt
copied_part (Err Disk) told path len at k old now new read so below size is =
    let p = put_next told path len at k old now read so (omega arith) size is.0 in
    let s = piece_in at p.bytes k (let all = p.copy.size in omega arith) in (
      p.bytes,
      p.copy,
      broke_off_in old now new (some_pieces at p.bytes k) (Write (at + piece * k) read) s.0 (in_pieces at p.bytes)
          (s.1 ∙ ap (λ c. some_pieces at p.bytes k ++ c ∷ s.0) p.next) p.made is.1,
    )
copied_part (Err Source) told path len at k old now new read so below size is =
    let s = piece_in at so.bytes k (let all = so.copy.size in omega arith) in (
      so.bytes,
      so.copy,
      broke_off_in old now new (some_pieces at so.bytes k) (piece_call at so.bytes k) s.0 (in_pieces at so.bytes)
          s.1 so.made (inl is),
    )

-- strays while pieces are written

pub stays_pieces : (old mid now : Device) (at len k some : ℕ) (bytes : List ℕ) → length bytes ≡ len → k ≤ pieces len
    → mid.calls ≡ old.calls ++ dones (some_pieces at bytes k) → some ≤ at + len
    → StaysIn old mid (at + len) → StaysIn mid now some → StaysIn old now (at + len)
stays_pieces old mid now at len k some bytes long few so fits before after =
    stays_more old mid now (some_pieces at bytes k) (at + len) some
    (λ n le. pieces-inside at bytes k n (omega (arith, long, le)) (rw long few)) so fits before after

pub stays_copied : (old mid now : Device) (told : Option (List Stored)) (path : List ℕ) (at len k some : ℕ)
    → k ≤ pieces len → CopiedSoFar told path len at k old.calls mid.calls → some ≤ at + len
    → StaysIn old mid (at + len) → StaysIn mid now some → StaysIn old now (at + len)
stays_copied old mid now told path at len k some few so fits before after =
    stays_pieces old mid now at len k some so.bytes so.copy.size few so.made fits before after

-- a run that ended so
pub run_ended : {T E : Type 0} (result : Result T E) (told : Option (List Stored)) (path : List ℕ) (len at : ℕ) (old new : List Made)
    → IsErr result → Ended told path len at old new
    → (bytes : List ℕ) × IsCopyOf told path len bytes × Runs old (in_pieces at bytes) new result
unfolding Ended
run_ended (Ok value) told path len at old new is ended = cc
run_ended (Err e) told path len at old new is ended = (ended.0, ended.1, record { ok = tt; err = ended.2 })

-- the same, of sources that tell as at the beginning
pub copied_part_of : {T : Type 0} (result : Result T FillFault) (told then_told : Option (List Stored)) (path : List ℕ) (len at k : ℕ)
    (old now new : List Made) (read : List ℕ) → then_told ≡ told → CopiedSoFar told path len at k old now → k < pieces len
    → length read ≡ min piece (len - piece * k) → CopiesPiece then_told path (piece * k) at read now new result
    → OnErr result (Ended told path len at old new)
copied_part_of result told then_told path len at k old now new read same so below size is =
    let P : Option (List Stored) → Type 0 = λ t. CopiesPiece t path (piece * k) at read now new result in
    copied_part result told path len at k old now new read so below size (subst P same is)
