-- What a well formed plan says of its rows.
use Rattle.std.proofs.Common.{◌≡◌, ℕ, ◌*◌, ◌/◌, ◌<◌, ◌≤◌, Bool, true, false, cond, List, [], ◌∷◌, length, get_or, Option, Some, None, refl, sym, ap, ◌∙◌, subst, arith, All, IfSome, IsSome, find}
use Rattle.std.proofs.lemmas.List.{length-map}
use Rattle.std.proofs.lemmas.List.Elements.{All-tail}
use Rattle.std.proofs.lemmas.Slice.Zip.{get_or-zip, length-zip}
use Rattle.rp_base.specs.Plan.{HasPartner, IsPair, IsWellFormed, Noted, noted_of}
use Rattle.rp_base.specs.Table.{IsWritableRow}
use Rattle.rp_base.specs.Trees.{hash_blocks}
use Rattle.rp_base.specs.declared.guid.Guid.{Guid}
use Rattle.rp_base.specs.declared.plan.Note.{Note}
use Rattle.rp_base.specs.declared.plan.Plan.{Plan}
use Rattle.rp_base.specs.declared.plan.Role.{Role}
use Rattle.rp_base.specs.declared.plan.Role.TheVariants.{Plain, Data, Hash}
use Rattle.rp_base.specs.declared.seen.Seen.{Seen}
use Rattle.rp_base.specs.declared.table.Row.{Row}
use Rattle.rp_steps.specs.Planned.{HasRoom, IsPlanned}
use Rattle.rp_steps.specs.Steps.{source_len}

-- the row of a slot is one of the rows
found_here : (row other : Row) (rest : Option Row) (b : Bool) → cond b (Some row) rest ≡ Some other
    → (rest ≡ Some other → other.start < 36028797018963968)
    → row.start < 36028797018963968 → other.start < 36028797018963968
found_here row other rest true is later small = let same : row ≡ other = cc in subst (λ r. r.start < 36028797018963968) same small
found_here row other rest false is later small = later is

pub found_small : (test : Row → Bool) (rows : List Row) (row : Row) → All (λ row. row.start < 36028797018963968) rows
    → find test rows ≡ Some row
    → row.start < 36028797018963968
found_small test [] row small is = cc
found_small test (r ∷ rows) row small is =
    found_here r row (find test rows) (test r) is (found_small test rows row (All-tail (λ (r : Row). r.start < 36028797018963968) r rows small)) (small 0 r (omega arith))

-- each row has its note
pub one_note : (seen : Seen) (plan : Plan) → IsWellFormed seen plan → length plan.notes ≡ length plan.goal.rows
one_note seen plan formed =
    sym (length-map plan.notes (λ (note : Note). note.slot)) ∙ ap length formed.notes ∙ length-map plan.goal.rows (λ (row : Row). row.slot)

-- so a row with its note is a row of the goal
module _ (seen : Seen) (plan : Plan) (formed : IsWellFormed seen plan) where
  pub length-noted_of : length (noted_of plan) ≡ length plan.goal.rows
  length-noted_of = omega (arith, length-zip plan.goal.rows plan.notes, one_note seen plan formed)

  pub writable : All (λ noted. IsWritableRow plan.goal.sector plan.goal.entries noted.0) (noted_of plan)
  writable k d below =
      let here : k < length plan.goal.rows = omega (arith, length-noted_of) in
      let there : k < length plan.notes = omega (arith, one_note seen plan formed) in
      subst (λ (noted : Noted). IsWritableRow plan.goal.sector plan.goal.entries noted.0) (sym (get_or-zip plan.goal.rows plan.notes k d here there))
      (formed.writable.rows.rows k d.0 here)

source_fits : (source file : Option ℕ) (size : ℕ) → IfSome source (λ bytes. IsSome file × (bytes ≤ size)) → (note : Note)
    → note.source ≡ source → source_len note ≤ size
source_fits None file size holds note is = rw is (omega arith)
source_fits (Some bytes) file size holds note is = rw is holds.1

-- a pair's tree is over whole blocks of the data
paired : (noted other : Noted) (partner blocks : ℕ) (salt : List ℕ) (uuid : Guid) (root : List ℕ)
    → noted.1.role ≡ Hash partner blocks salt uuid root
    → (1 ≤ other.0.size) × (other.0.size ≤ 34359738368) → IsPair other noted → (1 ≤ blocks) × (blocks ≤ 4294967296) × (8 * hash_blocks blocks ≤ noted.0.size)
paired noted other partner blocks salt uuid root is sized pair =
    let e : blocks ≡ other.0.size / 8 = let h = pair.hash_role.3 in cc in
    let whole = pair.whole in
    let least = sized.0 in
    let most = sized.1 in
    (omega arith, omega arith, subst (λ (n : ℕ). 8 * hash_blocks n ≤ noted.0.size) (sym e) pair.room)

room : (rows : List Noted) (noted : Noted) (role : Role) → noted.1.role ≡ role
    → All (λ other. (1 ≤ other.0.size) × (other.0.size ≤ 34359738368)) rows
    → HasPartner rows noted role → HasRoom noted.0 role
room rows noted Plain is sizes has = tt
room rows noted (Data partner root) is sizes has = tt
room rows noted (Hash partner blocks salt uuid root) is sizes has =
    let sized : (1 ≤ has.1.0.size) × (has.1.0.size ≤ 34359738368) =
    subst (λ (other : Noted). (1 ≤ other.0.size) × (other.0.size ≤ 34359738368)) has.3 (sizes has.0 has.1 has.2) in
    paired noted has.1 partner blocks salt uuid root is sized has.4

pub planned : (seen : Seen) (plan : Plan) → IsWellFormed seen plan → All IsPlanned (noted_of plan)
planned seen plan formed k d below =
    let noted = get_or (noted_of plan) k d in
    let row = writable seen plan formed k d below in record {
      fits = omega (arith, row.fits);
      source = source_fits noted.1.source noted.1.file (512 * noted.0.size) (formed.sources k d below) noted.1 refl;
      tree = room (noted_of plan) noted noted.1.role refl
          (λ j e there. let other = writable seen plan formed j e there in (other.size, omega (arith, other.fits))) (formed.pairs k d below);
    }
