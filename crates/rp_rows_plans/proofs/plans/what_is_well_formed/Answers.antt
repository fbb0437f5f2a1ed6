-- By the part that is turned; of a pair by each row that could be the other half.
use Rattle.std.proofs.Common.{◌≡◌, ◌≤◌, ◌*◌, inl, inr, refl, ap, replicate, arith, ℕ}
use Rattle.rp_base.specs.Plan.{IsPair}
use Rattle.rp_base.specs.Trees.{hash_blocks}
use Rattle.rp_base.specs.declared.plan.Note.{Note}
use Rattle.rp_base.specs.declared.plan.Role.{Role}
use Rattle.rp_base.specs.declared.plan.Role.TheVariants.{Data, Hash, Plain}
use Rattle.rp_base.specs.declared.table.Row.{Row}
use Rattle.rp_rows_plans.specs.Values.{guid, hash, hash_note, kept, old, payload, payload_note}
use Rattle.rp_rows_plans.proofs.Meeting.{tree_of_the_data, well_formed}
use Rattle.rp_rows_plans.proofs.Three.{any_of_three}
use Rattle.rp_rows_plans.proofs.plans.what_is_well_formed.Goals as goal

abbrev blocks_of : Role → ℕ
blocks_of Plain = 0
blocks_of (Data partner root) = 0
blocks_of (Hash partner blocks salt uuid root) = blocks

pub returns-clause-met : goal.returns-clause-met
returns-clause-met c = well_formed

pub returns-clause-writable : goal.returns-clause-writable
returns-clause-writable c = λ fine. (fine.writable.rows.rows 0 old (omega arith)).used refl

pub returns-clause-in_place : goal.returns-clause-in_place
returns-clause-in_place c = λ fine. elim (fine.in_place.rows.apart 0 1 old (omega arith) (omega arith)) [
  | inl w ↦ absurd (omega (arith, w))
  | inr w ↦ absurd (omega (arith, w))
]

pub returns-clause-source : goal.returns-clause-source
returns-clause-source c = λ fine. absurd (omega (arith, (fine.sources 1 (old, kept) (omega arith)).1))

pub returns-clause-file : goal.returns-clause-file
returns-clause-file c = λ fine. let file = (fine.sources 1 (old, kept) (omega arith)).0 in cc

pub returns-clause-new_pair : goal.returns-clause-new_pair
returns-clause-new_pair c = λ fine.
    let change = (fine.pairs 1 (old, kept) (omega arith)).4.new.0 in
    cc

pub returns-clause-whole_pair : goal.returns-clause-whole_pair
returns-clause-whole_pair c = λ fine. absurd (omega (arith, (fine.pairs 1 (old, kept) (omega arith)).4.whole))

pub returns-clause-room : goal.returns-clause-room
returns-clause-room c = λ fine.
    let small : Row = record hash { size = 15 } in
    elim (any_of_three (IsPair (payload, payload_note)) (old, kept) (payload, payload_note) (small, hash_note)
    (fine.pairs 1 (old, kept) (omega arith))) [
      | inl pair ↦ let role = pair.hash_role.3 in cc
      | inr rest ↦ elim rest [
        | inl pair ↦ let role = pair.hash_role.3 in cc
        | inr pair ↦
            let room : 8 * hash_blocks 128 ≤ 15 = pair.room in
            absurd (omega (arith, room, tree_of_the_data))
      ]
    ]

pub returns-clause-partner : goal.returns-clause-partner
returns-clause-partner c = λ fine.
    let note : Note = record payload_note { role = Data 0 (replicate 32 7) } in
    elim (any_of_three (IsPair (payload, note)) (old, kept) (payload, note) (hash, hash_note) (fine.pairs 1 (old, kept) (omega arith))) [
      | inl pair ↦ let role = pair.hash_role.3 in cc
      | inr rest ↦ elim rest [
        | inl pair ↦ let role = pair.hash_role.3 in cc
        | inr pair ↦
            let role : Data 0 (replicate 32 7) ≡ Data 2 pair.payload_role.0 = pair.payload_role.1 in
            cc
      ]
    ]

pub returns-clause-half : goal.returns-clause-half
returns-clause-half c = λ fine.
    let note : Note = record hash_note { role = Plain } in
    elim (any_of_three (IsPair (payload, payload_note)) (old, kept) (payload, payload_note) (hash, note)
    (fine.pairs 1 (old, kept) (omega arith))) [
      | inl pair ↦ let role = pair.hash_role.3 in cc
      | inr rest ↦ elim rest [
        | inl pair ↦ let role = pair.hash_role.3 in cc
        | inr pair ↦ let role = pair.hash_role.3 in cc
      ]
    ]

pub returns-clause-blocks : goal.returns-clause-blocks
returns-clause-blocks c = λ fine.
    let note : Note = record hash_note { role = Hash 1 127 (replicate 32 5) (guid 8) (replicate 32 7) } in
    elim (any_of_three (IsPair (payload, payload_note)) (old, kept) (payload, payload_note) (hash, note)
    (fine.pairs 1 (old, kept) (omega arith))) [
      | inl pair ↦ let role = pair.hash_role.3 in cc
      | inr rest ↦ elim rest [
        | inl pair ↦ let role = pair.hash_role.3 in cc
        | inr pair ↦ let number : 127 ≡ 128 = ap blocks_of pair.hash_role.3 in absurd (omega (arith, number))
      ]
    ]
