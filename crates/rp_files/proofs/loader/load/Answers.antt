-- Each group is read in its turn, and its files are there.
use Rattle.std.proofs.Common.{◌≡◌, map, sym, subst, ◌∙◌, ap, Option, Ok}
use Rattle.std.specs.Prelude.{IfSome, List, true, not, nat_lt}
use Rattle.rp_files.specs.declared.found.Group.{Group as Kept}
use Rattle.std.proofs.lemmas.Result.{err_from_is_err_and}
use Rattle.rp_io.specs.Files.{Tree}
use Rattle.rp_files.specs.Pieces.{groups, count_of}
use Rattle.rp_files.specs.Found.{group_of}
use Rattle.rp_files.proofs.ReadLemmas.{strays_known, strays_chain}
use Rattle.rp_files.proofs.PieceLemmas.{groups_more, groups_fault}
use Rattle.rp_files.proofs.ThereLemmas.{group_there}
use Rattle.rp_files.proofs.Sizes.{adds_group}
use Rattle.rp_files.proofs.loader.load.Goals as goal

pub returns-in_err-found-clause-strays : goal.returns-in_err-found-clause-strays
returns-in_err-found-clause-strays g c =
    strays_known (g.F.Folders.told c.args.folders.now) (g.F.Folders.told c.loop-group.folders) _ _ _ _ _
    (c.loop-group.invariant.told ∙ c.groups.ensures.told) c.in_ok-groups.ensures.groups
    (strays_chain (g.F.Folders.told c.args.folders.now)
    (g.F.Folders.told c.groups.new.folders) _ _ _ c.groups.ensures.told c.groups.ensures.strays c.loop-group.invariant.strays)
    c.with_group.ensures.strays
    (λ tree same. group_there tree c.args.dirs.now c.deref-group-items.result.now c.loop-group.group-index c.group-item.result
    (ap (λ gs. map group_of gs) c.deref-group-items.ensures.value ∙ same) c.loop-group-test.true c.group-item.is)

pub returns-in_err-found-clause-pieces : goal.returns-in_err-found-clause-pieces
returns-in_err-found-clause-pieces g c =
    let told = g.F.Folders.told c.args.folders.now in
    let known = subst (λ (kept : List Kept). IfSome told (λ tree. map group_of kept ≡ groups tree c.args.dirs.now))
    (sym c.deref-group-items.ensures.value) c.in_ok-groups.ensures.groups in
    let few = subst (λ (kept : List Kept). true ≡ not (nat_lt 256 (count_of (map group_of kept))))
    (c.as_slice.ensures.value ∙ sym c.deref-group-items.ensures.value) c.in_ok-check_count.ensures.few in
    let passed = err_from_is_err_and c.from_residual-in_err-found.result c.from_residual-in_err-found.ensures.1 in
    rw (passed.1, passed.2)
    (groups_fault told (g.F.Folders.told c.loop-group.folders)
    (g.F.Folders.told c.groups.new.folders) c.args.dirs.now c.deref-group-items.result.now c.loop-group.group-index
    c.group-item.result c.loop-group.found c.in_err-found.field-0.0 c.groups.ensures.told c.loop-group.invariant.told c.loop-group-test.true
    c.group-item.is known few
    c.loop-group.invariant.pieces c.in_err-found.ensures.pieces)

pub loop-group-preserved : goal.loop-group-preserved
loop-group-preserved g c = record {
  told = c.with_group.ensures.told ∙ c.loop-group.invariant.told;
  pieces = groups_more (g.F.Folders.told c.groups.new.folders)
      (g.F.Folders.told c.loop-group.folders) c.deref-group-items.result.now c.loop-group.group-index c.group-item.result
      c.loop-group.found
      (Ok c.in_ok-found.found) c.loop-group.invariant.told c.loop-group-test.true c.group-item.is c.loop-group.invariant.pieces
      c.in_ok-found.ensures.pieces;
  strays = strays_known (g.F.Folders.told c.groups.new.folders)
      (g.F.Folders.told c.loop-group.folders) _ _ _ _ _ c.loop-group.invariant.told
      (subst (λ (q : Option Tree). IfSome q (λ tree. map group_of c.in_ok-groups.groups.items ≡ groups tree c.args.dirs.now))
      (sym c.groups.ensures.told) c.in_ok-groups.ensures.groups)
      c.loop-group.invariant.strays c.with_group.ensures.strays
      (λ tree same. group_there tree c.args.dirs.now c.deref-group-items.result.now c.loop-group.group-index c.group-item.result
      (ap (λ gs. map group_of gs) c.deref-group-items.ensures.value ∙ same) c.loop-group-test.true c.group-item.is);
  adds = adds_group c.deref-group-items.result.now c.loop-group.group-index c.group-item.result c.new-found.result c.loop-group.found
      c.in_ok-found.found
      c.loop-group-test.true c.group-item.is c.loop-group.invariant.adds c.in_ok-found.ensures.adds;
  faults = c.in_ok-found.ensures.cause ∙ c.loop-group.invariant.faults;
}
