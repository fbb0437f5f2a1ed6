use Rattle.std.proofs.Common.{length, subst, sym, ap}
use Rattle.std.specs.Prelude.{IsSome}
use Rattle.rp_io.specs.Files.{content}
use Rattle.rp_files.specs.Found.{found_of, AreThere}
use Rattle.rp_files.proofs.ReadLemmas.{head_there, tail_there, strays_by, strays_more}
use Rattle.rp_files.proofs.Sizes.{adds_piece, adds_parts}
use Rattle.rp_files.proofs.reader.with_group.Goals as goal

pub returns-in_err-main-clause-strays : goal.returns-in_err-main-clause-strays
returns-in_err-main-clause-strays g c =
    strays_by (g.F.Folders.told c.args.folders.now) _ _ _ _ c.read_piece.ensures.strays
    (λ tree there. subst (λ p. IsSome (content tree.files p)) (sym c.as_str.ensures.value) (head_there tree _ _ there))

pub returns-then-len-eq0-clause-strays : goal.returns-then-len-eq0-clause-strays
returns-then-len-eq0-clause-strays g c =
    strays_by (g.F.Folders.told c.args.folders.now) _ _ _ _ c.read_piece.ensures.strays
    (λ tree there. subst (λ p. IsSome (content tree.files p)) (sym c.as_str.ensures.value) (head_there tree _ _ there))

pub returns-clause-strays : goal.returns-clause-strays
returns-clause-strays g c =
    strays_more (g.F.Folders.told c.args.folders.now) (g.F.Folders.told c.read_piece.new.folders) _ _ _ _ _ c.read_piece.ensures.told
    (strays_by (g.F.Folders.told c.args.folders.now) _ _ _ _ c.read_piece.ensures.strays
    (λ tree there. subst (λ p. IsSome (content tree.files p)) (sym c.as_str.ensures.value) (head_there tree _ _ there)))
    c.with_parts.ensures.strays
    (λ tree there. subst (λ fs. AreThere tree (found_of fs)) (sym c.as_slice.ensures.value) (tail_there tree _ _ there))

pub returns-clause-adds : goal.returns-clause-adds
returns-clause-adds g c =
    adds_parts c.with_parts.result _ _ c.args.pieces c.in_ok-pieces.pieces (ap length c.as_slice.ensures.value)
    (adds_piece c.args.pieces c.in_ok-pieces.pieces _ c.in_ok-main.ensures.short c.in_ok-pieces.ensures.pieces) c.with_parts.ensures.adds
