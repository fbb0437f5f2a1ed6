use Rattle.std.proofs.Common.{sym, ap, ◌∙◌}
use Rattle.rp_files.specs.Found.{found_of}
use Rattle.rp_files.proofs.FoundLemmas.{added, kept, lookup-found_of}
use Rattle.rp_files.proofs.found.add_name.Goals as goal

pub returns-then-contains_key-clause-found : goal.returns-then-contains_key-clause-found
returns-then-contains_key-clause-found c = λ earlier was.
    kept earlier c.args.found.now.entries c.args.folder.now c.args.name.now was (sym c.is_candidate.ensures ∙ c.if-not-is_candidate.false)
    (sym (lookup-found_of c.args.name.now c.args.found.now.entries) ∙ sym c.contains_key.ensures ∙ c.if-contains_key.true)

pub returns-clause-found : goal.returns-clause-found
returns-clause-found c = λ earlier was.
    ap found_of c.in_ok-insert.ensures.entries
    ∙ added earlier c.args.found.now.entries c.args.folder.now c.args.name.now c.in_ok-key.key c.in_ok-path.path was
    (sym c.is_candidate.ensures ∙ c.if-not-is_candidate.false)
    (sym (lookup-found_of c.args.name.now c.args.found.now.entries) ∙ sym c.contains_key.ensures ∙ c.if-contains_key.false)
    c.in_ok-key.ensures.ok c.in_ok-path.ensures
