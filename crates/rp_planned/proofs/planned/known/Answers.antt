use Rattle.std.proofs.Common.{rules}
use Rattle.rp_outcome.specs.Store.{store}
use Rattle.rp_planned.proofs.Asked.{are_sourced, known_ok}
use Rattle.rp_planned.proofs.planned.known.Goals as goal

-- what is wanted are sources of definitions
pub facts_of-requires-clause-needs : goal.facts_of-requires-clause-needs
facts_of-requires-clause-needs g c = are_sourced c.args.seen.now.shown c.args.list.now c.args.needs.now c.requires.needs

-- the facts are told
pub returns-in-Ok : goal.returns-in-Ok
returns-in-Ok g c = record {
  asked =
      known_ok c.args.request.seed c.args.seen.now.shown c.args.list.now
      (store g.S.Sources.told g.S.Sources.faults g.S.Sources.strays c.args.sources.now)
      (store g.S.Sources.told g.S.Sources.faults g.S.Sources.strays c.facts_of.new.sources)
      c.args.needs.now c.in-Ok.facts c.requires.needs c.in-Ok.ensures.told c.in-Ok.ensures.strays c.in-Ok.ensures.facts c.in-Ok.ensures.each
      (search rules);
}
