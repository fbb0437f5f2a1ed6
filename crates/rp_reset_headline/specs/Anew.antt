-- What a run leaves that carries out a factory reset and the goal for the rest: own rules.
use Rattle.std.specs.Prelude.{ℕ, List, ◌++◌}
use Rattle.rp_base.specs.declared.guid.Guid.{Guid}
use Rattle.rp_base.specs.declared.plan.Plan.{Plan}
use Rattle.rp_base.specs.declared.seen.Seen.{Seen}
use Rattle.rp_defs.specs.declared.definition.Definition.{Definition}
use Rattle.rp_disk.specs.Calls.{all_done}
use Rattle.rp_disk.specs.declared.call.Call.{Call}
use Rattle.rp_headline.specs.Left.{HasGoal}
use Rattle.rp_steps.specs.Calls.{calls}
use Rattle.rp_steps.specs.Contents.{Sources, contents}
use Rattle.rp_stops.specs.After.{seen_after}
use Rattle.rp_stops.specs.Final.{IsFinal}
use Rattle.rp_stops.specs.Rows.{Contents, HoldContents, grown}

-- the calls of both commits: those of the reset's steps, and those of the plan behind it
abbrev pub calls_of_both : Seen → Plan → Plan → Sources → List Call
calls_of_both seen reset plan sources = calls reset seen sources ++ calls plan (seen_after seen reset) sources

-- the image between both: the old one with the reset's calls done whole
abbrev pub image_between : List ℕ → Seen → Plan → Sources → List ℕ
image_between old seen reset sources = all_done old (calls reset seen sources)

-- what the new rows of the plan behind the reset hold: they are made on the image between both
abbrev pub contents_anew : List ℕ → Seen → Plan → Plan → Sources → Contents
contents_anew old seen reset plan sources = contents plan sources (grown (image_between old seen reset sources) plan)

-- the new rows of an image hold just that
abbrev pub HoldAnew : List ℕ → Seen → Plan → Plan → Sources → List ℕ → Type 0
HoldAnew old seen reset plan sources image = HoldContents plan (contents_anew old seen reset plan sources) image

-- what there is once both were carried out, whatever was written into new rows: the table is the goal of the reset table, every
-- partition of that keeps its place and its old bytes, and where none was dropped a second run without reset has nothing to do
abbrev pub HasGoalAnew : ℕ → List ℕ → Seen → List Definition → Guid → Plan → Plan → List ℕ → Type 0
HasGoalAnew sector old seen defs seed reset plan image = HasGoal sector old (seen_after seen reset) defs seed plan image

-- and where the sources' contents were written, the image is the final one of the plan behind the reset on the image between both, and
-- new rows hold them
pub record IsDoneAnew (sector : ℕ) (old : List ℕ) (seen : Seen) (defs : List Definition) (seed : Guid) (reset plan : Plan)
    (sources : Sources) (image : List ℕ) : Type 0 where
  pub goal : HasGoalAnew sector old seen defs seed reset plan image
  pub final : IsFinal (image_between old seen reset sources) (seen_after seen reset) plan (contents_anew old seen reset plan sources) image
  pub new_rows : HoldAnew old seen reset plan sources image
