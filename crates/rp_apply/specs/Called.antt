-- The calls that carry out a plan, over any disk and any sources: own rules.
use Rattle.std.specs.Prelude.{◌≡◌, List, [], ◌∷◌, ◌++◌, ⊤, length, map}
use Rattle.rp_base.specs.declared.plan.Plan.{Plan}
use Rattle.rp_base.specs.declared.seen.Seen.{Seen}
use Rattle.rp_disk.specs.Blocks.{flat}
use Rattle.rp_disk.specs.declared.call.Call.{Call}
use Rattle.rp_disk.specs.declared.call.Call.TheVariants.{Write, Sync, SetLen}
use Rattle.rp_steps.specs.Calls.{calls_of_steps, contents_calls}
use Rattle.rp_steps.specs.Contents.{Sources}
use Rattle.rp_steps.specs.Steps.{mbr_phases, written_copies}
use Rattle.rp_stops.specs.Order.{contents_blocks, copies, growth}

-- no source has a byte
abbrev pub no_sources : Sources
no_sources = λ file. []

-- both write as many bytes at the same place, or do the same
abbrev pub IsAlike : Call → Call → Type 0
IsAlike (Write at bytes) (Write place others) = (at ≡ place) × (length bytes ≡ length others)
IsAlike Sync Sync = ⊤
IsAlike (SetLen len) (SetLen other) = len ≡ other
IsAlike call other = ⊥

-- so do all of them, one by one
abbrev pub AreAlike : List Call → List Call → Type 0
AreAlike [] [] = ⊤
AreAlike (call ∷ calls) (other ∷ others) = IsAlike call other × AreAlike calls others
AreAlike calls others = ⊥

-- the calls of a plan's steps with these writes into new rows: the growth, the writes, the copies and the protective MBR, a
-- sync behind each block
abbrev pub calls_around : Plan → Seen → List Call → List Call
calls_around plan seen body =
    flat (growth seen plan ++ (contents_blocks body ++ (copies plan (written_copies plan seen)
    ++ map (calls_of_steps plan no_sources) (mbr_phases plan seen))))

-- calls are those of a plan's steps, but for the bytes that are written into new rows
pub record AreCallsFor (seen : Seen) (plan : Plan) (calls : List Call) : Type 0 where
  pub body : List Call
  pub alike : AreAlike body (contents_calls plan no_sources)
  pub are : calls ≡ calls_around plan seen body
