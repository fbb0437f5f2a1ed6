-- How much of its source a row is planned with: own rules.
use Rattle.std.specs.Prelude.{◌≡◌, IfSome, length}
use Rattle.rp_base.specs.Plan.{Noted}
use Rattle.rp_steps.specs.Contents.{Sources}

-- a row with a source is planned with as many bytes as its source has
abbrev pub HasWholeSource : Sources → Noted → Type 0
HasWholeSource sources noted = IfSome noted.1.file (λ file. IfSome noted.1.source (λ len. len ≡ length (sources file)))
