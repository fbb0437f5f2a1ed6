-- Hash blocks that are kept until they are written: serves this crate's proofs.
use Rattle.std.specs.Prelude.{ℕ, ◌≡◌, List, []}
use Rattle.rp_format.specs.declared.waiting.Waiting.{Waiting}
use Rattle.rp_format.specs.Puts.{kept_puts}

-- the blocks that are kept, with their places
abbrev pub puts_of : Waiting → List (ℕ × List ℕ)
puts_of waiting = kept_puts waiting.count waiting.places waiting.blocks

-- how many blocks were refused
abbrev pub faults_of : Waiting → ℕ
faults_of waiting = waiting.faults

-- none is kept, and none was refused
pub record IsEmpty (waiting : Waiting) : Type 0 where
  pub puts : puts_of waiting ≡ []
  pub faults : faults_of waiting ≡ 0
