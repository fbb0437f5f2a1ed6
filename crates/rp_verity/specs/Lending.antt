-- What is written to the place of the next data block.
use mir.Syntax.{named}
use Rattle.std.specs.Prelude.{ℕ, List, []}
use Rattle.std.specs.Borrow.{Lends, MutBor, Fml, Array, u8}
use Rattle.arrayvec.specs.ArrayVec.{with_items}
use Rattle.rp_verity.specs.declared.builder.Builder.{Builder}
use Rattle.rp_verity.specs.contracts.builder.Builder.{the_row}

-- the builder with these bytes in the place of the next data block
abbrev pub with_next : Builder → List ℕ → Builder
with_next builder bytes = record builder { next = with_items builder.next bytes }

-- the builder ends with what was written last to the place of the next data block
abbrev pub LendsNext : MutBor Builder → MutBor (List ℕ) → Fml
LendsNext builder lent = Lends (the_row (record { mir = named 0; lft = [] })) (Array u8 0) builder lent (with_next builder.now)
