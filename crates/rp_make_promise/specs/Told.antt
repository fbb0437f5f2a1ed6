-- What `make` tells where it is done.
use Rattle.std.specs.Prelude.{ℕ, ◌≡◌, ◌+◌, ◌++◌, List, codes, count_by}
use Rattle.hex.specs.Hex.{encode_lower}
use Rattle.rp_disk.specs.Calls.{is_write}
use Rattle.rp_disk.specs.Made.{dones}
use Rattle.rp_disk.specs.declared.call.Call.{Call}
use Rattle.rp_make_command.specs.Summary.{counts_text}
use Rattle.rp_make_definitions.specs.Made.{root_kind}
use Rattle.rp_make_input.specs.Bytes.{source_bytes}
use Rattle.rp_make_input.specs.MakeInput.{seed_of}
use Rattle.rp_outcome.specs.Device.{Device}
use Rattle.rp_outcome.specs.Output.{Output, PrintsAll}
use Rattle.rp_sizes.specs.Pairs.{salt_of}
use Rattle.rp_verity.specs.Filled.{cut, filled}
use Rattle.rp_verity.specs.Tree.{root_hash}

-- the root hash of the pair of a number: that of a tree over its source and zeros behind it, whole blocks of 4,096 bytes
abbrev pub root_of_number : ℕ → List ℕ
root_of_number number =
    root_hash (salt_of (seed_of number) root_kind) (cut (number + 1) (filled (number + 1) (source_bytes number)))

-- the summary of a number: it has two rows more, so many writes were made, and nothing differs
abbrev pub summary_of : ℕ → ℕ → List ℕ
summary_of number count = counts_text number (number + 2) count ++ encode_lower (root_of_number number) ++ codes " check ok\n"

-- each call since the start was done whole, and the summary with the count of their writes was printed
pub record TellsSummary (number : ℕ) (disk later : Device) (out after : Output) : Type 0 where
  pub calls : List Call
  pub made : later.calls ≡ disk.calls ++ dones calls
  pub printed : PrintsAll out after (summary_of number (count_by is_write calls))
