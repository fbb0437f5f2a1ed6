-- What sources tell: own rules.
use Rattle.std.specs.Prelude.{ℕ, ◌^◌, nat_le, List, [], length, replicate, filter_map, Some, None, option_map, option_and_then, unwrap_or, slice_get, if◌then◌else◌}
use Rattle.rp_base.specs.declared.guid.Guid.{Guid}
use Rattle.rp_base.specs.declared.table.Table.{Table}
use Rattle.rp_io.specs.declared.stored.Stored.{Stored}
use Rattle.rp_io.specs.Files.{content}
use Rattle.rp_verity.specs.Tree.{root_hash}
use Rattle.rp_verity.specs.Filled.{cut, filled}
use Rattle.rp_defs.specs.declared.definition.Definition.{Definition}
use Rattle.rp_sizes.specs.declared.need.Need.{Need}
use Rattle.rp_sizes.specs.declared.need.Fact.{Fact}
use Rattle.rp_sizes.specs.Needs.{wanted_of}
use Rattle.rp_sizes.specs.Pairs.{pair_blocks, salt_of}

-- the bytes of a definition's source, none where its path isn't there
abbrev pub source_of : List Stored → Definition → List ℕ
source_of files def = unwrap_or (option_and_then (content files) def.source) []

-- the root hash over the data of a pair, its source and zeros behind it; of data that no tree can be over none is computed
unfoldable pub root_of : Guid → Definition → List ℕ → List ℕ
root_of seed def bytes =
    let blocks = pair_blocks def (length bytes) in
    if nat_le blocks (2 ^ 32) then root_hash (salt_of seed def.kind) (cut blocks (filled blocks bytes)) else replicate 32 0

-- what the source of a definition tells
abbrev pub fact_from : Guid → List Stored → Need → Definition → Fact
fact_from seed files need def = record {
  file = need.file;
  len = length (source_of files def);
  root = if need.pair then Some (root_of seed def (source_of files def)) else None;
}

-- what the wanted sources tell
unfoldable pub facts : Guid → List Stored → Table → List Definition → List Fact
facts seed files table defs =
    filter_map (λ need. option_map (fact_from seed files need) (slice_get defs need.file)) (wanted_of table defs)
