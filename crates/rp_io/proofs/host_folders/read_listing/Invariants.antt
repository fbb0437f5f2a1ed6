-- What was read so far is the listing so far.
use Rattle.std.specs.Io.KnownBytes.{Consumes}
use Rattle.rp_io.proofs.host_folders.read_listing.Given as goal

abbrev pub invariant-loop : goal.invariant-loop
invariant-loop g l = Consumes (g.D.Read.remaining l.initial.folder) (g.D.Read.remaining l.folder) l.listing.items
