-- What is left of the places decides.
use Rattle.std.proofs.Common.{◌≡◌, map, string_bytes}
use Rattle.rp_words.proofs.Places.{faults_from}
use Rattle.rp_words.proofs.fault.first_fault.Given as goal

abbrev pub invariant-loop-place : goal.invariant-loop-place
invariant-loop-place l = faults_from l.command (map string_bytes l.words) 0 ≡ faults_from l.command (map string_bytes l.words) l.place
